use Rattle.std.proofs.Common.{ℕ, List, ◌∙◌, ap}
use Rattle.std.specs.Borrow.{Bor}
use Rattle.java_ast.specs.declared.tree.Expr.{Expr}
use Rattle.java_ast.specs.Reading.{expression}
use Rattle.tor_terms.specs.declared.term.Atom.{Atom}
use Rattle.lowering.specs.InCode.Counted.{numbers_in_code}
use Rattle.lowering.specs.InCode.Numbered.{reading_in_code}
use Rattle.java_loops.specs.Lowering.Numbering.{number_where, reading_of, same_atom}
use Rattle.loop_text.specs.Sites.Reading.{exprs_lent}
use Rattle.java_ast.specs.Names.{names_lent}
use Rattle.lowering.specs.InCode.Reading.{setting_in_code}
use Rattle.java_loops.proofs.Formed.ReadLeaves.{leaf_read}
use Rattle.lowering.proofs.numbering.formulas.leaf_form.Goals as goal

pub returns : goal.returns
returns c =
    leaf_read (setting_in_code c.args.w.now) (numbers_in_code c.args.t.now) c.args.n c.args.holds (expression c.args.e.now) c.is_excepted.result (reading_in_code c.in_ok-r.r) c.atom_number-number.result c.same_flag.result c.is_excepted.ensures c.if-is_excepted.false
    (c.in_ok-r.ensures
    ∙ ap (λ (l : List (Bor Expr)). reading_of (setting_in_code c.args.w.now) (exprs_lent l) (names_lent c.as_slice-2.result.now) c.args.n (expression c.args.e.now)) c.as_slice.ensures
    ∙ ap (λ (l : List (Bor (List ℕ))). reading_of (setting_in_code c.args.w.now) (exprs_lent c.args.t.now.entries) (names_lent l) c.args.n (expression c.args.e.now)) c.as_slice-2.ensures)
    (c.atom_number-number.ensures ∙ ap (λ (l : List Atom). number_where (same_atom c.in_ok-r.r.atom) l) c.as_slice-3.ensures) c.same_flag.ensures

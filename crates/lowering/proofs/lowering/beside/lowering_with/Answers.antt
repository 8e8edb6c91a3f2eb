use Rattle.std.specs.Borrow.{Bor}
use Rattle.std.proofs.Common.{◌∙◌, ℕ, List, ap, map, sym, subst}
use Rattle.java_ast.specs.declared.tree.Expr.{Expr}
use Rattle.loop_text.specs.Kernel.KernelConditions.{asked_for}
use Rattle.java_loops.specs.Lowering.Lowered.{numbers_of_arguments, query_asked}
use Rattle.java_loops.specs.Lowering.Numbering.{arguments_asked}
use Rattle.loop_text.specs.Sites.Reading.{exprs_lent}
use Rattle.java_ast.specs.Names.{names_lent}
use Rattle.lowering.specs.Asked.{HasQueriesOf}
use Rattle.lowering.specs.InCode.Reading.{setting_in_code}
use Rattle.lowering.specs.Lowers.{lowering_in_code}
use Rattle.lowering.specs.declared.lowering.lowered.Lowered.{Lowered}
use Rattle.lowering.proofs.Known.KnownHeld.{queries_held}
use Rattle.lowering.proofs.Lowerings.LoweredBeside.{same_lowering}
use Rattle.lowering.proofs.lowering.beside.lowering_with.Goals as goal

pub returns-clause-lowered : goal.returns-clause-lowered
returns-clause-lowered c =
    ap lowering_in_code c.in_ok-lowered.ensures
    ∙ same_lowering _ _ _ _ _ _ _ _ _ _
    (c.valid_fragment.ensures ∙ c.in_ok-parts.ensures)
    c.in_ok-names_of.ensures
    (c.in_ok-copy_entries.ensures ∙ ap (λ (l : List (Bor Expr)). exprs_lent l) c.as_slice-entries.ensures)
    (c.in_ok-queries_asked.ensures.asked ∙ ap (λ (l : List (Bor (List ℕ))). map (λ x. query_asked (setting_in_code c.args.w.now).read (asked_for (setting_in_code c.args.w.now).fragment.run x)) (names_lent l)) c.as_slice-known.ensures)
    (c.in_ok-arguments_of.ensures
    ∙ ap (λ (l : List (Bor Expr)). map (λ x. numbers_of_arguments (exprs_lent l) (arguments_asked (asked_for (setting_in_code c.args.w.now).fragment.run x))) (names_lent c.as_slice-known.result.now)) c.as_slice-entries.ensures
    ∙ ap (λ (l : List (Bor (List ℕ))). map (λ x. numbers_of_arguments (exprs_lent c.args.t.now.entries) (arguments_asked (asked_for (setting_in_code c.args.w.now).fragment.run x))) (names_lent l)) c.as_slice-known.ensures)

pub returns-clause-queries : goal.returns-clause-queries
returns-clause-queries c =
    subst (λ (l : Lowered). HasQueriesOf (setting_in_code c.args.w.now).schema (lowering_in_code l)) (sym c.in_ok-lowered.ensures)
    (queries_held (setting_in_code c.args.w.now).schema c.in_ok-queries_asked.field-0 c.in_ok-queries_asked.ensures.valid)

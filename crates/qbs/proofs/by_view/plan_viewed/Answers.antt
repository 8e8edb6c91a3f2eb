use Rattle.std.proofs.Common.{sym, subst, ◌∙◌}
use Rattle.java_ast.specs.Reading.{program as plain_program}
use Rattle.java_grammar.specs.InGrammar.{IsInGrammar}
use Rattle.java_grammar.specs.Written.{IsWritten}
use Rattle.rewrite_core.specs.declared.rewritten.Rewritten.{Rewritten}
use Rattle.view_slices.specs.Slices.{file_of}
use Rattle.qbs.specs.Rewrite.{size_of, budget_of}
use Rattle.qbs.specs.Seen.{view_by}
use Rattle.qbs.proofs.WrittenBack.{program_kept, left_fits, written_back}
use Rattle.qbs.proofs.by_view.plan_viewed.Goals as goal

pub rewritten_of-requires-clause-program : goal.rewritten_of-requires-clause-program
rewritten_of-requires-clause-program g c = program_kept c.args.map.now c.args.schema.now c.args.source.now (file_of c.args.file.now) c.args.viewed.now c.requires.viewed

pub settled_of-requires-clause-file : goal.settled_of-requires-clause-file
settled_of-requires-clause-file g c = c.requires.viewed.seen.0.is_file

pub settled_of-requires-clause-grammar : goal.settled_of-requires-clause-grammar
settled_of-requires-clause-grammar g c =
    subst (λ (r : Rewritten). IsInGrammar (plain_program r.program)) (sym c.deref-3.ensures)
    (left_fits _ _ c.args.schema.now _ _ c.args.viewed.now.text (plain_program c.args.viewed.now.typed.value.program) c.in_ok-rewritten.rewritten.value
    (program_kept c.args.map.now c.args.schema.now c.args.source.now (file_of c.args.file.now) c.args.viewed.now c.requires.viewed) c.in_ok-rewritten.ensures).0

pub settled_of-requires-clause-written : goal.settled_of-requires-clause-written
settled_of-requires-clause-written g c =
    subst (λ (r : Rewritten). IsWritten (plain_program r.program)) (sym c.deref-3.ensures)
    (left_fits _ _ c.args.schema.now _ _ c.args.viewed.now.text (plain_program c.args.viewed.now.typed.value.program) c.in_ok-rewritten.rewritten.value
    (program_kept c.args.map.now c.args.schema.now c.args.source.now (file_of c.args.file.now) c.args.viewed.now c.requires.viewed) c.in_ok-rewritten.ensures).1

pub returns : goal.returns
returns g c =
    let v = view_by (file_of c.args.file.now) c.args.viewed.now in
    let p = plain_program c.args.viewed.now.typed.value.program in
    let r = c.in_ok-rewritten.rewritten.value in
    let s = c.in_ok-settled.settled in
    written_back _ c.args.map.now c.args.schema.now c.args.source.now v p s.out c.in_ok-rep.rep (size_of c.args.options.now) (budget_of c.args.options.now) c.args.viewed.now.text c.as_slice-cells.result.now r s.spelled
    c.requires.viewed.text
    (rw (c.as_slice-methods.ensures.value, c.deref.ensures) at (c.as_slice-cells.ensures ∙ c.in_ok-class.ensures))
    c.in_ok-rewritten.ensures
    (rw (c.as_slice-methods.ensures.value, c.deref.ensures, c.deref-3.ensures) at c.in_ok-settled.ensures.answers)
    c.in_ok-settled.ensures.apart
    (rw (c.as_slice-methods.ensures.value, c.deref.ensures, c.deref-3.ensures) at c.in_ok-settled.ensures.settled)
    (rw (c.as_slice-methods.ensures.value, c.deref.ensures, c.as_slice-spelled.ensures, c.as_slice-verdicts.ensures, c.deref-4.ensures, c.deref-5.ensures) at c.in_ok-rep.ensures)

use Rattle.std.proofs.Common.{ap, ◌∙◌}
use Rattle.java_ast.specs.declared.tree.Program.{Program}
use Rattle.java_ast.specs.Reading.{program as plain_program}
use Rattle.qbs.proofs.Readable.{is_read_again}
use Rattle.qbs.proofs.Narrowing.{lent_is_sound, narrows_lent}
use Rattle.qbs.proofs.narrow.plan_program.Goals as goal

pub text_for-requires-clause-grammar : goal.text_for-requires-clause-grammar
text_for-requires-clause-grammar g c =
    (lent_is_sound c.args.bytes.now c.args.schema.now c.args.source.now (plain_program c.args.typed.now.program) (plain_program c.in_ok-copy.copy.value) (plain_program c.in_ok-program.field-0.program.value) (plain_program c.deref.result.now)
    c.in_ok-covered.covered c.as_slice.result.now c.requires.schema c.requires.program c.args.typed.now.numbers c.as_slice.ensures
    (ap (λ (r : Program). plain_program r) c.in_ok-copy.ensures.ok ∙ (c.in_ok-copy_program.ensures ∙ ap (λ (r : Program). plain_program r) c.program.ensures))
    c.in_ok-program.ensures.program (ap (λ (r : Program). plain_program r) c.deref.ensures)).grammar

pub text_for-requires-clause-written : goal.text_for-requires-clause-written
text_for-requires-clause-written g c =
    (lent_is_sound c.args.bytes.now c.args.schema.now c.args.source.now (plain_program c.args.typed.now.program) (plain_program c.in_ok-copy.copy.value) (plain_program c.in_ok-program.field-0.program.value) (plain_program c.deref.result.now)
    c.in_ok-covered.covered c.as_slice.result.now c.requires.schema c.requires.program c.args.typed.now.numbers c.as_slice.ensures
    (ap (λ (r : Program). plain_program r) c.in_ok-copy.ensures.ok ∙ (c.in_ok-copy_program.ensures ∙ ap (λ (r : Program). plain_program r) c.program.ensures))
    c.in_ok-program.ensures.program (ap (λ (r : Program). plain_program r) c.deref.ensures)).written

pub returns : goal.returns
returns g c =
    narrows_lent c.args.bytes.now c.args.schema.now c.args.source.now (plain_program c.args.typed.now.program) (plain_program c.in_ok-copy.copy.value) (plain_program c.in_ok-program.field-0.program.value) (plain_program c.deref.result.now)
    c.in_ok-covered.covered c.as_slice.result.now c.requires.schema c.requires.program c.args.typed.now.numbers c.as_slice.ensures
    (ap (λ (r : Program). plain_program r) c.in_ok-copy.ensures.ok ∙ (c.in_ok-copy_program.ensures ∙ ap (λ (r : Program). plain_program r) c.program.ensures))
    c.in_ok-program.ensures.program (ap (λ (r : Program). plain_program r) c.deref.ensures)
    c.in_ok-program.field-0.patches c.as_slice-2.result.now c.in_ok-program.field-0.walks c.as_slice-3.result.now c.in_ok-text.text c.in_ok-out.out c.in_ok-rep.rep c.in_ok-covered.ensures
    c.in_ok-program.ensures.walks c.in_ok-program.ensures.patches c.as_slice-2.ensures c.as_slice-3.ensures c.in_ok-text.ensures c.in_ok-out.ensures
    (is_read_again c.args.schema.now c.in_ok-out.out c.as_slice-4.result.now (plain_program c.deref.result.now) c.in_ok-out.ensures.back c.as_slice-4.ensures c.in_ok-read_again.ensures) c.in_ok-rep.ensures

use Rattle.std.proofs.Common.{refl}
use Rattle.java_ast.specs.Reading.{program as plain_program}
use Rattle.view_slices.specs.Slices.{file_of}
use Rattle.qbs.specs.Seen.{view_by}
use Rattle.qbs.proofs.Seeing.{text_program, view_proved}
use Rattle.qbs.proofs.prove_by_view.plan_viewed.Goals as goal

pub proven_of-requires-clause-short : goal.proven_of-requires-clause-short
proven_of-requires-clause-short g c = c.requires.viewed.short

pub proven_of-requires-clause-program : goal.proven_of-requires-clause-program
proven_of-requires-clause-program g c = text_program c.args.map.now c.args.schema.now c.args.source.now (file_of c.args.file.now) c.args.viewed.now c.requires.viewed

pub returns : goal.returns
returns g c =
    view_proved _ c.args.map.now c.args.schema.now _ _ c.args.source.now (view_by (file_of c.args.file.now) c.args.viewed.now) (plain_program c.args.viewed.now.typed.value.program) c.in_ok-proven.proven c.in_ok-rep.rep _
    c.in_ok-proven.ensures (rw c.as_slice-verdicts.ensures at c.in_ok-rep.ensures) refl

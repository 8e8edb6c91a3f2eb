use Rattle.std.proofs.Common.{◌≡◌, List, map, sym, ap, subst, ◌∙◌, rules}
use Rattle.java_ast.specs.Reading.{program as plain_program}
use Rattle.text_patches.specs.Patching.{with_texts}
use Rattle.view_slices.specs.Reading.{all_sliced}
use Rattle.view_slices.specs.Slices.{file_of}
use Rattle.view_spell.specs.declared.spelled.SliceSpelled.{SliceSpelled}
use Rattle.view_spell.specs.Placed.{patches_of}
use Rattle.qbs.specs.Looks.{AreFewer}
use Rattle.qbs.specs.SeenAgain.{slices_in, IsSettled}
use Rattle.qbs.proofs.Leaving.{all_fewer, settled_left}
use Rattle.qbs.proofs.written.leave_all.Goals as goal

pub returns-clause-fewer : goal.returns-clause-fewer
returns-clause-fewer c = subst (λ (xs : List SliceSpelled). AreFewer c.args.spelled.now xs) (sym c.in_ok-spelled.ensures) (all_fewer c.args.spelled.now)

pub returns-clause-settled : goal.returns-clause-settled
returns-clause-settled c =
    let same : c.as_slice.result.now ≡ c.in_ok-spelled.spelled = search rules in
    subst (λ (xs : List SliceSpelled). IsSettled c.args.source.now.map.now c.args.source.now.schema.now c.args.source.now.bytes.now (file_of c.args.read.now)
    (plain_program c.args.source.now.left.now).methods (slices_in (all_sliced c.args.source.now.methods.now)) xs c.in_ok-out.out) (sym c.in_ok-spelled.ensures)
    (settled_left c.args.source.now.map.now c.args.source.now.schema.now c.args.source.now.bytes.now (file_of c.args.read.now)
    (plain_program c.args.source.now.left.now).methods (all_sliced c.args.source.now.methods.now) c.args.spelled.now c.in_ok-out.out c.requires.file c.requires.many
    (c.in_ok-out.ensures ∙ ap (λ (xs : List SliceSpelled). with_texts c.args.source.now.bytes.now 0 (patches_of xs)) (same ∙ c.in_ok-spelled.ensures)))

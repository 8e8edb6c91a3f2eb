use Rattle.std.proofs.Common.{◌≡◌, length, true}
use Rattle.java_stretches.specs.Patches.{plain_patches}
use Rattle.view_slices.specs.Reading.{all_sliced}
use Rattle.view_spell.specs.Placed.{are_answers, are_apart, patches_of, slices_with}
use Rattle.view_spell.specs.Shared.{SeenAs}
use Rattle.view_spell.proofs.Answered.{as_many}
use Rattle.qbs.proofs.WrittenBack.{so_too}
use Rattle.qbs.proofs.by_view.settled_of.Goals as goal

pub settle-requires-clause-many : goal.settle-requires-clause-many
settle-requires-clause-many c =
    let seen : SeenAs = record { map = c.args.map.now; schema = c.args.schema.now; items = c.args.file.now.items.now; cells = c.args.cells.now } in
    as_many seen 0 (slices_with (all_sliced c.args.methods.now)) (plain_patches c.as_slice.result.now) c.in_ok-spelled.spelled c.in_ok-spelled.ensures.answers

pub returns-clause-answers : goal.returns-clause-answers
returns-clause-answers c =
    let seen : SeenAs = record { map = c.args.map.now; schema = c.args.schema.now; items = c.args.file.now.items.now; cells = c.args.cells.now } in
    let ss = slices_with (all_sliced c.args.methods.now) in
    let ps = plain_patches c.args.rewritten.now.patches in
    so_too (are_answers seen 0 ss ps c.in_ok-spelled.spelled ≡ true) (λ s. are_answers seen 0 ss ps s.spelled ≡ true) c.settle.result
    (rw c.as_slice.ensures at c.in_ok-spelled.ensures.answers) (c.settle.ensures.left seen 0 ss ps)

pub returns-clause-apart : goal.returns-clause-apart
returns-clause-apart c =
    so_too (are_apart 0 (length c.args.source.now) (patches_of c.in_ok-spelled.spelled) ≡ true) (λ s. are_apart 0 (length c.args.source.now) (patches_of s.spelled) ≡ true) c.settle.result
    c.in_ok-spelled.ensures.apart c.settle.ensures.apart

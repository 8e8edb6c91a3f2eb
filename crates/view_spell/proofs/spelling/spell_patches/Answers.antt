use Rattle.view_statements.specs.Slices.{slice}
use Rattle.view_spell.specs.Reading.{seen_as}
use Rattle.view_spell.proofs.Answered.{taken_on}
use Rattle.view_spell.proofs.spelling.spell_patches.Goals as goal

pub loop-patch-preserved : goal.loop-patch-preserved
loop-patch-preserved c =
    let e = rw c.in-Some-2.is at c.in_ok-patch.ensures in
    taken_on (seen_as c.args.seen.now) (slice c.args.slice.now) c.args.patches.now c.loop-patch.patch-index c.patch-item.result c.in-Some-2.patch c.in-Some.taken
    c.loop-patch.spelled c.push.new.self c.loop-patch-test.true c.patch-item.is c.loop-patch.invariant c.in-Some.ensures e.0 e.1 c.in_ok-push-in-Some-2.ensures.ok

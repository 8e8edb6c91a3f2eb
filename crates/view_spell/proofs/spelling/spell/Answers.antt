use Rattle.std.proofs.Common.{take, length}
use Rattle.java_stretches.specs.Patches.{plain_patches}
use Rattle.view_statements.specs.Slices.{all_sliced}
use Rattle.view_spell.specs.Placed.{patches_of, slices_with}
use Rattle.view_spell.specs.Reading.{seen_as}
use Rattle.view_spell.proofs.Answered.{method_on}
use Rattle.view_spell.proofs.Apart.{apart_to}
use Rattle.view_spell.proofs.spelling.spell.Goals as goal

pub loop-sliced-preserved : goal.loop-sliced-preserved
loop-sliced-preserved c = record {
  within = c.spell_method.ensures.within;
  apart = c.in_ok-rest.ensures.apart c.loop-sliced.invariant.apart;
  answers = method_on (seen_as c.args.seen.now) (plain_patches c.args.patches.now) c.args.methods.now c.loop-sliced.sliced-index c.sliced-item.result c.spell_method.new.spelled
      (plain_patches c.in_ok-rest.rest.now) c.loop-sliced-test.true c.sliced-item.is
      (c.in_ok-rest.ensures.answers (slices_with (all_sliced (take c.loop-sliced.sliced-index c.args.methods.now))) (plain_patches c.args.patches.now) c.loop-sliced.invariant.answers);
}

pub returns-clause-apart : goal.returns-clause-apart
returns-clause-apart c =
    apart_to 0 c.loop-sliced.last (length c.args.seen.now.source.now) (patches_of c.loop-sliced.spelled) c.loop-sliced.invariant.within c.loop-sliced.invariant.apart

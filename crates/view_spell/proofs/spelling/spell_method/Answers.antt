use Rattle.std.proofs.Common.{◌≡◌, ℕ, ◌<◌, List, length, get_or, ap, subst, ◌∙◌}
use Rattle.std.specs.List.{prefix_len}
use Rattle.java_stretches.specs.Patches.{plain_patches}
use Rattle.view_statements.specs.declared.slice.Slice.{Slice}
use Rattle.view_spell.specs.Placed.{is_in_method}
use Rattle.view_spell.specs.Reading.{seen_as}
use Rattle.view_spell.proofs.Answered.{slice_on}
use Rattle.view_spell.proofs.Apart.{apart_on}
use Rattle.view_spell.proofs.spelling.spell_method.Goals as goal

pub split_at-requires : goal.split_at-requires
split_at-requires c = c.count_of.ensures.bound

pub loop-slice-preserved : goal.loop-slice-preserved
loop-slice-preserved c =
    let all : c.as_slice-slice-items.result.now ≡ c.args.sliced.now.slices = c.as_slice-slice-items.ensures in
    let lt : c.loop-slice.slice-index < length c.args.sliced.now.slices = subst (λ (ss : List Slice). c.loop-slice.slice-index < length ss) all c.loop-slice-test.true in
    let at : c.slice-item.result ≡ get_or c.args.sliced.now.slices c.loop-slice.slice-index c.slice-item.result =
    c.slice-item.is ∙ ap (λ (ss : List Slice). get_or ss c.loop-slice.slice-index c.slice-item.result) all in
    let count : c.count_of.result ≡ prefix_len (is_in_method (length c.loop-slice.spelled)) (plain_patches c.loop-slice.rest.now) =
    c.count_of.ensures.count ∙ ap (λ (n : ℕ). prefix_len (is_in_method n) (plain_patches c.loop-slice.rest.now)) c.len.ensures in
    record {
      within = c.spell_slice.ensures.within;
      apart = λ h. apart_on 0 c.loop-slice.last c.spell_slice.new.last c.loop-slice.spelled c.push.new.self c.in_ok-one.one c.in_ok-push.ensures.ok (c.loop-slice.invariant.apart h) c.in_ok-one.ensures.apart;
      answers = λ ss ps h. slice_on (seen_as c.args.seen.now) ss ps c.args.sliced.now.read.method c.args.sliced.now.slices c.loop-slice.slice-index c.slice-item.result
          c.loop-slice.spelled c.push.new.self c.in_ok-one.one c.loop-slice.rest.now c.split_at.result.0.now c.split_at.result.1.now c.count_of.result c.as_slice.result.now
          lt at (c.loop-slice.invariant.answers ss ps h) count c.split_at.ensures.front c.split_at.ensures.back (c.as_slice.ensures.value ∙ c.in_ok-fetched.ensures)
          c.in_ok-one.ensures.answer c.in_ok-push.ensures.ok;
    }

use Rattle.std.proofs.Common.{◌≡◌, map, ap, ◌∙◌}
use Rattle.kernel_lang.specs.Given.{listed}
use Rattle.kernel_lang.specs.Pools as pools
use Rattle.kernel_lang.specs.Whole.{fragment_of}
use Rattle.kernel_interp.specs.Members.{members_seen, are_sound}
use Rattle.kernel_interp.specs.Reading.{lists_seen}
use Rattle.kernel_interp.proofs.Claimed.{members_sound, said_result}
use Rattle.kernel_interp.proofs.Ready.{same_lists}
use Rattle.kernel_interp.proofs.claim.ends_as_claimed.Goals as goal

pub invariant_of-claims : goal.invariant_of-claims
invariant_of-claims c =
    let own : members_seen c.as_slice-4.result.now ≡ pools.members (fragment_of c.args.frag.now) c.args.cand.now =
    ap members_seen c.as_slice-4.ensures.value ∙ c.in_ok-chosen.ensures ∙ ap (pools.members (fragment_of c.args.frag.now)) c.as_slice-2.ensures in
    record { sound = ap (are_sound (fragment_of c.args.frag.now).atoms) own ∙ members_sound (fragment_of c.args.frag.now) c.args.cand.now c.args.frag.now.valid }

pub returns : goal.returns
returns c =
    let own : members_seen c.as_slice-4.result.now ≡ pools.members (fragment_of c.args.frag.now) c.args.cand.now =
    ap members_seen c.as_slice-4.ensures.value ∙ c.in_ok-chosen.ensures ∙ ap (pools.members (fragment_of c.args.frag.now)) c.as_slice-2.ensures in
    let lists : lists_seen c.as_slice-3.result.now ≡ map (listed c.args.db.now) (fragment_of c.args.frag.now).lists =
    ap lists_seen c.as_slice-3.ensures.value ∙ c.in_ok-lists.ensures ∙ ap (map (listed c.args.db.now)) c.as_slice.ensures in
    record {
      exact =
          said_result (fragment_of c.args.frag.now) c.args.cand.now c.args.db.now c.args.entry.now c.args.ends.now c.as_slice-5.result.now (members_seen c.as_slice-4.result.now) _ c.are_said.result c.args.frag.now.valid c.requires
          c.as_slice-5.ensures own (same_lists (fragment_of c.args.frag.now) c.args.db.now c.args.entry.now c.as_slice-3.result.now lists) c.are_said.ensures;
    }

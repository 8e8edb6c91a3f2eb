use Rattle.std.proofs.Common.{refl, sym, ap, ◌∙◌}
use Rattle.std.specs.Option.{option_map}
use Rattle.kernel_lang.specs.Whole.{fragment_of}
use Rattle.query_search.specs.Seen.{proofs_in}
use Rattle.query_search.proofs.Parts.{dropped-part, refused-part, accepted-part}
use Rattle.query_search.proofs.Refuted.{dropped-none, proofs-accepted}
use Rattle.query_search.proofs.walk.judge_one.Goals as goal

pub returns-in-Drop-clause-part : goal.returns-in-Drop-clause-part
returns-in-Drop-clause-part g c =
    dropped-part (fragment_of c.args.frag.now) c.args.size c.args.k c.in_ok-cand.cand c.in_ok-cand.ensures.exact
    (dropped-none (fragment_of c.args.frag.now) c.in_ok-cand.cand c.args.frag.now.valid (c.in-Drop.ensures.justified refl)) (c.in_ok-cand.cand, c.in_ok-cand.ensures.exact, c.in-Drop.ensures.dropped refl)

pub returns-in-None-clause-part : goal.returns-in-None-clause-part
returns-in-None-clause-part g c =
    refused-part (fragment_of c.args.frag.now) c.args.size c.args.k c.in_ok-cand.cand c.in_ok-cand.ensures.exact
    (sym c.in_ok-judge_by-in-Keep.ensures.exact ∙ ap (option_map proofs_in) c.in-None.is) (c.in_ok-cand.cand, c.in_ok-cand.ensures.exact, c.in-Keep.ensures.kept refl)

pub returns-in-Some-clause-part : goal.returns-in-Some-clause-part
returns-in-Some-clause-part g c =
    accepted-part (fragment_of c.args.frag.now) c.args.size c.args.k c.in_ok-cand.cand (proofs_in c.in-Some.proofs) c.in_ok-cand.ensures.exact
    (sym c.in_ok-judge_by-in-Keep.ensures.exact ∙ ap (option_map proofs_in) c.in-Some.is)
    (proofs-accepted (fragment_of c.args.frag.now) c.in_ok-cand.cand (proofs_in c.in-Some.proofs) c.args.frag.now.valid c.in_ok-cand.ensures.candidate (sym c.in_ok-judge_by-in-Keep.ensures.exact ∙ ap (option_map proofs_in) c.in-Some.is))

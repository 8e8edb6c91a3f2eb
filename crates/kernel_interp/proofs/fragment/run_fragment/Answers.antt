use Rattle.std.proofs.Common.{◌≡◌, map, sym, ap, ◌∙◌, subst}
use Rattle.std.specs.List.{AllByRecursion}
use Rattle.std.proofs.lemmas.Result.{IfOk-weaker}
use Rattle.tor_terms.specs.Truth.{World}
use Rattle.kernel_lang.specs.Given.{listed}
use Rattle.kernel_lang.specs.Running.{all_end, fragment_end}
use Rattle.kernel_lang.specs.Whole.{fragment_of}
use Rattle.kernel_steps.specs.Stops.{EndsWith}
use Rattle.kernel_interp.specs.Ends.{IsReady, end_of}
use Rattle.kernel_interp.specs.Reading.{lists_seen}
use Rattle.kernel_interp.proofs.EndGiven.{end_given}
use Rattle.kernel_interp.proofs.Ready.{ready, same_lists}
use Rattle.kernel_interp.proofs.fragment.run_fragment.Goals as goal

pub all_end-requires : goal.all_end-requires
all_end-requires c =
    let lists : lists_seen c.as_slice-2.result.now ≡ map (listed c.args.db.now) (fragment_of c.args.frag.now).lists =
    ap lists_seen c.as_slice-2.ensures.value ∙ c.in_ok-lists.ensures ∙ ap (map (listed c.args.db.now)) c.as_slice.ensures in
    subst (λ (w : World). AllByRecursion (IsReady w) (fragment_of c.args.frag.now).accs)
    (sym (same_lists (fragment_of c.args.frag.now) c.args.db.now c.args.entry.now c.as_slice-2.result.now lists))
    (ready (fragment_of c.args.frag.now) c.args.db.now c.args.entry.now c.args.frag.now.valid c.requires)

pub returns : goal.returns
returns c =
    let lists : lists_seen c.as_slice-2.result.now ≡ map (listed c.args.db.now) (fragment_of c.args.frag.now).lists =
    ap lists_seen c.as_slice-2.ensures.value ∙ c.in_ok-lists.ensures ∙ ap (map (listed c.args.db.now)) c.as_slice.ensures in
    let same = ap (λ (w : World). all_end (fragment_of c.args.frag.now) w (fragment_of c.args.frag.now).accs) (same_lists (fragment_of c.args.frag.now) c.args.db.now c.args.entry.now c.as_slice-2.result.now lists) in
    record {
      exact = IfOk-weaker c.ended.result (λ end. EndsWith c.all_end.result end) (λ end. end_of end ≡ fragment_end (fragment_of c.args.frag.now) c.args.db.now c.args.entry.now)
          (λ end e. end_given c.all_end.result end _ c.all_end.ensures e ∙ same) c.ended.ensures.end;
    }

use Rattle.std.proofs.Common.{inl, inr, ⊎_elim, ap}
use Rattle.qbs_base.proofs.Order.{all_more}
use Rattle.kernel_lang.specs.Whole.{fragment_of}
use Rattle.query_search.specs.Verdicts.{verdict, before}
use Rattle.rewrite_core.proofs.LoopOutcomes.{one_is_more, counted_plainly}
use Rattle.rewrite_core.proofs.outcome.search_plainly.Goals as goal

pub returns-clause-dropped : goal.returns-clause-dropped
returns-clause-dropped g c =
    counted_plainly _ _ _ _ (before (verdict (fragment_of c.args.frag.now) c.args.size c.args.budget)) c.search_with.result c.search_with.ensures.dropped
    (λ k d. (d.0, d.1, ⊎_elim (λ x. inl (one_is_more _ _ (λ p h. (h.0, h.1, h.2, ap fragment_of h.3, h.4)) c.args.pruners.now x)) (λ h. inr (h.0, h.1, h.2, ap fragment_of h.3, h.4)) d.2))
    (λ k h. (h.0, h.1, (all_more _ _ (λ p x. (x.0, x.1, x.2, ap fragment_of x.3, x.4)) c.args.pruners.now h.2.0, (h.2.1.0, h.2.1.1, h.2.1.2, ap fragment_of h.2.1.3, h.2.1.4))))

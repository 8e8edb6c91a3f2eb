use Rattle.std.proofs.Common.{⊎_elim}
use Rattle.kernel_lang.specs.Whole.{fragment_of}
use Rattle.query_search.specs.Verdicts.{verdict, before}
use Rattle.query_search.proofs.Alone.{counted-by}
use Rattle.query_search.proofs.searching.search_past.Goals as goal

pub returns-clause-dropped : goal.returns-clause-dropped
returns-clause-dropped g c =
    counted-by _ _ _ _ (before (verdict (fragment_of c.args.frag.now) c.args.size c.args.budget)) c.search_with.result c.search_with.ensures.dropped
    (λ k d. (d.0, d.1, ⊎_elim (λ x. x) (λ h. absurd (c.requires.never h.0 h.1 h.2)) d.2)) (λ k h. (h.0, h.1, h.2.0))

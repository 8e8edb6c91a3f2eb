use Rattle.qbs.proofs.Evident.{proved, checked}
use Rattle.qbs.proofs.CheckingByView.{checked_by_view}
use Rattle.qbs.proofs.Completing.{complete}
use Rattle.qbs.proofs.Drawn.{drawn}
use Rattle.qbs.proofs.Inlining.{inlined}
use Rattle.qbs.proofs.Narrowing.{narrowed}
use Rattle.qbs.proofs.OnePlan.{one_plan}
use Rattle.qbs.proofs.Promised.{promised, headline, no_one}
use Rattle.qbs.proofs.Gathering.{gathered}
use Rattle.qbs.proofs.Neutral.{neutral}
use Rattle.qbs.proofs.ProvingByView.{proved_by_view}
use Rattle.qbs.proofs.RewritingByView.{rewritten_by_view}
use Rattle.qbs.proofs.Unnesting.{unnested}
use Rattle.qbs.proofs.Unpruned.{drops_none}
use Rattle.qbs.proofs.Viewing.{viewed}
use Rattle.qbs.proofs.top.qbs_main.Goals as goal

pub returns-clause-one_plan : goal.returns-clause-one_plan
returns-clause-one_plan g c = one_plan _ _ _

pub returns-clause-headline : goal.returns-clause-headline
returns-clause-headline g c = headline _ _ _ _ _ _ c.carry_out.ensures.done

pub returns-clause-rewritten_by_view : goal.returns-clause-rewritten_by_view
returns-clause-rewritten_by_view g c = rewritten_by_view _ _ _ _ _ _ c.carry_out.ensures.done

pub returns-clause-proved : goal.returns-clause-proved
returns-clause-proved g c = proved _ _ _ _ _ _ c.carry_out.ensures.done

pub returns-clause-checked : goal.returns-clause-checked
returns-clause-checked g c = checked _ _ _ _ _ _ c.carry_out.ensures.done

pub returns-clause-proved_by_view : goal.returns-clause-proved_by_view
returns-clause-proved_by_view g c = proved_by_view _ _ _ _ _ _ c.carry_out.ensures.done

pub returns-clause-checked_by_view : goal.returns-clause-checked_by_view
returns-clause-checked_by_view g c = checked_by_view _ _ _ _ _ _ c.carry_out.ensures.done

pub returns-clause-drawn : goal.returns-clause-drawn
returns-clause-drawn g c = drawn _ _ _ _ _ _ c.carry_out.ensures.done

pub returns-clause-inlined : goal.returns-clause-inlined
returns-clause-inlined g c = inlined _ _ _ _ _ _ c.carry_out.ensures.done

pub returns-clause-narrowed : goal.returns-clause-narrowed
returns-clause-narrowed g c = narrowed _ _ _ _ _ _ c.carry_out.ensures.done

pub returns-clause-unnested : goal.returns-clause-unnested
returns-clause-unnested g c = unnested _ _ _ _ _ _ c.carry_out.ensures.done

pub returns-clause-gathered : goal.returns-clause-gathered
returns-clause-gathered g c = gathered _ _ _ _ _ _ c.carry_out.ensures.done

pub returns-clause-viewed : goal.returns-clause-viewed
returns-clause-viewed g c = viewed _ _ _ _ _ _ c.carry_out.ensures.done

pub returns-clause-neutral : goal.returns-clause-neutral
returns-clause-neutral g c = neutral _ _ _

pub returns-clause-words : goal.returns-clause-words
returns-clause-words g c = record {
  only = (promised _ _ _ _ _ _ c.carry_out.ensures.done).only;
  all = (promised _ _ _ _ _ _ c.carry_out.ensures.done).all;
  unread = c.carry_out.ensures.unread;
}

pub returns-clause-unchanged : goal.returns-clause-unchanged
returns-clause-unchanged g c = (promised _ _ _ _ _ _ c.carry_out.ensures.done).unchanged

pub returns-clause-cut_short : goal.returns-clause-cut_short
returns-clause-cut_short g c = (promised _ _ _ _ _ _ c.carry_out.ensures.done).cut_short

pub returns-clause-same : goal.returns-clause-same
returns-clause-same g c = record { held = c.carry_out.ensures.same; later = c.carry_out.ensures.later }

pub returns-clause-unpruned : goal.returns-clause-unpruned
returns-clause-unpruned g c empty = drops_none _ _ _ _ _ _ c.carry_out.ensures.done (λ f k d. no_one _ _ empty d)

pub returns-clause-read : goal.returns-clause-read
returns-clause-read g c = (promised _ _ _ _ _ _ c.carry_out.ensures.done).read

pub returns-clause-reads : goal.returns-clause-reads
returns-clause-reads g c = c.carry_out.ensures.reads

pub returns-clause-complete : goal.returns-clause-complete
returns-clause-complete g c = complete _ _ _ _ _ _ c.carry_out.ensures.done

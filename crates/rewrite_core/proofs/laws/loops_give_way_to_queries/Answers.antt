-- A loop gives way to the asks that stand for it.
use Rattle.rewrite_core.proofs.StaysTyped.{loops_give_way}
use Rattle.rewrite_core.proofs.laws.loops_give_way_to_queries.Goals as goal

pub returns : goal.returns
returns c = loops_give_way

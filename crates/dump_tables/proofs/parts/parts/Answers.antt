use Rattle.dump_tables.proofs.Parted.{this_part, goes_on, ends}
use Rattle.dump_tables.proofs.parts.parts.Goals as goal

pub loop-list-preserved : goal.loop-list-preserved
loop-list-preserved c =
    goes_on c.loop-list.list c.push.new.self c.split_at.result.0 c.loop-list.rest.now c.in-Some.next.now _
    (this_part c.loop-list.rest.now c.split_at.result.0.now c.split_at.result.1.now c.part_len.result _ c.part_len.ensures.value c.split_at.ensures.front c.split_at.ensures.back c.in-Some.ensures.value)
    c.in_ok-push.ensures.ok c.loop-list.invariant

pub returns-in-None : goal.returns-in-None
returns-in-None c =
    ends c.loop-list.list c.push.new.self c.split_at.result.0 c.loop-list.rest.now _
    (this_part c.loop-list.rest.now c.split_at.result.0.now c.split_at.result.1.now c.part_len.result _ c.part_len.ensures.value c.split_at.ensures.front c.split_at.ensures.back c.in-None.ensures.value)
    c.in_ok-push.ensures.ok c.loop-list.invariant

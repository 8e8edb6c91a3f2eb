use Rattle.dump_tables.proofs.Dotted.{dotted}
use Rattle.dump_tables.proofs.tables.last_part.Goals as goal

pub loop-rest-preserved : goal.loop-rest-preserved
loop-rest-preserved c =
    dotted c.loop-rest.part.now c.dot-item.result c.next-item.result c.loop-rest.rest.now _ c.loop-rest.invariant c.dot-item.is c.next-item.is
    c.if-not-goes_on.ensures c.in-len2-up.len_at_least

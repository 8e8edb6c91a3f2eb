use Rattle.std.proofs.Common.{append_assoc}
use Rattle.cases.proofs.prefixes.put_prefixes.Goals as goal

pub returns : goal.returns
returns c = (c.in_ok-count.count, c.in_ok-count.ensures, simp append_assoc c.in_ok-write.ensures.bytes)

use Rattle.std.proofs.Common.{sym}
use Rattle.dump_items.proofs.Scans.{goes_on, left_on}
use Rattle.dump_items.proofs.scan.tag_end.Goals as goal

pub loop-rest-preserved : goal.loop-rest-preserved
loop-rest-preserved c = record {
  so_far = goes_on c.args.tag.now c.loop-rest.rest.now c.loop-rest.len _ c.in-len1-up.len_at_least (sym c.if-starts_with.ensures.value) c.loop-rest.invariant.so_far;
  left = left_on c.loop-rest.rest.now c.loop-rest.len _ c.in-len1-up.len_at_least c.loop-rest.invariant.left;
}

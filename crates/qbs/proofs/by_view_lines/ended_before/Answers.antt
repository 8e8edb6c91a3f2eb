use Rattle.std.proofs.Common.{rules}
use Rattle.std.proofs.lemmas.List.Sorted.{IsPartitionPoint-from_clause}
use Rattle.qbs.proofs.Told.{has_ended, are_parted, found_is}
use Rattle.qbs.proofs.by_view_lines.ended_before.Goals as goal

pub returns : goal.returns
returns c =
    found_is c.args.byte c.args.fates.now c.partition_point.result
    (IsPartitionPoint-from_clause (has_ended c.args.byte) _ _ c.partition_point.ensures.partitioned (are_parted c.args.byte 0 c.args.fates.now c.requires) (λ a r q k. search rules))

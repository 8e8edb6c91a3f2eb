use Rattle.std.proofs.Common.{rules, subst, sym, List}
use Rattle.std.proofs.lemmas.List.Sorted.{IsPartitionPoint-from_clause}
use Rattle.std.specs.List.Sorted.{IsPartitionedBy}
use Rattle.view_text.specs.declared.stretches.Stretch.{Stretch}
use Rattle.view_text.specs.Layout.{has_ended, stretches_of}
use Rattle.view_text.proofs.Holding.{are_parted, cells_in_order}
use Rattle.view_text.proofs.stretches.ended_before.Goals as goal

pub returns : goal.returns
returns c cells e =
    IsPartitionPoint-from_clause (has_ended c.args.byte) _ _ c.partition_point.ensures.partitioned
    (let P : List Stretch → Type 0 = λ ss. IsPartitionedBy (has_ended c.args.byte) ss in subst P (sym e) (are_parted c.args.byte 0 (stretches_of cells) (cells_in_order cells))) (λ a r q k. search rules)

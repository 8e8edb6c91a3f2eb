use Rattle.std.proofs.Common.{◌≡◌, ◌++◌}
use Rattle.std.specs.Iterator.Adapters.{zip_first, zip_second}
use Rattle.std.specs.Slice.Iter.{iter_rest}
use Rattle.qbs_base.specs.Columns.{columns_at}
use Rattle.java_loops.specs.Lowering.Lowered.{keys_of}
use Rattle.lowering.proofs.lowering.source_lists.keys_of.Given as goal

abbrev pub invariant-loop-name : goal.invariant-loop-name
invariant-loop-name l = l.cols ++ keys_of (columns_at l.schema l.table) (iter_rest (zip_first l.name-iterator)) (iter_rest (zip_second l.name-iterator)) ≡ keys_of (columns_at l.schema l.table) l.keys l.downs

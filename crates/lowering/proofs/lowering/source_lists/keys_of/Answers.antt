use Rattle.std.specs.Iterator.Adapters.{zip_first, zip_second}
use Rattle.std.specs.Slice.Iter.{iter_rest}
use Rattle.std.proofs.lemmas.Slice.Zip.{either_empty_from_Zip}
use Rattle.qbs_base.specs.Columns.{columns_at}
use Rattle.lowering.proofs.Lowerings.LoweredLists.{keys_end}
use Rattle.lowering.proofs.lowering.source_lists.keys_of.Goals as goal

pub returns : goal.returns
returns c =
    keys_end (columns_at c.args.schema.now c.args.table) c.loop-name.cols (iter_rest (zip_first c.loop-name.name-iterator)) (iter_rest (zip_second c.loop-name.name-iterator)) _
    (either_empty_from_Zip c.loop-name.name-iterator c.next.new.self c.next.result c.in-None.is c.next.ensures.steps)
    c.loop-name.invariant

use Rattle.std.proofs.lemmas.Result.{on_ok_weaker}
use Rattle.java_copies.proofs.Moved.{range_put}
use Rattle.java_copies.proofs.put.put_range.Goals as goal

pub returns : goal.returns
returns c = on_ok_weaker c.put_items.result (range_put c.args.first c.args.last c.args.block.now.items c.args.others.items c.put_items.new.list.items) c.put_items.ensures

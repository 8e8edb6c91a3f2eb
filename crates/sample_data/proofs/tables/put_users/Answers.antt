use Rattle.sample_data.proofs.Rows.{user_room, user_put}
use Rattle.sample_data.specs.Tables.{users}
use Rattle.sample_data.proofs.tables.put_users.Goals as goal

pub put_row-requires : goal.put_row-requires
put_row-requires c = user_room c.loop-i.db (users c.loop-i.i) c.loop-i.invariant

pub loop-i-preserved : goal.loop-i-preserved
loop-i-preserved c = user_put c.loop-i.db c.put_row.new.self c.loop-i.i c.in_ok-user_row.field-0 c.loop-i.invariant c.in_ok-user_row.ensures c.in_ok-put_row.ensures.ok

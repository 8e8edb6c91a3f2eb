use Rattle.sample_data.proofs.Rows.{role_room, role_put}
use Rattle.sample_data.specs.Tables.{roles}
use Rattle.sample_data.proofs.tables.put_roles.Goals as goal

pub put_row-requires : goal.put_row-requires
put_row-requires c = let us = c.requires.two in role_room c.loop-j.db us.0 (roles c.loop-j.j) (c.loop-j.invariant us.0 us.1)

pub loop-j-preserved : goal.loop-j-preserved
loop-j-preserved c us is = role_put c.loop-j.db c.put_row.new.self us c.loop-j.j c.in_ok-role_row.field-0 (c.loop-j.invariant us is) c.in_ok-role_row.ensures c.in_ok-put_row.ensures.ok

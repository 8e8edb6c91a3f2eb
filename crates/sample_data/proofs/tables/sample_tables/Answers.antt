use Rattle.sample_data.specs.Tables.{User, users}
use Rattle.sample_data.proofs.Rows.{roles_next, filled, filled_database}
use Rattle.sample_data.proofs.tables.sample_tables.Goals as goal

pub returns-clause-exact : goal.returns-clause-exact
returns-clause-exact c =
    filled c.put_roles.new.db c.args.n
    (c.in_ok-put_roles.ensures (User, users c.args.n)
    (roles_next c.add_table.new.self c.put_users.new.db c.in_ok-from_str.field-0 c.args.n c.in_ok-from_str.ensures c.in_ok-put_users.ensures c.in_ok-add_table.ensures.ok))

pub returns-clause-database : goal.returns-clause-database
returns-clause-database c = filled_database c.put_roles.new.db c.args.n c.requires (returns-clause-exact c)

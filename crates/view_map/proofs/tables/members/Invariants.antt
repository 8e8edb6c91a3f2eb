use Rattle.std.proofs.Common.{◌≡◌, ◌-◌, [], length}
use Rattle.qbs_base.specs.Columns.{columns_at}
use Rattle.view_map.specs.Tables.{members_at, member_names}
use Rattle.view_map.proofs.tables.members.Given as goal

abbrev pub invariant-loop : goal.invariant-loop
invariant-loop l = record {
  so_far : members_at (columns_at l.schema l.table) l.list (length l.items - l.counter) l.fn.end l.rest ≡ members_at (columns_at l.schema l.table) [] (length l.items) l.fn.end l.items;
  names : l.names ≡ member_names l.list;
}

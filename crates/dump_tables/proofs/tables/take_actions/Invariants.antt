use Rattle.std.proofs.Common.{◌≡◌, drop, map}
use Rattle.dump_tables.specs.Tables.{with_actions}
use Rattle.dump_tables.proofs.tables.take_actions.Given as goal

abbrev pub invariant-loop-action : goal.invariant-loop-action
invariant-loop-action l = with_actions l.table (map (λ a. a.now) (drop l.action-index l.actions)) ≡ with_actions l.fn.table (map (λ a. a.now) l.actions)

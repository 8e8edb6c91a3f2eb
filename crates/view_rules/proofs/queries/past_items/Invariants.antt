use Rattle.std.proofs.Common.{◌≡◌, drop}
use Rattle.view_rules.specs.Setting.{within_of}
use Rattle.view_rules.specs.Queries.{past_items}
use Rattle.view_rules.proofs.queries.past_items.Given as goal

-- what is left from here is what is left of all
abbrev pub invariant-loop-item : goal.invariant-loop-item
invariant-loop-item l = past_items (within_of l.w) l.items l.initial.j ≡ past_items (within_of l.w) (drop l.item-index l.items) l.j

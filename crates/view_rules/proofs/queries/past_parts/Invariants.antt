use Rattle.std.proofs.Common.{◌≡◌, drop}
use Rattle.view_rules.specs.Setting.{within_of}
use Rattle.view_rules.specs.Queries.{past_parts}
use Rattle.view_rules.proofs.queries.past_parts.Given as goal

-- what is left from here is what is left of all
abbrev pub invariant-loop-part : goal.invariant-loop-part
invariant-loop-part l = past_parts (within_of l.w) l.text l.java l.parts l.initial.j ≡ past_parts (within_of l.w) l.text l.java (drop l.part-index l.parts) l.j

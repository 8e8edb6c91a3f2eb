use Rattle.std.proofs.Common.{◌≡◌, drop}
use Rattle.view_rules.specs.Setting.{within_of}
use Rattle.view_rules.specs.Names.{past_names}
use Rattle.view_rules.proofs.constants.past_names.Given as goal

-- what is left from here is what is left of all
abbrev pub invariant-loop-name : goal.invariant-loop-name
invariant-loop-name l = past_names (within_of l.w) l.names l.initial.j ≡ past_names (within_of l.w) (drop l.name-index l.names) l.j

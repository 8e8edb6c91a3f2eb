use Rattle.std.proofs.Common.{◌≡◌, drop}
use Rattle.view_rules.specs.Setting.{within_of}
use Rattle.view_rules.specs.Nulls.{past_tests_behind}
use Rattle.view_rules.proofs.nulls.past_tests_behind.Given as goal

-- what is left from here is what is left of all
abbrev pub invariant-loop-t : goal.invariant-loop-t
invariant-loop-t l = past_tests_behind (within_of l.w) l.sight l.all l.tests l.initial.j ≡ past_tests_behind (within_of l.w) l.sight l.all (drop l.t-index l.tests) l.j

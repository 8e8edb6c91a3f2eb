use Rattle.std.proofs.Common.{◌≡◌, drop}
use Rattle.view_rules.specs.Setting.{within_of}
use Rattle.view_rules.specs.Queries.{past_back}
use Rattle.view_rules.proofs.queries.past_back.Given as goal

-- what is left from here is what is left of all
abbrev pub invariant-loop-part : goal.invariant-loop-part
invariant-loop-part l = past_back (within_of l.w) l.n l.parts l.initial.j ≡ past_back (within_of l.w) l.n (drop l.part-index l.parts) l.j

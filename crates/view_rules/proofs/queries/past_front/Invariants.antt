use Rattle.std.proofs.Common.{◌≡◌, drop}
use Rattle.view_rules.specs.Setting.{within_of}
use Rattle.view_rules.specs.Queries.{past_front}
use Rattle.view_rules.proofs.queries.past_front.Given as goal

-- what is left from here is what is left of all
abbrev pub invariant-loop-part : goal.invariant-loop-part
invariant-loop-part l = past_front (within_of l.w) l.n l.parts l.initial.j ≡ past_front (within_of l.w) l.n (drop l.part-index l.parts) l.j

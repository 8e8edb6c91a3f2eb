use Rattle.std.proofs.Common.{◌≡◌, drop}
use Rattle.view_rules.specs.Sights.{in_sight}
use Rattle.view_rules.proofs.sight.find_sighted.Given as goal

-- no variable before this one has the name
abbrev pub invariant-loop-v : goal.invariant-loop-v
invariant-loop-v l = in_sight l.sight l.name ≡ in_sight (drop l.v-index l.sight) l.name

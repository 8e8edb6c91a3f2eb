use Rattle.std.proofs.Common.{◌≡◌, [], ◌∷◌, drop}
use Rattle.vc_gen.specs.Conditions.{ways_through}
use Rattle.vc_gen.specs.Levels.{layers_seen}
use Rattle.vc_gen.proofs.own.ways_through.Given as goal

abbrev pub invariant-loop-y : goal.invariant-loop-y
invariant-loop-y l = ways_through l.ways (layers_seen (drop l.y-index l.outside)) ≡ ways_through ([] ∷ []) (layers_seen l.outside)

use Rattle.std.proofs.Common.{◌≡◌, ◌++◌, map, take}
use Rattle.vc_gen.proofs.paths.add_each.Given as goal

abbrev pub invariant-loop-q : goal.invariant-loop-q
invariant-loop-q l = l.all ≡ l.initial.all ++ map (λ q. l.p ++ q) (take l.q-index l.qs)

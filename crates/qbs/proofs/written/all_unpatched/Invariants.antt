use Rattle.std.proofs.Common.{◌≡◌, ◌++◌, map, drop}
use Rattle.qbs.specs.Looks.{unpatched}
use Rattle.qbs.proofs.written.all_unpatched.Given as goal

abbrev pub invariant-loop-one : goal.invariant-loop-one
invariant-loop-one l = l.list ++ map unpatched (drop l.one-index l.spelled) ≡ map unpatched l.spelled

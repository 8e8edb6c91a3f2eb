use Rattle.std.proofs.Common.{◌≡◌, ◌++◌, drop}
use Rattle.view_map.specs.Constants.{dotted}
use Rattle.view_map.proofs.constants.dotted.Given as goal

abbrev pub invariant-loop-name : goal.invariant-loop-name
invariant-loop-name l = l.bytes.items ++ dotted (drop l.name-index l.names) ≡ dotted l.names

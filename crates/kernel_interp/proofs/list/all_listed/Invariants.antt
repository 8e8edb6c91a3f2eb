use Rattle.std.proofs.Common.{◌≡◌, map, take}
use Rattle.kernel_lang.specs.Given.{listed}
use Rattle.kernel_interp.specs.Reading.{lists_seen}
use Rattle.kernel_interp.proofs.list.all_listed.Given as goal

abbrev pub invariant-loop-def : goal.invariant-loop-def
invariant-loop-def l = lists_seen l.lists.items ≡ map (listed l.db) (take l.def-index l.defs)

use Rattle.std.proofs.Common.{◌≡◌, drop}
use Rattle.dump_schema.specs.Names as specs
use Rattle.dump_schema.proofs.names.twin.Given as goal

-- none that is passed is the name in other letters
abbrev pub invariant-loop-other : goal.invariant-loop-other
invariant-loop-other l = specs.twin_of (drop l.other-index l.taken) l.name ≡ specs.twin_of l.taken l.name

use Rattle.std.proofs.Common.{◌≡◌, drop}
use Rattle.qbs_base.specs.Named.{at_name}
use Rattle.qbs_base.proofs.named.find_name.Given as goal

-- no entry before this one has the name
abbrev pub invariant-loop-entry : goal.invariant-loop-entry
invariant-loop-entry g l = at_name l.entries l.name ≡ at_name (drop l.entry-index l.entries) l.name

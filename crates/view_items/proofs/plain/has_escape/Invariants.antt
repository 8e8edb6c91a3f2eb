use Rattle.std.proofs.Common.{◌≡◌, false, drop}
use Rattle.view_items.specs.Plain.{has_escape}
use Rattle.view_items.proofs.plain.has_escape.Given as goal

abbrev pub invariant-loop-byte : goal.invariant-loop-byte
invariant-loop-byte l = has_escape l.begun (drop l.byte-index l.source) ≡ has_escape false l.source

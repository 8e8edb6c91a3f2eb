use Rattle.std.proofs.Common.{◌≡◌, ◌++◌, drop, false}
use Rattle.std.specs.String.{string_bytes}
use Rattle.java_text.specs.Canonical.{canonical_keys}
use Rattle.java_text.proofs.printing.put_keys.Given as goal

abbrev pub invariant-loop-key : goal.invariant-loop-key
invariant-loop-key l = string_bytes l.out ++ canonical_keys l.further (drop l.key-index l.keys) l.rest ≡ string_bytes l.fn.out ++ canonical_keys false l.keys l.downs

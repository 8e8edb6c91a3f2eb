use Rattle.std.proofs.Common.{◌≡◌, ◌++◌, drop}
use Rattle.std.specs.List.{flat_map}
use Rattle.std.specs.String.{string_bytes}
use Rattle.java_text.specs.Canonical.{import_text}
use Rattle.java_text.proofs.printing.put_imports.Given as goal

abbrev pub invariant-loop-name : goal.invariant-loop-name
invariant-loop-name l = string_bytes l.out ++ flat_map import_text (drop l.name-index l.names) ≡ string_bytes l.fn.out ++ flat_map import_text l.names

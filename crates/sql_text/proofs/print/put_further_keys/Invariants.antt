use Rattle.std.proofs.Common.{◌≡◌, ◌++◌, codes, string_bytes, drop}
use Rattle.std.specs.List.{flat_map}
use Rattle.sql_ast.specs.Canonical.{key_text}
use Rattle.sql_text.proofs.print.put_further_keys.Given as goal

abbrev pub invariant-loop-key : goal.invariant-loop-key
invariant-loop-key l = string_bytes l.out ++ flat_map (λ key. codes ", " ++ key_text key) (drop l.key-index l.keys) ≡ string_bytes l.fn.out ++ flat_map (λ key. codes ", " ++ key_text key) l.keys

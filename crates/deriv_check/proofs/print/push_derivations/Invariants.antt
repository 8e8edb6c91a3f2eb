use Rattle.std.proofs.Common.{◌≡◌, ◌++◌, drop, map}
use Rattle.std.specs.List.{flat_map}
use Rattle.std.specs.String.{string_bytes}
use Rattle.tor_axioms.specs.Accepts.{proof_of}
use Rattle.deriv_check.specs.Texts.{derivation_text}
use Rattle.deriv_check.proofs.print.push_derivations.Given as goal

-- what is written and the text of what is left is the text of all
abbrev pub invariant-loop-derivation : goal.invariant-loop-derivation
invariant-loop-derivation l = string_bytes l.out ++ flat_map derivation_text (map proof_of (drop l.derivation-index l.derivations)) ≡ string_bytes l.fn.out ++ flat_map derivation_text (map proof_of l.derivations)

-- Reading derivations and bundles from left to right, byte by byte.
use Rattle.std.specs.Prelude.{◌^◌, ℕ, zero, suc, Bool, ◌||◌, not, nat_eq, List, [], ◌∷◌, ◌++◌, Result, codes}
use Rattle.readers.specs.declared.fault.Fault.{Fault}
use Rattle.readers.specs.Reading.{both, made, either, many, whole}
use Rattle.text_readers.specs.Bytes.{Reader, byte_at, word_at, is_digit, number_at as below_at}
use Rattle.tor_axioms.specs.declared.derivation.Step.{Step}
use Rattle.tor_axioms.specs.Accepts.{Proof, Steps, Split, Absurd}
use Rattle.deriv_check.specs.Bundles.{Entry}
use Rattle.deriv_parts.specs.Limits.{most_splits}

-- ---- numbers below 2 ^ 32

abbrev pub number_at : Reader ℕ
number_at ts = below_at (2 ^ 32) ts

-- ---- paths and steps

abbrev pub ends_path : ℕ → Bool
ends_path b = not (is_digit b || nat_eq b 46)

unfoldable pub further_at : Reader ℕ
further_at ts = made (λ x. x.1) (both (byte_at 46) number_at) ts

unfoldable pub numbers_at : Reader (List ℕ)
numbers_at ts = many ends_path further_at ts

-- numbers behind those that were read before
unfoldable pub numbers_behind : List ℕ → Reader (List ℕ)
numbers_behind front ts = made (λ numbers. front ++ numbers) numbers_at ts

abbrev pub is_dash : ℕ → Bool
is_dash b = nat_eq b 45

unfoldable pub path_at : Reader (List ℕ)
path_at ts = either is_dash (made (λ _. []) (byte_at 45)) (made (λ x. x.0 ∷ x.1) (both number_at numbers_at)) ts

abbrev pub step_from : ℕ × (Unit {0} × List ℕ) → Step
step_from x = record { rule = x.0; path = x.1.1 }

unfoldable pub step_at : Reader Step
step_at ts = made step_from (both number_at (both (byte_at 64) path_at)) ts

unfoldable pub left_at : Reader Step
left_at ts = made (λ x. x.0) (both step_at (byte_at 32)) ts

unfoldable pub right_at : Reader Step
right_at ts = made (λ x. x.1) (both (byte_at 32) step_at) ts

abbrev pub is_slash : ℕ → Bool
is_slash b = nat_eq b 47

abbrev pub is_line_end : ℕ → Bool
is_line_end b = nat_eq b 10

unfoldable pub lefts_at : Reader (List Step)
lefts_at ts = many is_slash left_at ts

unfoldable pub rights_at : Reader (List Step)
rights_at ts = many is_line_end right_at ts

-- ---- derivations

abbrev pub steps_from : Unit {0} × (List Step × (Unit {0} × (List Step × Unit {0}))) → Proof
steps_from x = Steps x.1.0 x.1.1.1.0

unfoldable pub steps_at : Reader Proof
steps_at ts = made steps_from (both (word_at (codes "s ")) (both lefts_at (both (byte_at 47) (both rights_at (byte_at 10))))) ts

unfoldable pub absurd_at : Reader Proof
absurd_at ts = made (λ _. Absurd) (word_at (codes "!\n")) ts

-- the line of a split
unfoldable pub choice_at : Reader ℕ
choice_at ts = made (λ x. x.1.0) (both (word_at (codes "? ")) (both number_at (byte_at 10))) ts

abbrev pub split_from : ℕ × (Proof × Proof) → Proof
split_from x = Split x.0 x.1.0 x.1.1

unfoldable pub split_in : Reader Proof → Reader Proof
split_in branch ts = made split_from (both choice_at (both branch branch)) ts

abbrev pub is_steps : ℕ → Bool
is_steps b = nat_eq b 115

abbrev pub is_split : ℕ → Bool
is_split b = nat_eq b 63

-- with so many splits inside of each other at most
unfoldable pub derivation_at : ℕ → Reader Proof
derivation_at zero ts = either is_steps steps_at absurd_at ts
derivation_at (suc room) ts = either is_steps steps_at (either is_split (split_in (derivation_at room)) absurd_at) ts

unfoldable pub read_derivation : List ℕ → Result Proof Fault
read_derivation ts = whole (derivation_at most_splits) ts

-- ---- bundles

abbrev pub ends_proofs : ℕ → Bool
ends_proofs b = nat_eq b 108 || nat_eq b 101

unfoldable pub proofs_at : Reader (List Proof)
proofs_at ts = many ends_proofs (derivation_at most_splits) ts

-- the line of a loop
abbrev pub Head : Type 0
Head = ℕ × ℕ × ℕ

abbrev pub head_from : Unit {0} × (ℕ × (Unit {0} × (ℕ × (Unit {0} × (ℕ × Unit {0}))))) → Head
head_from x = (x.1.0, x.1.1.1.0, x.1.1.1.1.1.0)

unfoldable pub head_at : Reader Head
head_at ts = made head_from (both (word_at (codes "loop ")) (both number_at (both (byte_at 58) (both number_at (both (byte_at 32) (both number_at (byte_at 10))))))) ts

abbrev pub entry_from : Head × List Proof → Entry
entry_from x = record { line = x.0.0; column = x.0.1; k = x.0.2; proofs = x.1 }

unfoldable pub entry_at : Reader Entry
entry_at ts = made entry_from (both head_at proofs_at) ts

abbrev pub is_end : ℕ → Bool
is_end b = nat_eq b 101

unfoldable pub entries_at : Reader (List Entry)
entries_at ts = many is_end entry_at ts

unfoldable pub bundle_at : Reader (List Entry)
bundle_at ts = made (λ x. x.1.0) (both (word_at (codes "qbs 1\n")) (both entries_at (word_at (codes "end\n")))) ts

unfoldable pub read_bundle : List ℕ → Result (List Entry) Fault
read_bundle ts = whole bundle_at ts

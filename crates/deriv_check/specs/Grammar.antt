-- Which bytes are the text of a derivation or a bundle.
use Rattle.std.specs.Prelude.{◌≡◌, ◌<◌, ◌^◌, ℕ, zero, suc, List}
use Rattle.tor_axioms.specs.declared.derivation.Step.{Step}
use Rattle.tor_axioms.specs.Accepts.{Proof, Steps, Split, Absurd}
use Rattle.deriv_parts.specs.Limits.{most_splits}
use Rattle.text_readers.specs.Offsets.{Each}
use Rattle.deriv_check.specs.Bundles.{Entry}
use Rattle.deriv_check.specs.Texts.{derivation_text, bundle_text}

-- ---- the limits of the grammar: numbers below 2 ^ 32, and no more than so many nested splits

abbrev pub IsSmall : ℕ → Type 0
IsSmall n = n < 2 ^ 32

abbrev pub HasSmallStep : Step → Type 0
HasSmallStep s = IsSmall s.rule × Each IsSmall s.path

abbrev pub IsNested : ℕ → Proof → Type 0
IsNested room (Steps left right) = Each HasSmallStep left × Each HasSmallStep right
IsNested zero (Split atom first second) = ⊥
IsNested (suc room) (Split atom first second) = IsSmall atom × IsNested room first × IsNested room second
IsNested room Absurd = Unit {0}

abbrev pub IsWritable : Proof → Type 0
IsWritable d = IsNested most_splits d

abbrev pub IsWritableEntry : Entry → Type 0
IsWritableEntry e = IsSmall e.line × IsSmall e.column × IsSmall e.k × Each IsWritable e.proofs

-- ---- members of the grammar

abbrev pub HasDerivation : List ℕ → Proof → Type 0
HasDerivation bytes d = (bytes ≡ derivation_text d) × IsWritable d

abbrev pub HasBundle : List ℕ → List Entry → Type 0
HasBundle bytes entries = (bytes ≡ bundle_text entries) × Each IsWritableEntry entries

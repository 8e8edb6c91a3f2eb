-- Entries and bundles: the readers are exact.
use Rattle.std.proofs.Common.{◌≡◌, ℕ, true, false, List, [], ◌∷◌, refl}
use Rattle.std.specs.Prelude.{codes}
use Rattle.std.specs.List.{flat_map}
use Rattle.std.proofs.lemmas.Bool.{eqb-true}
use Rattle.readers.specs.Reading.{is_over}
use Rattle.readers.proofs.Again.{Any}
use Rattle.tor_axioms.specs.Accepts.{Proof, Steps, Split, Absurd}
use Rattle.text_readers.specs.Offsets.{Each}
use Rattle.deriv_check.specs.Texts.{derivation_text, loop_text, entry_text, bundle_text}
use Rattle.deriv_parts.specs.Limits.{most_splits}
use Rattle.deriv_check.specs.Grammar.{IsSmall, IsWritable, IsWritableEntry}
use Rattle.deriv_check.specs.Reading.{ends_proofs, proofs_at, Head, head_from, head_at, entry_from, entry_at, is_end, entries_at, bundle_at}
use Rattle.text_readers.proofs.Exact.{Exact, exact_byte, exact_both, exact_made, exact_many, exact_word}
use Rattle.deriv_check.proofs.Numbers.{exact_number}
use Rattle.deriv_check.proofs.Derivations.{exact_derivation}

abbrev ProofsEnd : List ℕ → Type 0
ProofsEnd rest = is_over ends_proofs rest ≡ true

exact_proofs : Exact (flat_map derivation_text) (Each IsWritable) ProofsEnd proofs_at
unfolding proofs_at
exact_proofs = exact_many ends_proofs (exact_derivation most_splits) starts (λ rest h. tt) (λ d rest h. tt)
  where
    starts : (d : Proof) → IsWritable d → (b : ℕ) × (bs : List ℕ) × (derivation_text d ≡ b ∷ bs) × (ends_proofs b ≡ false)
    starts (Steps left right) h = (115, _, refl, refl)
    starts (Split atom first second) h = (63, _, refl, refl)
    starts Absurd h = (33, _, refl, refl)

abbrev head_text : Head → List ℕ
head_text h = loop_text h.0 h.1 h.2

abbrev FitsHead : Head → Type 0
FitsHead h = IsSmall h.0 × IsSmall h.1 × IsSmall h.2

exact_head : Exact head_text FitsHead Any head_at
unfolding head_at
exact_head =
    exact_made head_text FitsHead head_from
    (exact_both (exact_word (codes "loop ")) (exact_both exact_number (exact_both (exact_byte 58) (exact_both exact_number (exact_both (exact_byte 32) (exact_both exact_number (exact_byte 10)
    (λ y rest h g. refl)) (λ y rest h g. tt)) (λ y rest h g. refl)) (λ y rest h g. tt)) (λ y rest h g. refl)) (λ y rest h g. tt))
    (λ x h. (refl, (h.1.0, h.1.1.1.0, h.1.1.1.1.1.0))) (λ y h. ((tt, (y.0, (tt, (y.1, (tt, (y.2, tt)))))), refl, refl, (tt, (h.0, (tt, (h.1, (tt, (h.2, tt))))))))

exact_entry : Exact entry_text IsWritableEntry ProofsEnd entry_at
unfolding entry_at
exact_entry =
    exact_made entry_text IsWritableEntry entry_from (exact_both exact_head exact_proofs (λ y rest h g. tt))
    (λ x h. (refl, (h.0.0, h.0.1, h.0.2, h.1))) (λ e h. (((e.line, e.column, e.k), e.proofs), refl, refl, ((h.0, h.1, h.2), h.3)))

bundle_end : (rest : List ℕ) → is_over is_end rest ≡ true → ProofsEnd rest
bundle_end [] e = refl
bundle_end (b ∷ bs) e = rw (eqb-true b 101 e) refl

exact_entries : Exact (flat_map entry_text) (Each IsWritableEntry) (λ rest. is_over is_end rest ≡ true) entries_at
unfolding entries_at
exact_entries = exact_many is_end exact_entry (λ e h. (108, _, refl, refl)) bundle_end (λ e rest h. refl)

pub exact_bundle : Exact bundle_text (Each IsWritableEntry) Any bundle_at
unfolding bundle_at
exact_bundle =
    exact_made bundle_text (Each IsWritableEntry) (λ x. x.1.0) (exact_both (exact_word (codes "qbs 1\n")) (exact_both exact_entries (exact_word (codes "end\n")) (λ y rest h g. refl)) (λ y rest h g. tt))
    (λ x h. (refl, h.1.0)) (λ es h. ((tt, (es, tt)), refl, refl, (tt, (h, tt))))

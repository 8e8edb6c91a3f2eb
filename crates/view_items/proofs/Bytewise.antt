-- One byte more of a file.
use Rattle.std.proofs.Common.{◌≡◌, ℕ, ◌+◌, ◌<◌, ◌≤◌, Bool, true, false, List, ◌∷◌, length, drop, slice_index_or, Result, Ok, Err, MatchResult, is_ok, refl, sym, ◌∙◌}
use Rattle.std.proofs.lemmas.List.{at_drop_more, at_drop_all}
use Rattle.std.specs.Str.{IsUtf8, is_utf8}
use Rattle.std.proofs.lemmas.Str.{IsUtf8-from_is_utf8, is_utf8-from_IsUtf8}
use Rattle.view_items.specs.Plain.{is_special, begins, has_escape}

pub escape_here : (e : Bool) (bs : List ℕ) (i : ℕ) (t : Bool) → has_escape e (drop i bs) ≡ t → i < length bs → true ≡ is_special e (slice_index_or bs i 0) → true ≡ t
unfolding has_escape
escape_here e bs i t so_far lt here =
    let h : has_escape e (slice_index_or bs i 0 ∷ drop (i + 1) bs) ≡ true = rw (sym here) refl in
    sym h ∙ sym (at_drop_more (has_escape e) bs i 0 lt) ∙ so_far

pub escape_next : (e f : Bool) (bs : List ℕ) (i : ℕ) (t : Bool) → has_escape e (drop i bs) ≡ t → i < length bs → false ≡ is_special e (slice_index_or bs i 0) → f ≡ begins e (slice_index_or bs i 0) → has_escape f (drop (i + 1) bs) ≡ t
unfolding has_escape
escape_next e f bs i t so_far lt other is_f =
    let h : has_escape e (slice_index_or bs i 0 ∷ drop (i + 1) bs) ≡ has_escape (begins e (slice_index_or bs i 0)) (drop (i + 1) bs) = rw (sym other) refl in
    rw is_f (sym h ∙ sym (at_drop_more (has_escape e) bs i 0 lt) ∙ so_far)

pub escape_end : (e : Bool) (bs : List ℕ) (i : ℕ) (t : Bool) → has_escape e (drop i bs) ≡ t → length bs ≤ i → false ≡ t
unfolding has_escape
escape_end e bs i t so_far le = sym (at_drop_all (has_escape e) bs i le) ∙ so_far

-- what `from_utf8` answers
pub is_its_answer : {T E : Type 0} (P : T → Type 0) (Q : E → Type 0) (bs : List ℕ) (r : Result T E) → MatchResult r (λ s. P s × IsUtf8 bs) (λ e. ¬ (IsUtf8 bs) × Q e) → is_ok r ≡ is_utf8 bs
is_its_answer P Q bs (Ok s) h = sym (is_utf8-from_IsUtf8 bs h.1)
is_its_answer P Q bs (Err e) h = elim (is_utf8 bs) as (λ b. is_utf8 bs ≡ b → false ≡ b) [ true ↦ λ t. absurd (h.0 (IsUtf8-from_is_utf8 bs t)) | false ↦ λ t. refl ] refl

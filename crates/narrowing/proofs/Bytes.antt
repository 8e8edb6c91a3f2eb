-- What is in a set that bytes are put into.
use Rattle.std.specs.Prelude.{if◌then◌else◌}
use Rattle.std.proofs.Common.{◌≡◌, ℕ, ◌+◌, ◌<◌, ◌≤◌, Bool, true, false, cond, ◌||◌, List, [], ◌∷◌, ◌++◌, length, get_or, drop, refl, sym, ap, ap₂, ◌∙◌, nat_eq, arith, add-one}
use Rattle.std.proofs.Math.Seq.{drop-cons}
use Rattle.std.proofs.lemmas.List.{drop_all}
use Rattle.std.specs.List.{list_any}
use Rattle.std.proofs.lemmas.Bool.Decides.{nat_tests}
use Rattle.std.proofs.lemmas.List.Folds.{list_any-append}

same_byte : (x b : ℕ) → nat_eq x b ≡ true → b ≡ x
same_byte x b e = grind (arith, nat_tests)

changed_or : (a b : Bool) → a || (b || false) ≡ b || a
changed_or true true = refl
changed_or true false = refl
changed_or false true = refl
changed_or false false = refl

pub byte_put : (x b : ℕ) (bytes : List ℕ) → list_any (nat_eq x) (if list_any (nat_eq b) bytes then bytes else bytes ++ b ∷ []) ≡ (nat_eq x b || list_any (nat_eq x) bytes)
byte_put x b bytes = go (list_any (nat_eq b) bytes) refl
  where
    there : (t : Bool) → nat_eq x b ≡ t → list_any (nat_eq b) bytes ≡ true → list_any (nat_eq x) bytes ≡ (t || list_any (nat_eq x) bytes)
    there true same h = ap (λ (y : ℕ). list_any (nat_eq y) bytes) (sym (same_byte x b same)) ∙ h
    there false same h = refl

    go : (c : Bool) → list_any (nat_eq b) bytes ≡ c → list_any (nat_eq x) (cond c bytes (bytes ++ b ∷ [])) ≡ (nat_eq x b || list_any (nat_eq x) bytes)
    go true h = there (nat_eq x b) refl h
    go false h = list_any-append (nat_eq x) bytes (b ∷ []) ∙ changed_or (list_any (nat_eq x) bytes) (nat_eq x b)

among : (x : ℕ) (bytes : List ℕ) (i b : ℕ) → i < length bytes → b ≡ get_or bytes i 0 → list_any (nat_eq x) (drop i bytes) ≡ (nat_eq x b || list_any (nat_eq x) (drop (i + 1) bytes))
among x bytes i b within is =
    let split : drop i bytes ≡ b ∷ drop (i + 1) bytes = drop-cons bytes i 0 within ∙ ap₂ (λ (y m : ℕ). y ∷ drop m bytes) (sym is) (sym (add-one i)) in
    ap (list_any (nat_eq x)) split

moved : (a b c : Bool) → (a || b) || c ≡ b || (a || c)
moved true true c = refl
moved true false c = refl
moved false b c = refl

pub one_byte_more : (x : ℕ) (bytes old new : List ℕ) (i b : ℕ) → i < length bytes → b ≡ get_or bytes i 0 → list_any (nat_eq x) new ≡ (nat_eq x b || list_any (nat_eq x) old) → (list_any (nat_eq x) old || list_any (nat_eq x) (drop i bytes)) ≡ list_any (nat_eq x) bytes → (list_any (nat_eq x) new || list_any (nat_eq x) (drop (i + 1) bytes)) ≡ list_any (nat_eq x) bytes
one_byte_more x bytes old new i b within is put e =
    ap (λ (t : Bool). t || list_any (nat_eq x) (drop (i + 1) bytes)) put
    ∙ moved (nat_eq x b) (list_any (nat_eq x) old) (list_any (nat_eq x) (drop (i + 1) bytes))
    ∙ ap (λ (t : Bool). list_any (nat_eq x) old || t) (sym (among x bytes i b within is))
    ∙ e

or_nothing : (a : Bool) → a || false ≡ a
or_nothing true = refl
or_nothing false = refl

pub no_byte_more : (x : ℕ) (bytes set : List ℕ) (i : ℕ) → length bytes ≤ i → (list_any (nat_eq x) set || list_any (nat_eq x) (drop i bytes)) ≡ list_any (nat_eq x) bytes → list_any (nat_eq x) set ≡ list_any (nat_eq x) bytes
no_byte_more x bytes set i end e =
    sym (or_nothing (list_any (nat_eq x) set))
    ∙ ap (λ (l : List ℕ). list_any (nat_eq x) set || list_any (nat_eq x) l) (sym (drop_all i bytes end))
    ∙ e

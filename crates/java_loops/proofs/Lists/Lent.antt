-- The items of a list that is lent.
use Rattle.std.proofs.Common.{◌≡◌, ◌<◌, ℕ, List, length, get_or, subst}

pub lent_below : {A : Type 0} (lent all : List A) (n : ℕ) → lent ≡ all → n < length lent → n < length all
lent_below lent all n is h = subst (λ l. n < length l) is h

pub lent_item : {A : Type 0} (lent all : List A) (n : ℕ) (x : A) → lent ≡ all → x ≡ get_or lent n x → x ≡ get_or all n x
lent_item lent all n x is h = subst (λ l. x ≡ get_or l n x) is h

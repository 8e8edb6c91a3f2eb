-- What is left of a list as it is seen.
use Rattle.std.proofs.Common.{◌≡◌, ℕ, ◌-◌, List, length, map, take, drop, min, sym, ap, ◌∙◌, subst}
use Rattle.std.specs.List.{drop-map}
use Rattle.std.proofs.lemmas.List.{drop_min, length-map, take_rest}

pub last_of : {X Y : Type 0} (h : X → Y) (n m : ℕ) (xs : List X) → m ≡ min n (length xs) → map h (take (length xs - m) (drop m xs)) ≡ drop n (map h xs)
last_of h n m xs e =
    let f : length (map h xs) ≡ length xs = length-map xs h in
    ap (map h) (take_rest xs m) ∙ sym (drop-map h m xs) ∙ ap (λ k. drop k (map h xs)) e ∙ subst (λ (k : ℕ). drop (min n k) (map h xs) ≡ drop n (map h xs)) f (drop_min n (map h xs))

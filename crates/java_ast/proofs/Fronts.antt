-- Items in place of others, of which some may be past the end.
use Rattle.std.specs.Prelude.{ℕ, suc, List, ◌++◌}
use Rattle.std.proofs.Common.{◌≡◌, ◌≤◌, ap, sym, ◌∙◌, take, drop, length, append_assoc}
use Rattle.std.proofs.lemmas.List.{take_all, drop_all}

pub joined : {T : Type 0} (first last start end : ℕ) (xs ys zs : List T) → take start xs ≡ take first xs → drop end xs ≡ drop (suc last) xs → zs ≡ take start xs ++ (ys ++ drop end xs) → zs ≡ (take first xs ++ ys) ++ drop (suc last) xs
joined {T} first last start end xs ys zs front rest is =
    is
    ∙ ap (λ (us : List T). us ++ (ys ++ drop end xs)) front
    ∙ ap (λ (us : List T). take first xs ++ (ys ++ us)) rest
    ∙ sym (append_assoc (take first xs) ys (drop (suc last) xs))

-- what stands before two numbers past the end, and what stands from them on
pub front_past : {T : Type 0} (n m : ℕ) (xs : List T) → length xs ≤ n → length xs ≤ m → take n xs ≡ take m xs
front_past n m xs h k = take_all n xs h ∙ sym (take_all m xs k)

pub rest_past : {T : Type 0} (n m : ℕ) (xs : List T) → length xs ≤ n → length xs ≤ m → drop n xs ≡ drop m xs
rest_past n m xs h k = drop_all n xs h ∙ sym (drop_all m xs k)

-- Steps of the loops that take each of a list.
use Rattle.std.proofs.Common.{◌≡◌, ℕ, zero, suc, ◌+◌, ◌<◌, ◌≤◌, List, [], ◌∷◌, ◌++◌, map, length, drop, get_or, Option, Some, None, refl, sym, ap, ◌∙◌, arith, append_assoc, add-one, drop-cons}
use Rattle.sql_ast.specs.Names.{◌>>=◌, each_of}
use Rattle.sql_parse.specs.declared.fault.Stop.{Stop}
use Rattle.sql_parse.specs.declared.fault.Stop.TheVariants as stops
use Rattle.sql_parse.specs.Seen.{Fails}

-- what each gives, behind what stands before
abbrev pub after_front : {B : Type 0} → List B → Option (List B) → Option (List B)
after_front front read = read >>= λ ys. Some (front ++ ys)

pub each_begins : {B : Type 0} (read : Option (List B)) → after_front [] read ≡ read
each_begins None = refl
each_begins (Some ys) = refl

one_more : {B : Type 0} (front : List B) (y : B) (read : Option (List B)) → after_front (front ++ y ∷ []) read ≡ after_front front (read >>= λ ys. Some (y ∷ ys))
one_more front y None = refl
one_more front y (Some ys) = ap (λ (w : List _). Some w) (append_assoc front (y ∷ []) ys)

at_index : {A B C : Type 0} (view : C → A) (f : A → Option B) (xs : List C) (i : ℕ) (x : C) → i < length xs → x ≡ get_or xs i x → each_of f (map view (drop i xs)) ≡ (f (view x) >>= λ y. each_of f (map view (drop (i + 1) xs)) >>= λ ys. Some (y ∷ ys))
at_index view f xs i x h e =
    ap (λ (ys : List _). each_of f (map view ys)) (drop-cons xs i x h ∙ ap (λ (y : _). y ∷ drop (suc i) xs) (sym e))
    ∙ ap (λ (n : ℕ). f (view x) >>= λ y. each_of f (map view (drop n xs)) >>= λ ys. Some (y ∷ ys)) (sym (add-one i))

pub each_goes_on : {A B C : Type 0} (view : C → A) (f : A → Option B) (xs : List C) (front : List B) (i : ℕ) (x : C) (y : B) (whole : Option (List B))
    → i < length xs → x ≡ get_or xs i x → f (view x) ≡ Some y → after_front front (each_of f (map view (drop i xs))) ≡ whole → after_front (front ++ y ∷ []) (each_of f (map view (drop (i + 1) xs))) ≡ whole
each_goes_on view f xs front i x y whole h e given_ all =
    one_more front y (each_of f (map view (drop (i + 1) xs)))
    ∙ ap (λ r. after_front front (r >>= λ z. each_of f (map view (drop (i + 1) xs)) >>= λ ys. Some (z ∷ ys))) (sym given_)
    ∙ ap (after_front front) (sym (at_index view f xs i x h e))
    ∙ all

pub each_fails : {A B C : Type 0} (view : C → A) (f : A → Option B) (xs : List C) (front : List B) (i : ℕ) (x : C) (whole : Option (List B))
    → i < length xs → x ≡ get_or xs i x → f (view x) ≡ None → after_front front (each_of f (map view (drop i xs))) ≡ whole → whole ≡ None
each_fails view f xs front i x whole h e none all =
    sym all
    ∙ ap (after_front front) (at_index view f xs i x h e)
    ∙ ap (λ r. after_front front (r >>= λ z. each_of f (map view (drop (i + 1) xs)) >>= λ ys. Some (z ∷ ys))) none

pub each_fails_by : {A B C : Type 0} (view : C → A) (f : A → Option B) (xs : List C) (front : List B) (i : ℕ) (x : C) (whole : Option (List B)) (s : Stop)
    → i < length xs → x ≡ get_or xs i x → Fails s (f (view x)) → after_front front (each_of f (map view (drop i xs))) ≡ whole → Fails s whole
each_fails_by view f xs front i x whole stops.NoMemory h e none all = tt
each_fails_by view f xs front i x whole stops.Broken h e none all = each_fails view f xs front i x whole h e none all

none_left : {C : Type 0} (xs : List C) (i : ℕ) → length xs ≤ i → drop i xs ≡ []
none_left [] zero h = refl
none_left [] (suc i) h = refl
none_left (x ∷ xs) zero h = absurd (omega (arith, h))
none_left (x ∷ xs) (suc i) h = none_left xs i (omega (arith, h))

all_of : {B : Type 0} (ys : List B) → ys ++ [] ≡ ys
all_of [] = refl
all_of (y ∷ ys) = ap (λ (w : List _). y ∷ w) (all_of ys)

pub each_ends : {A B C : Type 0} (view : C → A) (f : A → Option B) (xs : List C) (front : List B) (i : ℕ) (whole : Option (List B))
    → length xs ≤ i → after_front front (each_of f (map view (drop i xs))) ≡ whole → whole ≡ Some front
each_ends view f xs front i whole h all =
    sym all ∙ ap (λ (rest : List _). after_front front (each_of f (map view rest))) (none_left xs i h) ∙ ap (λ (w : List _). Some w) (all_of front)

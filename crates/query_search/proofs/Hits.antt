-- The first accepted one of a part of the candidates.
use Rattle.std.proofs.Common.{◌≡◌, ℕ, zero, suc, ◌+◌, ◌-◌, ◌≤◌, List, [], ◌∷◌, ◌++◌, length, take, drop, slice_get, refl, ap, ◌∙◌, arith, take-add, drop-drop, length-take-le, length-drop}
use Rattle.std.specs.declared.option.Option.{Option}
use Rattle.std.specs.declared.option.Option.TheVariants.{Some, None}
use Rattle.tor_axioms.specs.Accepts.{Proof}
use Rattle.kernel_lang.specs.Plain.{Fragment}
use Rattle.templates.specs.Numbered.{candidates_of}
use Rattle.query_search.specs.Verdicts.{Hit, or_later, proofs_of, first_hit}
use Rattle.query_search.specs.Walks.{hit_within}

abbrev pub or_else : Option Hit → Option Hit → Option Hit
or_else (Some h) later = Some h
or_else None later = later

later-else : (k : ℕ) (c : List ℕ) (o : Option (List Proof)) (a b : Option Hit) → or_later k c o (or_else a b) ≡ or_else (or_later k c o a) b
later-else k c (Some ds) a b = refl
later-else k c None a b = refl

hit-append : (f : Fragment) (k : ℕ) (xs ys : List (List ℕ)) → first_hit f k (xs ++ ys) ≡ or_else (first_hit f k xs) (first_hit f (k + length xs) ys)
unfolding first_hit
hit-append f k [] ys = let e : k ≡ k + 0 = omega arith in ap (λ n. first_hit f n ys) e
hit-append f k (x ∷ xs) ys =
    let e : suc k + length xs ≡ k + suc (length xs) = omega arith in
    ap (or_later k x (proofs_of f x)) (hit-append f (suc k) xs ys ∙ ap (λ n. or_else (first_hit f (suc k) xs) (first_hit f n ys)) e)
    ∙ later-else k x (proofs_of f x) (first_hit f (suc k) xs) (first_hit f (k + suc (length xs)) ys)

drop_at_get : {X : Type 0} (xs : List X) (k : ℕ) (x : X) → slice_get xs k ≡ Some x → take 1 (drop k xs) ≡ x ∷ []
drop_at_get [] k x e = absurd cc
drop_at_get (y ∷ ys) zero x e = cc
drop_at_get (y ∷ ys) (suc k) x e = drop_at_get ys k x e

pub none-hit : (f : Fragment) (size k : ℕ) → hit_within f size k 0 ≡ None
unfolding hit_within first_hit
none-hit f size k = refl

pub one-hit : (f : Fragment) (size k : ℕ) (c : List ℕ) → slice_get (candidates_of f size) k ≡ Some c → hit_within f size k 1 ≡ or_later k c (proofs_of f c) None
unfolding hit_within first_hit
one-hit f size k c e = ap (first_hit f k) (drop_at_get (candidates_of f size) k c e)

pub halves-hit : (f : Fragment) (size k a b : ℕ) → k + a ≤ length (candidates_of f size) → hit_within f size k (a + b) ≡ or_else (hit_within f size k a) (hit_within f size (k + a) b)
unfolding hit_within
halves-hit f size k a b l =
    let cs : List (List ℕ) = candidates_of f size in
    let parts : take (a + b) (drop k cs) ≡ take a (drop k cs) ++ take b (drop (k + a) cs) = take-add a b (drop k cs) ∙ ap (λ ds. take a (drop k cs) ++ take b ds) (drop-drop a k cs) in
    let n : length (take a (drop k cs)) ≡ a = length-take-le a (drop k cs) (let d : length (drop k cs) ≡ length cs - k = length-drop k cs in omega (arith, l, d)) in
    ap (first_hit f k) parts ∙ hit-append f k (take a (drop k cs)) (take b (drop (k + a) cs))
    ∙ ap (λ m. or_else (first_hit f k (take a (drop k cs))) (first_hit f (k + m) (take b (drop (k + a) cs)))) n

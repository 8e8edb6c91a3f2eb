-- Names that are taken one behind the other differ, and are no more than may be taken.
use Rattle.std.proofs.Common.{◌≡◌, ℕ, ◌+◌, ◌<◌, ◌≤◌, Bool, true, false, ◌||◌, cond, List, [], ◌∷◌, ◌++◌, length, leb, Some, None, refl, arith}
use Rattle.std.specs.List.{AllByRecursion, IsDistinct}
use Rattle.std.specs.Str.{bytes_eq}
use Rattle.std.proofs.lemmas.Bool.Decides.{nat_tests}
use Rattle.std.proofs.lemmas.List.{length-append}
use Rattle.schema.specs.Words.{is_among}
use Rattle.dump_schema.specs.declared.reason.Reason.{Reason}
use Rattle.dump_schema.specs.declared.reason.Reason.TheVariants.{Twice}
use Rattle.dump_schema.specs.Names.{reason_of}

either_false : (a b : Bool) → (a || b) ≡ false → (a ≡ false) × (b ≡ false)
either_false true b e = absurd cc
either_false false b e = (refl, e)

among_append : (taken : List (List ℕ)) (n y : List ℕ) → is_among bytes_eq (taken ++ n ∷ []) y ≡ false → (is_among bytes_eq taken y ≡ false) × (bytes_eq n y ≡ false)
among_append [] n y e = (refl, (either_false (bytes_eq n y) false e).0)
among_append (t ∷ ts) n y e =
    let parts = either_false (bytes_eq t y) (is_among bytes_eq (ts ++ n ∷ []) y) e in
    let rest = among_append ts n y parts.1 in
    (rw (parts.0, rest.0) refl, rest.1)

-- names that may be taken behind these
pub record AreTaken (most : ℕ) (taken names : List (List ℕ)) : Type 0 where
  pub few : length taken + length names ≤ most
  pub distinct : IsDistinct bytes_eq names
  pub apart : AllByRecursion (λ n. is_among bytes_eq taken n ≡ false) names

pub none_taken : (most : ℕ) (taken : List (List ℕ)) → length taken ≤ most → AreTaken most taken []
unfolding IsDistinct
none_taken most taken few = record { few = omega arith; distinct = tt; apart = tt }

others_apart : (taken : List (List ℕ)) (n : List ℕ) (names : List (List ℕ)) → AllByRecursion (λ y. is_among bytes_eq (taken ++ n ∷ []) y ≡ false) names
    → AllByRecursion (λ y. is_among bytes_eq taken y ≡ false) names × AllByRecursion (λ y. bytes_eq n y ≡ false) names
others_apart taken n [] all = (tt, tt)
others_apart taken n (y ∷ ys) all =
    let here = among_append taken n y all.0 in
    let rest = others_apart taken n ys all.1 in
    ((here.0, rest.0), (here.1, rest.1))

pub one_taken : (most : ℕ) (taken : List (List ℕ)) (n : List ℕ) (names : List (List ℕ)) → is_among bytes_eq taken n ≡ false → AreTaken most (taken ++ n ∷ []) names → AreTaken most taken (n ∷ names)
unfolding IsDistinct
one_taken most taken n names free t =
    let rest = others_apart taken n names t.apart in
    let len : length (taken ++ n ∷ []) ≡ length taken + 1 = length-append taken (n ∷ []) in
    let few = t.few in
    record { few = omega arith; distinct = (rest.1, t.distinct); apart = (free, rest.0) }

-- where there is no reason
pub record IsFree (reserved : Bool) (most : ℕ) (taken : List (List ℕ)) (name : List ℕ) : Type 0 where
  pub allowed : reserved ≡ false
  pub new : is_among bytes_eq taken name ≡ false
  pub room : length taken < most

room_left : (most : ℕ) (taken : List (List ℕ)) → leb most (length taken) ≡ false → length taken < most
room_left most taken e = grind (arith, nat_tests)

pub free : (reserved : Bool) (most : ℕ) (many : Reason) (taken : List (List ℕ)) (name : List ℕ) → reason_of reserved most many taken name ≡ None → IsFree reserved most taken name
free true most many taken name e = absurd cc
free false most many taken name e = by_name (is_among bytes_eq taken name) (leb most (length taken)) refl refl e
  where
    by_name : (a b : Bool) → is_among bytes_eq taken name ≡ a → leb most (length taken) ≡ b → cond a (Some Twice) (cond b (Some many) None) ≡ None → IsFree false most taken name
    by_name true b is_a is_b f = absurd cc
    by_name false true is_a is_b f = absurd cc
    by_name false false is_a is_b f = record { allowed = refl; new = is_a; room = room_left most taken is_b }

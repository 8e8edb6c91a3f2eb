-- What follows from wanted variables is put behind them: it is wanted, and each step leaves less to be put.
use Rattle.std.specs.Prelude.{◌≡◌, ℕ, zero, suc, Bool, true, false, ◌||◌, List, [], ◌∷◌, ◌++◌, if◌then◌else◌, Some, slice_get}
use Rattle.std.specs.Str.{bytes_eq}
use Rattle.std.proofs.Common.{refl, sym, ap, ◌∙◌, ◌+◌, ◌-◌, ◌≤◌, ◌<◌, length, take, arith, subst, length-append, add-one}
use Rattle.std.proofs.Math.Seq.{take-length}
use Rattle.std.proofs.lemmas.List.{take-append-le}
use Rattle.java_ast.specs.Tree.{Statement, Statements, Nothing, Then}
use Rattle.java_mean.proofs.Puts.{names_equal, name_same}
use Rattle.loop_text.specs.Statements.Fragment.{Fragment, IsWanted, mentioned, StandsIn, first, after, set_by}
use Rattle.java_ast.specs.Names.{Names, is_among, with_name, with_names, mentioned_in, mentioned_among}
use Rattle.loop_text.specs.Statements.Wanted.{one_where, setting, mentioned_in_all, drops, following, AreWanted, HasAll, HasFollowing}
use Rattle.java_ast.proofs.Among.{among_both}
use Rattle.java_mean.proofs.Sets.{among_with}

-- ---- Tests

pub either : {P : Type 0} (b c : Bool) → (b ≡ true → P) → (c ≡ true → P) → (b || c) ≡ true → P
either true c l r h = l refl
either false c l r h = r h

pub or_left : (b c : Bool) → b ≡ true → (b || c) ≡ true
or_left true c h = refl
or_left false c h = cc

pub or_right : (b c : Bool) → c ≡ true → (b || c) ≡ true
or_right true c h = refl
or_right false c h = h

pub among_left : (xs ys : Names) (x : List ℕ) → is_among xs x ≡ true → is_among (xs ++ ys) x ≡ true
among_left xs ys x h = among_both xs ys x ∙ or_left (is_among xs x) (is_among ys x) h

pub among_right : (xs ys : Names) (x : List ℕ) → is_among ys x ≡ true → is_among (xs ++ ys) x ≡ true
among_right xs ys x h = among_both xs ys x ∙ or_right (is_among xs x) (is_among ys x) h

pub from_both : {P : Type 0} (xs ys : Names) (x : List ℕ) → (is_among xs x ≡ true → P) → (is_among ys x ≡ true → P) → is_among (xs ++ ys) x ≡ true → P
from_both xs ys x l r h = either (is_among xs x) (is_among ys x) l r (sym (among_both xs ys x) ∙ h)

pub with_left : (xs ys : Names) (x : List ℕ) → is_among xs x ≡ true → is_among (with_names xs ys) x ≡ true
with_left xs ys x h = among_with xs ys x ∙ or_left (is_among xs x) (is_among ys x) h

pub with_right : (xs ys : Names) (x : List ℕ) → is_among ys x ≡ true → is_among (with_names xs ys) x ≡ true
with_right xs ys x h = among_with xs ys x ∙ or_right (is_among xs x) (is_among ys x) h

pub from_with : {P : Type 0} (xs ys : Names) (x : List ℕ) → (is_among xs x ≡ true → P) → (is_among ys x ≡ true → P) → is_among (with_names xs ys) x ≡ true → P
from_with xs ys x l r h = either (is_among xs x) (is_among ys x) l r (sym (among_with xs ys x) ∙ h)

-- ---- What is left to be put

abbrev pub lacks : Bool → ℕ
lacks true = 0
lacks false = 1

-- how many of the first names aren't among the others
abbrev pub missing : Names → Names → ℕ
missing [] xs = 0
missing (u ∷ us) xs = lacks (is_among xs u) + missing us xs

lacks_less : (b c : Bool) → lacks (b || c) ≤ lacks b
lacks_less true c = omega arith
lacks_less false true = omega arith
lacks_less false false = omega arith

lacks_one_more : (xs : Names) (y u : List ℕ) → lacks (is_among (xs ++ y ∷ []) u) ≤ lacks (is_among xs u)
lacks_one_more xs y u = subst (λ (b : Bool). lacks b ≤ lacks (is_among xs u)) (sym (among_both xs (y ∷ []) u)) (lacks_less (is_among xs u) (is_among (y ∷ []) u))

missing_less : (us xs : Names) (y : List ℕ) → missing us (xs ++ y ∷ []) ≤ missing us xs
missing_less [] xs y = omega arith
missing_less (u ∷ us) xs y = omega (arith, lacks_one_more xs y u, missing_less us xs y)

there_now : (xs : Names) (y u : List ℕ) → y ≡ u → is_among (xs ++ y ∷ []) u ≡ true
there_now xs y u same = among_right xs (y ∷ []) u (or_left (bytes_eq u y) false (ap (λ (z : List ℕ). bytes_eq u z) same ∙ name_same u))

missing_one : (us xs : Names) (y u : List ℕ) (b : Bool) → bytes_eq y u ≡ b → (b || is_among us y) ≡ true → is_among xs y ≡ false → (is_among us y ≡ true → suc (missing us (xs ++ y ∷ [])) ≤ missing us xs) → suc (missing (u ∷ us) (xs ++ y ∷ [])) ≤ missing (u ∷ us) xs
missing_one us xs y u true same h new below =
    let e : lacks (is_among (xs ++ y ∷ []) u) ≡ 0 = ap lacks (there_now xs y u (names_equal y u same)) in
    let f : lacks (is_among xs u) ≡ 1 = ap lacks (sym (ap (is_among xs) (names_equal y u same)) ∙ new) in
    omega (arith, e, f, missing_less us xs y)
missing_one us xs y u false same h new below = omega (arith, lacks_one_more xs y u, below h)

missing_fewer : (us xs : Names) (y : List ℕ) → is_among us y ≡ true → is_among xs y ≡ false → suc (missing us (xs ++ y ∷ [])) ≤ missing us xs
missing_fewer [] xs y h new = cc
missing_fewer (u ∷ us) xs y h new = missing_one us xs y u (bytes_eq y u) refl h new (λ k. missing_fewer us xs y k new)

put_one : (us xs : Names) (y : List ℕ) (b : Bool) → is_among us y ≡ true → is_among xs y ≡ b → missing us (if b then xs else xs ++ y ∷ []) + length (if b then xs else xs ++ y ∷ []) ≤ missing us xs + length xs
put_one us xs y true h new = omega arith
put_one us xs y false h new = omega (arith, missing_fewer us xs y h new, length-append xs (y ∷ []))

-- names that are put leave so many fewer
put_all : (us xs ys : Names) → ((y : List ℕ) → is_among ys y ≡ true → is_among us y ≡ true) → missing us (with_names xs ys) + length (with_names xs ys) ≤ missing us xs + length xs
put_all us xs [] h = omega arith
put_all us xs (y ∷ ys) h =
    omega (arith, put_one us xs y (is_among xs y) (h y (or_left (bytes_eq y y) (is_among ys y) (name_same y))) refl, put_all us (with_name xs y) ys (λ z k. h z (or_right (bytes_eq z y) (is_among ys z) k)))

-- ---- What follows is mentioned in the run

set_within : (b : Bool) (s : Statement) (rest : List Statement) (more : Names) (y : List ℕ) → (is_among (mentioned_in_all rest) y ≡ true → is_among more y ≡ true) → is_among (mentioned_in_all (one_where b s ++ rest)) y ≡ true → is_among (mentioned_in s ++ more) y ≡ true
set_within true s rest more y below h = from_both (mentioned_in s) (mentioned_in_all rest) y (among_left (mentioned_in s) more y) (λ k. among_right (mentioned_in s) more y (below k)) h
set_within false s rest more y below h = among_right (mentioned_in s) more y (below h)

setting_within : (x y : List ℕ) (ss : Statements) → is_among (mentioned_in_all (setting x ss)) y ≡ true → is_among (mentioned_among ss) y ≡ true
setting_within x y Nothing h = h
setting_within x y (Then s ss) h = set_within (bytes_eq (set_by s) x) s (setting x ss) (mentioned_among ss) y (setting_within x y ss) h

unless_dropped : {P : Type 0} (b : Bool) (xs : Names) (y : List ℕ) → (b ≡ false → is_among xs y ≡ true → P) → is_among (if b then [] else xs) y ≡ true → P
unless_dropped true xs y p h = absurd cc
unless_dropped false xs y p h = p refl h

following_within : (f : Fragment) (x y : List ℕ) → is_among (following f x) y ≡ true → is_among (mentioned_among f.run) y ≡ true
following_within f x y h = unless_dropped (drops f x) (mentioned_in_all (setting x f.run)) y (λ absent k. setting_within x y f.run k) h

-- ---- What follows is wanted

wanted_by_one : (f : Fragment) (further : Names) (b : Bool) (x y : List ℕ) (s : Statement) (rest : List Statement) → bytes_eq (set_by s) x ≡ b → StandsIn s f.run → drops f x ≡ false → IsWanted f further x → (is_among (mentioned_in_all rest) y ≡ true → IsWanted f further y) → is_among (mentioned_in_all (one_where b s ++ rest)) y ≡ true → IsWanted f further y
wanted_by_one f further true x y s rest same stands kept wanted below h =
    let e : set_by s ≡ x = names_equal (set_by s) x same in
    from_both (mentioned_in s) (mentioned_in_all rest) y
    (λ k. mentioned s y stands (ap (drops f) e ∙ kept) (subst (IsWanted f further) (sym e) wanted) k)
    below
    h
wanted_by_one f further false x y s rest same stands kept wanted below h = below h

wanted_by_all : (f : Fragment) (further : Names) (x y : List ℕ) (ss : Statements) → ((s : Statement) → StandsIn s ss → StandsIn s f.run) → drops f x ≡ false → IsWanted f further x → is_among (mentioned_in_all (setting x ss)) y ≡ true → IsWanted f further y
wanted_by_all f further x y Nothing within kept wanted h = absurd cc
wanted_by_all f further x y (Then s ss) within kept wanted h =
    wanted_by_one f further (bytes_eq (set_by s) x) x y s (setting x ss) refl (within s (first s ss)) kept wanted
    (wanted_by_all f further x y ss (λ t stands. within t (after t s ss stands)) kept wanted)
    h

wanted_following : (f : Fragment) (further : Names) (x y : List ℕ) → IsWanted f further x → is_among (following f x) y ≡ true → IsWanted f further y
wanted_following f further x y wanted h =
    unless_dropped (drops f x) (mentioned_in_all (setting x f.run)) y (λ kept k. wanted_by_all f further x y f.run (λ s stands. stands) kept wanted k) h

-- ---- A step

some_there : (xs : Names) (i : ℕ) (x : List ℕ) → slice_get xs i ≡ Some x → is_among xs x ≡ true
some_there [] i x h = cc
some_there (y ∷ ys) zero x h =
    let e : y ≡ x = cc in
    or_left (bytes_eq x y) (is_among ys x) (ap (bytes_eq x) e ∙ name_same x)
some_there (y ∷ ys) (suc i) x h = or_right (bytes_eq x y) (is_among ys x) (some_there ys i x h)

-- a further name of the list is looked at
pub wanted_step : (f : Fragment) (further xs : Names) (i : ℕ) (x : List ℕ) → slice_get xs i ≡ Some x → AreWanted f further xs → AreWanted f further (with_names xs (following f x))
wanted_step f further xs i x at wanted =
    record { by = λ y h. from_with xs (following f x) y (wanted.by y) (wanted_following f further x y (wanted.by x (some_there xs i x at))) h }

pub all_step : (f : Fragment) (xs ys zs : Names) → HasAll xs ys → HasAll (with_names xs zs) ys
all_step f xs ys zs all = record { by = λ y h. with_left xs zs y (all.by y h) }

taken_more : (xs : Names) (i : ℕ) (x : List ℕ) → slice_get xs i ≡ Some x → take (suc i) xs ≡ take i xs ++ x ∷ []
taken_more [] i x h = absurd cc
taken_more (y ∷ ys) zero x h = cc
taken_more (y ∷ ys) (suc i) x h = ap (λ (l : Names). y ∷ l) (taken_more ys i x h)

longer_by : (b : Bool) (xs : Names) (y : List ℕ) → length xs ≤ length (if b then xs else xs ++ y ∷ [])
longer_by true xs y = omega arith
longer_by false xs y = omega (arith, length-append xs (y ∷ []))

longer : (xs ys : Names) → length xs ≤ length (with_names xs ys)
longer xs [] = omega arith
longer xs (y ∷ ys) = omega (arith, longer_by (is_among xs y) xs y, longer (with_name xs y) ys)

taken_by : (b : Bool) (i : ℕ) (xs : Names) (y : List ℕ) → i ≤ length xs → take i (if b then xs else xs ++ y ∷ []) ≡ take i xs
taken_by true i xs y h = refl
taken_by false i xs y h = take-append-le i xs (y ∷ []) h

taken_with : (i : ℕ) (xs ys : Names) → i ≤ length xs → take i (with_names xs ys) ≡ take i xs
taken_with i xs [] h = refl
taken_with i xs (y ∷ ys) h =
    taken_with i (with_name xs y) ys (omega (arith, longer_by (is_among xs y) xs y))
    ∙ taken_by (is_among xs y) i xs y h

following_step : (f : Fragment) (xs : Names) (i : ℕ) (x : List ℕ) → slice_get xs i ≡ Some x → suc i ≤ length xs → HasFollowing f xs (take i xs) → HasFollowing f (with_names xs (following f x)) (take (suc i) (with_names xs (following f x)))
following_step f xs i x at within has =
    let seen : take (suc i) (with_names xs (following f x)) ≡ take i xs ++ x ∷ [] = taken_with (suc i) xs (following f x) within ∙ taken_more xs i x at in
    record {
      by = λ z y h k.
          from_both (take i xs) (x ∷ []) z
          (λ earlier. with_left xs (following f x) y (has.by z y earlier k))
          (either (bytes_eq z x) false
          (λ same. with_right xs (following f x) y (sym (ap (λ (n : List ℕ). is_among (following f n) y) (names_equal z x same)) ∙ k))
          (λ absent. absurd cc))
          (ap (λ (l : Names). is_among l z) (sym seen) ∙ h);
    }

-- ---- The loop

pub less_left : (f : Fragment) (xs new : Names) (i : ℕ) (x : List ℕ) → new ≡ with_names xs (following f x) → i < length xs → missing (mentioned_among f.run) new + (length new - (i + 1)) < missing (mentioned_among f.run) xs + (length xs - i)
less_left f xs new i x is within =
    subst (λ (n : Names). missing (mentioned_among f.run) n + (length n - (i + 1)) < missing (mentioned_among f.run) xs + (length xs - i)) (sym is)
    (omega (arith, put_all (mentioned_among f.run) xs (following f x) (λ y h. following_within f x y h), longer xs (following f x)))

pub still_within : (xs ys new : Names) (i : ℕ) → new ≡ with_names xs ys → i < length xs → i + 1 ≤ length new
still_within xs ys new i is within = subst (λ (n : Names). i + 1 ≤ length n) (sym is) (omega (arith, longer xs ys))

pub one_looked_at : (f : Fragment) (xs new : Names) (i : ℕ) (x : List ℕ) → new ≡ with_names xs (following f x) → slice_get xs i ≡ Some x → i < length xs → HasFollowing f xs (take i xs) → HasFollowing f new (take (i + 1) new)
one_looked_at f xs new i x is at within has =
    let below : suc i ≤ length xs = omega arith in
    subst (λ (n : Names). HasFollowing f n (take (i + 1) n)) (sym is) (rw add-one (following_step f xs i x at below has))

-- all names of the list were looked at
pub all_looked_at : (f : Fragment) (xs : Names) (i : ℕ) → i ≤ length xs → length xs ≤ i → HasFollowing f xs (take i xs) → HasFollowing f xs xs
all_looked_at f xs i within past has =
    let e : i ≡ length xs = omega arith in
    subst (HasFollowing f xs) (ap (λ (n : ℕ). take n xs) e ∙ take-length xs) has

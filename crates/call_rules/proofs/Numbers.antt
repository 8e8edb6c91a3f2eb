-- Numbers under names in the entries of an IndexMap, and those of methods.
use Rattle.std.proofs.Common.{◌≡◌, ℕ, zero, suc, ◌+◌, ◌<◌, length, List, [], ◌∷◌, ◌++◌, Bool, true, false, cond, refl, ap, sym, ◌∙◌, subst, Option, Some, None, take, map, Bor, not, drop, get_or, add-one, arith}
use Rattle.std.specs.Prelude.{bytes_eq, if◌then◌else◌, nat_lt}
use Rattle.std.specs.List.{position, position_or_len, position_from}
use Rattle.std.specs.Bool.{one_answer, Decides}
use Rattle.std.proofs.lemmas.Slice.Eq.{bytes_eq-Decides}
use Rattle.std.specs.Map.{lookup}
use Rattle.std.specs.Option.{option_map}
use Rattle.indexmap.specs.IndexMap.{insert_entry}
use Rattle.java_ast.specs.declared.tree.Method.{Method}
use Rattle.java_ast.specs.Reading.{method}
use Rattle.java_ast.specs.Tree.{PlainMethod}
use Rattle.java_calls.specs.Rules.{number_named}
use Rattle.call_rules.specs.Noted.{number_at, numbered_by, numbered_in}

abbrev pub Entries : Type 0
Entries = List (Bor (List ℕ) × ℕ)

abbrev pub seen : Entries → List (List ℕ × ℕ)
seen es = map (λ p. (p.0.now, p.1)) es

abbrev pub test : List ℕ → Bor (List ℕ) → Bool
test x k = bytes_eq x k.now

at_by : (b : Bool) (n : ℕ) (r s : Option ℕ) → r ≡ s → cond b (Some n) r ≡ (if b then Some n else s)
at_by true n r s p = refl
at_by false n r s p = p

pub at_lem : (x : List ℕ) (es : Entries) → lookup (test x) es ≡ number_at (seen es) x
at_lem x [] = refl
at_lem x (e ∷ es) = at_by (bytes_eq x e.0.now) e.1 (lookup (test x) es) (number_at (seen es) x) (at_lem x es)

abbrev pub same : Bor (List ℕ) → Bor (List ℕ) → Bool
same j k = bytes_eq j.now k.now

put_by : (b : Bool) (e : Bor (List ℕ) × ℕ) (es fs : Entries) (s : Option ℕ) (ws : List (List ℕ × ℕ)) (n : ℕ) → (if b then Some e.1 else s) ≡ None → (s ≡ None → seen fs ≡ ws) → seen (if b then ((e.0, n) ∷ es) else (e ∷ fs)) ≡ (e.0.now, e.1) ∷ ws
put_by true e es fs s ws n p q = absurd cc
put_by false e es fs s ws n p q = ap (λ (l : List (List ℕ × ℕ)). (e.0.now, e.1) ∷ l) (q p)

pub put_lem : (k : Bor (List ℕ)) (n : ℕ) (es : Entries) → number_at (seen es) k.now ≡ None → seen (insert_entry same es k n) ≡ seen es ++ (k.now, n) ∷ []
put_lem k n [] h = refl
put_lem k n (e ∷ es) h = put_by (bytes_eq k.now e.0.now) e es (insert_entry same es k n) (number_at (seen es) k.now) (seen es ++ (k.now, n) ∷ []) n h (put_lem k n es)

from_by : (b : Bool) (i n k : ℕ) (o : Option ℕ) → o ≡ cond (nat_lt n k) (Some (i + 1 + n)) None → cond b (Some i) o ≡ cond (nat_lt (cond (not b) (1 + n) 0) (suc k)) (Some (i + cond (not b) (1 + n) 0)) None
from_by true i n k o h = grind arith
from_by false i n k o h = grind (arith, h)

pub from_is : {X : Type 0} (p : X → Bool) (i : ℕ) (xs : List X) → position_from p i xs ≡ cond (nat_lt (position_or_len p xs) (length xs)) (Some (i + position_or_len p xs)) None
from_is p i [] = refl
from_is p i (x ∷ xs) = from_by (p x) i (position_or_len p xs) (length xs) (position_from p (i + 1) xs) (from_is p (i + 1) xs)

flip : (x y : List ℕ) → Decides (bytes_eq y x) (x ≡ y)
flip x y = let d = bytes_eq-Decides y x in (λ e. sym (d.0 e), λ e. d.1 (sym e))

pub sym_eq : (x y : List ℕ) → bytes_eq x y ≡ bytes_eq y x
sym_eq x y = one_answer (bytes_eq x y) (bytes_eq y x) (bytes_eq-Decides x y) (flip x y)

-- ---- Numbers under names

abbrev pub or_else : Option ℕ → Option ℕ → Option ℕ
or_else (Some n) o = Some n
or_else None o = o

more_by : (b c : Bool) (n k : ℕ) (r s : Option ℕ) → s ≡ or_else r (cond c (Some n) None) → (if b then Some k else s) ≡ or_else (if b then Some k else r) (cond c (Some n) None)
more_by true c n k r s h = refl
more_by false c n k r s h = h

more_at : (ps : List (List ℕ × ℕ)) (y : List ℕ) (n : ℕ) (x : List ℕ) → number_at (ps ++ (y, n) ∷ []) x ≡ or_else (number_at ps x) (cond (bytes_eq x y) (Some n) None)
more_at [] y n x = refl
more_at (p ∷ ps) y n x = more_by (bytes_eq x p.0) (bytes_eq x y) n p.1 (number_at ps x) (number_at (ps ++ (y, n) ∷ []) x) (more_at ps y n x)

or_again : (c : Bool) (n : ℕ) (o r : Option ℕ) → or_else (or_else o (cond c (Some n) None)) r ≡ or_else o (cond c (Some n) r)
or_again c n (Some k) r = refl
or_again true n None r = refl
or_again false n None r = refl

there_already : (c : Bool) (n k : ℕ) (o r : Option ℕ) → (c ≡ true → o ≡ Some k) → or_else o r ≡ or_else o (cond c (Some n) r)
there_already true n k o r h = rw (h refl) refl
there_already false n k o r h = refl

same_number : (ps : List (List ℕ × ℕ)) (x y : List ℕ) (k : ℕ) → number_at ps y ≡ Some k → bytes_eq x y ≡ true → number_at ps x ≡ Some k
same_number ps x y k h e = subst (λ z. number_at ps z ≡ Some k) (sym ((bytes_eq-Decides x y).0 e)) h

step_by : (o : Option ℕ) (ps : List (List ℕ × ℕ)) (y : List ℕ) (n : ℕ) (x : List ℕ) (r : Option ℕ) → number_at ps y ≡ o → or_else (number_at (numbered_by o ps y n) x) r ≡ or_else (number_at ps x) (cond (bytes_eq x y) (Some n) r)
step_by None ps y n x r h = ap (λ o. or_else o r) (more_at ps y n x) ∙ or_again (bytes_eq x y) n (number_at ps x) r
step_by (Some k) ps y n x r h = there_already (bytes_eq x y) n k (number_at ps x) r (same_number ps x y k h)

-- a further name in front of others
pub numbered_step : {X : Type 0} (name : X → List ℕ) (ps : List (List ℕ × ℕ)) (m : X) (n : ℕ) (rest : List X) (x : List ℕ)
    → or_else (number_at (numbered_by (number_at ps (name m)) ps (name m) n) x) (position_from (λ m. bytes_eq (name m) x) (n + 1) rest) ≡ or_else (number_at ps x) (position_from (λ m. bytes_eq (name m) x) n (m ∷ rest))
numbered_step name ps m n rest x =
    step_by (number_at ps (name m)) ps (name m) n x (position_from (λ m. bytes_eq (name m) x) (n + 1) rest) refl
    ∙ ap (λ b. or_else (number_at ps x) (cond b (Some n) (position_from (λ m. bytes_eq (name m) x) (n + 1) rest))) (sym_eq x (name m))

pub or_none : (o : Option ℕ) → or_else o None ≡ o
or_none (Some n) = refl
or_none None = refl

from_map : {X Y : Type 0} (f : X → Y) (p : Y → Bool) (i : ℕ) (xs : List X) → position_from p i (map f xs) ≡ position_from (λ x. p (f x)) i xs
from_map f p i [] = refl
from_map f p i (x ∷ xs) = ap (cond (p (f x)) (Some i)) (from_map f p (i + 1) xs)

item_at : {X : Type 0} (xs : List X) (i : ℕ) (x : X) → i < length xs → x ≡ get_or xs i x → drop i xs ≡ x ∷ drop (suc i) xs
item_at [] i x lt e = absurd (omega arith)
item_at (y ∷ xs) zero x lt e = ap (λ (z : _). z ∷ xs) (sym e)
item_at (y ∷ xs) (suc i) x lt e = item_at xs i x (omega arith) e

pub drop_item : {X : Type 0} (xs : List X) (i : ℕ) (x : X) → i < length xs → x ≡ get_or xs i x → drop i xs ≡ x ∷ drop (i + 1) xs
drop_item xs i x lt e = rw add-one (item_at xs i x lt e)

-- ---- Numbers of methods

-- the number under a name, or that of the first of further methods
abbrev pub number_or : List (List ℕ × ℕ) → ℕ → List Method → List ℕ → Option ℕ
number_or ps i ms x = or_else (number_at ps x) (position_from (λ (m : Method). bytes_eq m.name x) i ms)

from_zero : (n k : ℕ) → cond (nat_lt n k) (Some (0 + n)) None ≡ cond (nat_lt n k) (Some n) None
from_zero n k = let z : 0 + n ≡ n = omega arith in ap (λ m. cond (nat_lt n k) (Some m) None) z

named_is : (ms : List Method) (x : List ℕ) → position_from (λ (m : Method). bytes_eq m.name x) 0 ms ≡ number_named (map method ms) x
named_is ms x =
    sym (from_map method (λ (m : PlainMethod). bytes_eq m.name x) 0 ms)
    ∙ from_is (λ (m : PlainMethod). bytes_eq m.name x) 0 (map method ms)
    ∙ from_zero (position_or_len (λ (m : PlainMethod). bytes_eq m.name x) (map method ms)) (length (map method ms))

pub first_numbers : (ms : List Method) (x : List ℕ) → number_or [] 0 ms x ≡ number_named (map method ms) x
first_numbers ms x = named_is ms x

pub next_number : (ps : List (List ℕ × ℕ)) (m : Method) (i : ℕ) (ms rest all : List Method) (x : List ℕ) → ms ≡ m ∷ rest → number_or ps i ms x ≡ number_named (map method all) x → number_or (numbered_in ps m.name i) (i + 1) rest x ≡ number_named (map method all) x
next_number ps m i ms rest all x is h =
    numbered_step {X = Method} (λ (m : Method). m.name) ps m i rest x ∙ ap (λ (l : List Method). number_or ps i l x) (sym is) ∙ h

pub last_numbers : (ps : List (List ℕ × ℕ)) (i : ℕ) (all : List Method) (x : List ℕ) → number_or ps i [] x ≡ number_named (map method all) x → number_at ps x ≡ number_named (map method all) x
last_numbers ps i all x h = sym (or_none (number_at ps x)) ∙ h

pub ruleset numbers = (first_numbers, next_number, last_numbers)

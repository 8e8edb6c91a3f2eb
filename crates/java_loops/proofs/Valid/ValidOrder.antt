-- Needed accumulators in the order of their starts are the needed ones, each once.
use Rattle.std.proofs.Common.{◌≡◌, ℕ, ◌+◌, Bool, true, false, not, ◌||◌, List, [], ◌∷◌, ◌++◌, Some, None, refl, sym, ap, ◌∙◌, cond, bytes_eq, arith}
use Rattle.std.specs.List.{filter}
use Rattle.std.proofs.lemmas.Bool.{or_parts, or_left}
use Rattle.std.proofs.lemmas.List.Folds.{list_any-append}
use Rattle.java_ast.specs.Tree.{Statement, Statements, Nothing, Then}
use Rattle.java_mean.proofs.Puts.{names_equal, name_same}
use Rattle.loop_text.specs.Statements.Fragment.{set_by}
use Rattle.java_loops.specs.Lowering.Lowered.{set_in_order}
use Rattle.java_ast.specs.Names.{Names, is_among, with_name, with_names, mentioned_in}
use Rattle.loop_text.specs.Statements.Setting.{touches, first_touching}
use Rattle.java_loops.proofs.Valid.ValidLoop.{bytes_back}
use Rattle.java_loops.proofs.Valid.ValidStarts.{among_filter, filter_among, false_not, SetOnce}

-- each name once
abbrev pub AreApart : Names → Type 0
AreApart [] = Unit {0}
AreApart (x ∷ xs) = (is_among xs x ≡ false) × AreApart xs

among_end : (xs : Names) (x y : List ℕ) → is_among xs y ≡ false → bytes_eq y x ≡ false → is_among (xs ++ x ∷ []) y ≡ false
among_end xs x y h e = list_any-append (bytes_eq y) xs (x ∷ []) ∙ rw (h, e) refl

apart_end : (xs : Names) (x : List ℕ) → AreApart xs → is_among xs x ≡ false → AreApart (xs ++ x ∷ [])
apart_end [] x a h = (refl, tt)
apart_end (y ∷ ys) x a h =
    let two = or_parts (bytes_eq x y) (is_among ys x) h in
    (among_end ys x y a.0 (bytes_back y x ∙ two.0), apart_end ys x a.1 two.1)

apart_step : (xs : Names) (x : List ℕ) (b : Bool) → is_among xs x ≡ b → AreApart xs → AreApart (cond b xs (xs ++ x ∷ []))
apart_step xs x true h a = a
apart_step xs x false h a = apart_end xs x a h

pub apart_with : (xs ys : Names) → AreApart xs → AreApart (with_names xs ys)
apart_with xs [] a = a
apart_with xs (y ∷ ys) a = apart_with (with_name xs y) ys (apart_step xs y (is_among xs y) refl a)

not_filtered : (p : List ℕ → Bool) (ys : Names) (x : List ℕ) (b : Bool) → is_among (filter p ys) x ≡ b → is_among ys x ≡ false → b ≡ false
not_filtered p ys x true e h = let m = (filter_among p ys x e).0 in absurd cc
not_filtered p ys x false e h = refl

filter_apart : (p : List ℕ → Bool) (x : List ℕ) (ys : Names) (b : Bool) → is_among ys x ≡ false → AreApart (filter p ys) → AreApart (cond b (x ∷ filter p ys) (filter p ys))
filter_apart p x ys true h a = (let r : is_among (filter p ys) x ≡ is_among (filter p ys) x = refl in r ∙ not_filtered p ys x (is_among (filter p ys) x) refl h, a)
filter_apart p x ys false h a = a

pub apart_filter : (p : List ℕ → Bool) (xs : Names) → AreApart xs → AreApart (filter p xs)
apart_filter p [] a = tt
apart_filter p (x ∷ xs) a = filter_apart p x xs (p x) a.0 (apart_filter p xs a.1)

-- ---- Sums over names

abbrev pub total : (List ℕ → ℕ) → Names → ℕ
total f [] = 0
total f (x ∷ xs) = f x + total f xs

-- those that aren't this one
abbrev but : List ℕ → Names → Names
but x xs = filter (λ y. not (bytes_eq y x)) xs

but_step : (f : List ℕ → ℕ) (x y : List ℕ) (ys : Names) (b : Bool) → bytes_eq y x ≡ b → b ≡ false → total f (cond (not b) (y ∷ but x ys) (but x ys)) ≡ f y + total f (but x ys)
but_step f x y ys true e h = absurd cc
but_step f x y ys false e h = refl

without_step : (f : List ℕ → ℕ) (x y : List ℕ) (ys : Names) (b : Bool) → bytes_eq y x ≡ b → b ≡ true → total f (cond (not b) (y ∷ but x ys) (but x ys)) ≡ total f (but x ys)
without_step f x y ys true e h = refl
without_step f x y ys false e h = absurd cc

nothing_dropped : (f : List ℕ → ℕ) (x : List ℕ) (ys : Names) → is_among ys x ≡ false → total f (but x ys) ≡ total f ys
nothing_dropped f x [] h = refl
nothing_dropped f x (y ∷ ys) h =
    let two = or_parts (bytes_eq x y) (is_among ys x) h in
    but_step f x y ys (bytes_eq y x) refl (bytes_back y x ∙ two.0) ∙ ap (λ n. f y + n) (nothing_dropped f x ys two.1)

total_but_here : (f : List ℕ → ℕ) (x y : List ℕ) (ys : Names) → bytes_eq x y ≡ true → is_among ys y ≡ false → f y + total f ys ≡ f x + total f (but x (y ∷ ys))
total_but_here f x y ys e h =
    let same : x ≡ y = names_equal x y e in
    let d : total f (but x ys) ≡ total f ys = nothing_dropped f x ys (ap (is_among ys) same ∙ h) in
    let w : total f (but x (y ∷ ys)) ≡ total f (but x ys) = without_step f x y ys (bytes_eq y x) refl (bytes_back y x ∙ e) in
    rw (w, d, same) refl

swap : (a b c d : ℕ) → c ≡ b + d → a + c ≡ b + (a + d)
swap a b c d e = omega (arith, e)

total_but : (f : List ℕ → ℕ) (x : List ℕ) (ys : Names) → AreApart ys → is_among ys x ≡ true → total f ys ≡ f x + total f (but x ys)
total_but f x [] a h = absurd cc
total_but f x (y ∷ ys) a h = go (λ i. total_but f x ys a.1 i) (bytes_eq x y) refl h
  where
    go : (is_among ys x ≡ true → total f ys ≡ f x + total f (but x ys)) → (b : Bool) → bytes_eq x y ≡ b → (b || is_among ys x) ≡ true → f y + total f ys ≡ f x + total f (but x (y ∷ ys))
    go more true e i = total_but_here f x y ys e a.0
    go more false e i =
        let k : total f (but x (y ∷ ys)) ≡ f y + total f (but x ys) = but_step f x y ys (bytes_eq y x) refl (bytes_back y x ∙ e) in
        swap (f y) (f x) (total f ys) (total f (but x ys)) (more i) ∙ ap (λ n. f x + n) (sym k)

-- ---- In the order of the run

-- no statement of these sets it
abbrev Unset : List ℕ → Statements → Type 0
Unset x Nothing = Unit {0}
Unset x (Then s ss) = (bytes_eq (set_by s) x ≡ false) × Unset x ss

unset_step : (x : List ℕ) (s : Statement) (ss : Statements) (b : Bool) → touches x s ≡ b → cond b (Some s) (first_touching x ss) ≡ None → (first_touching x ss ≡ None → Unset x ss) → Unset x (Then s ss)
unset_step x s ss true e h more = absurd cc
unset_step x s ss false e h more = ((or_parts (bytes_eq (set_by s) x) (is_among (mentioned_in s) x) e).0, more h)

untouched : (x : List ℕ) (ss : Statements) → first_touching x ss ≡ None → Unset x ss
untouched x Nothing h = tt
untouched x (Then s ss) h = unset_step x s ss (touches x s) refl h (λ e. untouched x ss e)

bool_both : (a b : Bool) → (a ≡ true → b ≡ true) → (b ≡ true → a ≡ true) → a ≡ b
bool_both true b f g = sym (f refl)
bool_both false true f g = g refl
bool_both false false f g = refl

not_true : (b : Bool) → b ≡ false → not b ≡ true
not_true true h = absurd cc
not_true false h = refl

among_but : (xs : Names) (x y : List ℕ) → bytes_eq y x ≡ false → is_among (but x xs) y ≡ is_among xs y
among_but xs x y h = bool_both (is_among (but x xs) y) (is_among xs y) (λ e. (filter_among (λ z. not (bytes_eq z x)) xs y e).0) (λ e. among_filter (λ z. not (bytes_eq z x)) xs y e (not_true (bytes_eq y x) h))

order_but : (xs : Names) (x : List ℕ) (ss : Statements) → Unset x ss → set_in_order xs ss ≡ set_in_order (but x xs) ss
order_but xs x Nothing u = refl
order_but xs x (Then s ss) u =
    ap (λ b. cond b (set_by s ∷ set_in_order xs ss) (set_in_order xs ss)) (sym (among_but xs x (set_by s) u.0))
    ∙ ap (λ l. cond (is_among (but x xs) (set_by s)) (set_by s ∷ l) l) (order_but xs x ss u.1)

touch_self : (x : List ℕ) (s : Statement) → set_by s ≡ x → touches x s ≡ true
touch_self x s e = or_left (bytes_eq (set_by s) x) (is_among (mentioned_in s) x) (ap (λ z. bytes_eq z x) e ∙ name_same x)

abbrev pub AllOnce : Names → Statements → Type 0
AllOnce xs ss = (x : List ℕ) → is_among xs x ≡ true → SetOnce x ss

once_later : (x : List ℕ) (s : Statement) (ss : Statements) (b : Bool) → touches x s ≡ b → SetOnce x (Then s ss) → (set_by s ≡ x → ⊥) → SetOnce x ss
once_later x s ss true e o n = absurd (n (o.0 e).0)
once_later x s ss false e o n = o.1 e

order_here : (f : List ℕ → ℕ) (xs : Names) (s : Statement) (ss : Statements) (b : Bool) → is_among xs (set_by s) ≡ b → AreApart xs → AllOnce xs (Then s ss) → ((ys : Names) → AreApart ys → AllOnce ys ss → total f (set_in_order ys ss) ≡ total f ys) → total f (cond b (set_by s ∷ set_in_order xs ss) (set_in_order xs ss)) ≡ total f xs
order_here f xs s ss true e a o more =
    let x : List ℕ = set_by s in
    let here = (o x e).0 (touch_self x s refl) in
    let same = order_but xs x ss (untouched x ss here.1) in
    let rest : total f (set_in_order (but x xs) ss) ≡ total f (but x xs) = more (but x xs) (apart_filter (λ z. not (bytes_eq z x)) xs a) (λ y i. let two = filter_among (λ z. not (bytes_eq z x)) xs y i in once_later y s ss (touches y s) refl (o y two.0) (λ q. let k : bytes_eq y x ≡ true = ap (bytes_eq y) q ∙ name_same y in let m : bytes_eq y x ≡ false = false_not (bytes_eq y x) two.1 in absurd cc)) in
    ap (λ l. f x + total f l) same ∙ ap (λ n. f x + n) rest ∙ sym (total_but f x xs a e)
order_here f xs s ss false e a o more =
    more xs a (λ y i. once_later y s ss (touches y s) refl (o y i) (λ q. let k : is_among xs (set_by s) ≡ true = ap (is_among xs) q ∙ i in absurd cc))

-- a sum over names that are set once is the sum in the order of the run
pub total_in_order : (f : List ℕ → ℕ) (xs : Names) (ss : Statements) → AreApart xs → AllOnce xs ss → total f (set_in_order xs ss) ≡ total f xs
total_in_order f [] Nothing a o = refl
total_in_order f (x ∷ xs) Nothing a o = absurd (o x (or_left (bytes_eq x x) (is_among xs x) (name_same x)))
total_in_order f xs (Then s ss) a o = order_here f xs s ss (is_among xs (set_by s)) refl a o (λ ys b p. total_in_order f ys ss b p)

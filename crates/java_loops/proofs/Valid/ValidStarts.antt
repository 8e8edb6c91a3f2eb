-- Each accumulator is started by one statement of the run.
use Rattle.std.proofs.Common.{◌≡◌, ℕ, Bool, true, false, not, ◌&&◌, ◌||◌, List, [], ◌∷◌, Option, Some, None, refl, ap, ◌∙◌, cond, bytes_eq, ⊎_elim}
use Rattle.std.specs.List.{filter, list_any}
use Rattle.std.proofs.lemmas.Bool.{and_parts, or_parts, or_left, or_right, or_cases}
use Rattle.qbs_base.specs.declared.span.Span.{Span}
use Rattle.java_ast.specs.Tree as tree
use Rattle.java_ast.specs.Tree.{Expression, Statement, Statements, Nothing, Then}
use Rattle.java_mean.proofs.Puts.{names_equal}
use Rattle.loop_text.specs.Statements.Fragment.{set_by}
use Rattle.loop_text.specs.Kernel.KernelStarts.{form_found, update_of, may_start, may_start_so, starts, broken_starts_of}
use Rattle.loop_text.specs.Kernel.KernelStatements.{is_none}
use Rattle.java_ast.specs.Names.{Names, is_among}
use Rattle.loop_text.specs.Statements.Setting.{touches, first_touching, given_by, is_found}
use Rattle.loop_text.specs.Sites.Sites.{Site, place_of, place_where}
use Rattle.java_loops.proofs.Nested.NestRules.{true_from_not, and_second}
use Rattle.java_loops.proofs.Standing.StandingRules.{first_none, none_where}

-- ---- Names among names

pub none_at : (p : List ℕ → Bool) (xs : Names) (x : List ℕ) → list_any p xs ≡ false → is_among xs x ≡ true → p x ≡ false
none_at p [] x h a = absurd cc
none_at p (y ∷ ys) x h a =
    let two = or_parts (p y) (list_any p ys) h in
    ⊎_elim (λ e. ap p (names_equal x y e) ∙ two.0) (λ e. none_at p ys x two.1 e) (or_cases (bytes_eq x y) (is_among ys x) a)

filter_step : (p : List ℕ → Bool) (y x : List ℕ) (ys : Names) (b : Bool) → p y ≡ b → p x ≡ true → (bytes_eq x y || is_among ys x) ≡ true → (is_among ys x ≡ true → is_among (filter p ys) x ≡ true) → is_among (cond b (y ∷ filter p ys) (filter p ys)) x ≡ true
filter_step p y x ys true e h a more = ⊎_elim (λ f. or_left (bytes_eq x y) (is_among (filter p ys) x) f) (λ f. or_right (bytes_eq x y) (is_among (filter p ys) x) (more f)) (or_cases (bytes_eq x y) (is_among ys x) a)
filter_step p y x ys false e h a more = ⊎_elim (λ f. let g : p x ≡ false = ap p (names_equal x y f) ∙ e in absurd cc) (λ f. more f) (or_cases (bytes_eq x y) (is_among ys x) a)

-- what passes stays
pub among_filter : (p : List ℕ → Bool) (xs : Names) (x : List ℕ) → is_among xs x ≡ true → p x ≡ true → is_among (filter p xs) x ≡ true
among_filter p [] x a h = absurd cc
among_filter p (y ∷ ys) x a h = filter_step p y x ys (p y) refl h a (λ e. among_filter p ys x e h)

filtered_step : (p : List ℕ → Bool) (y x : List ℕ) (ys : Names) (b : Bool) → p y ≡ b → is_among (cond b (y ∷ filter p ys) (filter p ys)) x ≡ true → (is_among (filter p ys) x ≡ true → (is_among ys x ≡ true) × (p x ≡ true)) → ((bytes_eq x y || is_among ys x) ≡ true) × (p x ≡ true)
filtered_step p y x ys true e a more = ⊎_elim (λ f. (or_left (bytes_eq x y) (is_among ys x) f, ap p (names_equal x y f) ∙ e)) (λ f. let m = more f in (or_right (bytes_eq x y) (is_among ys x) m.0, m.1)) (or_cases (bytes_eq x y) (is_among (filter p ys) x) a)
filtered_step p y x ys false e a more = let m = more a in (or_right (bytes_eq x y) (is_among ys x) m.0, m.1)

pub filter_among : (p : List ℕ → Bool) (xs : Names) (x : List ℕ) → is_among (filter p xs) x ≡ true → (is_among xs x ≡ true) × (p x ≡ true)
filter_among p [] x a = absurd cc
filter_among p (y ∷ ys) x a = filtered_step p y x ys (p y) refl a (λ e. filter_among p ys x e)

-- ---- Starts

-- the one statement of a run that mentions a variable gives it a value that may start it
pub record Started (sites : List Site) (x : List ℕ) (run : Statements) : Type 0 where
  pub statement : Statement
  pub first : first_touching x run ≡ Some statement
  pub value : Expression
  pub given : given_by x statement ≡ Some value
  pub may : may_start (form_found sites (update_of sites x)) value ≡ true

-- nothing but the statement that sets a variable mentions it
abbrev pub SetOnce : List ℕ → Statements → Type 0
SetOnce x Nothing = ⊥
SetOnce x (Then s ss) = ((touches x s ≡ true) → (set_by s ≡ x) × (first_touching x ss ≡ None)) × ((touches x s ≡ false) → SetOnce x ss)

none_found : {A : Type 0} (o : Option A) → is_found o ≡ false → o ≡ None
none_found None h = refl
none_found (Some s) h = absurd cc

pub false_not : (b : Bool) → not b ≡ true → b ≡ false
false_not true h = absurd cc
false_not false h = refl

record GivenSo (sites : List Site) (x : List ℕ) (s : Statement) : Type 0 where
  value : Expression
  given : given_by x s ≡ Some value
  may : may_start (form_found sites (update_of sites x)) value ≡ true

given_so : (sites : List Site) (x : List ℕ) (s : Statement) (o : Option Expression) → given_by x s ≡ o → may_start_so (form_found sites (update_of sites x)) o ≡ true → GivenSo sites x s
given_so sites x s None e h = absurd cc
given_so sites x s (Some v) e h = record { value = v; given = e; may = h }

if_given : (y x : List ℕ) (e v : Expression) (b : Bool) → bytes_eq y x ≡ b → cond b (Some e) None ≡ Some v → y ≡ x
if_given y x e v true h g = names_equal y x h
if_given y x e v false h g = absurd cc

-- what gives a value sets the variable
pub given_sets : (x : List ℕ) (s : Statement) (v : Expression) → given_by x s ≡ Some v → set_by s ≡ x
given_sets x (tree.Declare at ty y e) v h = if_given y x e v (bytes_eq y x) refl h
given_sets x (tree.Assign at y e) v h = if_given y x e v (bytes_eq y x) refl h
given_sets x (tree.Add at y e) v h = absurd cc
given_sets x (tree.Sort at y keys downs) v h = absurd cc
given_sets x (tree.If at c p) v h = absurd cc
given_sets x (tree.IfElse at c p q) v h = absurd cc
given_sets x (tree.ForEach at ty y e b) v h = absurd cc
given_sets x (tree.While at c b) v h = absurd cc
given_sets x (tree.Print at e) v h = absurd cc
given_sets x (tree.Return at e) v h = absurd cc
given_sets x (tree.Break at) v h = absurd cc

record Both (sites : List Site) (x : List ℕ) (run : Statements) : Type 0 where
  started : Started sites x run
  once : SetOnce x run

first_step : (x : List ℕ) (s : Statement) (ss : Statements) (b : Bool) → touches x s ≡ b → first_touching x (Then s ss) ≡ cond b (Some s) (first_touching x ss)
first_step x s ss b h = ap (λ z. cond z (Some s) (first_touching x ss)) h

both_here : (sites : List Site) (x : List ℕ) (s : Statement) (ss : Statements) → touches x s ≡ true → starts sites s ss x ≡ true → Both sites x (Then s ss)
both_here sites x s ss t h =
    let two = and_parts (may_start_so (form_found sites (update_of sites x)) (given_by x s)) (not (is_found (first_touching x ss))) h in
    let g = given_so sites x s (given_by x s) refl two.0 in
    record {
      started = record { statement = s; first = first_step x s ss true t; value = g.value; given = g.given; may = g.may };
      once = (λ u. (given_sets x s g.value g.given, none_found (first_touching x ss) (false_not (is_found (first_touching x ss)) two.1)), λ u. absurd cc);
    }

both_later : (sites : List Site) (x : List ℕ) (s : Statement) (ss : Statements) → touches x s ≡ false → Both sites x ss → Both sites x (Then s ss)
both_later sites x s ss t b =
    record {
      started = record { statement = b.started.statement; first = first_step x s ss false t ∙ b.started.first; value = b.started.value; given = b.started.given; may = b.started.may };
      once = (λ u. absurd cc, λ u. b.once);
    }

both_step : (sites : List Site) (x : List ℕ) (s : Statement) (ss : Statements) (b : Bool) → touches x s ≡ b → (touches x s && not (starts sites s ss x)) ≡ false → (not (touches x s) ≡ true → Both sites x ss) → Both sites x (Then s ss)
both_step sites x s ss true t h more = both_here sites x s ss t (true_from_not (starts sites s ss x) (and_second (touches x s) (not (starts sites s ss x)) h t))
both_step sites x s ss false t h more = both_later sites x s ss t (more (ap not t))

nothing_left : (xs : Names) (x : List ℕ) → is_none xs ≡ true → is_among xs x ≡ true → ⊥
nothing_left [] x h a = absurd cc
nothing_left (y ∷ ys) x h a = absurd cc

both : (sites : List Site) (loop : Span) (xs : Names) (run : Statements) → broken_starts_of sites loop xs run ≡ None → (x : List ℕ) → is_among xs x ≡ true → Both sites x run
both sites loop xs Nothing h x a = absurd (nothing_left xs x (true_from_not (is_none xs) (none_where (not (is_none xs)) loop h)) a)
both sites loop xs (Then s ss) h x a =
    let two = first_none (place_where (list_any (λ y. touches y s && not (starts sites s ss y)) xs) (place_of s)) (broken_starts_of sites loop (filter (λ y. not (touches y s)) xs) ss) h in
    let none : (touches x s && not (starts sites s ss x)) ≡ false = none_at (λ y. touches y s && not (starts sites s ss y)) xs x (none_where (list_any (λ y. touches y s && not (starts sites s ss y)) xs) (place_of s) two.0) a in
    both_step sites x s ss (touches x s) refl none (λ e. both sites loop (filter (λ y. not (touches y s)) xs) ss two.1 x (among_filter (λ y. not (touches y s)) xs x a e))

pub started_by : (sites : List Site) (loop : Span) (xs : Names) (run : Statements) → broken_starts_of sites loop xs run ≡ None → (x : List ℕ) → is_among xs x ≡ true → Started sites x run
started_by sites loop xs run h x a = (both sites loop xs run h x a).started

pub set_once : (sites : List Site) (loop : Span) (xs : Names) (run : Statements) → broken_starts_of sites loop xs run ≡ None → (x : List ℕ) → is_among xs x ≡ true → SetOnce x run
set_once sites loop xs run h x a = (both sites loop xs run h x a).once

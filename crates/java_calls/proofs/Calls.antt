-- A call's statement does what stands in its place does.
use Rattle.std.proofs.Common.{◌≡◌, ℕ, zero, suc, ◌<◌, ◌≤◌, Bool, true, false, cond, not, ◌&&◌, ◌||◌, List, [], ◌∷◌, ◌++◌, Option, Some, None, Result, Ok, Err, refl, sym, ap, ◌∙◌, subst, position, slice_get, arith}
use Rattle.std.specs.List.{AllByRecursion}
use Rattle.std.specs.Option.{option_map}
use Rattle.std.specs.Prelude.{bytes_eq}
use Rattle.qbs_base.specs.declared.span.Span.{Span}
use Rattle.qbs_base.specs.declared.scalar.Scalar.{Scalar}
use Rattle.qbs_base.specs.declared.scalar.Value.{Value}
use Rattle.qbs_base.specs.Named.{at_name}
use Rattle.java_ast.specs.Names.{Names, is_among, names_of_params}
use Rattle.java_ast.specs.Spans.{place_of}
use Rattle.java_ast.specs.Tree as tree
use Rattle.java_ast.specs.Tree.{Spelled, Expression, Expressions, Statement, Declare, Assign, Add, Sort, If, IfElse, ForEach, While, Print, Return, Break, Statements, Nothing, Then, PlainParam, PlainMethod}
use Rattle.java_mean.specs.declared.ending.Ending.{Ending}
use Rattle.java_mean.specs.declared.ending.Ending.TheVariants as endings
use Rattle.java_mean.specs.Endings.{◌>>=◌, found}
use Rattle.java_mean.specs.Expression.{value_of, scalars_of}
use Rattle.java_mean.specs.Outcome.{store_of}
use Rattle.java_mean.specs.Refines.{Related, Exits, Passes, PassesBack, Follows, Simulates, followed_by}
use Rattle.java_mean.specs.Rules.{is_none, returns}
use Rattle.java_mean.specs.Statement.{State, Passed, GoesOn, Leaves, Returns, Does, done, then_do, with_variable, with_value, is_set_type, returned, meaning, meanings}
use Rattle.java_mean.specs.Store.{Store, Variable, put}
use Rattle.java_mean.specs.World.{World}
use Rattle.java_mean.proofs.Puts.{names_equal, name_same, put_same, put_other}
use Rattle.java_mean.proofs.Replaced.{meanings_followed}
use Rattle.call_parts.specs.Kinds.{is_scalar_type, one_type, same_spelled, are_one_type, is_unreadable}
use Rattle.call_parts.specs.Marks.{mark_of, is_marked, next_number, IsNextNumber}
use Rattle.call_parts.proofs.Marks.{next_number_is}
use Rattle.java_calls.specs.Called.{Call, call_of, call_in, call_at, method_at, method_named}
use Rattle.java_calls.specs.Calling.{Back, Callee, Given, given_back, given_by_call, back, callee_of, meaning_with, meanings_with}
use Rattle.java_calls.proofs.Fitted.{IsFitting, AreFitting}
use Rattle.java_calls.specs.Inlining.{Made, Expand, expand_with, without_last, returned_by, last_value, declared_type, unless_scalar, kept_by, kept_variable, arguments_given, ended, target_of, all_inlined, expand_at}
use Rattle.java_calls.specs.Inlining as inlining
use Rattle.java_calls.specs.ProgramNames.{statement_names, block_names}
use Rattle.java_calls.specs.Renaming.{Renaming, marked_but, renamed}
use Rattle.java_calls.specs.Rules.{may_take, may_take_from, has_result_for, returns_at_its_end}
use Rattle.java_calls.proofs.Args.{bound, ok_is, unequal, among_all, HasArgs, AreAway, args}
use Rattle.java_calls.proofs.Kin.{follows_under, Kin, kin_ways, kin_put, kin_goes}
use Rattle.java_calls.proofs.Old.{MayBeTaken, IsOld, AreKeptApart, Suits, Includes, Stands, clash, older, suits_marked, has_mark, is_no_helpers, old_is_unmarked, kept_name}
use Rattle.java_calls.proofs.Quiet.{NeverReturns, quiet}
use Rattle.java_calls.proofs.Replacing.{Good, good_is, good_statements, all_left, all_right}
use Rattle.java_calls.proofs.Under.{Under, under_found, under_value}
use Rattle.java_calls.proofs.Whole.{Whole, whole_calls, all_whole_calls}

some_is : {A : Type 0} (a b : A) → Some a ≡ Some b → a ≡ b
some_is a b e = cc

-- ---- Methods by their names

one_of : {A : Type 0} (P : A → Type 0) (xs : List A) (n : ℕ) (x : A) → AllByRecursion P xs → slice_get xs n ≡ Some x → P x
one_of P [] n x h e = absurd cc
one_of P (y ∷ ys) zero x h e = subst P (some_is y x e) h.0
one_of P (y ∷ ys) (suc n) x h e = one_of P ys n x h.1 e

at_method : (P : PlainMethod → Type 0) (ms : List PlainMethod) (o : Option ℕ) (m : PlainMethod) → AllByRecursion P ms → method_at ms o ≡ Some m → P m
at_method P ms None m h e = absurd cc
at_method P ms (Some n) m h e = one_of P ms n m h e

-- what holds of all methods holds of the one that is named
pub of_named : (P : PlainMethod → Type 0) (ms : List PlainMethod) (name : List ℕ) (m : PlainMethod) → AllByRecursion P ms → method_named name ms ≡ Some m → P m
of_named P ms name m h e = at_method P ms (position (λ m. bytes_eq m.name name) ms) m h e

-- ---- A body but its last statement

all_both : {A : Type 0} (P : A → Type 0) (xs ys : List A) → AllByRecursion P xs → AllByRecursion P ys → AllByRecursion P (xs ++ ys)
all_both P [] ys h i = i
all_both P (x ∷ xs) ys h i = (h.0, all_both P xs ys h.1 i)

front_names : (P : List ℕ → Type 0) (p : Statements) → AllByRecursion P (block_names p) → AllByRecursion P (block_names (without_last p))
front_names P Nothing h = h
front_names P (Then s Nothing) h = tt
front_names P (Then s (Then a p)) h = all_both P (statement_names s) (block_names (without_last (Then a p))) (all_left P (statement_names s) (block_names (Then a p)) h) (front_names P (Then a p) (all_right P (statement_names s) (block_names (Then a p)) h))

front_calls : (P : Whole → Type 0) (p : Statements) → AllByRecursion P (all_whole_calls p) → AllByRecursion P (all_whole_calls (without_last p))
front_calls P Nothing h = h
front_calls P (Then s Nothing) h = tt
front_calls P (Then s (Then a p)) h = all_both P (whole_calls s) (all_whole_calls (without_last (Then a p))) (all_left P (whole_calls s) (all_whole_calls (Then a p)) h) (front_calls P (Then a p) (all_right P (whole_calls s) (all_whole_calls (Then a p)) h))

then_done : (q : Result Passed Ending) → then_do q done ≡ q
then_done (Ok (GoesOn s)) = refl
then_done (Ok (Leaves s)) = refl
then_done (Ok (Returns s v)) = refl
then_done (Err e) = refl

then_alike : (o : Result Passed Ending) (f g r : Does) → ((s : State) → f s ≡ then_do (g s) r) → then_do o f ≡ then_do (then_do o g) r
then_alike (Ok (GoesOn s)) f g r h = h s
then_alike (Ok (Leaves s)) f g r h = refl
then_alike (Ok (Returns s v)) f g r h = refl
then_alike (Err e) f g r h = refl

last_returns : (callee : Callee) (w : World) (s : Statement) (e : Expression) (u : State) → returned_by s ≡ Some e → meaning_with callee s w u ≡ returned (Some e) w u
last_returns callee w (Return at o) e u h = ap (λ o. returned o w u) h
last_returns callee w s e u h = absurd cc

-- a body goes on to its last statement, which returns the value
pub at_the_end : (callee : Callee) (w : World) (p : Statements) (e : Expression) (u : State) → last_value p ≡ Some e → meanings_with callee p w u ≡ then_do (meanings_with callee (without_last p) w u) (returned (Some e) w)
at_the_end callee w Nothing e u h = absurd cc
at_the_end callee w (Then s Nothing) e u h = then_done (meaning_with callee s w u) ∙ last_returns callee w s e u h
at_the_end callee w (Then s (Then a p)) e u h =
    then_alike (meaning_with callee s w u) (meanings_with callee (Then a p) w) (meanings_with callee (without_last (Then a p)) w) (returned (Some e) w) (λ t. at_the_end callee w (Then a p) e t h)

-- ---- The variable that takes the caller's name

kept_unless : (x v : List ℕ) (o : Option Spelled) → unless_scalar x o ≡ Some v → x ≡ v
kept_unless x v None h = absurd cc
kept_unless x v (Some ty) h = by (is_scalar_type ty) h
  where
    by : (b : Bool) → cond b None (Some x) ≡ Some v → x ≡ v
    by true k = absurd cc
    by false k = some_is x v k

-- it is what is returned
kept_is : (body : Statements) (e : Expression) (v : List ℕ) (w : World) (s : Store) (x : Value) → kept_by body (Some e) ≡ Some v → value_of e w s ≡ Ok x → (held : Variable) × (at_name s v ≡ Some held) × (held.value ≡ x)
kept_is body (tree.Var at y) v w s x h k = by (at_name s y) refl k
  where
    by : (o : Option Variable) → at_name s y ≡ o → (found o >>= λ held. Ok held.value) ≡ Ok x → (held : Variable) × (at_name s v ≡ Some held) × (held.value ≡ x)
    by None e q = absurd cc
    by (Some held) e q = (held, subst (λ z. at_name s z ≡ Some held) (kept_unless y v (declared_type y body) h) e, ok_is held.value x q)
kept_is body e v w s x h k = absurd cc

same_mark : (a b : Spelled) → same_spelled a b ≡ true → is_set_type a ≡ is_set_type b
same_mark (tree.SetOf a) (tree.SetOf b) h = refl
same_mark (tree.SetOf a) b h = absurd cc
same_mark a (tree.SetOf b) h = absurd cc
same_mark a b h = refl

one_mark : (a : Spelled) → is_set_type (one_type a) ≡ is_set_type a
one_mark tree.Int = refl
one_mark tree.BoxedInteger = refl
one_mark (tree.ListOf e) = refl
one_mark (tree.SetOf e) = refl
one_mark a = refl

-- ---- One call

-- each call that is a value of a statement names a method with a result for it
abbrev pub IsSound : List PlainMethod → Whole → Type 0
IsSound ms it = (m : PlainMethod) → method_named it.1.name ms ≡ Some m → has_result_for (Some it.0) m ≡ true

pub record IsNamed (names : Names) (m : PlainMethod) : Type 0 where
  pub params : AllByRecursion (λ x. is_among names x ≡ true) (names_of_params m.params)
  pub body : AllByRecursion (λ x. is_among names x ≡ true) (block_names m.body)

-- what is known of a class whose calls are replaced
pub record IsClass (names : Names) (ms : List PlainMethod) : Type 0 where
  pub fitting : AreFitting ms
  pub named : AllByRecursion (IsNamed names) ms
  pub sound : AllByRecursion (λ (m : PlainMethod). AllByRecursion (IsSound ms) (all_whole_calls m.body)) ms

-- what a result for a statement is
abbrev HasResult : Statement → PlainMethod → Type 0
HasResult s m = ((is_none (last_value m.body) ≡ false) × (returns (without_last m.body) ≡ false)) × (may_take_from m.result (Some s) ≡ true)

both_true : (a b : Bool) → a && b ≡ true → (a ≡ true) × (b ≡ true)
both_true true true h = (refl, refl)
both_true true false h = absurd cc
both_true false b h = absurd cc

is_not : (a : Bool) → not a ≡ true → a ≡ false
is_not true h = absurd cc
is_not false h = refl

has_result : (s : Statement) (m : PlainMethod) → has_result_for (Some s) m ≡ true → HasResult s m
has_result s m h =
    let b = both_true (returns_at_its_end m) (may_take_from m.result (Some s)) h in
    let r = both_true (not (is_none (last_value m.body))) (not (returns (without_last m.body))) b.0 in
    ((is_not (is_none (last_value m.body)) r.0, is_not (returns (without_last m.body)) r.1), b.1)

has_value : (o : Option Expression) → is_none o ≡ false → (e : Expression) × (o ≡ Some e)
has_value None h = absurd cc
has_value (Some e) h = (e, refl)

-- what the rest of a declaration or an assignment does with what it is given
abbrev rest_of : Statement → Given → Result Passed Ending
rest_of (Declare at ty x e) g = done (with_variable g.state x (record { value = g.value; is_set = is_set_type ty }))
rest_of (Assign at x e) g = found (at_name g.state.store x) >>= λ held. done (with_value g.state x held g.value)
rest_of _ g = Err endings.Stuck

given_is : (callee : Callee) (w : World) (t : State) (s : Statement) (call : Call) → call_at s ≡ Some call → (e : Expression) × (meaning_with callee s w t ≡ given_by_call callee w t (Some call) e >>= rest_of s)
given_is callee w t (Declare at ty x e) call h = (e, ap (λ o. given_by_call callee w t o e >>= rest_of (Declare at ty x e)) h)
given_is callee w t (Assign at x e) call h = (e, ap (λ o. given_by_call callee w t o e >>= rest_of (Assign at x e)) h)
given_is callee w t s call h = absurd cc

target_named : (names : Names) (s : Statement) (call : Call) → call_at s ≡ Some call → AllByRecursion (λ x. is_among names x ≡ true) (statement_names s) → is_among names (target_of s) ≡ true
target_named names (Declare at ty x e) call h n = n.0
target_named names (Assign at x e) call h n = n.0
target_named names s call h n = absurd cc

same_type_same_mark : (a b : Spelled) → are_one_type a b ≡ true → is_set_type a ≡ is_set_type b
same_type_same_mark a b h = sym (one_mark a) ∙ same_mark (one_type a) (one_type b) h ∙ one_mark b

under_is : {A : Type 0} (o q : Result A Ending) (x : A) → o ≡ Ok x → Under o q → q ≡ Ok x
under_is o q x e u = subst (λ z. Under z q) e u

result_is : (s : Statement) (o : Option Spelled) → may_take_from o (Some s) ≡ true → (ty : Spelled) × (o ≡ Some ty) × (may_take ty s ≡ true)
result_is s None h = absurd cc
result_is s (Some ty) h = (ty, refl, h)

module _ (names : Names) (f : Renaming) (apart : AreKeptApart names f) (taken : ℕ) (base : Store) (w : World) where
  -- the statement with another value, that is the same
  given_value : (s : Statement) (call : Call) → call_at s ≡ Some call → is_among names (target_of s) ≡ true → (b s2 : State) → Kin names f apart taken base b s2 → (v : Value) (e : Expression) → value_of e w s2.store ≡ Ok v
      → Follows (Kin names f apart taken base) (kin_ways names f apart taken base) (rest_of s (record { value = v; state = b })) (meanings (Then (inlining.with_value f s e) Nothing) w s2)
  given_value (Declare at ty x e0) call h hx b s2 i v e same =
      subst (λ (o : Result Value Ending). Follows (Kin names f apart taken base) (kin_ways names f apart taken base) (done (with_variable b x (record { value = v; is_set = is_set_type ty }))) (then_do (o >>= λ u. done (with_variable s2 (f x) (record { value = u; is_set = is_set_type ty }))) done))
      (sym same) (kin_goes names f apart taken base _ _ (kin_put names f apart taken base b s2 x (record { value = v; is_set = is_set_type ty }) hx i))
  given_value (Assign at x e0) call h hx b s2 i v e same =
      subst (λ (o : Result Value Ending). Follows (Kin names f apart taken base) (kin_ways names f apart taken base) (found (at_name b.store x) >>= λ held. done (with_value b x held v)) (then_do (o >>= λ u. found (at_name s2.store (f x)) >>= λ held. done (with_value s2 (f x) held u)) done))
      (sym same)
      (subst (Follows (Kin names f apart taken base) (kin_ways names f apart taken base) (found (at_name b.store x) >>= λ held. done (with_value b x held v))) (sym (then_done (found (at_name s2.store (f x)) >>= λ held. done (with_value s2 (f x) held v))))
      (follows_under (Kin names f apart taken base) (kin_ways names f apart taken base) _ _ _ _ tt (under_found f b.store s2.store i.includes.by w x) (λ held. kin_goes names f apart taken base _ _ (kin_put names f apart taken base b s2 x _ hx i))))
  given_value s call h hx b s2 i v e same = absurd cc

  module _ (b s2 : State) (x : List ℕ) (hx : is_among names x ≡ true) (held : Variable)
      (all_named : (y : List ℕ) (v : Variable) → at_name b.store y ≡ Some v → is_among names y ≡ true)
      (others : (y : List ℕ) (v : Variable) → bytes_eq x y ≡ false → at_name b.store y ≡ Some v → at_name s2.store (f y) ≡ Some v)
      (there : at_name s2.store (f x) ≡ Some held) where
    over_named : (y : List ℕ) (v : Variable) (p : Bool) → bytes_eq x y ≡ p → at_name (put b.store x held) y ≡ Some v → is_among names y ≡ true
    over_named y v true e h = ap (is_among names) (sym (names_equal x y e)) ∙ hx
    over_named y v false e h = all_named y v (sym (put_other b.store x y held e) ∙ h)

    over_found : (y : List ℕ) (v : Variable) (p : Bool) → bytes_eq x y ≡ p → at_name (put b.store x held) y ≡ Some v → at_name s2.store (f y) ≡ Some v
    over_found y v true e h =
        let same : x ≡ y = names_equal x y e in
        let is : held ≡ v = some_is held v (sym (put_same b.store x held) ∙ ap (at_name (put b.store x held)) same ∙ h) in
        ap (λ z. at_name s2.store (f z)) (sym same) ∙ there ∙ ap Some is
    over_found y v false e h = others y v e (sym (put_other b.store x y held e) ∙ h)

    over : Stands names taken f base s2.store → b.lines ≡ s2.lines → b.turns ≡ s2.turns → Kin names f apart taken base (with_variable b x held) s2
    over stands lines turns =
        record {
          includes = record { named = λ y v h. over_named y v (bytes_eq x y) refl h; by = λ y v h. over_found y v (bytes_eq x y) refl h };
          stands = stands;
          lines = lines;
          turns = turns;
        }

  -- the variable is there already under the caller's name, as the declaration would have it
  kept_value : (s : Statement) (call : Call) → call_at s ≡ Some call → (ty : Spelled) → may_take ty s ≡ true → is_scalar_type ty ≡ false → (b s2 : State) (held : Variable) → held.is_set ≡ is_set_type ty
      → Kin names f apart taken base (with_variable b (target_of s) held) s2
      → Follows (Kin names f apart taken base) (kin_ways names f apart taken base) (rest_of s (record { value = held.value; state = b })) (done s2)
  kept_value (Declare at ty' x e) call h ty may scalar b s2 held set i =
      let mark : held.is_set ≡ is_set_type ty' = set ∙ same_type_same_mark ty ty' (both_true (are_one_type ty ty') (is_scalar_type ty || not (is_unreadable x)) may).0 in
      subst (λ (p : Bool). Follows (Kin names f apart taken base) (kin_ways names f apart taken base) (done (with_variable b x (record { value = held.value; is_set = p }))) (done s2)) mark (kin_goes names f apart taken base _ _ i)
  kept_value (Assign at x e) call h ty may scalar b s2 held set i = absurd (clash (is_scalar_type ty) may scalar)
  kept_value s call h ty may scalar b s2 held set i = absurd cc

callee_step : (d : ℕ) (w : World) (ms : List PlainMethod) (name : List ℕ) (xs : List Scalar) (lines : List (List ℕ)) (turns : ℕ) → callee_of (suc d) w ms name xs lines turns ≡ (found (method_named name ms) >>= λ m. back (meanings_with (callee_of d w ms) m.body w (record { store = store_of m.params xs; lines = lines; turns = turns })))
unfolding callee_of
callee_step d w ms name xs lines turns = refl

callee_zero : (w : World) (ms : List PlainMethod) (name : List ℕ) (xs : List Scalar) (lines : List (List ℕ)) (turns : ℕ) → callee_of zero w ms name xs lines turns ≡ Err endings.Stuck
unfolding callee_of
callee_zero w ms name xs lines turns = refl

pub expand_step : (e : ℕ) (names : Names) (ms : List PlainMethod) (k : ℕ) (f : Renaming) (s : Statement) (call : Call) → expand_at (suc e) names ms k f s call ≡ expand_with (expand_at e names ms) (next_number names k) f s call (method_named call.name ms)
unfolding expand_at
expand_step e names ms k f s call = refl

pub expand_zero : (names : Names) (ms : List PlainMethod) (k : ℕ) (f : Renaming) (s : Statement) (call : Call) → expand_at zero names ms k f s call ≡ None
unfolding expand_at
expand_zero names ms k f s call = refl

nothing_owed : (r : Related) (k : Exits) (e : Ending) (q : Result Passed Ending) → k.stuck → Follows r k (Err e) q
nothing_owed r k (endings.Faulted fault at) q h = tt
nothing_owed r k endings.OutOfTurns q h = tt
nothing_owed r k endings.Stuck q h = h

module _ (names : Names) (ms : List PlainMethod) (w : World) where
  abbrev Follow : ℕ → Type 0
  Follow e =
      (taken : ℕ) (f : Renaming) (suits : Suits names taken f) (block : Statements) (k : ℕ) (made : Made)
      → AllByRecursion (IsSound ms) (all_whole_calls block) → AllByRecursion (λ x. is_among names x ≡ true) (block_names block) → taken ≤ k
      → all_inlined (expand_at e names ms) f k block ≡ Some made
      → (depth : ℕ) (base : Store)
      → Good names f suits.apart taken base w (callee_of depth w ms) (expand_at e names ms) (IsSound ms) k (meanings_with (callee_of depth w ms) block w) made

  module _ (is_class : IsClass names ms) (e : ℕ) (ih : Follow e) (taken : ℕ) (f : Renaming) (suits : Suits names taken f) (depth : ℕ) (base : Store)
      (k c : ℕ) (le : taken ≤ k) (above : k < c) (free : is_marked names c ≡ false)
      (s : Statement) (call : Call) (is_call : call_at s ≡ Some call) (named : AllByRecursion (λ x. is_among names x ≡ true) (statement_names s))
      (m : PlainMethod) (is_method : method_named call.name ms ≡ Some m) (result : HasResult s m)
      (value : Expression) (is_value : last_value m.body ≡ Some value) (inner : Made) where
    abbrev K : Related
    K = Kin names f suits.apart taken base

    abbrev ways : Exits
    ways = kin_ways names f suits.apart taken base

    abbrev to : List ℕ
    to = f (target_of s)

    abbrev kept : Option (List ℕ)
    kept = kept_variable m

    abbrev g : Renaming
    g = marked_but kept to c

    free_above : MayBeTaken names taken c
    free_above = (omega arith, free)

    fitting : IsFitting ms m
    fitting = of_named (IsFitting ms) ms call.name m is_class.fitting is_method

    is_named : IsNamed names m
    is_named = of_named (IsNamed names) ms call.name m is_class.named is_method

    hx : is_among names (target_of s) ≡ true
    hx = target_named names s call is_call named

    old_to : IsOld names taken to
    old_to = suits.old (target_of s) hx

    suits_g : Suits names c g
    suits_g = suits_marked names taken c to old_to free_above kept

    -- the names that are read and set in the caller are no names of the helper's parameters
    away : (t s' : State) → K t s' → AreAway names w f g t.store (place_of s) suits_g.apart m.params
    away t s' i y v there q hq same =
        let old : IsOld names taken (f y) = suits.old y (i.includes.named y v there) in
        let mark : g q ≡ q ++ mark_of c = has_mark names taken c to old_to free_above kept q (λ v' kv. unequal v' q (λ eq. clash (is_among (names_of_params m.params) v') (subst (λ z. is_among (names_of_params m.params) z ≡ true) (sym eq) hq) (fitting.other v' kv)) (bytes_eq v' q) refl) in
        old_is_unmarked names taken c (f y) q old free_above (sym mark ∙ same)

    module _ (t s' : State) (i : K t s') (xs : List Scalar) (a : HasArgs names w f g t.store (place_of s) suits_g.apart m.params call.arguments xs s') (d : ℕ) where
      abbrev own : State
      own = record { store = store_of m.params xs; lines = t.lines; turns = t.turns }

      abbrev Kg : Related
      Kg = Kin names g suits_g.apart c a.state.store

      starts : Kg own a.state
      starts = record { includes = a.includes; stands = record { by = λ y n old. refl }; lines = i.lines ∙ a.lines; turns = i.turns ∙ a.turns }

      module _ (u s2 : State) (j : Kg u s2) where
        -- what is old, and isn't the caller's variable that the helper's takes the name of, stays
        stays : (y : List ℕ) → IsOld names taken y → ((v : List ℕ) → kept ≡ Some v → to ≡ y → ⊥) → at_name s'.store y ≡ at_name s2.store y
        stays y old n =
            a.stays y (λ q hq. is_no_helpers names taken c to old_to free_above kept y q old n)
            ∙ j.stands.by y (λ q hq. is_no_helpers names taken c to old_to free_above kept y q old n) (older names taken c y free_above.0 old)

        abbrev behind : State
        behind = record { store = t.store; lines = u.lines; turns = u.turns }

        later : ((v : List ℕ) → kept ≡ Some v → ⊥) → K behind s2
        later n =
            record {
              includes = record { named = i.includes.named; by = λ y v there. sym (stays (f y) (suits.old y (i.includes.named y v there)) (λ v' kv. absurd (n v' kv))) ∙ i.includes.by y v there };
              stands = record { by = λ y other old. i.stands.by y other old ∙ stays y old (λ v' kv. absurd (n v' kv)) };
              lines = j.lines;
              turns = j.turns;
            }

        end_by : (v : Value) (o : Option (List ℕ)) → kept ≡ o → meanings_with (callee_of d w ms) (without_last m.body) w own ≡ Ok (GoesOn u) → value_of value w u.store ≡ Ok v
            → Follows K ways (rest_of s (record { value = v; state = behind })) (meanings (ended f s g o (last_value m.body)) w s2)
        end_by v None none goes is =
            subst (λ lv. Follows K ways (rest_of s (record { value = v; state = behind })) (meanings (ended f s g None lv) w s2)) (sym is_value)
            (given_value names f suits.apart taken base w s call is_call hx behind s2 (later (λ v' kv. absurd (none_some v' (sym none ∙ kv)))) v (renamed g value)
            (under_is (value_of value w u.store) (value_of (renamed g value) w s2.store) v is (under_value g u.store s2.store j.includes.by w value)))
          where
            none_some : (v' : List ℕ) → None ≡ Some v' → ⊥
            none_some v' e = absurd cc
        end_by v (Some kv) some goes is =
            let held = kept_is m.body value kv w u.store v (ap (kept_by m.body) (sym is_value) ∙ some) is in
            let r = result_is s m.result result.1 in
            let set : held.0.is_set ≡ is_set_type r.0 = fitting.set kv r.0 some r.1 w d xs t.lines t.turns u held.0 goes held.1 in
            let name : g kv ≡ to = ap (λ o. marked_but o to c kv) some ∙ kept_name names taken c to old_to free_above kv in
            let there : at_name s2.store to ≡ Some held.0 = ap (at_name s2.store) (sym name) ∙ j.includes.by kv held.0 held.1 in
            let kin : K (with_variable behind (target_of s) held.0) s2 = over names f suits.apart taken base w behind s2 (target_of s) hx held.0 i.includes.named
            (λ y v' ne at_y. sym (stays (f y) (suits.old y (i.includes.named y v' at_y)) (λ v'' kv'' same. clash (bytes_eq (target_of s) y) (same_bytes y (suits.apart (target_of s) y hx (i.includes.named y v' at_y) same)) ne)) ∙ i.includes.by y v' at_y)
            there (record { by = λ y other old. i.stands.by y other old ∙ stays y old (λ v'' kv'' same. other (target_of s) hx same) }) j.lines j.turns in
            subst (λ v'. Follows K ways (rest_of s (record { value = v'; state = behind })) (done s2)) held.2 (kept_value names f suits.apart taken base w s call is_call r.0 r.2 (fitting.many kv r.0 some r.1) behind s2 held.0 set kin)
          where
            same_bytes : (y : List ℕ) → target_of s ≡ y → bytes_eq (target_of s) y ≡ true
            same_bytes y e = subst (λ z. bytes_eq (target_of s) z ≡ true) e (name_same (target_of s))

      abbrev returned_back : Result Passed Ending → Result Passed Ending
      returned_back o = (back (then_do o (returned (Some value) w)) >>= λ b. Ok (given_back t b)) >>= rest_of s

      abbrev ending_block : Statements
      ending_block = ended f s g kept (last_value m.body)

      ends_by : (u s2 : State) (j : Kg u s2) (o : Result Value Ending) → value_of value w u.store ≡ o → meanings_with (callee_of d w ms) (without_last m.body) w own ≡ Ok (GoesOn u)
          → Follows K ways ((back (o >>= λ v. Ok (Returns u (Some v))) >>= λ b. Ok (given_back t b)) >>= rest_of s) (meanings ending_block w s2)
      ends_by u s2 j (Ok v) e goes = end_by u s2 j v kept refl goes e
      ends_by u s2 j (Err x) e goes = nothing_owed K ways x (meanings ending_block w s2) tt

      finish : (o : Result Passed Ending) → meanings_with (callee_of d w ms) (without_last m.body) w own ≡ o → NeverReturns o → Follows Kg (kin_ways names g suits_g.apart c a.state.store) o (meanings inner.block w a.state)
          → Follows K ways (returned_back o) (then_do (meanings inner.block w a.state) (meanings ending_block w))
      finish (Ok (GoesOn u)) goes q p = subst (λ z. Follows K ways (returned_back (Ok (GoesOn u))) (then_do z (meanings ending_block w))) (sym p.is) (ends_by u p.state p.holds (value_of value w u.store) refl goes)
      finish (Ok (Leaves u)) goes q p = tt
      finish (Ok (Returns u v)) goes q p = absurd q
      finish (Err x) goes q p = nothing_owed K ways x _ tt

      abbrev given_block : Statements
      given_block = arguments_given (place_of s) g m.params f call.arguments

      left_is : scalars_of call.arguments w t.store ≡ Ok xs → meaning_with (callee_of (suc d) w ms) s w t ≡ returned_back (meanings_with (callee_of d w ms) (without_last m.body) w own)
      left_is h =
          (given_is (callee_of (suc d) w ms) w t s call is_call).1
          ∙ ap (λ (o : Result (List Scalar) Ending). (o >>= λ ys. callee_of (suc d) w ms call.name ys t.lines t.turns >>= λ b. Ok (given_back t b)) >>= rest_of s) h
          ∙ ap (λ (o : Result Back Ending). (o >>= λ b. Ok (given_back t b)) >>= rest_of s)
          (callee_step d w ms call.name xs t.lines t.turns
          ∙ ap (λ (o : Option PlainMethod). found o >>= λ n. back (meanings_with (callee_of d w ms) n.body w (record { store = store_of n.params xs; lines = t.lines; turns = t.turns }))) is_method
          ∙ ap back (at_the_end (callee_of d w ms) w m.body value own is_value))

      right_is : meanings (followed_by given_block (followed_by inner.block ending_block)) w s' ≡ then_do (meanings inner.block w a.state) (meanings ending_block w)
      right_is =
          meanings_followed given_block (followed_by inner.block ending_block) w s'
          ∙ ap (λ o. then_do o (meanings (followed_by inner.block ending_block) w)) a.is
          ∙ meanings_followed inner.block ending_block w a.state

      whole : scalars_of call.arguments w t.store ≡ Ok xs → Follows Kg (kin_ways names g suits_g.apart c a.state.store) (meanings_with (callee_of d w ms) (without_last m.body) w own) (meanings inner.block w a.state)
          → Follows K ways (meaning_with (callee_of (suc d) w ms) s w t) (meanings (followed_by given_block (followed_by inner.block ending_block)) w s')
      whole h p =
          subst (λ l. Follows K ways l (meanings (followed_by given_block (followed_by inner.block ending_block)) w s')) (sym (left_is h))
          (subst (Follows K ways (returned_back (meanings_with (callee_of d w ms) (without_last m.body) w own))) (sym right_is)
          (finish (meanings_with (callee_of d w ms) (without_last m.body) w own) refl (quiet (callee_of d w ms) w (without_last m.body) result.0.1 own) p))

    module _ (inner_is : all_inlined (expand_at e names ms) g c (without_last m.body) ≡ Some inner) where
      inner_good : (d : ℕ) (base' : Store) → Good names g suits_g.apart c base' w (callee_of d w ms) (expand_at e names ms) (IsSound ms) c (meanings_with (callee_of d w ms) (without_last m.body) w) inner
      inner_good d base' =
          ih c g suits_g (without_last m.body) c inner
          (front_calls (IsSound ms) m.body (of_named (λ (n : PlainMethod). AllByRecursion (IsSound ms) (all_whole_calls n.body)) ms call.name m is_class.sound is_method))
          (front_names (λ x. is_among names x ≡ true) m.body is_named.body)
          (omega arith) inner_is d base'

      abbrev put_there : Statements
      put_there = followed_by (arguments_given (place_of s) g m.params f call.arguments) (followed_by inner.block (ended f s g kept (last_value m.body)))

      follows_call : (dep : ℕ) (t s' : State) → K t s' → (o : Result (List Scalar) Ending) → scalars_of call.arguments w t.store ≡ o → Follows K ways (meaning_with (callee_of dep w ms) s w t) (meanings put_there w s')
      follows_call dep t s' i (Err x) h =
          subst (λ l. Follows K ways l (meanings put_there w s'))
          (sym ((given_is (callee_of dep w ms) w t s call is_call).1
          ∙ ap (λ (o : Result (List Scalar) Ending). (o >>= λ ys. callee_of dep w ms call.name ys t.lines t.turns >>= λ b. Ok (given_back t b)) >>= rest_of s) h))
          (nothing_owed K ways x (meanings put_there w s') tt)
      follows_call zero t s' i (Ok xs) h =
          subst (λ l. Follows K ways l (meanings put_there w s'))
          (sym ((given_is (callee_of zero w ms) w t s call is_call).1
          ∙ ap (λ (o : Result (List Scalar) Ending). (o >>= λ ys. callee_of zero w ms call.name ys t.lines t.turns >>= λ b. Ok (given_back t b)) >>= rest_of s) h
          ∙ ap (λ (o : Result Back Ending). (o >>= λ b. Ok (given_back t b)) >>= rest_of s) (callee_zero w ms call.name xs t.lines t.turns)))
          tt
      follows_call (suc d) t s' i (Ok xs) h =
          let a : HasArgs names w f g t.store (place_of s) suits_g.apart m.params call.arguments xs s' =
          args names w f g t.store (place_of s) suits_g.apart m.params call.arguments s' xs fitting.apart fitting.plain is_named.params (away t s' i) i.includes.by h in
          whole t s' i xs a d h ((inner_good d a.state.store).sim.by (own t s' i xs a d) a.state (starts t s' i xs a d))

      call_good : Good names f suits.apart taken base w (callee_of depth w ms) (expand_at (suc e) names ms) (IsSound ms) k (meaning_with (callee_of depth w ms) s w) (record { block = put_there; taken = inner.taken })
      call_good =
          let more : c ≤ inner.taken = (inner_good depth base).more in
          record { sim = record { by = λ t s' i. follows_call depth t s' i (scalars_of call.arguments w t.store) refl }; more = omega arith }

  module _ (is_class : IsClass names ms) (e : ℕ) (ih : Follow e) (taken : ℕ) (f : Renaming) (suits : Suits names taken f) (depth : ℕ) (base : Store) (k : ℕ) (s : Statement) (call : Call) (made : Made)
      (is_call : call_at s ≡ Some call) (sound : IsSound ms (s, call)) (named : AllByRecursion (λ x. is_among names x ≡ true) (statement_names s)) (le : taken ≤ k) where
    abbrev Wanted : Made → Type 0
    Wanted made = Good names f suits.apart taken base w (callee_of depth w ms) (expand_at (suc e) names ms) (IsSound ms) k (meaning_with (callee_of depth w ms) s w) made

    abbrev next_renaming : PlainMethod → Renaming
    next_renaming m = marked_but (kept_variable m) (f (target_of s)) (next_number names k)

    abbrev made_with : PlainMethod → Made → Made
    made_with m n =
        record {
          block = followed_by (arguments_given (place_of s) (next_renaming m) m.params f call.arguments) (followed_by n.block (ended f s (next_renaming m) (kept_variable m) (last_value m.body)));
          taken = n.taken;
        }

    made_by : (m : PlainMethod) → method_named call.name ms ≡ Some m → (o : Option Made) → all_inlined (expand_at e names ms) (next_renaming m) (next_number names k) (without_last m.body) ≡ o → option_map (made_with m) o ≡ Some made → Wanted made
    made_by m is None q h = absurd cc
    made_by m is (Some inner) q h =
        let next : IsNextNumber names k (next_number names k) = next_number_is names k in
        let result : HasResult s m = has_result s m (sound m is) in
        let v = has_value (last_value m.body) result.0.0 in
        subst Wanted (some_is (made_with m inner) made h)
        (call_good is_class e ih taken f suits depth base k (next_number names k) le next.above next.free s call is_call named m is result v.0 v.1 inner q)

    made_of_method : (o : Option PlainMethod) → method_named call.name ms ≡ o → expand_with (expand_at e names ms) (next_number names k) f s call o ≡ Some made → Wanted made
    made_of_method None is h = absurd cc
    made_of_method (Some m) is h = made_by m is (all_inlined (expand_at e names ms) (next_renaming m) (next_number names k) (without_last m.body)) refl h

    -- what comes in place of a call's statement does what that does
    call_made : expand_at (suc e) names ms k f s call ≡ Some made → Wanted made
    call_made h = made_of_method (method_named call.name ms) refl (sym (expand_step e names ms k f s call) ∙ h)

  none_made : (made : Made) → None ≡ Some made → ⊥
  none_made made e = absurd cc

  -- the key lemma: statements in which the calls are replaced, in a store that includes the first one
  pub follow : IsClass names ms → (e : ℕ) → Follow e
  follow is_class zero taken f suits block k made q n le h depth base =
      good_statements names f suits.apart taken base w (callee_of depth w ms) (expand_at zero names ms) (IsSound ms) (λ k s call made c q' n' le' e. absurd (none_made made (sym (expand_zero names ms k f s call) ∙ e))) block k made q n le h
  follow is_class (suc e) taken f suits block k made q n le h depth base =
      good_statements names f suits.apart taken base w (callee_of depth w ms) (expand_at (suc e) names ms) (IsSound ms) (call_made is_class e (follow is_class e) taken f suits depth base) block k made q n le h

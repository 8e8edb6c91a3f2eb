-- The declarations that give a helper's parameters their arguments.
use Rattle.std.proofs.Common.{◌≡◌, ℕ, Bool, true, false, cond, ◌||◌, List, [], ◌∷◌, Option, Some, None, Result, Ok, Err, refl, sym, ap, ◌∙◌, subst}
use Rattle.std.specs.List.{AllByRecursion}
use Rattle.std.specs.Prelude.{bytes_eq}
use Rattle.qbs_base.specs.declared.span.Span.{Span}
use Rattle.qbs_base.specs.declared.scalar.Scalar.{Scalar}
use Rattle.qbs_base.specs.declared.scalar.Value.{Value}
use Rattle.qbs_base.specs.declared.scalar.Value.TheVariants.{One, Whole, Many}
use Rattle.qbs_base.specs.Named.{at_name}
use Rattle.java_ast.specs.Names.{Names, is_among, names_of_params}
use Rattle.java_ast.specs.Tree.{Expression, Expressions, NoMore, And, Declare, Then, PlainParam}
use Rattle.java_mean.specs.declared.ending.Ending.{Ending}
use Rattle.java_mean.specs.Endings.{◌>>=◌}
use Rattle.java_mean.specs.Expression.{value_of, scalars_of, as_scalar}
use Rattle.java_mean.specs.Outcome.{store_of}
use Rattle.java_mean.specs.Statement.{State, Passed, GoesOn, done, then_do, with_variable, is_set_type, meaning, meanings}
use Rattle.java_mean.specs.Store.{Store, Variable, put, plainly}
use Rattle.java_mean.specs.World.{World}
use Rattle.java_mean.proofs.Puts.{names_equal, name_same, put_same, put_other}
use Rattle.java_calls.proofs.Fitted.{AreApart}
use Rattle.java_calls.specs.Inlining.{arguments_given}
use Rattle.java_calls.specs.Renaming.{Renaming, renamed}
use Rattle.java_calls.proofs.Old.{AreKeptApart, Includes, clash}
use Rattle.java_calls.proofs.Under.{Under, under_value}

some_is : {A : Type 0} (a b : A) → Some a ≡ Some b → a ≡ b
some_is a b e = cc

pub ok_is : {B : Type 0} (a b : B) → ◌≡◌ {A = Result B Ending} (Ok a) (Ok b) → a ≡ b
ok_is a b e = cc

-- what gives something gives it by what it goes on from
pub bound : {A B : Type 0} (o : Result A Ending) (f : A → Result B Ending) (y : B) → o >>= f ≡ Ok y → (x : A) × (o ≡ Ok x) × (f x ≡ Ok y)
bound (Ok x) f y h = (x, refl, h)
bound (Err e) f y h = absurd cc

scalar_is : (v : Value) (x : Scalar) → as_scalar v ≡ Ok x → v ≡ One x
scalar_is (One y) x h = ap One (ok_is y x h)
scalar_is (Whole row) x h = absurd cc
scalar_is (Many rows) x h = absurd cc

under_is : {A : Type 0} (o q : Result A Ending) (x : A) → o ≡ Ok x → Under o q → q ≡ Ok x
under_is o q x e u = subst (λ z. Under z q) e u

pub unequal : (x y : List ℕ) → (x ≡ y → ⊥) → (b : Bool) → bytes_eq x y ≡ b → b ≡ false
unequal x y n true e = absurd (n (names_equal x y e))
unequal x y n false e = refl

or_right : (p q : Bool) → q ≡ true → p || q ≡ true
or_right true q h = refl
or_right false q h = h

first_among : (x : List ℕ) (xs : Names) → is_among (x ∷ xs) x ≡ true
first_among x xs = ap (λ b. b || is_among xs x) (name_same x)

among_by : (names : Names) (q y : List ℕ) (qs : Names) → is_among names y ≡ true → (is_among qs q ≡ true → is_among names q ≡ true) → (b : Bool) → bytes_eq q y ≡ b → b || is_among qs q ≡ true → is_among names q ≡ true
among_by names q y qs h ih true e i = subst (λ z. is_among names z ≡ true) (sym (names_equal q y e)) h
among_by names q y qs h ih false e i = ih i

pub among_all : (names : Names) (q : List ℕ) (qs : Names) → AllByRecursion (λ y. is_among names y ≡ true) qs → is_among qs q ≡ true → is_among names q ≡ true
among_all names q [] h i = absurd cc
among_all names q (y ∷ qs) h i = among_by names q y qs h.0 (among_all names q qs h.1) (bytes_eq q y) refl i

-- ---- A store with a variable more

module _ (names : Names) (g : Renaming) where
  named_by : (t s : Store) (x : List ℕ) (v : Variable) → Includes names g t s → is_among names x ≡ true → (y : List ℕ) (u : Variable) (b : Bool) → bytes_eq x y ≡ b → at_name (put t x v) y ≡ Some u → is_among names y ≡ true
  named_by t s x v i hx y u true e h = ap (is_among names) (sym (names_equal x y e)) ∙ hx
  named_by t s x v i hx y u false e h = i.named y u (sym (put_other t x y v e) ∙ h)

  found_by : (t s : Store) (x : List ℕ) (v : Variable) → Includes names g t s → at_name s (g x) ≡ Some v → (y : List ℕ) (u : Variable) (b : Bool) → bytes_eq x y ≡ b → at_name (put t x v) y ≡ Some u → at_name s (g y) ≡ Some u
  found_by t s x v i there y u true e h =
      let same : x ≡ y = names_equal x y e in
      let is : v ≡ u = some_is v u (sym (put_same t x v) ∙ ap (at_name (put t x v)) same ∙ h) in
      ap (λ z. at_name s (g z)) (sym same) ∙ there ∙ ap Some is
  found_by t s x v i there y u false e h = i.by y u (sym (put_other t x y v e) ∙ h)

  -- that is in the second store already
  includes_put : (t s : Store) (x : List ℕ) (v : Variable) → Includes names g t s → is_among names x ≡ true → at_name s (g x) ≡ Some v → Includes names g (put t x v) s
  includes_put t s x v i hx there = record { named = λ y u h. named_by t s x v i hx y u (bytes_eq x y) refl h; by = λ y u h. found_by t s x v i there y u (bytes_eq x y) refl h }

module _ (names : Names) (w : World) (f g : Renaming) (t : Store) (at : Span) (apart : AreKeptApart names g) where
  -- Behind the declarations the parameters have their arguments, under their new names, and all else stays.
  pub record HasArgs (ps : List PlainParam) (es : Expressions) (xs : List Scalar) (s : State) : Type 0 where
    pub state : State
    pub is : meanings (arguments_given at g ps f es) w s ≡ Ok (GoesOn state)
    pub includes : Includes names g (store_of ps xs) state.store
    pub stays : (y : List ℕ) → ((q : List ℕ) → is_among (names_of_params ps) q ≡ true → g q ≡ y → ⊥) → at_name s.store y ≡ at_name state.store y
    pub lines : s.lines ≡ state.lines
    pub turns : s.turns ≡ state.turns

  -- no parameter takes the name of what an argument may read
  abbrev pub AreAway : List PlainParam → Type 0
  AreAway ps = (y : List ℕ) (v : Variable) → at_name t y ≡ Some v → (q : List ℕ) → is_among (names_of_params ps) q ≡ true → g q ≡ f y → ⊥

  abbrev Found : Store → Type 0
  Found s = (y : List ℕ) (v : Variable) → at_name t y ≡ Some v → at_name s (f y) ≡ Some v

  none_given : (s : State) (store : Store) → ((y : List ℕ) (v : Variable) → at_name store y ≡ Some v → ⊥) → Includes names g store s.store
  none_given s store h = record { named = λ y v e. absurd (h y v e); by = λ y v e. absurd (h y v e) }

  none_there : (y : List ℕ) (v : Variable) → at_name {V = Variable} [] y ≡ Some v → ⊥
  none_there y v e = absurd cc

  put_away : (s : Store) (x : List ℕ) (u : Variable) (y : List ℕ) (v : Variable) → (x ≡ y → ⊥) → at_name s y ≡ Some v → at_name (put s x u) y ≡ Some v
  put_away s x u y v n h = put_other s x y u (unequal x y n (bytes_eq x y) refl) ∙ h

  module _ (p : PlainParam) (ps : List PlainParam) (e : Expression) (es : Expressions) (s : State) (xs : List Scalar) (v : Value) (x : Scalar)
      (twice : is_among (names_of_params ps) p.name ≡ false) (plain : is_set_type p.ty ≡ false) (named : is_among names p.name ≡ true)
      (all : AllByRecursion (λ y. is_among names y ≡ true) (names_of_params ps)) where
    abbrev variable : Variable
    variable = record { value = v; is_set = is_set_type p.ty }

    abbrev next : State
    next = with_variable s (g p.name) variable

    not_again : (q : List ℕ) → is_among (names_of_params ps) q ≡ true → g q ≡ g p.name → ⊥
    not_again q h e =
        let same : q ≡ p.name = apart q p.name (among_all names q (names_of_params ps) all h) named e in
        clash (is_among (names_of_params ps) p.name) (subst (λ z. is_among (names_of_params ps) z ≡ true) same h) twice

    given : v ≡ One x → value_of (renamed f e) w s.store ≡ Ok v → HasArgs ps es xs next → HasArgs (p ∷ ps) (And e es) (x ∷ xs) s
    given one value i =
        let held : Variable = plainly (One x) in
        let is_held : variable ≡ held = ap (λ b. record { value = v; is_set = b }) plain ∙ ap (λ (u : Value). record { value = u; is_set = false }) one in
        let there : at_name i.state.store (g p.name) ≡ Some held = sym (i.stays (g p.name) not_again) ∙ put_same s.store (g p.name) variable ∙ ap Some is_held in
        record {
          state = i.state;
          is = ap (λ (o : Result Value Ending). then_do (o >>= λ u. done (with_variable s (g p.name) (record { value = u; is_set = is_set_type p.ty }))) (meanings (arguments_given at g ps f es) w)) value ∙ i.is;
          includes = includes_put names g (store_of ps xs) i.state.store p.name held i.includes named there;
          stays = λ y n. sym (put_other s.store (g p.name) y variable (unequal (g p.name) y (n p.name (first_among p.name (names_of_params ps))) (bytes_eq (g p.name) y) refl))
              ∙ i.stays y (λ q h. n q (or_right (bytes_eq q p.name) (is_among (names_of_params ps) q) h));
          lines = i.lines;
          turns = i.turns;
        }

  pub args : (ps : List PlainParam) (es : Expressions) (s : State) (xs : List Scalar) → AreApart (names_of_params ps) → AllByRecursion (λ (p : PlainParam). is_set_type p.ty ≡ false) ps
      → AllByRecursion (λ y. is_among names y ≡ true) (names_of_params ps) → AreAway ps → Found s.store → scalars_of es w t ≡ Ok xs → HasArgs ps es xs s
  args [] es s xs twice plain named away found h = record { state = s; is = refl; includes = none_given s [] none_there; stays = λ y n. refl; lines = refl; turns = refl }
  args (p ∷ ps) NoMore s xs twice plain named away found h =
      let none : [] ≡ xs = ok_is [] xs h in
      record { state = s; is = refl; includes = subst (λ ys. Includes names g (store_of (p ∷ ps) ys) s.store) none (none_given s [] none_there); stays = λ y n. refl; lines = refl; turns = refl }
  args (p ∷ ps) (And e es) s xs twice plain named away found h =
      let a = bound (value_of e w t) _ xs h in
      let b = bound (as_scalar a.0) _ xs a.2 in
      let c = bound (scalars_of es w t) _ xs b.2 in
      let whole : b.0 ∷ c.0 ≡ xs = ok_is (b.0 ∷ c.0) xs c.2 in
      let value : value_of (renamed f e) w s.store ≡ Ok a.0 = under_is (value_of e w t) _ a.0 a.1 (under_value f t s.store found w e) in
      let further : HasArgs ps es c.0 (next p ps e es s c.0 a.0 b.0 twice.0 plain.0 named.0 named.1) =
      args ps es (next p ps e es s c.0 a.0 b.0 twice.0 plain.0 named.0 named.1) c.0 twice.1 plain.1 named.1 (λ y v there q i. away y v there q (or_right (bytes_eq q p.name) (is_among (names_of_params ps) q) i))
      (λ y v there. put_away s.store (g p.name) _ (f y) v (away y v there p.name (first_among p.name (names_of_params ps))) (found y v there)) c.1 in
      subst (λ ys. HasArgs (p ∷ ps) (And e es) ys s) whole (given p ps e es s c.0 a.0 b.0 twice.0 plain.0 named.0 named.1 (scalar_is a.0 b.0 b.1) value further)

-- Statements with calls do what the statements in which the calls are replaced do, with their names renamed, if each call is replaced so.
use Rattle.std.proofs.Common.{◌≡◌, ℕ, zero, suc, ◌≤◌, Bool, true, false, List, [], ◌∷◌, ◌++◌, Option, Some, None, Result, Ok, Err, refl, sym, ap, ap₂, ◌∙◌, subst, cond, arith}
use Rattle.std.specs.List.{AllByRecursion}
use Rattle.std.specs.Str.{bytes_eq}
use Rattle.std.specs.Option.{option_map}
use Rattle.qbs_base.specs.declared.scalar.Row.{Row}
use Rattle.qbs_base.specs.declared.scalar.Value.{Value}
use Rattle.qbs_base.specs.Named.{at_name}
use Rattle.java_ast.specs.Names.{Names, is_among}
use Rattle.java_ast.specs.Tree as tree
use Rattle.java_ast.specs.Tree.{Expression, Statement, Statements, Nothing, Then}
use Rattle.java_mean.specs.declared.ending.Ending.{Ending}
use Rattle.java_mean.specs.declared.ending.Ending.TheVariants as endings
use Rattle.java_mean.specs.Endings.{◌>>=◌, found}
use Rattle.java_mean.specs.Expression.{value_of, as_rows, as_scalar, as_bool, as_member, element}
use Rattle.java_mean.specs.Refines.{Related, Exits, Passes, PassesBack, Follows, Simulates, followed_by}
use Rattle.java_mean.specs.Statement.{State, Passed, GoesOn, Leaves, Returns, Does, Test, done, then_do, then_turn, branch, fewer, turn, with_variable, with_line, each, repeat, test_of, returned, meaning, meanings}
use Rattle.java_mean.specs.Store.{Store, Variable, put, plainly}
use Rattle.java_mean.specs.World.{World}
use Rattle.java_mean.proofs.Puts.{names_equal, name_same, put_same, put_other}
use Rattle.java_mean.proofs.Simulates.{Loops, follows_then, follows_turn, follows_branch}
use Rattle.java_calls.specs.Renaming.{Renaming, renamed}
use Rattle.java_calls.proofs.Old.{IsOld, AreKeptApart, Includes, Stands}
use Rattle.java_calls.proofs.Under.{Under, under_itself, under_bind, under_found, under_value}

pub follows_under : {A : Type 0} (r : Related) (k : Exits) (o q : Result A Ending) (f g : A → Result Passed Ending) → k.stuck → Under o q → ((x : A) → Follows r k (f x) (g x)) → Follows r k (o >>= f) (q >>= g)
follows_under r k (Ok x) q f g free e h = subst (λ z. Follows r k (f x) (z >>= g)) (sym e) (h x)
follows_under r k (Err (endings.Faulted fault at)) q f g free u h = tt
follows_under r k (Err endings.OutOfTurns) q f g free u h = tt
follows_under r k (Err endings.Stuck) q f g free u h = free

module _ (names : Names) (f : Renaming) (suits : AreKeptApart names f) (taken : ℕ) (base : Store) where
  -- the second state has the first's variables, renamed, and what was in the base and isn't renamed so; the same lines and turns
  pub record Kin (t s : State) : Type 0 where
    pub includes : Includes names f t.store s.store
    pub stands : Stands names taken f base s.store
    pub lines : t.lines ≡ s.lines
    pub turns : t.turns ≡ s.turns

  abbrev pub kin_ways : Exits
  kin_ways = record { leaves = Kin; returns = λ v. Unit {0}; stuck = Unit {0} }

  pub loops : Loops Kin kin_ways kin_ways
  loops = record { leaves = λ s t k. k; returns = λ v u. u; stuck = λ u. u }

  apart_names : (x y : List ℕ) → is_among names x ≡ true → is_among names y ≡ true → bytes_eq x y ≡ false → (b : Bool) → bytes_eq (f x) (f y) ≡ b → b ≡ false
  apart_names x y hx hy n true e = let same : x ≡ y = suits x y hx hy (names_equal (f x) (f y) e) in let k : bytes_eq x y ≡ true = ap (bytes_eq x) (sym same) ∙ name_same x in absurd cc
  apart_names x y hx hy n false e = refl

  some_is : {A : Type 0} (a b : A) → Some a ≡ Some b → a ≡ b
  some_is a b e = cc

  put_named : (t s : Store) (i : Includes names f t s) (x : List ℕ) (v : Variable) → is_among names x ≡ true → (y : List ℕ) (u : Variable) (b : Bool) → bytes_eq x y ≡ b → at_name (put t x v) y ≡ Some u → is_among names y ≡ true
  put_named t s i x v hx y u true e h = ap (is_among names) (sym (names_equal x y e)) ∙ hx
  put_named t s i x v hx y u false e h = i.named y u (sym (put_other t x y v e) ∙ h)

  put_by : (t s : Store) (i : Includes names f t s) (x : List ℕ) (v : Variable) → is_among names x ≡ true → (y : List ℕ) (u : Variable) (b : Bool) → bytes_eq x y ≡ b → at_name (put t x v) y ≡ Some u → at_name (put s (f x) v) (f y) ≡ Some u
  put_by t s i x v hx y u true e h =
      let same : x ≡ y = names_equal x y e in
      let is : v ≡ u = some_is v u (sym (put_same t x v) ∙ ap (at_name (put t x v)) same ∙ h) in
      ap (at_name (put s (f x) v)) (ap f (sym same)) ∙ put_same s (f x) v ∙ ap Some is
  put_by t s i x v hx y u false e h =
      let there : at_name t y ≡ Some u = sym (put_other t x y v e) ∙ h in
      put_other s (f x) (f y) v (apart_names x y hx (i.named y u there) e (bytes_eq (f x) (f y)) refl) ∙ i.by y u there

  other_than : (x y : List ℕ) → (f x ≡ y → ⊥) → (b : Bool) → bytes_eq (f x) y ≡ b → b ≡ false
  other_than x y n true e = absurd (n (names_equal (f x) y e))
  other_than x y n false e = refl

  pub kin_put : (t s : State) (x : List ℕ) (v : Variable) → is_among names x ≡ true → Kin t s → Kin (with_variable t x v) (with_variable s (f x) v)
  kin_put t s x v hx k =
      record {
        includes = record { named = λ y u h. put_named t.store s.store k.includes x v hx y u (bytes_eq x y) refl h; by = λ y u h. put_by t.store s.store k.includes x v hx y u (bytes_eq x y) refl h };
        stands = record { by = λ y n old. k.stands.by y n old ∙ sym (put_other s.store (f x) y v (other_than x y (n x hx) (bytes_eq (f x) y) refl)) };
        lines = k.lines;
        turns = k.turns;
      }

  pub kin_line : (t s : State) (line : List ℕ) → Kin t s → Kin (with_line t line) (with_line s line)
  kin_line t s line k = record { includes = k.includes; stands = k.stands; lines = ap (λ (l : List (List ℕ)). l ++ line ∷ []) k.lines; turns = k.turns }

  pub kin_goes : (t s : State) → Kin t s → Follows Kin kin_ways (done t) (done s)
  kin_goes t s k = record { state = s; is = refl; holds = k }

  fewer_kin : (n m : ℕ) (t s : Store) (l l' : List (List ℕ)) (g g' : Does) → n ≡ m → Includes names f t s → Stands names taken f base s → l ≡ l' → ((u v : State) → Kin u v → Follows Kin kin_ways (g u) (g' v)) → Follows Kin kin_ways (fewer n t l >>= g) (fewer m s l' >>= g')
  fewer_kin zero m t s l l' g g' e i st el h = tt
  fewer_kin (suc n) zero t s l l' g g' e i st el h = absurd (omega arith)
  fewer_kin (suc n) (suc m) t s l l' g g' e i st el h = h (record { store = t; lines = l; turns = n }) (record { store = s; lines = l'; turns = m }) (record { includes = i; stands = st; lines = el; turns = omega arith })

  pub kin_turn : (t s : State) (g g' : Does) → Kin t s → ((u v : State) → Kin u v → Follows Kin kin_ways (g u) (g' v)) → Follows Kin kin_ways (turn t >>= g) (turn s >>= g')
  kin_turn t s g g' k h = fewer_kin t.turns s.turns t.store s.store t.lines s.lines g g' k.turns k.includes k.stands k.lines h

  pub kin_each : (x : List ℕ) (g g' : Does) → is_among names x ≡ true → Simulates Kin Kin kin_ways g g' → (rows : List Row) → Simulates Kin Kin kin_ways (each rows x g) (each rows (f x) g')
  kin_each x g g' hx sim [] = record { by = λ t s k. kin_goes t s k }
  kin_each x g g' hx sim (row ∷ rows) =
      record {
        by = λ t s k. kin_turn t s (λ u. then_turn (g (with_variable u x (plainly (element row)))) (each rows x g)) (λ u. then_turn (g' (with_variable u (f x) (plainly (element row)))) (each rows (f x) g')) k (λ u v j.
            follows_turn Kin Kin kin_ways kin_ways (g (with_variable u x (plainly (element row)))) (g' (with_variable v (f x) (plainly (element row)))) (each rows x g) (each rows (f x) g') loops (sim.by _ _ (kin_put u v x (plainly (element row)) hx j)) (kin_each x g g' hx sim rows).by);
      }

  -- a test that is the same in kin states, where it gives something
  abbrev pub Tested : Test → Test → Type 0
  Tested test test' = (t s : State) → Kin t s → Under (test t.store) (test' s.store)

  pub kin_repeat : (test test' : Test) (g g' : Does) → Tested test test' → Simulates Kin Kin kin_ways g g' → (n : ℕ) → Simulates Kin Kin kin_ways (repeat n test g) (repeat n test' g')
  kin_repeat test test' g g' same sim zero =
      record { by = λ t s k. follows_under Kin kin_ways (test t.store) (test' s.store) _ _ tt (same t s k) (λ b. follows_branch Kin kin_ways b _ _ _ _ t s tt (kin_goes t s k)) }
  kin_repeat test test' g g' same sim (suc n) =
      record {
        by = λ t s k. follows_under Kin kin_ways (test t.store) (test' s.store) _ _ tt (same t s k) (λ b. follows_branch Kin kin_ways b (λ v. turn v >>= λ u. then_turn (g u) (repeat n test g)) done (λ v. turn v >>= λ u. then_turn (g' u) (repeat n test' g')) done t s
            (kin_turn t s (λ u. then_turn (g u) (repeat n test g)) (λ u. then_turn (g' u) (repeat n test' g')) k (λ u v j. follows_turn Kin Kin kin_ways kin_ways (g u) (g' v) (repeat n test g) (repeat n test' g') loops (sim.by u v j) (kin_repeat test test' g g' same sim n).by))
            (kin_goes t s k));
      }

  pub kin_value : (w : World) (e : Expression) (t s : State) → Kin t s → Under (value_of e w t.store) (value_of (renamed f e) w s.store)
  kin_value w e t s k = under_value f t.store s.store k.includes.by w e

  pub kin_test : (w : World) (e : Expression) → Tested (test_of e w) (test_of (renamed f e) w)
  kin_test w e t s k = under_bind _ _ _ _ (under_bind _ _ _ _ (kin_value w e t s k) (λ v. under_itself _)) (λ x. under_itself _)

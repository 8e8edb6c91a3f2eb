-- What is visible at each site of a typed loop: rows of the loops round it, flags of the blocks round it, and what is
-- visible before the loop.
use Rattle.std.proofs.Common.{◌≡◌, ℕ, ◌+◌, ◌≤◌, Bool, true, false, List, [], ◌∷◌, ◌++◌, length, Option, Some, None, refl, sym, ap, ◌∙◌, subst, cond, bytes_eq, slice_get, arith, length-append}
use Rattle.std.specs.List.{AllByRecursion}
use Rattle.std.proofs.lemmas.Bool.{cond-false}
use Rattle.java_ast.specs.Tree.{Expression}
use Rattle.java_mean.specs.declared.types.JavaType.{JavaType}
use Rattle.java_mean.specs.Types.{Types, with_type}
use Rattle.java_mean.proofs.Members.{all_added}
use Rattle.loop_text.specs.Statements.Loops.{is_loop}
use Rattle.loop_text.specs.declared.sites.bindings.Binding.{Binding}
use Rattle.loop_text.specs.declared.sites.bindings.Binding.TheVariants.{Row, Local, Outer}
use Rattle.loop_text.specs.Sites.Sites.{Test, Round, Site, binding_at, declared_name, in_loop, in_branch}
use Rattle.java_loops.proofs.Typing.BoundTyping.{new_other, seen_with}
use Rattle.java_loops.proofs.Standing.StandingWithin.{test_of}

-- ---- Bindings

-- a number is among these
pub data Among : List ℕ → ℕ → Type 0 where
  first : (j : ℕ) (js : List ℕ) → Among (j ∷ js) j
  later : (i j : ℕ) (js : List ℕ) → Among js j → Among (i ∷ js) j

-- a loop round a place
pub record Walked (sites : List Site) (r : Round) (j : ℕ) : Type 0 where
  pub site : Site
  pub there : slice_get sites j ≡ Some site
  pub loops : is_loop site.statement ≡ true
  pub inside : Among r.loops j

-- the second round stands where the first does, and maybe further in, where no `if` has fewer loops round it
pub record Under (r q : Round) : Type 0 where
  pub loops : List ℕ
  pub tests : List Test
  pub is_loops : q.loops ≡ r.loops ++ loops
  pub is_tests : q.tests ≡ r.tests ++ tests
  pub levels : AllByRecursion (λ (t : Test). length r.loops ≤ t.level) tests

nothing_more : {A : Type 0} (xs : List A) → xs ≡ xs ++ []
nothing_more [] = refl
nothing_more (x ∷ xs) = ap (λ l. x ∷ l) (nothing_more xs)

pub under_self : (r : Round) → Under r r
under_self r = record { loops = []; tests = []; is_loops = nothing_more r.loops; is_tests = nothing_more r.tests; levels = tt }

-- a declaration in a block round a place
pub record Declared (sites : List Site) (r : Round) (d : ℕ) (x : List ℕ) : Type 0 where
  pub site : Site
  pub there : slice_get sites d ≡ Some site
  pub declares : declared_name site.statement ≡ Some x
  pub under : Under site.round r

-- What a visible variable of a type is bound to, where P says what rows have the type, and g are the types outside.
abbrev pub IsBound : (ℕ → JavaType → Type 0) → Types → List Site → Round → List ℕ → JavaType → Binding → Type 0
IsBound P g sites r x k (Row j) = Walked sites r j × P j k
IsBound P g sites r x k (Local d) = Declared sites r d x
IsBound P g sites r x k Outer = g x ≡ Some k

pub record Scope (P : ℕ → JavaType → Type 0) (g : Types) (sites : List Site) (r : Round) (n : ℕ) (now : Types) : Type 0 where
  pub bound : (x : List ℕ) (k : JavaType) → now x ≡ Some k → IsBound P g sites r x k (binding_at sites n x)
  pub outer : (x : List ℕ) (k : JavaType) → g x ≡ Some k → binding_at sites n x ≡ Outer
  pub extends : (x : List ℕ) (k : JavaType) → g x ≡ Some k → now x ≡ Some k

-- the second round is the first one or stands further in
pub record Inside (r q : Round) : Type 0 where
  pub loops : (j : ℕ) → Among r.loops j → Among q.loops j
  pub under : (p : Round) → Under p r → Under p q

among_left : (js ks : List ℕ) (j : ℕ) → Among js j → Among (js ++ ks) j
among_left _ ks _ (first j js) = first j (js ++ ks)
among_left _ ks _ (later i j js a) = later i j (js ++ ks) (among_left js ks j a)

pub among_last : (js : List ℕ) (n : ℕ) → Among (js ++ n ∷ []) n
among_last [] n = first n []
among_last (j ∷ js) n = later j n (js ++ n ∷ []) (among_last js n)

append_three : {A : Type 0} (a b c : List A) → (a ++ b) ++ c ≡ a ++ (b ++ c)
append_three [] b c = refl
append_three (x ∷ a) b c = ap (λ l. x ∷ l) (append_three a b c)

pub further_loop : (p r : Round) (n : ℕ) → Under p r → Under p (in_loop r n)
further_loop p r n u = record { loops = u.loops ++ n ∷ []; tests = u.tests; is_loops = ap (λ l. l ++ n ∷ []) u.is_loops ∙ append_three p.loops u.loops (n ∷ []); is_tests = u.is_tests; levels = u.levels }

pub longer : (p r : Round) → Under p r → length p.loops ≤ length r.loops
longer p r u = let e : length r.loops ≡ length (p.loops ++ u.loops) = ap length u.is_loops in let f : length (p.loops ++ u.loops) ≡ length p.loops + length u.loops = length-append p.loops u.loops in omega (arith, e, f)

pub further_branch : (p r : Round) (n : ℕ) (c : Expression) (holds : Bool) → Under p r → Under p (in_branch r n c holds)
further_branch p r n c holds u = record { loops = u.loops; tests = u.tests ++ test_of r n c holds ∷ []; is_loops = u.is_loops; is_tests = ap (λ l. l ++ test_of r n c holds ∷ []) u.is_tests ∙ append_three p.tests u.tests (test_of r n c holds ∷ []); levels = all_added (λ (t : Test). length p.loops ≤ t.level) u.tests (test_of r n c holds) u.levels (longer p r u) }

pub inside_self : (r : Round) → Inside r r
inside_self r = record { loops = λ j a. a; under = λ p u. u }

pub inside_loop : (r : Round) (n : ℕ) → Inside r (in_loop r n)
inside_loop r n = record { loops = λ j a. among_left r.loops (n ∷ []) j a; under = λ p u. further_loop p r n u }

pub inside_branch : (r : Round) (n : ℕ) (c : Expression) (holds : Bool) → Inside r (in_branch r n c holds)
inside_branch r n c holds = record { loops = λ j a. a; under = λ p u. further_branch p r n c holds u }

bound_inside : (P : ℕ → JavaType → Type 0) (g : Types) (sites : List Site) (r q : Round) (x : List ℕ) (k : JavaType) (b : Binding) → Inside r q → IsBound P g sites r x k b → IsBound P g sites q x k b
bound_inside P g sites r q x k (Row j) i h = (record { site = h.0.site; there = h.0.there; loops = h.0.loops; inside = i.loops j h.0.inside }, h.1)
bound_inside P g sites r q x k (Local d) i h = record { site = h.site; there = h.there; declares = h.declares; under = i.under h.site.round h.under }
bound_inside P g sites r q x k Outer i h = h

-- ---- Steps

-- what is visible is bound at the second place as at the first
abbrev pub Keeps : List Site → Types → ℕ → ℕ → Type 0
Keeps sites now n m = (x : List ℕ) (k : JavaType) → now x ≡ Some k → binding_at sites m x ≡ binding_at sites n x

pub scope_kept : (P : ℕ → JavaType → Type 0) (g now : Types) (sites : List Site) (r q : Round) (n m : ℕ) → Inside r q → Keeps sites now n m → Scope P g sites r n now → Scope P g sites q m now
scope_kept P g now sites r q n m i keeps s =
    record {
      bound = λ x k h. subst (λ b. IsBound P g sites q x k b) (sym (keeps x k h)) (bound_inside P g sites r q x k (binding_at sites n x) i (s.bound x k h));
      outer = λ x k h. keeps x k (s.extends x k h) ∙ s.outer x k h;
      extends = s.extends;
    }

new_step : (P : ℕ → JavaType → Type 0) (g : Types) (sites : List Site) (q : Round) (x y : List ℕ) (o : JavaType) (b c now : Binding) (h : Bool) (e : Option JavaType) (k : JavaType) → bytes_eq x y ≡ h → cond h (Some o) e ≡ Some k → now ≡ cond h b c → ((j : JavaType) → j ≡ o → bytes_eq x y ≡ true → IsBound P g sites q y j b) → (e ≡ Some k → IsBound P g sites q y k c) → IsBound P g sites q y k now
new_step P g sites q x y o b c now true e k same i is new old = let t : k ≡ o = cc in subst (λ z. IsBound P g sites q y k z) (sym is) (new k t same)
new_step P g sites q x y o b c now false e k same i is new old = subst (λ z. IsBound P g sites q y k z) (sym is) (old i)

kept_step : (b c : Binding) (h : Bool) → h ≡ false → cond h b c ≡ c
kept_step b c h e = cond-false h b c e

-- a new name is bound behind this place, and all others as they were
pub scope_new : (P : ℕ → JavaType → Type 0) (g now : Types) (sites : List Site) (r q : Round) (n m : ℕ) (x : List ℕ) (o : JavaType) (b : Binding) → Inside r q → now x ≡ None → ((y : List ℕ) → binding_at sites m y ≡ cond (bytes_eq x y) b (binding_at sites n y)) → ((y : List ℕ) → bytes_eq x y ≡ true → IsBound P g sites q y o b) → Scope P g sites r n now → Scope P g sites q m (with_type x (Some o) now)
scope_new P g now sites r q n m x o b i new is bound s =
    record {
      bound = λ y k h. new_step P g sites q x y o b (binding_at sites n y) (binding_at sites m y) (bytes_eq x y) (now y) k refl h (is y) (λ j t e. subst (λ z. IsBound P g sites q y z b) (sym t) (bound y e)) (λ e. bound_inside P g sites r q y k (binding_at sites n y) i (s.bound y k e));
      outer = λ y k h. is y ∙ kept_step b (binding_at sites n y) (bytes_eq x y) (new_other now y x k new (s.extends y k h)) ∙ s.outer y k h;
      extends = λ y k h. seen_with now y x (Some o) k new (s.extends y k h);
    }

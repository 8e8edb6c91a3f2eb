-- What helpers that fit do.
use Rattle.std.proofs.Common.{◌≡◌, ℕ, Bool, true, false, cond, not, ◌&&◌, ◌||◌, List, [], ◌∷◌, ◌++◌, Option, Some, None, Result, Ok, Err, refl, sym, ap, ◌∙◌, subst}
use Rattle.std.specs.List.{AllByRecursion, list_all}
use Rattle.std.specs.Prelude.{bytes_eq}
use Rattle.qbs_base.specs.declared.scalar.Scalar.{Scalar}
use Rattle.qbs_base.specs.Named.{at_name}
use Rattle.java_ast.specs.Names.{Names, is_among, names_of_params}
use Rattle.java_ast.specs.Tree as tree
use Rattle.java_ast.specs.Tree.{Spelled, Statement, Declare, Statements, Nothing, Then, PlainParam, PlainMethod}
use Rattle.java_mean.specs.declared.ending.Ending.{Ending}
use Rattle.java_mean.specs.Outcome.{store_of}
use Rattle.java_mean.specs.Statement.{State, Passed, GoesOn, Leaves, Returns, Does, then_do, is_set_type}
use Rattle.java_mean.specs.Store.{Variable}
use Rattle.java_mean.specs.World.{World}
use Rattle.call_parts.specs.Kinds.{is_scalar_type}
use Rattle.java_calls.specs.Calling.{Callee, callee_of, meaning_with, meanings_with}
use Rattle.java_calls.specs.Fitting as fitting
use Rattle.java_calls.specs.Fitting.{declares, declares_among, both_or_none, declares_so, ends_declared, are_apart, fits_kept, is_fitting}
use Rattle.java_calls.specs.Inlining.{without_last, kept_variable}
use Rattle.java_calls.proofs.SetMarks.{HasMark, KeepsMark, declared_mark}

-- The variable that a helper returns is a set where its result is one: wherever its body goes on, in a store of its own.
abbrev pub IsSetAsItsResult : List PlainMethod → PlainMethod → Type 0
IsSetAsItsResult ms m =
    (v : List ℕ) (ty : Spelled) → kept_variable m ≡ Some v → m.result ≡ Some ty
    → (w : World) (depth : ℕ) (args : List Scalar) (lines : List (List ℕ)) (turns : ℕ) (u : State) (held : Variable)
    → meanings_with (callee_of depth w ms) (without_last m.body) w (record { store = store_of m.params args; lines = lines; turns = turns }) ≡ Ok (GoesOn u)
    → at_name u.store v ≡ Some held
    → held.is_set ≡ is_set_type ty

abbrev pub AreApart : Names → Type 0
AreApart [] = Unit {0}
AreApart (x ∷ xs) = (is_among xs x ≡ false) × AreApart xs

pub record IsFitting (ms : List PlainMethod) (m : PlainMethod) : Type 0 where
  pub apart : AreApart (names_of_params m.params)
  pub plain : AllByRecursion (λ (p : PlainParam). is_set_type p.ty ≡ false) m.params
  pub other : (v : List ℕ) → kept_variable m ≡ Some v → is_among (names_of_params m.params) v ≡ false
  pub many : (v : List ℕ) (ty : Spelled) → kept_variable m ≡ Some v → m.result ≡ Some ty → is_scalar_type ty ≡ false
  pub set : IsSetAsItsResult ms m

abbrev pub AreFitting : List PlainMethod → Type 0
AreFitting ms = AllByRecursion (IsFitting ms) ms

both_true : (a b : Bool) → a && b ≡ true → (a ≡ true) × (b ≡ true)
both_true true true h = (refl, refl)
both_true true false h = absurd cc
both_true false b h = absurd cc

is_not : (a : Bool) → not a ≡ true → a ≡ false
is_not true h = absurd cc
is_not false h = refl

same_bools : (a b : Bool) → both_or_none a b ≡ true → b ≡ a
same_bools true b h = h
same_bools false b h = is_not b h

names_apart : (xs : Names) → are_apart xs ≡ true → AreApart xs
names_apart [] h = tt
names_apart (x ∷ xs) h = let b = both_true (not (is_among xs x)) (are_apart xs) h in (is_not (is_among xs x) b.0, names_apart xs b.1)

no_sets : (ps : List PlainParam) → list_all (λ (p : PlainParam). not (is_set_type p.ty)) ps ≡ true → AllByRecursion (λ (p : PlainParam). is_set_type p.ty ≡ false) ps
no_sets [] h = tt
no_sets (p ∷ ps) h = let b = both_true (not (is_set_type p.ty)) (list_all (λ (p : PlainParam). not (is_set_type p.ty)) ps) h in (is_not (is_set_type p.ty) b.0, no_sets ps b.1)

-- ---- The mark of the variable behind its last declaration

goes_through : (o : Result Passed Ending) (f : Does) (u : State) → then_do o f ≡ Ok (GoesOn u) → (t : State) × (o ≡ Ok (GoesOn t)) × (f t ≡ Ok (GoesOn u))
goes_through (Ok (GoesOn t)) f u h = (t, refl, h)
goes_through (Ok (Leaves t)) f u h = absurd cc
goes_through (Ok (Returns t v)) f u h = absurd cc
goes_through (Err e) f u h = absurd cc

module _ (callee : Callee) (w : World) (set : Bool) (v : List ℕ) where
  last_mark : (s : Statement) (p : Statements) → declares_among v p ≡ false → declares_so set v s ≡ true → (t u : State) → meanings_with callee (Then s p) w t ≡ Ok (GoesOn u) → HasMark v set u.store
  last_mark (Declare at ty x e) p n d t u goes =
      let b = both_true (bytes_eq x v) (both_or_none set (is_set_type ty)) d in
      subst (KeepsMark v set) goes (declared_mark v set callee w at ty x e p t b.0 (same_bools set (is_set_type ty) b.1) n)
  last_mark s p n d t u goes = absurd cc

  mark_by : (s : Statement) (p : Statements) → (ends_declared set v p ≡ true → (t u : State) → meanings_with callee p w t ≡ Ok (GoesOn u) → HasMark v set u.store)
      → (b : Bool) → declares_among v p ≡ b → cond b (ends_declared set v p) (declares_so set v s) ≡ true → (t u : State) → meanings_with callee (Then s p) w t ≡ Ok (GoesOn u) → HasMark v set u.store
  mark_by s p ih true e h t u goes = let g = goes_through (meaning_with callee s w t) (meanings_with callee p w) u goes in ih h g.0 u g.2
  mark_by s p ih false e h t u goes = last_mark s p e h t u goes

  ends_mark : (p : Statements) → ends_declared set v p ≡ true → (t u : State) → meanings_with callee p w t ≡ Ok (GoesOn u) → HasMark v set u.store
  ends_mark Nothing h t u goes = absurd cc
  ends_mark (Then s p) h t u goes = mark_by s p (ends_mark p) (declares_among v p) refl h t u goes

-- ---- Helpers

record FitsKept (ty : Spelled) (params : Names) (before : Statements) (v : List ℕ) : Type 0 where
  other : is_among params v ≡ false
  many : is_scalar_type ty ≡ false
  set : ends_declared (is_set_type ty) v before ≡ true

some_is : {A : Type 0} (a b : A) → Some a ≡ Some b → a ≡ b
some_is a b e = cc

fits_so : (ty : Spelled) (params : Names) (before : Statements) (v : List ℕ) → fits_kept (Some ty) params before (Some v) ≡ true → FitsKept ty params before v
fits_so ty params before v h =
    let b = both_true (not (is_among params v)) (not (is_scalar_type ty) && ends_declared (is_set_type ty) v before) h in
    let d = both_true (not (is_scalar_type ty)) (ends_declared (is_set_type ty) v before) b.1 in
    record { other = is_not (is_among params v) b.0; many = is_not (is_scalar_type ty) d.0; set = d.1 }

fits_some : (result : Option Spelled) (params : Names) (before : Statements) (v : List ℕ) → fits_kept result params before (Some v) ≡ true → (ty : Spelled) × (result ≡ Some ty) × FitsKept ty params before v
fits_some None params before v h = absurd cc
fits_some (Some ty) params before v h = (ty, refl, fits_so ty params before v h)

module _ (ms : List PlainMethod) (m : PlainMethod) (h : is_fitting m ≡ true) where
  parts : (are_apart (names_of_params m.params) ≡ true) × (list_all (λ (p : PlainParam). not (is_set_type p.ty)) m.params ≡ true) × (fits_kept m.result (names_of_params m.params) (without_last m.body) (kept_variable m) ≡ true)
  parts =
      let a = both_true (are_apart (names_of_params m.params)) (list_all (λ (p : PlainParam). not (is_set_type p.ty)) m.params && fits_kept m.result (names_of_params m.params) (without_last m.body) (kept_variable m)) h in
      let b = both_true (list_all (λ (p : PlainParam). not (is_set_type p.ty)) m.params) (fits_kept m.result (names_of_params m.params) (without_last m.body) (kept_variable m)) a.1 in
      (a.0, b.0, b.1)

  of_kept : (v : List ℕ) → kept_variable m ≡ Some v → (ty : Spelled) × (m.result ≡ Some ty) × FitsKept ty (names_of_params m.params) (without_last m.body) v
  of_kept v k = fits_some m.result (names_of_params m.params) (without_last m.body) v (ap (fits_kept m.result (names_of_params m.params) (without_last m.body)) (sym k) ∙ parts.2)

  of_both : (v : List ℕ) (ty : Spelled) → kept_variable m ≡ Some v → m.result ≡ Some ty → FitsKept ty (names_of_params m.params) (without_last m.body) v
  of_both v ty k r = let f = of_kept v k in subst (λ z. FitsKept z (names_of_params m.params) (without_last m.body) v) (some_is f.0 ty (sym f.1 ∙ r)) f.2

  fitted : IsFitting ms m
  fitted =
      record {
        apart = names_apart (names_of_params m.params) parts.0;
        plain = no_sets m.params parts.1;
        other = λ v k. (of_kept v k).2.other;
        many = λ v ty k r. (of_both v ty k r).many;
        set = λ v ty k r w depth args lines turns u held goes there.
            ends_mark (callee_of depth w ms) w (is_set_type ty) v (without_last m.body) (of_both v ty k r).set (record { store = store_of m.params args; lines = lines; turns = turns }) u goes held there;
      }

all_fitted : (ms rest : List PlainMethod) → fitting.AreFitting rest → AllByRecursion (IsFitting ms) rest
all_fitted ms [] h = tt
all_fitted ms (m ∷ rest) h = (fitted ms m h.0, all_fitted ms rest h.1)

pub are_fitted : (ms : List PlainMethod) → fitting.AreFitting ms → AreFitting ms
are_fitted ms h = all_fitted ms ms h

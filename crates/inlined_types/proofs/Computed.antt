-- Worked classes compute.
use Rattle.std.proofs.Common.{◌≡◌, ℕ, zero, suc, false, List, [], ◌∷◌, Some, None, refl, sym, ap, ◌∙◌, slice_get}
use Rattle.sql_ast.specs.Worked.{staff_schema}
use Rattle.java_ast.specs.Tree.{PlainMethod}
use Rattle.java_mean.specs.WellTyped.{IsWellTyped}
use Rattle.java_calls.specs.Fitting.{is_fitting, AreFitting}
use Rattle.java_calls.specs.Inlining.{inlined_within}
use Rattle.java_calls.specs.KeepsCalls.{KeepsCalls}
use Rattle.java_calls.specs.Rules.{Site, sites_of, BreaksNone}
use Rattle.java_calls.proofs.Computed.{inlined}
use Rattle.java_calls.proofs.Witness.{breaks_none}
use Rattle.java_calls.specs.Worked.{class_with, calling, replaced}
use Rattle.inlined_types.specs.PlainTypes.{HavePlainTypes}
use Rattle.inlined_types.specs.Worked.{no_query, class_of, with_a_box, with_a_set}
use Rattle.inlined_types.proofs.Fit.{are_fitting, kept}

some_is : {A : Type 0} (a b : A) → Some a ≡ Some b → a ≡ b
some_is a b e = cc

pub plain : HavePlainTypes (class_with calling).methods
plain = (refl, (refl, tt))

pub typed : IsWellTyped staff_schema no_query (class_with replaced)
typed = refl

-- by the laws
pub fits : AreFitting (class_with calling).methods
fits = are_fitting staff_schema no_query (class_with calling) (class_with replaced) plain breaks_none (1, inlined) typed

pub keeps : KeepsCalls (class_with calling) (class_with replaced) staff_schema
keeps = kept staff_schema no_query (class_with calling) (class_with replaced) plain breaks_none (1, inlined) typed

pub boxed : IsWellTyped staff_schema no_query (class_of with_a_box)
boxed = refl

pub boxed_inlined : inlined_within 0 (class_of with_a_box) ≡ Some (class_of with_a_box)
boxed_inlined = refl

pub boxed_unfit : is_fitting with_a_box ≡ false
boxed_unfit = refl

pub set : IsWellTyped staff_schema no_query (class_of with_a_set)
set = refl

pub set_inlined : inlined_within 0 (class_of with_a_set) ≡ Some (class_of with_a_set)
set_inlined = refl

pub set_unfit : is_fitting with_a_set ≡ false
set_unfit = refl

-- ---- A class of one method without calls breaks no rule

none_some : {A : Type 0} (a : A) → None ≡ Some a → ⊥
none_some a e = absurd cc

module _ (m : PlainMethod) (no_calls : sites_of m.body ≡ []) where
  no_site : (i : ℕ) (k : PlainMethod) → slice_get (m ∷ []) i ≡ Some k → (n : ℕ) (site : Site) → slice_get (sites_of k.body) n ≡ Some site → ⊥
  no_site zero k there n site calls = none_some site (ap (λ (sites : List Site). slice_get sites n) (sym (ap (λ (k : PlainMethod). sites_of k.body) (sym (some_is m k there)) ∙ no_calls)) ∙ calls)
  no_site (suc i) k there n site calls = none_some k there

  pub none_broken : BreaksNone (class_of m)
  none_broken rule at b = no_site b.i b.method b.there b.n b.site b.calls

pub boxed_rules : BreaksNone (class_of with_a_box)
boxed_rules = none_broken with_a_box refl

pub set_rules : BreaksNone (class_of with_a_set)
set_rules = none_broken with_a_set refl

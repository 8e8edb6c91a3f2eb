-- Chains of conditions, named from the last operand on.
use Rattle.std.proofs.Common.{◌≡◌, List, [], ◌∷◌, ◌++◌, length, Option, Some, None, refl, sym, ap, ◌∙◌, arith}
use Rattle.std.specs.Global.{Box}
use Rattle.qbs_base.specs.Values.{Schema}
use Rattle.sql_ast.specs.declared.tree.Cond.{Cond}
use Rattle.sql_ast.specs.Names.{Scope, named_condition}
use Rattle.sql_ast.specs.Reading.{condition}
use Rattle.sql_ast.specs.Tree.{Condition}
use Rattle.sql_ast.specs.Tree as plain
use Rattle.sql_ast.specs.Written.{WrittenCondition}
use Rattle.sql_ast.specs.Written as written
use Rattle.sql_parse.specs.declared.fault.Stop.{Stop}
use Rattle.sql_parse.specs.declared.fault.Stop.TheVariants as stops
use Rattle.sql_parse.specs.declared.naming.Step.{Step}
use Rattle.sql_parse.specs.declared.naming.Step.TheVariants as steps
use Rattle.sql_parse.specs.Seen.{Fails}
use Rattle.sql_parse.specs.Steps.{stepped, climbed}

pub climbed_last : (ss ts : List Step) (s : Step) (a : Condition) → ts ≡ ss ++ s ∷ [] → climbed ts a ≡ climbed ss (stepped s a)
unfolding climbed
climbed_last ss ts s a e = ap (λ (us : List Step). climbed us a) e ∙ by ss
  where
    by : (us : List Step) → climbed (us ++ s ∷ []) a ≡ climbed us (stepped s a)
    by [] = refl
    by (u ∷ us) = ap (stepped u) (by us)

pub climbed_none : (a : Condition) → climbed [] a ≡ a
unfolding climbed
climbed_none a = refl

pub climbed_empty : (ss : List Step) (a : Condition) → length ss ≡ 0 → climbed ss a ≡ a
climbed_empty [] a e = climbed_none a
climbed_empty (s ∷ ss) a e = absurd (omega (arith, e))

-- by the steps, where there is a condition
abbrev pub over : List Step → Option Condition → Option Condition
over ss None = None
over ss (Some a) = Some (climbed ss a)

pub nothing_over : (o : Option Condition) → over [] o ≡ o
nothing_over None = refl
nothing_over (Some a) = ap (λ (c : Condition). Some c) (climbed_none a)

module _ (schema : Schema) (scope : Scope) where
  pub both_on : (ss ts : List Step) (a b : WrittenCondition) (d : Box Cond) (whole : Option Condition) → ts ≡ ss ++ steps.And d ∷ [] → named_condition schema scope b ≡ Some (condition d.value) → over ss (named_condition schema scope (written.Both a b)) ≡ whole → over ts (named_condition schema scope a) ≡ whole
  both_on ss ts a b d whole e g h = by (named_condition schema scope a) refl
    where
      by : (o : Option Condition) → named_condition schema scope a ≡ o → over ts (named_condition schema scope a) ≡ whole
      by None f = rw f (sym (rw f refl) ∙ h)
      by (Some c) f = rw f (ap (λ (x : Condition). Some x) (climbed_last ss ts (steps.And d) c e) ∙ sym (rw (f, g) refl) ∙ h)

  pub either_on : (ss ts : List Step) (a b : WrittenCondition) (d : Box Cond) (whole : Option Condition) → ts ≡ ss ++ steps.Or d ∷ [] → named_condition schema scope b ≡ Some (condition d.value) → over ss (named_condition schema scope (written.Either a b)) ≡ whole → over ts (named_condition schema scope a) ≡ whole
  either_on ss ts a b d whole e g h = by (named_condition schema scope a) refl
    where
      by : (o : Option Condition) → named_condition schema scope a ≡ o → over ts (named_condition schema scope a) ≡ whole
      by None f = rw f (sym (rw f refl) ∙ h)
      by (Some c) f = rw f (ap (λ (x : Condition). Some x) (climbed_last ss ts (steps.Or d) c e) ∙ sym (rw (f, g) refl) ∙ h)

  pub not_on : (ss ts : List Step) (a : WrittenCondition) (whole : Option Condition) → ts ≡ ss ++ steps.Not ∷ [] → over ss (named_condition schema scope (written.Not a)) ≡ whole → over ts (named_condition schema scope a) ≡ whole
  not_on ss ts a whole e h = by (named_condition schema scope a) refl
    where
      by : (o : Option Condition) → named_condition schema scope a ≡ o → over ts (named_condition schema scope a) ≡ whole
      by None f = rw f (sym (rw f refl) ∙ h)
      by (Some c) f = rw f (ap (λ (x : Condition). Some x) (climbed_last ss ts steps.Not c e) ∙ sym (rw f refl) ∙ h)

  none_of_both : (ss : List Step) (a b : WrittenCondition) → named_condition schema scope b ≡ None → over ss (named_condition schema scope (written.Both a b)) ≡ None
  none_of_both ss a b g = by (named_condition schema scope a) refl
    where
      by : (o : Option Condition) → named_condition schema scope a ≡ o → over ss (named_condition schema scope (written.Both a b)) ≡ None
      by None f = rw f refl
      by (Some c) f = rw (f, g) refl

  none_of_either : (ss : List Step) (a b : WrittenCondition) → named_condition schema scope b ≡ None → over ss (named_condition schema scope (written.Either a b)) ≡ None
  none_of_either ss a b g = by (named_condition schema scope a) refl
    where
      by : (o : Option Condition) → named_condition schema scope a ≡ o → over ss (named_condition schema scope (written.Either a b)) ≡ None
      by None f = rw f refl
      by (Some c) f = rw (f, g) refl

  pub both_fails : (ss : List Step) (a b : WrittenCondition) (s : Stop) (whole : Option Condition) → Fails s (named_condition schema scope b) → over ss (named_condition schema scope (written.Both a b)) ≡ whole → Fails s whole
  both_fails ss a b stops.NoMemory whole g h = tt
  both_fails ss a b stops.Broken whole g h = sym h ∙ none_of_both ss a b g

  pub either_fails : (ss : List Step) (a b : WrittenCondition) (s : Stop) (whole : Option Condition) → Fails s (named_condition schema scope b) → over ss (named_condition schema scope (written.Either a b)) ≡ whole → Fails s whole
  either_fails ss a b stops.NoMemory whole g h = tt
  either_fails ss a b stops.Broken whole g h = sym h ∙ none_of_either ss a b g

  pub part_fails : (ss : List Step) (a : WrittenCondition) (s : Stop) (whole : Option Condition) → Fails s (named_condition schema scope a) → over ss (named_condition schema scope a) ≡ whole → Fails s whole
  part_fails ss a stops.NoMemory whole g h = tt
  part_fails ss a stops.Broken whole g h = sym h ∙ ap (over ss) g

  pub part_gives : (ss : List Step) (a : WrittenCondition) (c d : Condition) (whole : Option Condition) → named_condition schema scope a ≡ Some c → d ≡ climbed ss c → over ss (named_condition schema scope a) ≡ whole → whole ≡ Some d
  part_gives ss a c d whole g e h = sym h ∙ ap (over ss) g ∙ ap (λ (x : Condition). Some x) (sym e)

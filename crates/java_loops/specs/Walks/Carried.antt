-- What the variable of a chain is, step by step, beside what the fragment has.
use Rattle.std.specs.Prelude.{◌≡◌, ℕ, ℤ, Bool, true, false, List, [], ◌∷◌, Option, Some, None, if◌then◌else◌}
use Rattle.std.specs.List.{AllByRecursion}
use Rattle.std.specs.Option.{option_map}
use Rattle.qbs_base.specs.declared.scalar.Kind.TheVariants as kinds
use Rattle.qbs_base.specs.declared.scalar.Row.{Row}
use Rattle.qbs_base.specs.declared.scalar.Value.{Value}
use Rattle.qbs_base.specs.declared.scalar.Value.TheVariants.{One}
use Rattle.qbs_base.specs.Values.{fits_long}
use Rattle.java_mean.specs.Store.{Variable}
use Rattle.tor_terms.specs.declared.term.Atom.{Atom}
use Rattle.tor_terms.specs.Plain.{Form}
use Rattle.tor_terms.specs.Truth.{Datum, Tup, Element, World, all_hold}
use Rattle.tor_terms.specs.Value.{only_number, only_truth, elem_at}
use Rattle.kernel_lang.specs.declared.parts.Update.TheVariants as updates
use Rattle.kernel_lang.specs.Plain.{Fragment}
use Rattle.kernel_lang.specs.Running.{Layer, run, scalar_of, source_value, with_flags}
use Rattle.java_loops.specs.Walks.Chains.{Change, By, Takes}

abbrev pub is_set_of : Change → Bool
is_set_of (By (updates.PushNew e) opposite) = true
is_set_of _ = false

abbrev pub value_of_change : Change → List Datum → Value
value_of_change (By u opposite) d = source_value u opposite d
value_of_change (Takes e) d = One (scalar_of d)

-- the variable of the program, where the fragment has this list
abbrev pub variable_of : Change → List Datum → Variable
variable_of ch d = record { value = value_of_change ch d; is_set = is_set_of ch }

-- a number of 64 bits
pub record IsLong (d : List Datum) : Type 0 where
  pub number : ℤ
  pub is : d ≡ only_number number
  pub fits : fits_long number ≡ true

pub record IsTruth (d : List Datum) : Type 0 where
  pub truth : Bool
  pub is : d ≡ only_truth truth

-- a scalar
abbrev pub IsPlain : Datum → Type 0
IsPlain (Tup t) = ⊥
IsPlain (Element r) = r.kind ≡ kinds.Plain

-- a list of the kind that the change keeps
abbrev pub Suits : Change → List Datum → Type 0
Suits (By (updates.Push e) opposite) d = Unit {0}
Suits (By (updates.PushNew e) opposite) d = AllByRecursion IsPlain d
Suits (By updates.Tick opposite) d = IsLong d
Suits (By (updates.Plus e) opposite) d = IsLong d
Suits (By (updates.Best way e) opposite) d = IsLong d
Suits (By updates.Mark opposite) d = IsTruth d
Suits (Takes e) d = IsLong d

abbrev pub SuitsWhere : Change → Option (List Datum) → Type 0
SuitsWhere ch (Some d) = Suits ch d
SuitsWhere ch None = Unit {0}

-- the program's variable becomes what the fragment's list becomes, and none where that is none
pub record Carried (ch : Change) (program : Option Variable) (fragment : Option (List Datum)) : Type 0 where
  pub is : program ≡ option_map (variable_of ch) fragment
  pub suits : SuitsWhere ch fragment

-- what the change makes in these loops and guards, at these rows
abbrev pub done_by : World → List Atom → Change → List Layer → (ℕ → Row) → List Datum → Option (List Datum)
done_by k known (By u opposite) ys rows d = run k known u ys rows d
done_by k known (Takes e) ys rows d = Some (Element (elem_at rows e) ∷ [])

-- the same where the conditions hold
abbrev pub done_where : World → List Atom → Change → List Form → List Layer → (ℕ → Row) → List Datum → Option (List Datum)
done_where k known ch fs ys rows d = if all_hold k known rows fs then done_by k known ch ys rows d else Some d

-- the world in which guards are read: with the truth of flags, or without it
abbrev pub read_in : Fragment → Bool → World → World
read_in f true k = k
read_in f false k = with_flags f k

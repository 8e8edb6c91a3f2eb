-- What the postconditions of a candidate say, by the rows that the loops come to.
use Rattle.std.specs.Prelude.{if◌then◌else◌, ℕ, zero, suc, ℤ, pos, Bool, true, false, ◌&&◌, List, [], ◌∷◌, map, length}
use Rattle.std.specs.List.{flat_map, list_any}
use Rattle.std.specs.declared.option.Option.{Option}
use Rattle.std.specs.declared.option.Option.TheVariants.{Some, None}
use Rattle.qbs_base.specs.declared.scalar.Row.{Row}
use Rattle.qbs_base.specs.declared.scalar.Scalar.{Scalar}
use Rattle.qbs_base.specs.declared.scalar.Scalar.TheVariants as scalars
use Rattle.qbs_base.specs.declared.scalar.Value.{Value}
use Rattle.qbs_base.specs.declared.scalar.Value.TheVariants as values
use Rattle.qbs_base.specs.Scalar.{scalar_same}
use Rattle.tor_terms.specs.declared.term.Atom.{Atom}
use Rattle.tor_terms.specs.declared.term.Elem.{Elem}
use Rattle.tor_terms.specs.declared.term.Elem.TheVariants as elems
use Rattle.tor_terms.specs.declared.term.Way.{Way}
use Rattle.tor_terms.specs.Evaluation.{first_rows, sum_of, best_of}
use Rattle.tor_terms.specs.Plain.{Form}
use Rattle.tor_terms.specs.Truth.{World, all_hold}
use Rattle.tor_terms.specs.Value.{plain_row, elem_at, same_row}
use Rattle.tor_terms.specs.Worlds.{same_rows}
use Rattle.kernel_lang.specs.declared.parts.Update.{Update}
use Rattle.kernel_lang.specs.declared.parts.Update.TheVariants as updates
use Rattle.kernel_lang.specs.Pools as pools
use Rattle.kernel_lang.specs.Postcondition.{with_choices}
use Rattle.kernel_lang.specs.Running.{source_scalar, with_row}
use Rattle.kernel_interp.specs.declared.claims.Claims.{Claims}
use Rattle.kernel_interp.specs.Members.{members_seen}
use Rattle.kernel_interp.specs.Reading.{plain_of, world_of}

-- the world in which the formulas of postconditions are read
abbrev pub chosen_world : Claims → World
chosen_world c = with_choices (plain_of c.setting) (members_seen c.members.now) (world_of c.setting)

-- some rows at which these loops come to what stands in them, and at which all formulas hold
abbrev pub any_visit : World → List Atom → List Form → List ℕ → (ℕ → Row) → Bool
any_visit w atoms fs [] rows = all_hold w atoms rows fs
any_visit w atoms fs (j ∷ js) rows = list_any (λ r. any_visit w atoms fs js (with_row rows j r)) (w.lists j)

-- an element of all rows at which these loops come to what stands in them, and at which all formulas hold
abbrev pub taken : World → List Atom → List Form → Elem → List ℕ → (ℕ → Row) → List Row
taken w atoms fs e [] rows = if all_hold w atoms rows fs then elem_at rows e ∷ [] else []
taken w atoms fs e (j ∷ js) rows = flat_map (λ r. taken w atoms fs e js (with_row rows j r)) (w.lists j)

abbrev pub is_there : List Row → Bool
is_there [] = false
is_there (r ∷ rows) = true

-- what is taken for an update: its element, or any row where it has none
abbrev pub element_for : Update → Elem
element_for (updates.Push e) = e
element_for (updates.PushNew e) = e
element_for updates.Tick = elems.Whole 0
element_for (updates.Plus e) = e
element_for (updates.Best way e) = e
element_for updates.Mark = elems.Whole 0

-- a number, where there is one
abbrev pub number_value : Option ℤ → Value
number_value (Some n) = values.One (scalars.Long n)
number_value None = values.One (scalars.Bool false)

abbrev pub best_from : Way → Option Scalar → List Row → Option ℤ
best_from way (Some (scalars.Long n)) rows = best_of way n rows
best_from way _ rows = None

-- what an update with this start makes of elements, as the variable of the source
abbrev pub claim_of : Update → Option Scalar → Bool → List Row → Value
claim_of (updates.Push e) start opposite rows = values.Many rows
claim_of (updates.PushNew e) start opposite rows = values.Many (first_rows [] rows)
claim_of updates.Tick start opposite rows = number_value (Some (pos (length rows)))
claim_of (updates.Plus e) start opposite rows = number_value (sum_of rows)
claim_of (updates.Best way e) start opposite rows = number_value (best_from way start rows)
claim_of updates.Mark start opposite rows = values.One (source_scalar opposite (scalars.Bool (is_there rows)))

-- what the postcondition of an accumulator with base 0 says, by what is taken
abbrev pub said : List Atom → World → pools.Member → Value
said atoms w m = claim_of m.0.update m.0.start m.0.opposite (taken w atoms m.1 (element_for m.0.update) m.0.chain (λ j. plain_row None))

abbrev pub said_before : List Atom → World → ℕ → pools.Member → List Value → List Value
said_before atoms w zero m rest = said atoms w m ∷ rest
said_before atoms w (suc base) m rest = rest

-- one value for each accumulator with base 0, in their order
abbrev pub all_said : List Atom → World → List pools.Member → List Value
all_said atoms w [] = []
all_said atoms w (m ∷ rest) = said_before atoms w m.0.base m (all_said atoms w rest)

abbrev pub same_value : Value → Value → Bool
same_value (values.One x) (values.One y) = scalar_same x y
same_value (values.Whole r) (values.Whole s) = same_row r s
same_value (values.Many rs) (values.Many ss) = same_rows rs ss
same_value _ _ = false

abbrev pub same_values : List Value → List Value → Bool
same_values [] [] = true
same_values (v ∷ vs) (w ∷ ws) = same_value v w && same_values vs ws
same_values _ _ = false

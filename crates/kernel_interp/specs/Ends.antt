-- What an accumulator has while it runs, and what runs end with.
use Rattle.std.specs.Prelude.{◌≡◌, ℕ, true, IsTrue, is_some, List, [], ◌∷◌, map}
use Rattle.std.specs.List.{AllByRecursion}
use Rattle.std.specs.declared.option.Option.{Option}
use Rattle.std.specs.declared.option.Option.TheVariants.{Some, None}
use Rattle.std.specs.declared.result.Result.{Result}
use Rattle.std.specs.declared.result.Result.TheVariants.{Ok, Err}
use Rattle.qbs_base.specs.declared.scalar.Row.{Row}
use Rattle.qbs_base.specs.declared.scalar.Value.{Value}
use Rattle.tor_terms.specs.Evaluation.{number_of}
use Rattle.tor_terms.specs.Truth.{Datum, Element, World}
use Rattle.tor_terms.specs.Value.{only_number, only_truth, elem_at, plain_row}
use Rattle.kernel_lang.specs.declared.parts.Update.{Update}
use Rattle.kernel_lang.specs.declared.parts.Update.TheVariants as updates
use Rattle.kernel_lang.specs.Plain.{Accumulator}
use Rattle.kernel_lang.specs.Running.{Layer, layers_of, with_row}
use Rattle.kernel_lang.specs.Validity.{starts_rightly}
use Rattle.kernel_steps.specs.declared.end.FragmentEnd.{FragmentEnd}
use Rattle.kernel_steps.specs.declared.end.FragmentEnd.TheVariants as ends
use Rattle.kernel_steps.specs.declared.end.Stop.{Stop}
use Rattle.kernel_steps.specs.declared.end.Stop.TheVariants as stops
use Rattle.kernel_interp.specs.declared.running.Running.{Running}
use Rattle.kernel_interp.specs.declared.running.Running.TheVariants as runnings

abbrev pub update_of : Running → Update
update_of (runnings.Push e rows) = updates.Push e
update_of (runnings.PushNew e rows) = updates.PushNew e
update_of (runnings.Tick n) = updates.Tick
update_of (runnings.Plus e n) = updates.Plus e
update_of (runnings.Best way e n) = updates.Best way e
update_of (runnings.Mark b) = updates.Mark

abbrev pub data_of : Running → List Datum
data_of (runnings.Push e rows) = map Element rows
data_of (runnings.PushNew e rows) = map Element rows
data_of (runnings.Tick n) = only_number n
data_of (runnings.Plus e n) = only_number n
data_of (runnings.Best way e n) = only_number n
data_of (runnings.Mark b) = only_truth b

-- want of memory may come at any time, overflow exactly where nothing is given
abbrev pub Stopped : {A : Type 0} → Stop → Option A → Type 0
Stopped stops.NoMemory o = Unit {0}
Stopped stops.Overflow o = o ≡ None

-- a run gives this, of the same update
abbrev pub Gives : Result Running Stop → Update → Option (List Datum) → Type 0
Gives (Ok r) u o = (o ≡ Some (data_of r)) × (update_of r ≡ u)
Gives (Err stop) u o = Stopped stop o

abbrev pub GivesValue : Result Value Stop → Option Value → Type 0
GivesValue (Ok v) o = o ≡ Some v
GivesValue (Err stop) o = Stopped stop o

abbrev pub GivesValues : Result (List Value) Stop → Option (List Value) → Type 0
GivesValues (Ok vs) o = o ≡ Some vs
GivesValues (Err stop) o = Stopped stop o

-- what is summed is a number
abbrev pub NumberFits : Update → (ℕ → Row) → Type 0
NumberFits (updates.Plus e) rows = IsTrue (is_some (number_of (elem_at rows e)))
NumberFits _ rows = Unit {0}

-- at all rows of the loops of these layers
abbrev pub NumbersFit : (ℕ → List Row) → Update → List Layer → (ℕ → Row) → Type 0
NumbersFit lists u [] rows = NumberFits u rows
NumbersFit lists u (y ∷ ys) rows = AllByRecursion (λ r. NumbersFit lists u ys (with_row rows y.over r)) (lists y.over)

pub record IsReady (w : World) (a : Accumulator) : Type 0 where
  pub starts : starts_rightly a ≡ true
  pub numbers : NumbersFit w.lists a.update (layers_of a) (λ j. plain_row None)

abbrev pub end_of : FragmentEnd → Option (List Value)
end_of (ends.Store vs) = Some vs
end_of ends.Overflow = None

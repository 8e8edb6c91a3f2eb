-- What accumulators start with, by their updates.
use Rattle.std.proofs.Common.{◌≡◌, true, Option, Some, None, is_none, refl, subst}
use Rattle.qbs_base.specs.declared.scalar.Scalar.{Scalar}
use Rattle.qbs_base.specs.declared.scalar.Scalar.TheVariants as scalars
use Rattle.tor_terms.specs.declared.term.Elem.{Elem}
use Rattle.tor_terms.specs.declared.term.Way.{Way}
use Rattle.kernel_lang.specs.declared.parts.Update.{Update}
use Rattle.kernel_lang.specs.declared.parts.Update.TheVariants as updates
use Rattle.kernel_lang.specs.Plain.{Accumulator}
use Rattle.kernel_lang.specs.Validity.{starts_rightly, start_is_valid, starts_as, is_nought, is_number, is_false, takes_a_column}
use Rattle.kernel_interp.proofs.Flagged.{left_true}

start_of : (a : Accumulator) (u : Update) → starts_rightly a ≡ true → a.update ≡ u → start_is_valid u a.start ≡ true
unfolding starts_rightly
start_of a u s e = subst (λ (v : Update). start_is_valid v a.start ≡ true) e (left_true (start_is_valid a.update a.start) (takes_a_column a.update) s)

nought_number : (o : Option Scalar) → starts_as is_nought o ≡ true → starts_as is_number o ≡ true
nought_number None h = cc
nought_number (Some (scalars.Long n)) h = refl
nought_number (Some (scalars.Bool b)) h = cc
nought_number (Some (scalars.Text t)) h = cc

none_of : (o : Option Scalar) → is_none o ≡ true → o ≡ None
none_of None h = refl
none_of (Some x) h = cc

pub push_start : (a : Accumulator) (e : Elem) → starts_rightly a ≡ true → a.update ≡ updates.Push e → a.start ≡ None
push_start a e s h = none_of a.start (start_of a (updates.Push e) s h)

pub push_new_start : (a : Accumulator) (e : Elem) → starts_rightly a ≡ true → a.update ≡ updates.PushNew e → a.start ≡ None
push_new_start a e s h = none_of a.start (start_of a (updates.PushNew e) s h)

pub tick_start : (a : Accumulator) → starts_rightly a ≡ true → a.update ≡ updates.Tick → starts_as is_number a.start ≡ true
tick_start a s h = nought_number a.start (start_of a updates.Tick s h)

pub plus_start : (a : Accumulator) (e : Elem) → starts_rightly a ≡ true → a.update ≡ updates.Plus e → starts_as is_number a.start ≡ true
plus_start a e s h = nought_number a.start (start_of a (updates.Plus e) s h)

pub best_start : (a : Accumulator) (way : Way) (e : Elem) → starts_rightly a ≡ true → a.update ≡ updates.Best way e → starts_as is_number a.start ≡ true
best_start a way e s h = start_of a (updates.Best way e) s h

pub mark_start : (a : Accumulator) → starts_rightly a ≡ true → a.update ≡ updates.Mark → starts_as is_false a.start ≡ true
mark_start a s h = start_of a updates.Mark s h

-- What a fragment ends with, as an ask needs it: numbers of 64 bits, and a set with each member once.
use Rattle.std.proofs.Common.{◌≡◌, true, false, not, List, [], ◌∷◌, Some, refl, ap, ◌∙◌, cond}
use Rattle.std.specs.List.{filter, list_any}
use Rattle.std.proofs.lemmas.Bool.{or_parts}
use Rattle.qbs_base.specs.declared.scalar.Row.{Row}
use Rattle.qbs_base.specs.declared.scalar.Value.{Value}
use Rattle.qbs_base.specs.declared.scalar.Value.TheVariants as values
use Rattle.tor_terms.specs.declared.term.Elem.TheVariants as elems
use Rattle.tor_terms.specs.Truth.{World}
use Rattle.kernel_lang.specs.declared.parts.Update.{Update}
use Rattle.kernel_lang.specs.declared.parts.Update.TheVariants as updates
use Rattle.kernel_lang.specs.Ends.{AreDistinct}
use Rattle.kernel_lang.specs.Plain.{Accumulator, Fragment}
use Rattle.kernel_lang.specs.Running.{ends_as}
use Rattle.kernel_lang.specs.Validity.{takes_a_column}
use Rattle.kernel_lang.proofs.EndSets.{set-distinct}
use Rattle.sql_ast.specs.Grouped.{firsts}
use Rattle.java_mean.specs.Expression.{same_member}

-- ---- Members, each once

none_left_out : (r : Row) (rows : List Row) → list_any (same_member r) rows ≡ false → filter (λ s. not (same_member r s)) rows ≡ rows
none_left_out r [] h = refl
none_left_out r (s ∷ rows) h =
    let two = or_parts (same_member r s) (list_any (same_member r) rows) h in
    ap (λ b. cond (not b) (s ∷ filter (λ z. not (same_member r z)) rows) (filter (λ z. not (same_member r z)) rows)) two.0 ∙ ap (λ zs. s ∷ zs) (none_left_out r rows two.1)

-- the first occurrences among distinct rows are all of them
distinct_firsts : (rows : List Row) → AreDistinct rows → firsts same_member rows ≡ rows
distinct_firsts [] h = refl
distinct_firsts (r ∷ rows) h = ap (λ zs. r ∷ filter (λ s. not (same_member r s)) zs) (distinct_firsts rows h.1) ∙ ap (λ zs. r ∷ zs) (none_left_out r rows h.0)

-- ---- Sets

-- what a set ends with has each member once
abbrev pub IsOnce : Update → Value → Type 0
IsOnce (updates.PushNew e) v = (rows : List Row) → v ≡ values.Many rows → firsts same_member rows ≡ rows
IsOnce _ v = Unit {0}

once_by : (f : Fragment) (w : World) (a : Accumulator) (u : Update) (v : Value) → a.update ≡ u → takes_a_column u ≡ true → ends_as f w a ≡ Some v → IsOnce u v
once_by f w a (updates.PushNew (elems.Field j c)) v is h e = λ rows many. distinct_firsts rows (set-distinct f w a j c rows is (e ∙ ap (λ z. Some z) many))
once_by f w a (updates.PushNew (elems.Whole j)) v is h e = absurd cc
once_by f w a (updates.Push x) v is h e = tt
once_by f w a updates.Tick v is h e = tt
once_by f w a (updates.Plus x) v is h e = tt
once_by f w a (updates.Best way x) v is h e = tt
once_by f w a updates.Mark v is h e = tt

-- What an accumulator ends with has each member once, if it is a set, which takes a column.
pub ends_once : (f : Fragment) (w : World) (a : Accumulator) (v : Value) → takes_a_column a.update ≡ true → ends_as f w a ≡ Some v → IsOnce a.update v
ends_once f w a v h e = once_by f w a a.update v refl h e

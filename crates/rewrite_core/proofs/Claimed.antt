-- The value of an ask: what its accumulator ends with, where the query answers what the postcondition claims.
use Rattle.std.proofs.Common.{◌≡◌, ℕ, ℤ, Bool, true, false, IsTrue, List, Some, Ok, refl, sym, ap, ◌∙◌, cond}
use Rattle.qbs_base.specs.declared.scalar.Row.{Row}
use Rattle.qbs_base.specs.declared.scalar.Scalar.{Scalar}
use Rattle.qbs_base.specs.declared.scalar.Scalar.TheVariants as scalars
use Rattle.qbs_base.specs.declared.scalar.Value.{Value}
use Rattle.qbs_base.specs.declared.scalar.Value.TheVariants as values
use Rattle.qbs_base.specs.declared.span.Span.{Span}
use Rattle.qbs_base.specs.Values.{fits_long}
use Rattle.tor_terms.specs.declared.term.Elem.TheVariants as elems
use Rattle.tor_terms.specs.Truth.{Datum}
use Rattle.kernel_lang.specs.declared.parts.Update.{Update}
use Rattle.kernel_lang.specs.declared.parts.Update.TheVariants as updates
use Rattle.kernel_lang.specs.Ends.{ScalarFits, ValueFits}
use Rattle.kernel_lang.specs.Running.{source_value}
use Rattle.sql_ast.specs.Grouped.{firsts}
use Rattle.sql_parts.specs.Given as claims
use Rattle.java_ast.specs.Tree.{Spelled, Expressions}
use Rattle.java_mean.specs.Endings.{◌>>=◌}
use Rattle.java_mean.specs.Expression.{value_of, scalars_of, answered, as_rows, same_member}
use Rattle.java_mean.specs.Queries as queries
use Rattle.java_mean.specs.Store.{Store}
use Rattle.java_mean.specs.World.{World}
use Rattle.rewrite_core.specs.Asked.{value_by}
use Rattle.rewrite_core.proofs.Fitting.{IsOnce}

-- a number of 64 bits is not too large
long_answered : (at : Span) (n : ℤ) (b : Bool) → fits_long n ≡ b → IsTrue b → answered at (Some (cond b (queries.One (scalars.Long n)) queries.TooLarge)) ≡ Ok (values.One (scalars.Long n))
long_answered at n true e h = refl
long_answered at n false e h = absurd cc

scalar_answered : (at : Span) (x : Scalar) → ScalarFits x → answered at (Some (claims.scalar_answered x)) ≡ Ok (values.One x)
scalar_answered at (scalars.Long n) h = long_answered at n (fits_long n) refl h
scalar_answered at (scalars.Bool b) h = refl
scalar_answered at (scalars.Text t) h = refl

-- what answers a value has it, where its numbers have 64 bits
value_answered : (at : Span) (v : Value) → ValueFits v → (u : Update) (opposite : Bool) (d : List Datum) → v ≡ source_value u opposite d → answered at (Some (claims.answered v)) ≡ Ok v
value_answered at (values.One x) h u opposite d e = scalar_answered at x h
value_answered at (values.Many rows) h u opposite d e = refl
value_answered at (values.Whole r) h u opposite d e = absurd (no_row u opposite d r e)
  where
    no_row : (u : Update) (opposite : Bool) (d : List Datum) (r : Row) → values.Whole r ≡ source_value u opposite d → ⊥
    no_row (updates.Push e) opposite d r h = absurd cc
    no_row (updates.PushNew e) opposite d r h = absurd cc
    no_row updates.Tick opposite d r h = absurd cc
    no_row (updates.Plus e) opposite d r h = absurd cc
    no_row (updates.Best way e) opposite d r h = absurd cc
    no_row updates.Mark opposite d r h = absurd cc

module _ (world : World) (s : Store) (at : Span) (T : List ℕ) (E : Spelled) (text : List ℕ) (arguments : Expressions) (xs : List Scalar) (v : Value) (have : scalars_of arguments world s ≡ Ok xs) (asks : world.ask text xs ≡ Some (claims.answered v)) where
  called_is : answered at (Some (claims.answered v)) ≡ Ok v → (scalars_of arguments world s >>= λ zs. answered at (world.ask text zs)) ≡ Ok v
  called_is e = ap (λ o. o >>= λ zs. answered at (world.ask text zs)) have ∙ ap (answered at) asks ∙ e

  once : (rows : List Row) → v ≡ values.Many rows → (scalars_of arguments world s >>= λ zs. answered at (world.ask text zs)) ≡ Ok v → firsts same_member rows ≡ rows → ((scalars_of arguments world s >>= λ zs. answered at (world.ask text zs)) >>= λ z. as_rows z >>= λ found. Ok (values.Many (firsts same_member found))) ≡ Ok v
  once rows many e h =
      ap (λ o. o >>= λ z. as_rows z >>= λ found. Ok (values.Many (firsts same_member found))) (e ∙ ap (λ z. Ok z) many) ∙ ap (λ zs. Ok (values.Many zs)) h ∙ ap (λ z. Ok z) (sym many)

  -- Where the query answers a value with which an accumulator with the update may end, the ask has the value.
  pub asked_value : (u : Update) (opposite : Bool) (d : List Datum) → v ≡ source_value u opposite d → ValueFits v → IsOnce u v → value_of (value_by at u T E text arguments) world s ≡ Ok v
  asked_value (updates.Push (elems.Whole j)) opposite d e fits o = called_is (value_answered at v fits (updates.Push (elems.Whole j)) opposite d e)
  asked_value (updates.Push (elems.Field j c)) opposite d e fits o = called_is (value_answered at v fits (updates.Push (elems.Field j c)) opposite d e)
  asked_value (updates.PushNew x) opposite d e fits o = once _ e (called_is (value_answered at v fits (updates.PushNew x) opposite d e)) (o _ e)
  asked_value updates.Tick opposite d e fits o = called_is (value_answered at v fits updates.Tick opposite d e)
  asked_value (updates.Plus x) opposite d e fits o = called_is (value_answered at v fits (updates.Plus x) opposite d e)
  asked_value (updates.Best way x) opposite d e fits o = called_is (value_answered at v fits (updates.Best way x) opposite d e)
  asked_value updates.Mark opposite d e fits o = called_is (value_answered at v fits updates.Mark opposite d e)

-- The store of a method's arguments.
use Rattle.std.proofs.Common.{◌≡◌, ℕ, zero, suc, ◌+◌, ◌<◌, List, [], ◌∷◌, length, drop, map, min, refl, sym, ap, ◌∙◌, subst, get_or, arith, Option, Some, IfSome, slice_get}
use Rattle.qbs_base.specs.declared.scalar.Scalar.{Scalar}
use Rattle.qbs_base.specs.declared.scalar.Value.TheVariants.{One}
use Rattle.qbs_base.specs.Values.{Schema, Database, IsDatabaseOf}
use Rattle.java_ast.specs.declared.tree.Method.{Method}
use Rattle.java_ast.specs.declared.tree.Param.{Param}
use Rattle.java_ast.specs.declared.tree.Program.{Program}
use Rattle.java_ast.specs.Reading.{param, method, program}
use Rattle.java_ast.specs.Tree.{PlainMethod}
use Rattle.java_mean.specs.Outcome as meant
use Rattle.java_mean.specs.Outcome.{store_of, outcome, world_with}
use Rattle.java_mean.specs.World.{World}
use Rattle.java_mean.specs.Types.{AreArguments}
use Rattle.java_mean.specs.WellTyped.{IsWellTyped}
use Rattle.java_types.specs.declared.checking.Typed.{Typed}
use Rattle.java_types.specs.Texts.{read_by}
use Rattle.java_types.proofs.Checked.{checked_never}
use Rattle.java_mean.specs.Store.{Store, put, plainly}
use Rattle.java_steps.proofs.Columns.{next_item}

pub store_none : (ps : List Param) (xs : List Scalar) (n : ℕ) → n ≡ min (length ps) (length xs) → store_of (map param (drop n ps)) (drop n xs) ≡ []
store_none [] xs n e = grind arith
store_none (p ∷ ps) [] n e = grind arith
store_none (p ∷ ps) (x ∷ xs) zero e = absurd (grind arith)
store_none (p ∷ ps) (x ∷ xs) (suc n) e = store_none ps xs n (grind arith)

pub store_step : (ps : List Param) (xs : List Scalar) (i : ℕ) (p : Param) (x : Scalar) (s t : Store) → i < length ps → i < length xs → p ≡ get_or ps i p → x ≡ get_or xs i x → s ≡ store_of (map param (drop (i + 1) ps)) (drop (i + 1) xs) → t ≡ put s p.name (plainly (One x)) → t ≡ store_of (map param (drop i ps)) (drop i xs)
store_step ps xs i p x s t h g e f st tt' = tt' ∙ ap (λ (z : Store). put z p.name (plainly (One x))) st ∙ sym (rw (next_item ps i p h e, next_item xs i x g f) refl)

pub method_at : (ms : List Method) (n : ℕ) (m : Method) → n < length ms → m ≡ get_or ms n m → slice_get (map method ms) n ≡ Some (method m)
method_at [] n m lt e = absurd (omega arith)
method_at (x ∷ ms) zero m lt e = ap (λ (y : Method). Some (method y)) (sym e)
method_at (x ∷ ms) (suc n) m lt e = method_at ms n m (omega arith) e

pub method_found : (p q : Program) (lent : List Method) (n : ℕ) (m : Method) → lent ≡ q.methods → q ≡ p → n < length lent → m ≡ get_or lent n m → slice_get (program p).methods n ≡ Some (method m)
method_found p q lent n m e f lt at = ap (λ (x : Program). slice_get (program x).methods n) (sym f) ∙ ap (λ (ms : List Method). slice_get (map method ms) n) (sym e) ∙ method_at lent n m lt at

length_methods : (ms : List Method) → length (map method ms) ≡ length ms
length_methods [] = refl
length_methods (m ∷ ms) = ap (λ n. suc n) (length_methods ms)

pub is_within : (p q : Program) (lent : List Method) (n : ℕ) → lent ≡ q.methods → q ≡ p → n < length (program p).methods → n < length lent
is_within p q lent n e f lt =
    let k : length lent ≡ length (program p).methods = ap (λ (ms : List Method). length ms) e ∙ sym (length_methods q.methods) ∙ ap (λ (x : Program). length (program x).methods) f in
    omega (arith, k, lt)

pub exact_at : (o : Option PlainMethod) (p : PlainMethod) (w : World) (args : List Scalar) (turns : ℕ) (r : meant.Outcome) → o ≡ Some p → r ≡ outcome w p args turns → IfSome o (λ m. r ≡ outcome w m args turns)
exact_at o p w args turns r e h = subst (λ x. IfSome x (λ m. r ≡ outcome w m args turns)) (sym e) h

pub never_at : (schema : Schema) (typed : Typed) (n : ℕ) (m : PlainMethod) (db : Database) (args : List Scalar) (turns : ℕ) → IsWellTyped schema (read_by schema) (program typed.program) → IsDatabaseOf schema db → slice_get (program typed.program).methods n ≡ Some m → IfSome (slice_get (program typed.program).methods n) (λ p. AreArguments schema p.params args) → meant.Stuck ≡ outcome (world_with schema (read_by schema) db) m args turns → ⊥
never_at schema typed n m db args turns t d e a stuck =
    let b : AreArguments schema m.params args = subst (λ (o : Option PlainMethod). IfSome o (λ p. AreArguments schema p.params args)) e a in
    checked_never schema typed n m db args turns t e d b (sym stuck)

-- Numbers and truth values that come without a fault.
use Rattle.std.proofs.Common.{◌≡◌, ℕ, List, Bool, true, false, Option, Some, None, Ok, Err, refl, sym, ap, ◌∙◌, option_map}
use Rattle.qbs_base.specs.declared.scalar.Row.{Row}
use Rattle.qbs_base.specs.declared.scalar.Scalar.{Scalar}
use Rattle.qbs_base.specs.declared.scalar.Value.{Value}
use Rattle.qbs_base.specs.declared.scalar.Value.TheVariants.{One, Whole}
use Rattle.qbs_base.specs.declared.span.Span.{Span}
use Rattle.qbs_base.specs.Named.{at_name}
use Rattle.java_ast.specs.declared.tree.Op.{Op}
use Rattle.java_ast.specs.declared.tree.Op.TheVariants as ops
use Rattle.java_ast.specs.Tree.{Expression, Var, Field, Binary}
use Rattle.java_mean.specs.declared.ending.Ending.TheVariants.{Stuck}
use Rattle.java_mean.specs.Endings.{◌>>=◌, found}
use Rattle.java_mean.specs.Expression.{value_of, cell, truth}
use Rattle.java_mean.specs.Statement.{GoesOn, with_value}
use Rattle.java_mean.specs.Store.{Store, Variable, put}
use Rattle.java_mean.specs.World.{World}
use Rattle.java_steps.specs.Quick.{operated_on, written}

-- an operator at two scalars that come
pub binary_comes : (at : Span) (op : Op) (a b : Expression) (w : World) (s : Store) (x y : Scalar) → value_of a w s ≡ Ok (One x) → value_of b w s ≡ Ok (One y) → value_of (Binary at op a b) w s ≡ operated_on op at x y
binary_comes at op a b w s x y p q = rw (p, q) refl

-- `&&` and `||` by their first operand
pub and_settled : (at : Span) (a b : Expression) (w : World) (s : Store) → value_of a w s ≡ Ok (truth false) → value_of (Binary at ops.And a b) w s ≡ Ok (truth false)
and_settled at a b w s p = rw p refl

pub and_open : (at : Span) (a b : Expression) (w : World) (s : Store) (y : Bool) → value_of a w s ≡ Ok (truth true) → value_of b w s ≡ Ok (truth y) → value_of (Binary at ops.And a b) w s ≡ Ok (truth y)
and_open at a b w s y p q = rw (p, q) refl

pub or_settled : (at : Span) (a b : Expression) (w : World) (s : Store) → value_of a w s ≡ Ok (truth true) → value_of (Binary at ops.Or a b) w s ≡ Ok (truth true)
or_settled at a b w s p = rw p refl

pub or_open : (at : Span) (a b : Expression) (w : World) (s : Store) (y : Bool) → value_of a w s ≡ Ok (truth false) → value_of b w s ≡ Ok (truth y) → value_of (Binary at ops.Or a b) w s ≡ Ok (truth y)
or_open at a b w s y p q = rw (p, q) refl

-- the cell of a row that a variable holds
pub cell_comes : (at at' : Span) (x name : List ℕ) (w : World) (s : Store) (held : Variable) (row : Row) (c : Scalar) → at_name s x ≡ Some held → held.value ≡ Whole row → cell w.schema row name ≡ Some c → value_of (Field at (Var at' x) name) w s ≡ Ok (One c)
cell_comes at at' x name w s held row c p q r = rw p (rw q (rw r refl))

-- no variable is assigned that isn't there
pub not_there : (s : Store) (x : List ℕ) (v : Value) (lines : List (List ℕ)) (turns : ℕ) → at_name s x ≡ None → (found (at_name s x) >>= λ held. Ok (GoesOn (with_value (record { store = s; lines = lines; turns = turns }) x held v))) ≡ Err Stuck
not_there s x v lines turns e = rw e refl

-- a variable that is there is assigned
pub written_over : (s new : Store) (x : List ℕ) (v : Value) (lines : List (List ℕ)) (turns : ℕ) → Some new ≡ written s x v → (found (at_name s x) >>= λ held. Ok (GoesOn (with_value (record { store = s; lines = lines; turns = turns }) x held v))) ≡ Ok (GoesOn (record { store = new; lines = lines; turns = turns }))
written_over s new x v lines turns e = go (at_name s x) refl
  where
    go : (o : Option Variable) → at_name s x ≡ o → (found (at_name s x) >>= λ held. Ok (GoesOn (with_value (record { store = s; lines = lines; turns = turns }) x held v))) ≡ Ok (GoesOn (record { store = new; lines = lines; turns = turns }))
    go None h = let f : Some new ≡ None = e ∙ ap (option_map (λ (held : Variable). put s x (record { value = v; is_set = held.is_set }))) h in absurd cc
    go (Some held) h =
        let f : Some new ≡ Some (put s x (record { value = v; is_set = held.is_set })) = e ∙ ap (option_map (λ (held : Variable). put s x (record { value = v; is_set = held.is_set }))) h in
        let g : new ≡ put s x (record { value = v; is_set = held.is_set }) = cc in
        rw h (ap (λ (t : Store). Ok (GoesOn (record { store = t; lines = lines; turns = turns }))) (sym g))

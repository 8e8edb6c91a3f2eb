-- First occurrences one by one, and the values of expressions one by one.
use Rattle.std.proofs.Common.{◌≡◌, ℕ, ◌+◌, ◌<◌, List, [], ◌∷◌, ◌++◌, length, take, drop, get_or, Result, Ok, Err, refl, sym, ap, ap₂, ◌∙◌, append_assoc}
use Rattle.std.specs.Prelude.{Vec, if◌then◌else◌}
use Rattle.std.specs.List.{list_any}
use Rattle.std.specs.declared.alloc.Global.{Global}
use Rattle.qbs_base.specs.declared.scalar.Row.{Row}
use Rattle.qbs_base.specs.declared.scalar.Scalar.{Scalar}
use Rattle.qbs_base.specs.declared.scalar.Value.{Value}
use Rattle.qbs_base.specs.declared.span.Span.{Span}
use Rattle.sql_ast.specs.Grouped.{firsts}
use Rattle.sql_ast.proofs.FirstOnes.{firsts_more}
use Rattle.java_ast.specs.declared.tree.Expr.{Expr, out-Expr}
use Rattle.java_ast.specs.declared.tree.ExprNode.{Query, QueryLong, QueryBoolean}
use Rattle.java_ast.specs.declared.tree.JTy.{JTy}
use Rattle.java_ast.specs.Reading.{expression, expressions}
use Rattle.java_mean.specs.declared.ending.Ending.{Ending}
use Rattle.java_mean.specs.Endings.{◌>>=◌}
use Rattle.java_mean.specs.Expression.{same_member, value_of, as_scalar, scalars_of}
use Rattle.java_mean.specs.Store.{Store}
use Rattle.java_mean.specs.World.{World}
use Rattle.java_steps.specs.declared.held.Held.{Held}
use Rattle.java_steps.specs.declared.stop.Stop.{Stop}
use Rattle.java_steps.specs.Gives.{GivesBy}
use Rattle.java_steps.specs.Held.{value_in}
use Rattle.java_steps.specs.Words.{asked_in, prefixed}
use Rattle.java_steps.proofs.Columns.{next_item, take_next}
use Rattle.java_steps.proofs.Stopped.{stops_same}
use Rattle.java_ast.proofs.Nodes.{query_is, query_long_is, query_boolean_is}

pub firsts_step : (rows : List Row) (i : ℕ) (row : Row) (before old new : List Row) → i < length rows → row ≡ get_or rows i row → before ≡ take i rows → old ≡ firsts same_member (take i rows) → new ≡ (if list_any (λ b. same_member b row) before then old else old ++ row ∷ []) → new ≡ firsts same_member (take (i + 1) rows)
firsts_step rows i row before old new lt at b o n =
    n
    ∙ ap₂ (λ (bs olds : List Row). if list_any (λ b. same_member b row) bs then olds else olds ++ row ∷ []) b o
    ∙ sym (ap (firsts same_member) (take_next rows i row lt at) ∙ firsts_more same_member (take i rows) row)

-- ---- Queries

gives_same : (r : Result Held Stop) (run other : Result Value Ending) → other ≡ run → GivesBy value_in r run → GivesBy value_in r other
gives_same (Ok h) run other e g = e ∙ g
gives_same (Err stop) run other e g = stops_same stop other run e g

pub query_asked : (e : Expr) (ty : JTy) (text : List ℕ) (v : Vec Expr Global) (lent : List Expr) (w : World) (s : Store) (at : Span) (r : Result Held Stop) → (out-Expr e).node ≡ Query ty text v → at ≡ (out-Expr e).span → lent ≡ v.items → GivesBy value_in r (asked_in (expressions lent) w s at text) → GivesBy value_in r (value_of (expression e) w s)
query_asked e ty text v lent w s at r is a l g =
    gives_same r (asked_in (expressions lent) w s at text) (value_of (expression e) w s)
    (ap (λ x. value_of x w s) (query_is e ty text v is) ∙ ap₂ (λ (p : Span) (es : List Expr). asked_in (expressions es) w s p text) (sym a) (sym l)) g

pub query_long_asked : (e : Expr) (text : List ℕ) (v : Vec Expr Global) (lent : List Expr) (w : World) (s : Store) (at : Span) (r : Result Held Stop) → (out-Expr e).node ≡ QueryLong text v → at ≡ (out-Expr e).span → lent ≡ v.items → GivesBy value_in r (asked_in (expressions lent) w s at text) → GivesBy value_in r (value_of (expression e) w s)
query_long_asked e text v lent w s at r is a l g =
    gives_same r (asked_in (expressions lent) w s at text) (value_of (expression e) w s)
    (ap (λ x. value_of x w s) (query_long_is e text v is) ∙ ap₂ (λ (p : Span) (es : List Expr). asked_in (expressions es) w s p text) (sym a) (sym l)) g

pub query_boolean_asked : (e : Expr) (text : List ℕ) (v : Vec Expr Global) (lent : List Expr) (w : World) (s : Store) (at : Span) (r : Result Held Stop) → (out-Expr e).node ≡ QueryBoolean text v → at ≡ (out-Expr e).span → lent ≡ v.items → GivesBy value_in r (asked_in (expressions lent) w s at text) → GivesBy value_in r (value_of (expression e) w s)
query_boolean_asked e text v lent w s at r is a l g =
    gives_same r (asked_in (expressions lent) w s at text) (value_of (expression e) w s)
    (ap (λ x. value_of x w s) (query_boolean_is e text v is) ∙ ap₂ (λ (p : Span) (es : List Expr). asked_in (expressions es) w s p text) (sym a) (sym l)) g

-- ---- Expressions one by one

prefixed_more : (xs : List Scalar) (x : Scalar) (r : Result (List Scalar) Ending) → prefixed (xs ++ x ∷ []) r ≡ prefixed xs (r >>= λ ys. Ok (x ∷ ys))
prefixed_more xs x (Ok ys) = ap (λ zs. Ok zs) (append_assoc xs (x ∷ []) ys)
prefixed_more xs x (Err e) = refl

pub scalars_step : (es : List Expr) (i : ℕ) (e : Expr) (w : World) (s : Store) (xs more : List Scalar) (v : Value) (x : Scalar) → i < length es → e ≡ get_or es i e → value_of (expression e) w s ≡ Ok v → as_scalar v ≡ Ok x → more ≡ xs ++ x ∷ [] → prefixed more (scalars_of (expressions (drop (i + 1) es)) w s) ≡ prefixed xs (scalars_of (expressions (drop i es)) w s)
scalars_step es i e w s xs more v x lt at val sc m =
    ap (λ zs. prefixed zs (scalars_of (expressions (drop (i + 1) es)) w s)) m
    ∙ prefixed_more xs x (scalars_of (expressions (drop (i + 1) es)) w s)
    ∙ sym (ap (λ l. prefixed xs (scalars_of (expressions l) w s)) (next_item es i e lt at) ∙ rw (val, sc) refl)

pub scalars_stop : (es : List Expr) (i : ℕ) (e : Expr) (w : World) (s : Store) (xs : List Scalar) (f : Ending) → i < length es → e ≡ get_or es i e → value_of (expression e) w s ≡ Err f → prefixed xs (scalars_of (expressions (drop i es)) w s) ≡ Err f
scalars_stop es i e w s xs f lt at val = ap (λ l. prefixed xs (scalars_of (expressions l) w s)) (next_item es i e lt at) ∙ rw val refl

pub scalars_stuck : (es : List Expr) (i : ℕ) (e : Expr) (w : World) (s : Store) (xs : List Scalar) (v : Value) (f : Ending) → i < length es → e ≡ get_or es i e → value_of (expression e) w s ≡ Ok v → as_scalar v ≡ Err f → prefixed xs (scalars_of (expressions (drop i es)) w s) ≡ Err f
scalars_stuck es i e w s xs v f lt at val sc = ap (λ l. prefixed xs (scalars_of (expressions l) w s)) (next_item es i e lt at) ∙ rw (val, sc) refl

prefixed_none : (r : Result (List Scalar) Ending) → prefixed [] r ≡ r
prefixed_none (Ok ys) = refl
prefixed_none (Err e) = refl

pub scalars_begin : (es : List Expr) (w : World) (s : Store) (xs : List Scalar) → xs ≡ [] → prefixed xs (scalars_of (expressions es) w s) ≡ scalars_of (expressions es) w s
scalars_begin es w s xs e = ap (λ zs. prefixed zs (scalars_of (expressions es) w s)) e ∙ prefixed_none (scalars_of (expressions es) w s)

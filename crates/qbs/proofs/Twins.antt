-- The last steps of `run` and `sql`, as functions from left to right, are those steps.
use Rattle.std.proofs.Common.{◌≡◌, ℕ, inl, inr, Bool, true, false, List, [], ◌∷◌, Option, Some, None, Result, Ok, Err, refl, sym, ◌∙◌}
use Rattle.qbs_base.specs.declared.scalar.Scalar.{Scalar}
use Rattle.qbs_base.specs.declared.scalar.Ty.{Ty}
use Rattle.qbs_base.specs.Values.{Schema, Database}
use Rattle.java_ast.specs.Tree.{PlainMethod, PlainProgram}
use Rattle.java_mean.specs.declared.rule.TypeRule.{TypeRule}
use Rattle.java_mean.specs.declared.rule.TypeRule.TheVariants as types
use Rattle.java_mean.specs.Rules.{has_order}
use Rattle.java_types.specs.Texts.{read_by}
use Rattle.java_types.proofs.Found.{found_exactly}
use Rattle.sql_ast.specs.Texts.{HasQuery}
use Rattle.sql_ast.specs.Tree.{PlainQuery}
use Rattle.sql_ast.specs.Valid.{params_in}
use Rattle.deliveries.specs.declared.plan.Plan.{Plan}
use Rattle.plans.specs.Calls.{Call, arguments, method_named}
use Rattle.plans.specs.Tables.{TableFault, loaded}
use Rattle.qbs.specs.Code.{run_over, run_on, run_named, run_called, answer_over, answer_with, answer_ordered, answer_of}
use Rattle.qbs.specs.Run.{call_of}
use Rattle.qbs.specs.Sql.{sql_of}

module _ (tables : Schema) (texts : List (List ℕ)) (call : Call) (turns : ℕ) (p : PlainProgram) (plan : Plan) where
  by_rows : (m : PlainMethod) → method_named call.method p.methods ≡ Some m → (args : List Scalar) → arguments m.params call.words ≡ Ok args →
      (rows : Result Database TableFault) → loaded tables texts ≡ rows → run_over tables m args turns rows plan → call_of tables texts call turns p plan
  by_rows m named args fit (Err fault) e due = inr (record { method = m; args = args }, record { named = named; fit = fit }, inl (fault, e, due))
  by_rows m named args fit (Ok db) e due = inr (record { method = m; args = args }, record { named = named; fit = fit }, inr (db, e, due))

  by_arguments : (m : PlainMethod) → method_named call.method p.methods ≡ Some m → (args : Result (List Scalar) TypeRule) → arguments m.params call.words ≡ args →
      run_on tables texts m turns args plan → call_of tables texts call turns p plan
  by_arguments m named (Err rule) e due = inl (rule, inr (m, named, e), due)
  by_arguments m named (Ok args) e due = by_rows m named args e (loaded tables texts) refl due

  by_method : (m : Option PlainMethod) → method_named call.method p.methods ≡ m → run_named tables texts call.words turns m plan → call_of tables texts call turns p plan
  by_method None e due = inl (types.Unknown, inl (refl, e), due)
  by_method (Some m) e due = by_arguments m e (arguments m.params call.words) refl due

  pub run_steps : run_called tables texts call turns p plan → call_of tables texts call turns p plan
  run_steps due = by_method (method_named call.method p.methods) refl due

module _ (tables : Schema) (texts : List (List ℕ)) (query : List ℕ) (plan : Plan) where
  over_rows : (q : PlainQuery) → HasQuery tables query q → has_order (Some q) ≡ true → params_in q ≡ [] →
      (rows : Result Database TableFault) → loaded tables texts ≡ rows → plan ≡ answer_over tables q rows → sql_of tables query texts plan
  over_rows q has ordered closed (Err fault) e due = inr (q, record { has_query = has; ordered = ordered; closed = closed }, inl (fault, e, due))
  over_rows q has ordered closed (Ok db) e due = inr (q, record { has_query = has; ordered = ordered; closed = closed }, inr (db, e, due))

  by_params : (q : PlainQuery) → HasQuery tables query q → has_order (Some q) ≡ true → (params : List Ty) → params_in q ≡ params → plan ≡ answer_with tables texts q params → sql_of tables query texts plan
  by_params q has ordered [] e due = over_rows q has ordered e (loaded tables texts) refl due
  by_params q has ordered (ty ∷ tys) e due = inl (types.Arity, (q, has, ordered, λ none. let no : ty ∷ tys ≡ [] = sym e ∙ none in cc), due)

  by_order : (q : PlainQuery) → HasQuery tables query q → (ordered : Bool) → has_order (Some q) ≡ ordered → plan ≡ answer_ordered tables texts q ordered → sql_of tables query texts plan
  by_order q has false e due = inl (types.UnorderedQuery, (q, has, e), due)
  by_order q has true e due = by_params q has e (params_in q) refl due

  none_read : (q : PlainQuery) → read_by tables query ≡ None → HasQuery tables query q → ⊥
  none_read q e has = let found : read_by tables query ≡ Some q = (found_exactly tables query q).1 has in absurd cc

  by_query : (q : Option PlainQuery) → read_by tables query ≡ q → plan ≡ answer_of tables texts q → sql_of tables query texts plan
  by_query None e due = inl (types.BadQuery, (λ q has. none_read q e has), due)
  by_query (Some q) e due = by_order q ((found_exactly tables query q).0 e) (has_order (Some q)) refl due

  pub sql_steps : plan ≡ answer_of tables texts (read_by tables query) → sql_of tables query texts plan
  sql_steps due = by_query (read_by tables query) refl due

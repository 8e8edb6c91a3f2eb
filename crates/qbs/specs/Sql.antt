-- The command `sql`: a query is answered over tables.
use Rattle.std.specs.Prelude.{◌≡◌, ◌≢◌, ℕ, List, [], true, false, codes}
use Rattle.std.specs.declared.option.Option.TheVariants.{Some}
use Rattle.qbs_base.specs.declared.scalar.Value.TheVariants.{One, Many}
use Rattle.qbs_base.specs.declared.status.Status.{Status}
use Rattle.qbs_base.specs.Values.{Schema, Database}
use Rattle.java_mean.specs.declared.ending.RunFault.TheVariants as faults
use Rattle.java_mean.specs.declared.rule.TypeRule.{TypeRule}
use Rattle.java_mean.specs.declared.rule.TypeRule.TheVariants as types
use Rattle.java_mean.specs.Rules.{has_order}
use Rattle.sql_ast.specs.Meaning as meaning
use Rattle.sql_ast.specs.Meaning.{Answered, query_answer}
use Rattle.sql_ast.specs.Texts.{HasQuery}
use Rattle.sql_ast.specs.Tree.{PlainQuery}
use Rattle.sql_ast.specs.Valid.{params_in}
use Rattle.deliveries.specs.Limits.{most_schema}
use Rattle.deliveries.specs.declared.plan.Plan.{Plan}
use Rattle.plans.specs.Calls.{word_refusal}
use Rattle.plans.specs.Lines.{fault_text, nowhere}
use Rattle.deliveries.specs.Plan.{Given, refusal}
use Rattle.plans.specs.Results.{output}
use Rattle.deliveries.specs.Steps.{Ends, ends, finds, reads}
use Rattle.plans.specs.Tables.{over_tables, has_rows}

-- ---- The query

-- the text has this query, which may be asked: a list has a complete order, and there are no parameters
pub record IsAsked (tables : Schema) (text : List ℕ) (q : PlainQuery) : Type 0 where
  pub has_query : HasQuery tables text q
  pub ordered : has_order (Some q) ≡ true
  pub closed : params_in q ≡ []

-- the least rule that the text breaks where no query may be asked by it
abbrev pub AsksNothing : Schema → List ℕ → TypeRule → Type 0
AsksNothing tables text types.BadQuery = (q : PlainQuery) → HasQuery tables text q → ⊥
AsksNothing tables text types.UnorderedQuery = (q : PlainQuery) × HasQuery tables text q × (has_order (Some q) ≡ false)
AsksNothing tables text types.Arity = (q : PlainQuery) × HasQuery tables text q × (has_order (Some q) ≡ true) × (params_in q ≢ [])
AsksNothing tables text _ = ⊥

abbrev pub has_query : Schema → List ℕ → (PlainQuery → Ends) → Ends
has_query tables text next = finds (IsAsked tables text) (AsksNothing tables text) word_refusal next

-- ---- Its answer

-- rows are a list; a total that has not 64 bits is a fault
abbrev pub answer_plan : Schema → Answered → Plan
answer_plan tables (meaning.Rows rows) = output tables [] (Some (Many rows))
answer_plan tables (meaning.One x) = output tables [] (Some (One x))
answer_plan tables meaning.TooLarge = refusal Status.Faulted (fault_text faults.SumTooLarge nowhere)

abbrev pub answers : Schema → PlainQuery → Database → Ends
answers tables q db = ends (answer_plan tables (query_answer db [] q))

-- ---- The command

-- over the texts of tables
abbrev pub sql_of : Schema → List ℕ → List (List ℕ) → Ends
sql_of tables query texts = has_query tables query (λ q. has_rows tables texts (λ db. answers tables q db))

abbrev pub sql : Given → List ℕ → List ℕ → List ℕ → Ends
sql files schema folder query =
    reads files schema most_schema (codes "schema") (λ s. over_tables files folder s (λ tables texts. sql_of tables query texts))

-- The query that a text has under a schema, and the rule that it breaks where it has none.
use Rattle.std.specs.Prelude.{◌≡◌, ℕ, List, Result, Ok, Err, if◌then◌else◌}
use Rattle.std.specs.declared.option.Option.TheVariants.{Some, None}
use Rattle.qbs_base.specs.Values.{Schema}
use Rattle.sql_ast.specs.declared.rule.SqlRule.{SqlRule}
use Rattle.sql_ast.specs.declared.rule.SqlRule.TheVariants as rules
use Rattle.sql_ast.specs.Grammar.{HasWritten}
use Rattle.sql_ast.specs.Names.{named_query}
use Rattle.sql_ast.specs.Tokens.{Token, HasTokens}
use Rattle.sql_ast.specs.Tree.{PlainQuery}
use Rattle.sql_ast.specs.Typing.{types_fit, group_fits, params_of, with_params}
use Rattle.sql_ast.specs.Written.{WrittenQuery}

-- the text is in the grammar, and says this
pub record Says (text : List ℕ) (written : WrittenQuery) : Type 0 where
  pub tokens : List Token
  pub spelled : HasTokens text tokens
  pub parsed : HasWritten tokens written

abbrev pub with_types : Schema → PlainQuery → Result PlainQuery SqlRule
with_types schema q = elim (params_of schema q) as (λ _. Result PlainQuery SqlRule) [ Some params ↦ Ok (with_params q params) | None ↦ Err rules.BadParameter ]

-- the rules are looked at one after the other
abbrev pub judged_named : Schema → PlainQuery → Result PlainQuery SqlRule
judged_named schema q =
    if types_fit schema q
    then (if group_fits q then with_types schema q else Err rules.BadGroup)
    else Err rules.Mismatch

-- the query of what is written, or the first rule that it breaks
abbrev pub judged : Schema → WrittenQuery → Result PlainQuery SqlRule
judged schema written = elim (named_query schema written) as (λ _. Result PlainQuery SqlRule) [ Some q ↦ judged_named schema q | None ↦ Err rules.Unknown ]

-- the text has this query under the schema
pub record HasQuery (schema : Schema) (text : List ℕ) (q : PlainQuery) : Type 0 where
  pub written : WrittenQuery
  pub says : Says text written
  pub meant : judged schema written ≡ Ok q

-- the first rule that the text breaks
pub data BreaksRule (schema : Schema) (text : List ℕ) : SqlRule → Type 0 where
  ungrammatical : ((written : WrittenQuery) → Says text written → ⊥) → BreaksRule schema text rules.BadToken
  faulty : {written : WrittenQuery} {rule : SqlRule} → Says text written → judged schema written ≡ Err rule → BreaksRule schema text rule

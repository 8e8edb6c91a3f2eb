-- Reading a text from left to right answers as the grammar says.
use Rattle.std.proofs.Common.{◌≡◌, ℕ, ◌<◌, ◌^◌, List, length, Result, Ok, Err, sym, subst}
use Rattle.std.specs.Prelude.{IfOk, IfErr}
use Rattle.qbs_base.specs.declared.memory.Fail.{Fail}
use Rattle.qbs_base.specs.declared.memory.Fail.TheVariants as fails
use Rattle.qbs_base.specs.Values.{Schema}
use Rattle.sql_ast.specs.declared.rule.SqlRule.{SqlRule}
use Rattle.sql_ast.specs.declared.tree.Query.{Query}
use Rattle.sql_ast.specs.Canonical.{canonical}
use Rattle.sql_ast.specs.Reader.{query_of_text}
use Rattle.sql_ast.specs.Reading.{query}
use Rattle.sql_ast.specs.Texts.{HasQuery, BreaksRule}
use Rattle.sql_ast.specs.Tree.{PlainQuery}
use Rattle.sql_ast.specs.Valid.{IsQueryOf}
use Rattle.sql_ast.proofs.CanonicalQuery.{canonical_has_query}
use Rattle.sql_ast.proofs.InvertedQuery.{has_query_valid}
use Rattle.sql_ast.proofs.Judged.{query_exactly, rule_exactly}
use Rattle.sql_parse.specs.declared.refusal.SqlFault.{SqlFault}
use Rattle.sql_parse.specs.Answers.{Answers, IfRule}

pub is_found : (schema : Schema) (text : List ℕ) (r : Result Query (Fail SqlFault)) → Answers query r (query_of_text schema text) → IfOk r (λ q. HasQuery schema text (query q))
is_found schema text (Ok q) h = (query_exactly schema text (query q)).1 h
is_found schema text (Err e) h = tt

pub is_valid : (schema : Schema) (text : List ℕ) (r : Result Query (Fail SqlFault)) → length text < 2 ^ 64 → Answers query r (query_of_text schema text) → IfOk r (λ q. IsQueryOf schema (query q))
is_valid schema text (Ok q) short h = has_query_valid schema text (query q) short ((query_exactly schema text (query q)).1 h)
is_valid schema text (Err e) short h = tt

pub is_refused : (schema : Schema) (text : List ℕ) (r : Result Query (Fail SqlFault)) → Answers query r (query_of_text schema text) → IfErr r (IfRule (BreaksRule schema text))
is_refused schema text (Ok q) h = tt
is_refused schema text (Err (fails.Fault fault)) h = (rule_exactly schema text fault.rule).1 h
is_refused schema text (Err fails.NoMemory) h = tt

pub is_read : (schema : Schema) (text : List ℕ) (r : Result Query (Fail SqlFault)) → Answers query r (query_of_text schema text) → (q : PlainQuery) → HasQuery schema text q → Answers query r (Ok q)
is_read schema text r h q has = subst (Answers query r) ((query_exactly schema text q).0 has) h

pub is_broken : (schema : Schema) (text : List ℕ) (r : Result Query (Fail SqlFault)) → Answers query r (query_of_text schema text) → (rule : SqlRule) → BreaksRule schema text rule → Answers query r (Err rule)
is_broken schema text r h rule breaks = subst (Answers query r) ((rule_exactly schema text rule).0 breaks) h

pub is_again : (schema : Schema) (text : List ℕ) (r : Result Query (Fail SqlFault)) → Answers query r (query_of_text schema text) → (q : PlainQuery) → IsQueryOf schema q → text ≡ canonical q → Answers query r (Ok q)
is_again schema text r h q valid same = is_read schema text r h q (subst (λ (bs : List ℕ). HasQuery schema bs q) (sym same) (canonical_has_query schema q valid))

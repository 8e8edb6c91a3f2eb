-- Reading a text from left to right gives what the grammar gives.
use Rattle.std.proofs.Common.{◌≡◌, ◌↔◌, ℕ, List, length, Option, Some, None, Result, Ok, Err, refl, sym, ap, ◌∙◌, subst}
use Rattle.qbs_base.specs.Values.{Schema}
use Rattle.sql_ast.specs.declared.rule.SqlRule.{SqlRule}
use Rattle.sql_ast.specs.declared.rule.SqlRule.TheVariants as rules
use Rattle.sql_ast.specs.Lexer.{tokens_in}
use Rattle.sql_ast.specs.Reader.{given, query_in, written_in, query_of_text}
use Rattle.sql_ast.specs.Texts.{Says, judged, HasQuery, BreaksRule, ungrammatical, faulty}
use Rattle.sql_ast.specs.Tree.{PlainQuery}
use Rattle.sql_ast.specs.Written.{WrittenQuery}
use Rattle.sql_ast.proofs.Lexed.{tokens_found}
use Rattle.sql_ast.proofs.OneQuery.{says_again, has_query_again}
use Rattle.sql_ast.proofs.ParsedQuery.{written_found}
use Rattle.sql_ast.proofs.Tools.{bind_some}

says_found : (text : List ℕ) (written : WrittenQuery) → written_in text ≡ Some written → Says text written
says_found text written e =
    let a = bind_some (tokens_in (length text) text) query_in written e in
    record { tokens = a.0; spelled = tokens_found (length text) text a.0 a.1; parsed = written_found a.0 written a.2 }

abbrev Judgement : Type 0
Judgement = Result PlainQuery SqlRule

abbrev judgement : Schema → Option WrittenQuery → Judgement
judgement schema o = given o (judged schema) (Err rules.BadToken)

has_query_found : (schema : Schema) (text : List ℕ) (q : PlainQuery) → query_of_text schema text ≡ Ok q → HasQuery schema text q
has_query_found schema text q e = go (written_in text) refl e
  where
    go : (o : Option WrittenQuery) → written_in text ≡ o → judgement schema o ≡ Ok q → HasQuery schema text q
    go (Some w) h e = record { written = w; says = says_found text w h; meant = e }
    go None h e = absurd cc

err_is : (a b : SqlRule) → (let r : Judgement = Err a in r) ≡ Err b → a ≡ b
err_is a b e = ap (λ (r : Judgement). elim r as (λ _. SqlRule) [ Ok q ↦ a | Err c ↦ c ]) e

breaks_found : (schema : Schema) (text : List ℕ) (rule : SqlRule) → query_of_text schema text ≡ Err rule → BreaksRule schema text rule
breaks_found schema text rule e = go (written_in text) refl e
  where
    go : (o : Option WrittenQuery) → written_in text ≡ o → judgement schema o ≡ Err rule → BreaksRule schema text rule
    go (Some w) h e = faulty (says_found text w h) e
    go None h e = subst (BreaksRule schema text) (err_is rules.BadToken rule e) (ungrammatical (λ w s. let x : (let o : Option WrittenQuery = None in o) ≡ Some w = sym h ∙ says_again text w s in absurd cc))

breaks_again : (schema : Schema) (text : List ℕ) (rule : SqlRule) → BreaksRule schema text rule → query_of_text schema text ≡ Err rule
breaks_again schema text rule (ungrammatical none) = go (written_in text) refl
  where
    go : (o : Option WrittenQuery) → written_in text ≡ o → judgement schema o ≡ Err rules.BadToken
    go (Some w) h = absurd (none w (says_found text w h))
    go None h = refl
breaks_again schema text rule (faulty {written = w} s e) = ap (judgement schema) (says_again text w s) ∙ e

pub query_exactly : (schema : Schema) (text : List ℕ) (q : PlainQuery) → HasQuery schema text q ↔ (query_of_text schema text ≡ Ok q)
query_exactly schema text q = (has_query_again schema text q, has_query_found schema text q)

pub rule_exactly : (schema : Schema) (text : List ℕ) (rule : SqlRule) → BreaksRule schema text rule ↔ (query_of_text schema text ≡ Err rule)
rule_exactly schema text rule = (breaks_again schema text rule, breaks_found schema text rule)

-- A text has at most one query.
use Rattle.std.proofs.Common.{◌≡◌, ℕ, List, length, Option, Some, None, Result, Ok, Err, sym, ap, ◌∙◌, arith}
use Rattle.qbs_base.specs.Values.{Schema}
use Rattle.sql_ast.specs.declared.rule.SqlRule.TheVariants as rules
use Rattle.sql_ast.specs.Names.{◌>>=◌}
use Rattle.sql_ast.specs.Reader.{given, query_in, written_in, query_of_text}
use Rattle.sql_ast.specs.Texts.{Says, judged, HasQuery}
use Rattle.sql_ast.specs.Tokens.{Token}
use Rattle.sql_ast.specs.Tree.{PlainQuery}
use Rattle.sql_ast.specs.Written.{WrittenQuery}
use Rattle.sql_ast.proofs.Spelled.{tokens_again}
use Rattle.sql_ast.proofs.Whole.{written_again}

some_is : {A : Type 0} (x y : A) → (let a : Option A = Some x in a) ≡ Some y → x ≡ y
some_is {A} x y e = ap (λ (o : Option A). elim o as (λ _. A) [ Some z ↦ z | None ↦ x ]) e

ok_is : {A E : Type 0} (x y : A) → (let a : Result A E = Ok x in a) ≡ Ok y → x ≡ y
ok_is {A} {E} x y e = ap (λ (r : Result A E). elim r as (λ _. A) [ Ok z ↦ z | Err f ↦ x ]) e

pub says_again : (text : List ℕ) (written : WrittenQuery) → Says text written → written_in text ≡ Some written
says_again text written s = ap (λ (o : Option (List Token)). o >>= query_in) (tokens_again text s.tokens s.spelled (length text) (omega arith)) ∙ written_again s.tokens written s.parsed

pub has_query_again : (schema : Schema) (text : List ℕ) (q : PlainQuery) → HasQuery schema text q → query_of_text schema text ≡ Ok q
has_query_again schema text q h = ap (λ (o : Option WrittenQuery). given o (judged schema) (Err rules.BadToken)) (says_again text h.written h.says) ∙ h.meant

pub one_query : (schema : Schema) (text : List ℕ) (q other : PlainQuery) → HasQuery schema text q → HasQuery schema text other → q ≡ other
one_query schema text q other h k = ok_is q other (sym (has_query_again schema text q h) ∙ has_query_again schema text other k)

pub one_written : (text : List ℕ) (q other : WrittenQuery) → Says text q → Says text other → q ≡ other
one_written text q other h k = some_is q other (sym (says_again text q h) ∙ says_again text other k)

-- Query texts that were read.
use Rattle.std.specs.Prelude.{◌≡◌, ℕ, Bool, List, [], ◌∷◌, ◌++◌, Box, map, nat_eq, if◌then◌else◌}
use Rattle.std.specs.Borrow.{Bor}
use Rattle.std.specs.List.{AllByRecursion, list_any}
use Rattle.std.specs.declared.alloc.Global.{Global}
use Rattle.std.specs.declared.option.Option.TheVariants.{Some}
use Rattle.qbs_base.specs.Values.{Schema}
use Rattle.sql_ast.specs.declared.tree.Query.{Query}
use Rattle.sql_ast.specs.Reading.{query}
use Rattle.sql_ast.specs.Tree.{PlainQuery}
use Rattle.sql_exec.specs.Answered.{IsAnswerable}
use Rattle.java_types.specs.Texts.{read_by}

-- a schema under which query texts are read, and the numbers of the queries that may be asked many times, each once
pub record Queries : Type 0 where
  pub schema : Schema
  pub repeated : List ℕ

-- no text was read
abbrev pub unread : Schema → Queries
unread schema = record { schema = schema; repeated = [] }

-- the numbers, with this one at the end where it is none of them
abbrev pub with_number : List ℕ → ℕ → List ℕ
with_number numbers n = if list_any (nat_eq n) numbers then numbers else numbers ++ n ∷ []

-- the same where it is to be noted
abbrev pub marked : Bool → List ℕ → ℕ → List ℕ
marked noted numbers n = if noted then with_number numbers n else numbers

-- the text has this query, which is answered
pub record IsRead (schema : Schema) (text : List ℕ) (q : PlainQuery) : Type 0 where
  pub read : read_by schema text ≡ Some q
  pub answered : IsAnswerable q

abbrev pub AreRead : Schema → List (Bor (List ℕ) × Query) → Type 0
AreRead schema es = AllByRecursion (λ (e : Bor (List ℕ) × Query). IsRead schema e.0.now (query e.1)) es

-- the queries of entries that hold them on the heap
abbrev pub unboxed : List (Bor (List ℕ) × Box Query Global) → List (Bor (List ℕ) × Query)
unboxed es = map (λ (e : Bor (List ℕ) × Box Query Global). (e.0, e.1.value)) es

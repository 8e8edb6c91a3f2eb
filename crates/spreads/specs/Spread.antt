-- The spread of a loop: each inner select is a walk over the whole table with the condition tested in it. It may take more turns than the
-- loop, and is never written.
use Rattle.std.specs.Prelude.{ℕ, ◌+◌, List, [], ◌∷◌, Bool, true, false, ◌&&◌, nat_eq, if◌then◌else◌}
use Rattle.std.specs.declared.option.Option.{Option}
use Rattle.std.specs.declared.option.Option.TheVariants.{Some, None}
use Rattle.qbs_base.specs.declared.span.Span.{Span}
use Rattle.qbs_base.specs.Values.{Schema}
use Rattle.sql_ast.specs.declared.tree.FromItem.{FromItem}
use Rattle.sql_ast.specs.Tree.{Filter, Everything, Where, PlainListing, PlainQuery, Listing, Number, Truth}
use Rattle.java_ast.specs.Names.{Names}
use Rattle.java_ast.specs.Tree.{Spelled, Table, Expression, Fetch, Query, Expressions, Statement, Declare, If, IfElse, ForEach, While, Statements, Nothing, Then}
use Rattle.select_parts.specs.Selects.{is_select}
use Rattle.spreads.specs.Alone.{walks_alone}
use Rattle.spreads.specs.Conditions.{condition_in}
use Rattle.spreads.specs.Staying.{assigned_among, all_stay}

-- the query of a text
abbrev pub Reads : Type 0
Reads = List ℕ → Option PlainQuery

-- ---- Selects

-- a select with its arguments
pub record Select : Type 0 where
  pub query : PlainListing
  pub arguments : Expressions

abbrev pub select_if : Bool → PlainListing → Expressions → Option Select
select_if true q es = Some (record { query = q; arguments = es })
select_if false q es = None

abbrev pub select_of_rows : Schema → Names → Option PlainQuery → Expressions → Option Select
select_of_rows schema assigned (Some (Listing q)) es = select_if (is_select schema q && all_stay assigned es) q es
select_of_rows schema assigned (Some (Number q)) es = None
select_of_rows schema assigned (Some (Truth q)) es = None
select_of_rows schema assigned None es = None

-- the select that an expression is, where these names are assigned in the loop
abbrev pub select_of : Schema → Reads → Names → Expression → Option Select
select_of schema read assigned (Query at (Table name) text es) = select_of_rows schema assigned (read text) es
select_of schema read assigned e = None

abbrev pub is_there : Option Select → Bool
is_there (Some s) = true
is_there None = false

abbrev pub some_if : Bool → Expression → Option Expression
some_if true e = Some e
some_if false e = None

-- the select, as the value of a variable, that a statement declares for the for-each behind it
abbrev pub value_declared : Schema → Reads → Names → Statement → Statements → Option Expression
value_declared schema read assigned (Declare at ty x e) p = some_if (walks_alone x p && is_there (select_of schema read assigned e)) e
value_declared schema read assigned s p = None

-- ---- The spread

abbrev pub table_of : List FromItem → List ℕ
table_of (from ∷ froms) = from.name
table_of [] = []

-- no `if` where there is no WHERE
abbrev pub tested : Schema → Span → List ℕ → Select → Filter → Statements → Statements
tested schema at x s Everything body = body
tested schema at x s (Where c) body = Then (If at (condition_in schema s.query at x s.arguments c) body) Nothing

-- a walk over the table of a select with its condition round the body
abbrev pub walked : Schema → Span → Spelled → List ℕ → Select → Statements → Statement
walked schema at ty x s body = ForEach at ty x (Fetch at (table_of s.query.from)) (tested schema at x s s.query.filter body)

abbrev pub walked_or : Schema → Span → Spelled → List ℕ → Expression → Option Select → Statements → Statement
walked_or schema at ty x e (Some s) body = walked schema at ty x s body
walked_or schema at ty x e None body = ForEach at ty x e body

-- what is walked: the value that was declared for it, where there is one
abbrev pub value_or : Option Expression → Expression → Expression
value_or (Some value) e = value
value_or None e = e

abbrev mutual
  -- the statement spread, for which a value may have been declared
  pub spread_in : Schema → Reads → Names → Option Expression → Statement → Statement
  spread_in schema read assigned d (If at c a) = If at c (spread_among schema read assigned None a)
  spread_in schema read assigned d (IfElse at c a b) = IfElse at c (spread_among schema read assigned None a) (spread_among schema read assigned None b)
  spread_in schema read assigned d (ForEach at ty x e body) = walked_or schema at ty x e (select_of schema read assigned (value_or d e)) (spread_among schema read assigned None body)
  spread_in schema read assigned d (While at c body) = While at c (spread_among schema read assigned None body)
  spread_in schema read assigned d s = s

  -- a declaration for a for-each is dropped
  pub spread_among : Schema → Reads → Names → Option Expression → Statements → Statements
  spread_among schema read assigned d Nothing = Nothing
  spread_among schema read assigned d (Then s p) =
      elim (value_declared schema read assigned s p) as (λ _. Statements) [
        | Some value ↦ spread_among schema read assigned (Some value) p
        | None ↦ Then (spread_in schema read assigned d s) (spread_among schema read assigned None p)
      ]

-- how many selects statements have
abbrev mutual
  pub selects_in : Schema → Reads → Names → Option Expression → Statement → ℕ
  selects_in schema read assigned d (If at c a) = selects_among schema read assigned None a
  selects_in schema read assigned d (IfElse at c a b) = selects_among schema read assigned None a + selects_among schema read assigned None b
  selects_in schema read assigned d (ForEach at ty x e body) = (if is_there (select_of schema read assigned (value_or d e)) then 1 else 0) + selects_among schema read assigned None body
  selects_in schema read assigned d (While at c body) = selects_among schema read assigned None body
  selects_in schema read assigned d s = 0

  pub selects_among : Schema → Reads → Names → Option Expression → Statements → ℕ
  selects_among schema read assigned d Nothing = 0
  selects_among schema read assigned d (Then s p) =
      elim (value_declared schema read assigned s p) as (λ _. ℕ) [
        | Some value ↦ selects_among schema read assigned (Some value) p
        | None ↦ selects_in schema read assigned d s + selects_among schema read assigned None p
      ]

-- the spread of a for-each, where there is an inner select in it; its own list is none
abbrev pub spread_of : Schema → Reads → Statement → Option Statement
spread_of schema read (ForEach at ty x e body) =
    if nat_eq (selects_among schema read (assigned_among body) None body) 0
    then None
    else Some (ForEach at ty x e (spread_among schema read (assigned_among body) None body))
spread_of schema read s = None

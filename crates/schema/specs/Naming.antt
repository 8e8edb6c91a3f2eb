-- The names that tokens declare, and the rules that they break.
use Rattle.std.specs.Prelude.{ℕ, Bool, ◌&&◌, nat_le, nat_lt, List, [], ◌∷◌, ◌++◌, length, Option, Some, None, codes, if◌then◌else◌}
use Rattle.std.specs.Str.{bytes_eq}
use Rattle.readers.specs.Reading.{option_cases, first_passes}
use Rattle.qbs_base.specs.declared.span.Span.{Span}
use Rattle.schema.specs.declared.token.Kind.{Kind}
use Rattle.schema.specs.declared.token.Kind.TheVariants.{Word, Sign}
use Rattle.schema.specs.declared.token.Sign.TheVariants.{Open, Close, Comma}
use Rattle.schema.specs.declared.token.Token.{Token}
use Rattle.schema.specs.declared.names.Where.{Where}
use Rattle.schema.specs.declared.names.Where.TheVariants as at
use Rattle.schema.specs.declared.names.Role.{Role}
use Rattle.schema.specs.declared.names.Role.TheVariants as role
use Rattle.schema.specs.declared.names.Seen.{Seen}
use Rattle.schema.specs.declared.fault.SchemaRule.{SchemaRule}
use Rattle.schema.specs.declared.fault.SchemaRule.TheVariants.{DoubleTable, DoubleColumn, NameReserved, TooManyTables, TooManyColumns}
use Rattle.schema.specs.declared.fault.SchemaFault.{SchemaFault}
use Rattle.schema.specs.Words.{spells, is_among, is_reserved, is_reserved_table}
use Rattle.schema.specs.Reading.{is_word}

-- where the token after a token stands
abbrev pub next_where : Where → Kind → Where
next_where at.Create k = at.Table
next_where at.Table k = at.TableName
next_where at.TableName k = at.Open
next_where at.Open k = at.ColumnName
next_where at.ColumnName k = at.Body
next_where at.Body (Sign Comma) = at.ColumnName
next_where at.Body (Sign Open) = at.Inner
next_where at.Body (Sign Close) = at.End
next_where at.Body k = at.Body
next_where at.Inner (Sign Close) = at.Body
next_where at.Inner k = at.Inner
next_where at.End k = at.Create

-- PRIMARY before KEY begins the key clause
abbrev pub begins_key : List ℕ → List Token → Bool
begins_key word rest = spells (codes "PRIMARY") word && first_passes (λ t. is_word (codes "KEY") t.kind) rest

-- what a token declares, from the tokens after it
abbrev pub role_of : Where → Kind → List Token → Option (Role × List ℕ)
role_of at.TableName (Word n) rest = Some (role.Table, n)
role_of at.ColumnName (Word n) rest = if begins_key n rest then None else Some (role.Column, n)
role_of w k rest = None

-- a name that is declared, and where it stands
pub record Declared : Type 0 where
  pub role : Role
  pub name : List ℕ
  pub span : Span

abbrev pub declares : Option (Role × List ℕ) → Span → List Declared
declares None span = []
declares (Some (r, n)) span = record { role = r; name = n; span = span } ∷ []

-- The names that all but the last n of the tokens declare, in order. What a token declares depends on the tokens behind it, the
-- last n too.
unfoldable pub declared_before : ℕ → Where → List Token → List Declared
declared_before n w [] = []
declared_before n w (t ∷ ts) =
    if nat_lt (length ts) n then [] else declares (role_of w t.kind ts) t.at ++ declared_before n (next_where w t.kind) ts

-- ---- rules

-- no name stands before
abbrev pub nothing_seen : Seen
nothing_seen = record { tables = []; columns = [] }

abbrev pub seen_with : Seen → Role → List ℕ → Seen
seen_with s role.Table n = record { tables = s.tables ++ n ∷ []; columns = [] }
seen_with s role.Column n = record { tables = s.tables; columns = s.columns ++ n ∷ [] }

-- the rule of the smallest number that a name breaks
abbrev pub broken_by : Seen → Role → List ℕ → Option SchemaRule
broken_by s role.Table n =
    if is_among bytes_eq s.tables n then Some DoubleTable
    else (if is_reserved_table n then Some NameReserved
    else (if nat_le 64 (length s.tables) then Some TooManyTables else None))
broken_by s role.Column n =
    if is_among bytes_eq s.columns n then Some DoubleColumn
    else (if is_reserved n then Some NameReserved
    else (if nat_le 32 (length s.columns) then Some TooManyColumns else None))

-- the first name that breaks a rule
unfoldable pub first_broken : Seen → List Declared → Option SchemaFault
first_broken s [] = None
first_broken s (d ∷ ds) =
    option_cases (broken_by s d.role d.name) (first_broken (seen_with s d.role d.name) ds) (λ rule. Some (record { rule = rule; at = d.span }))

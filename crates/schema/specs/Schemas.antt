-- The schema of a text, or the first fault.
use Rattle.std.specs.Prelude.{ℕ, ◌-◌, List, [], ◌∷◌, length, drop, Option, Some, None, Result, Ok, Err}
use Rattle.readers.specs.declared.fault.Fault.{Fault}
use Rattle.readers.specs.declared.fault.Fault.TheVariants.{Unexpected, TooDeep}
use Rattle.qbs_base.specs.declared.span.Span.{Span}
use Rattle.qbs_base.specs.declared.columns.Table.{Table}
use Rattle.schema.specs.declared.token.Token.{Token}
use Rattle.schema.specs.declared.names.Where.TheVariants.{Create}
use Rattle.schema.specs.declared.fault.SchemaRule.TheVariants.{BadToken}
use Rattle.schema.specs.declared.fault.SchemaFault.{SchemaFault}
use Rattle.schema.specs.Tokens.{tokens_of, kinds_of, end_of}
use Rattle.schema.specs.Reading.{read_of}
use Rattle.schema.specs.Naming.{declared_before, nothing_seen, first_broken}

-- how many tokens are left from a fault on; none is too deep, since nothing is nested
abbrev pub left_of : Fault → ℕ
left_of (Unexpected n) = n
left_of (TooDeep n) = n

-- the last n tokens
abbrev pub last_from : ℕ → List Token → List Token
last_from n ts = drop (length ts - n) ts

-- the stretch of the first token, or the end
abbrev pub first_span : Span → List Token → Span
first_span end [] = end
first_span end (t ∷ ts) = t.at

-- a numbered rule that a name breaks is the fault where there is one, since it stands before
abbrev pub judged : Option SchemaFault → Result (List Table) SchemaFault → Result (List Table) SchemaFault
judged None read = read
judged (Some fault) read = Err fault

abbrev pub schema_from : Span → List Token → Result (List Table) Fault → Result (List Table) SchemaFault
schema_from end ts (Ok tables) = judged (first_broken nothing_seen (declared_before 0 Create ts)) (Ok tables)
schema_from end ts (Err fault) =
    judged (first_broken nothing_seen (declared_before (left_of fault) Create ts)) (Err (record { rule = BadToken; at = first_span end (last_from (left_of fault) ts) }))

-- the schema that a text has, or its first fault
unfoldable pub schema_of : List ℕ → Result (List Table) SchemaFault
schema_of text = schema_from (end_of text) (tokens_of text) (read_of (kinds_of (tokens_of text)))

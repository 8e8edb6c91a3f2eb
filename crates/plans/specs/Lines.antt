-- The lines of refusals.
use Rattle.std.specs.Prelude.{ℕ, List, ◌++◌, codes}
use Rattle.std.specs.Fmt.{decimal}
use Rattle.qbs_base.specs.declared.span.Span.{Span}
use Rattle.deriv_check.specs.declared.fault.BundleFault.{BundleFault}
use Rattle.java_lex.specs.declared.token.LexFault.{LexFault}
use Rattle.java_lex.specs.RuleNames as lexical
use Rattle.java_mean.specs.declared.ending.RunFault.{RunFault}
use Rattle.java_mean.specs.declared.rule.TypeFault.{TypeFault}
use Rattle.java_mean.specs.declared.rule.TypeRule.{TypeRule}
use Rattle.java_mean.specs.RuleNames as types
use Rattle.java_parser.specs.declared.fault.ParseFault.{ParseFault}
use Rattle.java_parser.specs.RuleNames as grammatical
use Rattle.schema.specs.declared.fault.DataFault.{DataFault}
use Rattle.schema.specs.declared.fault.SchemaFault.{SchemaFault}
use Rattle.schema.specs.RuleNames as schemas
use Rattle.text_places.specs.Places.{span_in}
use Rattle.verdicts.specs.Lines.{place_text}
use Rattle.view_map.specs.declared.fault.MapFault.{MapFault}
use Rattle.view_map.specs.RuleNames as maps

-- a rule by its number and name, and its place
abbrev pub rule_text : ℕ → List ℕ → Span → List ℕ
rule_text number name at = decimal number ++ codes " " ++ name ++ codes " at " ++ place_text at

abbrev pub lex_text : LexFault → List ℕ
lex_text fault = codes "qbs: source: lex " ++ rule_text (lexical.rule_number fault.rule) (lexical.rule_name fault.rule) fault.at

abbrev pub schema_text : SchemaFault → List ℕ
schema_text fault = codes "qbs: schema: " ++ rule_text (schemas.rule_number fault.rule) (schemas.rule_name fault.rule) fault.at

-- the fault of a map, with the line and column in its bytes
abbrev pub map_text : List ℕ → MapFault → List ℕ
map_text bytes fault = codes "qbs: map: " ++ rule_text (maps.rule_number fault.rule) (maps.rule_name fault.rule) (span_in bytes fault.at)

abbrev pub parse_text : ParseFault → List ℕ
parse_text fault = codes "qbs: source: parse " ++ rule_text (grammatical.rule_number fault.rule) (grammatical.rule_name fault.rule) fault.at

abbrev pub type_text : TypeFault → List ℕ
type_text fault = codes "qbs: types: " ++ rule_text (types.rule_number fault.rule) (types.rule_name fault.rule) fault.at

-- the place of what stands in no text that was read
abbrev pub nowhere : Span
nowhere = record { line = 0; column = 0; start = 0; end = 0 }

-- a word beside the source that breaks a rule
abbrev pub word_text : TypeRule → List ℕ
word_text rule = type_text (record { rule = rule; at = nowhere })

-- a rule by its number and name, of a row of a table
abbrev pub row_text : List ℕ → ℕ → List ℕ → ℕ → List ℕ
row_text table number name row = codes "qbs: data: " ++ table ++ codes ": " ++ decimal number ++ codes " " ++ name ++ codes " at row " ++ decimal row

-- the fault of a table's rows
abbrev pub data_text : List ℕ → DataFault → List ℕ
data_text table fault = row_text table (schemas.data_rule_number fault.rule) (schemas.data_rule_name fault.rule) fault.row

-- the fault of bytes that are no bundle
abbrev pub bundle_fault_text : BundleFault → List ℕ
bundle_fault_text fault = codes "qbs: bundle: at " ++ decimal fault.offset

abbrev pub fault_text : RunFault → Span → List ℕ
fault_text fault at = codes "qbs: fault: " ++ rule_text (types.fault_number fault) (types.fault_name fault) at

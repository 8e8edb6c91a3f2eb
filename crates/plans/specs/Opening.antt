-- The steps that commands begin with: a schema, a map, a source with a well-typed program, a bundle, and the query of a text.
use Rattle.std.specs.Prelude.{◌≡◌, ℕ, ◌⊎◌, List, Ok, Err}
use Rattle.std.specs.declared.option.Option.TheVariants.{Some, None}
use Rattle.qbs_base.specs.declared.memory.Fail.TheVariants.{Fault}
use Rattle.qbs_base.specs.declared.status.Status.{Status}
use Rattle.qbs_base.specs.Values.{Schema}
use Rattle.text_readers.specs.Offsets.{IsOffset}
use Rattle.deriv_check.specs.declared.fault.BundleFault.{BundleFault}
use Rattle.deriv_check.specs.Bundles.{Entry}
use Rattle.deriv_check.specs.Grammar.{HasBundle}
use Rattle.java_ast.specs.Tree.{PlainProgram}
use Rattle.java_lex.specs.declared.token.LexFault.{LexFault}
use Rattle.java_lex.specs.declared.token.Tokens.{Tokens}
use Rattle.java_lex.specs.Lexing.{lexed}
use Rattle.java_mean.specs.declared.rule.TypeFault.{TypeFault}
use Rattle.java_mean.specs.declared.rule.TypeRule.TheVariants.{BadQuery}
use Rattle.java_mean.specs.WellTyped.{all_faults, IsWellTyped, IsLeast}
use Rattle.java_parser.specs.declared.fault.ParseFault.{ParseFault}
use Rattle.java_grammar.specs.Grammar.{HasProgram, IsReadable}
use Rattle.java_parser.specs.Kept.{IsKept}
use Rattle.java_parser.specs.Parsed.{parsed}
use Rattle.java_mean.specs.Least.{least as kept_of}
use Rattle.java_types.specs.Texts.{read_by}
use Rattle.sql_ast.specs.Texts.{HasQuery}
use Rattle.sql_ast.specs.Tree.{PlainQuery}
use Rattle.schema.specs.declared.fault.SchemaFault.{SchemaFault}
use Rattle.schema.specs.Schemas.{schema_of}
use Rattle.view_map.specs.declared.fault.MapFault.{MapFault}
use Rattle.view_map.specs.declared.model.ViewMap.{ViewMap}
use Rattle.view_map.specs.Maps.{map_of}
use Rattle.deliveries.specs.declared.plan.Plan.{Plan}
use Rattle.plans.specs.Calls.{word_refusal}
use Rattle.plans.specs.Lines.{schema_text, map_text, lex_text, parse_text, type_text, bundle_fault_text}
use Rattle.deliveries.specs.Plan.{refusal}
use Rattle.deliveries.specs.Steps.{Ends, refused, step, finds}

-- ---- The schema

abbrev pub IsSchemaOf : List ℕ → Schema → Type 0
IsSchemaOf bytes tables = schema_of bytes ≡ Ok tables

abbrev pub BreaksSchema : List ℕ → SchemaFault → Type 0
BreaksSchema bytes fault = schema_of bytes ≡ Err fault

abbrev pub schema_refusal : SchemaFault → Plan
schema_refusal fault = refusal Status.Schema (schema_text fault)

abbrev pub has_schema : List ℕ → (Schema → Ends) → Ends
has_schema bytes next = finds (IsSchemaOf bytes) (BreaksSchema bytes) schema_refusal next

-- ---- The map

abbrev pub IsMapOf : Schema → List ℕ → ViewMap → Type 0
IsMapOf tables bytes m = map_of tables bytes ≡ Ok m

abbrev pub BreaksMap : Schema → List ℕ → MapFault → Type 0
BreaksMap tables bytes fault = map_of tables bytes ≡ Err fault

abbrev pub map_refusal : List ℕ → MapFault → Plan
map_refusal bytes fault = refusal Status.View (map_text bytes fault)

abbrev pub has_map : Schema → List ℕ → (ViewMap → Ends) → Ends
has_map tables bytes next = finds (IsMapOf tables bytes) (BreaksMap tables bytes) (map_refusal bytes) next

-- ---- The source

-- the bytes have tokens, and the tokens a program, of which none is too deep, and it is well typed
pub record IsProgramOf (tables : Schema) (bytes : List ℕ) (p : PlainProgram) : Type 0 where
  pub tokens : Tokens
  pub has_tokens : lexed bytes ≡ Ok tokens
  pub has_program : IsReadable tokens.list p
  pub typed : IsWellTyped tables (read_by tables) p

abbrev pub HasTokens : List ℕ → Tokens → Type 0
HasTokens bytes tokens = lexed bytes ≡ Ok tokens

abbrev pub LacksTokens : List ℕ → LexFault → Type 0
LacksTokens bytes fault = lexed bytes ≡ Err fault

-- the tokens have no program, or one of them is too deep: the fault that is kept, as reading from left to right finds it
pub record HasKept (tokens : Tokens) (fault : ParseFault) : Type 0 where
  pub kept : IsKept HasProgram tokens (Fault fault)
  pub found : parsed tokens ≡ Err fault

abbrev pub LacksProgram : List ℕ → ParseFault → Type 0
LacksProgram bytes fault = (tokens : Tokens) × HasTokens bytes tokens × HasKept tokens fault

-- the program breaks a type rule: a least fault, and of those with one place and one rule the first
pub record HasLeast (tables : Schema) (p : PlainProgram) (fault : TypeFault) : Type 0 where
  pub least : IsLeast fault (all_faults tables (read_by tables) p)
  pub first : kept_of None (all_faults tables (read_by tables) p) ≡ Some fault

abbrev pub IsIllTyped : Schema → List ℕ → TypeFault → Type 0
IsIllTyped tables bytes fault = (tokens : Tokens) × (p : PlainProgram) × HasTokens bytes tokens × IsReadable tokens.list p × HasLeast tables p fault

abbrev pub lex_refusal : LexFault → Plan
lex_refusal fault = refusal Status.Source (lex_text fault)

abbrev pub parse_refusal : ParseFault → Plan
parse_refusal fault = refusal Status.Source (parse_text fault)

abbrev pub type_refusal : TypeFault → Plan
type_refusal fault = refusal Status.Types (type_text fault)

abbrev pub HasNoProgram : Schema → List ℕ → Ends
HasNoProgram tables bytes plan =
    refused (LacksTokens bytes) lex_refusal plan ⊎ refused (LacksProgram bytes) parse_refusal plan ⊎ refused (IsIllTyped tables bytes) type_refusal plan

abbrev pub has_program : Schema → List ℕ → (PlainProgram → Ends) → Ends
has_program tables bytes next = step (IsProgramOf tables bytes) (HasNoProgram tables bytes) next

-- ---- The bundle

-- no bundle has the bytes, and the offset is the length of the longest front of them with which some bundle begins
abbrev pub BreaksBundle : List ℕ → BundleFault → Type 0
BreaksBundle bytes fault = IsOffset HasBundle bytes fault.offset

abbrev pub bundle_refusal : BundleFault → Plan
bundle_refusal fault = refusal Status.Bundle (bundle_fault_text fault)

abbrev pub has_bundle : List ℕ → (List Entry → Ends) → Ends
has_bundle bytes next = finds (HasBundle bytes) (BreaksBundle bytes) bundle_refusal next

-- ---- The query of a text

-- the text has no query, which is a bad one
abbrev pub HasNoQuery : Schema → List ℕ → Ends
HasNoQuery tables text plan = ((q : PlainQuery) → HasQuery tables text q → ⊥) × (plan ≡ word_refusal BadQuery)

-- The command `inline`: a program with calls of its own methods is written as one without, in which the bodies of helpers stand in for their
-- calls, and what is promised of the bytes written.
use Rattle.std.specs.Prelude.{◌≡◌, ◌⊎◌, ℕ, List, [], ◌++◌, take, codes, Ok, Err}
use Rattle.std.specs.Io.KnownBytes.{Appends}
use Rattle.qbs_base.specs.declared.span.Span.{Span}
use Rattle.qbs_base.specs.declared.status.Status.{Status}
use Rattle.qbs_base.specs.Places.{between, first_place, place_after}
use Rattle.qbs_base.specs.Values.{Schema}
use Rattle.java_ast.specs.Tree.{PlainProgram}
use Rattle.java_ast.specs.Unplaced.{unplaced_program}
use Rattle.java_lex.specs.declared.token.Tokens.{Tokens}
use Rattle.java_lex.specs.Lexing.{lexed}
use Rattle.java_parser.specs.declared.fault.ParseFault.{ParseFault}
use Rattle.java_mean.specs.WellTyped.{IsWellTyped}
use Rattle.java_types.specs.Texts.{read_by}
use Rattle.java_calls.specs.KeepsCalls.{KeepsCalls}
use Rattle.java_calls.specs.Rules.{rule_number}
use Rattle.call_reader.specs.WithCalls.{IsReadableWithCalls, IsFaultWithCalls, parsed_with_calls}
use Rattle.call_rules.specs.declared.rule.HelperFault.{HelperFault}
use Rattle.call_rules.specs.Faults.{IsFaultOf, plain_rule, rule_name}
use Rattle.inlining.specs.Inlined.{IsWhole}
use Rattle.method_texts.specs.Anew.{text_anew}
use Rattle.kept_texts.specs.Kept.{IsTextFor}
use Rattle.words.specs.declared.command.Command.TheVariants as commands
use Rattle.words.specs.Plain.{HasWords}
use Rattle.deliveries.specs.declared.plan.Plan.{Plan}
use Rattle.deliveries.specs.Deliver.{Change}
use Rattle.deliveries.specs.Limits.{most_schema, most_source}
use Rattle.deliveries.specs.Plan.{Given, refusal}
use Rattle.deliveries.specs.Steps.{Ends, IsRead, reads, step, finds, refused}
use Rattle.plans.specs.Lines.{rule_text}
use Rattle.plans.specs.Opening.{IsSchemaOf, IsProgramOf, has_schema, HasTokens, LacksTokens, lex_refusal, parse_refusal, HasLeast, type_refusal}
use Rattle.qbs.specs.Again.{IsReadAgain}

-- ---- The program with calls

-- the bytes have tokens, and the tokens a program with calls, of which none is too deep
pub record IsProgramWithCallsOf (bytes : List ℕ) (p : PlainProgram) : Type 0 where
  pub tokens : Tokens
  pub has_tokens : lexed bytes ≡ Ok tokens
  pub has_program : IsReadableWithCalls tokens.list p

-- the tokens have none: the fault that is kept, as reading from left to right finds it
pub record HasKeptWithCalls (tokens : Tokens) (fault : ParseFault) : Type 0 where
  pub kept : IsFaultWithCalls tokens fault
  pub found : parsed_with_calls tokens ≡ Err fault

abbrev pub LacksProgramWithCalls : List ℕ → ParseFault → Type 0
LacksProgramWithCalls bytes fault = (tokens : Tokens) × HasTokens bytes tokens × HasKeptWithCalls tokens fault

abbrev pub HasNoProgramWithCalls : List ℕ → Ends
HasNoProgramWithCalls bytes plan = refused (LacksTokens bytes) lex_refusal plan ⊎ refused (LacksProgramWithCalls bytes) parse_refusal plan

abbrev pub has_program_with_calls : List ℕ → (PlainProgram → Ends) → Ends
has_program_with_calls bytes next = step (IsProgramWithCallsOf bytes) (HasNoProgramWithCalls bytes) next

-- ---- The rules of helpers

-- the place of the byte of a source with this number
abbrev pub place_in : List ℕ → ℕ → Span
place_in source n = between (place_after first_place (take n source)) (place_after first_place (take n source))

-- a rule of helpers by its number and name, and the place at which what breaks it begins
abbrev pub helper_text : List ℕ → HelperFault → List ℕ
helper_text source fault = codes "qbs: helpers: " ++ rule_text (rule_number (plain_rule fault.rule)) (rule_name fault.rule) (place_in source fault.at.start)

abbrev pub helper_refusal : List ℕ → HelperFault → Plan
helper_refusal source fault = refusal Status.Types (helper_text source fault)

abbrev pub has_no_calls_left : List ℕ → PlainProgram → (PlainProgram → Ends) → Ends
has_no_calls_left source p next = finds (IsWhole p) (IsFaultOf p) (helper_refusal source) next

-- ---- What is written

abbrev pub inlined_plan : List ℕ → Plan
inlined_plan out = record { status = Status.Ok; out = out; rep = [] }

-- The text is read back as the inlined program, also by what weighs how deep it is: it is the source in which the methods with calls are written
-- anew, wherever that is so.
pub record Inlines (tables : Schema) (source : List ℕ) (p q : PlainProgram) (plan : Plan) : Type 0 where
  pub keeps : KeepsCalls p q tables
  pub out : List ℕ
  pub text : IsTextFor (text_anew source p q) q out
  pub again : IsReadAgain tables out q
  pub written : plan ≡ inlined_plan out

-- the inlined program is well typed, or its least fault is told, at the place that its statement had where it was read
abbrev pub types_and_writes : Schema → List ℕ → PlainProgram → PlainProgram → Ends
types_and_writes tables source p q =
    finds (λ (u : Unit {0}). IsWellTyped tables (read_by tables) q) (HasLeast tables q) type_refusal (λ u. Inlines tables source p q)

-- ---- The command

-- over the bytes of a schema and a source
abbrev pub inline_of : List ℕ → List ℕ → Ends
inline_of schema source =
    has_schema schema (λ tables. has_program_with_calls source (λ p. has_no_calls_left source p (λ q. types_and_writes tables source p q)))

abbrev pub inline : Given → List ℕ → List ℕ → Ends
inline files schema source =
    reads files schema most_schema (codes "schema") (λ s. reads files source most_source (codes "source") (λ t. inline_of s t))

-- ---- What it is worth

-- What `inline` read, as `schema` and `source`, and what it wrote, as `out`.
pub record IsInlining (schema source out : List ℕ) : Type 0 where
  -- the schema's bytes are a schema, and the source's bytes have a program with calls, which breaks no rule of helpers
  pub tables : Schema
  pub program : PlainProgram
  pub is_schema : IsSchemaOf schema tables
  pub is_program : IsProgramWithCallsOf source program
  -- the program in which no call is left
  pub inlined : PlainProgram
  pub is_inlined : IsWhole program inlined
  -- text: the bytes written have a well-typed program, of which none is too deep, and which is the inlined one but for places; they are the
  -- source with the methods that call others written anew, wherever that is a text of the inlined program
  pub written : PlainProgram
  pub is_written : IsProgramOf tables out written
  pub alike : unplaced_program written ≡ unplaced_program inlined
  pub output : IsTextFor (text_anew source program inlined) inlined out
  -- meaning
  pub keeps : KeepsCalls program written tables

-- both files were read, and both sinks have grown by what is written
pub record IsInlinedText (files : Given) (schema source : List ℕ) (out rep : Change) : Type 0 where
  pub schema_read : List ℕ
  pub source_read : List ℕ
  pub text : List ℕ
  pub read_schema : IsRead files schema most_schema schema_read
  pub read_source : IsRead files source most_source source_read
  pub is : IsInlining schema_read source_read text
  pub wrote_text : Appends out.old out.new text
  pub wrote_lines : Appends rep.old rep.new []

abbrev pub HasInlining : Given → List (List ℕ) → Change → Change → Status → Type 0
HasInlining files words out rep result =
    (schema source : List ℕ) → HasWords words (commands.Inline schema source) → result ≡ Status.Ok → IsInlinedText files schema source out rep

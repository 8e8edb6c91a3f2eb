-- A schema, a source, a bundle and a query that are opened, or the refusal that is due.
use Rattle.std.proofs.Common.{◌≡◌, ℕ, List, Ok, Err, Some, None, Result, sym, subst, inl, inr}
use Rattle.qbs_base.specs.declared.memory.Fail.TheVariants.{Fault}
use Rattle.qbs_base.specs.Values.{Schema}
use Rattle.deriv_check.specs.declared.fault.BundleFault.{BundleFault}
use Rattle.deriv_check.specs.Bundles.{Entry}
use Rattle.deriv_check.specs.Grammar.{HasBundle}
use Rattle.java_ast.specs.Tree.{PlainProgram}
use Rattle.java_lex.specs.declared.token.LexFault.{LexFault}
use Rattle.java_lex.specs.declared.token.Tokens.{Tokens}
use Rattle.java_lex.specs.Lexing.{lexed}
use Rattle.java_mean.specs.declared.rule.TypeFault.{TypeFault}
use Rattle.java_mean.specs.declared.rule.TypeRule.TheVariants.{BadQuery}
use Rattle.java_mean.specs.WellTyped.{all_faults, IsWellTyped, IsLeast}
use Rattle.java_parser.specs.declared.fault.ParseFault.{ParseFault}
use Rattle.java_grammar.specs.Grammar.{HasProgram, IsReadable}
use Rattle.java_parser.specs.Kept.{IsKept}
use Rattle.java_parser.specs.Parsed.{parsed}
use Rattle.java_mean.specs.Least.{least as kept_of}
use Rattle.java_types.specs.Texts.{read_by}
use Rattle.sql_ast.specs.declared.rule.SqlRule.{SqlRule}
use Rattle.sql_ast.specs.Reader.{query_of_text}
use Rattle.sql_ast.specs.Texts.{HasQuery}
use Rattle.sql_ast.specs.Tree.{PlainQuery}
use Rattle.sql_ast.proofs.Judged.{query_exactly}
use Rattle.schema.specs.declared.fault.SchemaFault.{SchemaFault}
use Rattle.schema.specs.Schemas.{schema_of}
use Rattle.view_map.specs.declared.fault.MapFault.{MapFault}
use Rattle.view_map.specs.declared.model.ViewMap.{ViewMap}
use Rattle.view_map.specs.Maps.{map_of}
use Rattle.deliveries.specs.declared.fetch.Stop.{Stop}
use Rattle.plans.specs.Calls.{word_refusal}
use Rattle.deliveries.specs.Code.{Goes, StopsWith}
use Rattle.plans.specs.Opening.{IsSchemaOf, BreaksSchema, schema_refusal, IsMapOf, BreaksMap, map_refusal, HasTokens, LacksTokens, lex_refusal, HasKept, parse_refusal, HasLeast, type_refusal, IsProgramOf, HasNoProgram, BreaksBundle, bundle_refusal, HasNoQuery}
use Rattle.deliveries.specs.declared.plan.Plan.{Plan}
use Rattle.deliveries.specs.Steps.{refused}

-- a refusal for what is lacking
pub refuses : {A F : Type 0} (Is : A → Type 0) (Lacks : F → Type 0) (refusal : F → Plan) (fault : F) (stop : Stop) → Lacks fault → StopsWith (refusal fault) stop → Goes {A = A} (Err stop) Is (refused Lacks refusal)
refuses Is Lacks refusal fault (Stop.Due plan) lacks due = (fault, lacks, due)
refuses Is Lacks refusal fault Stop.Memory lacks due = tt

pub schema_stops : (bytes : List ℕ) (fault : SchemaFault) (stop : Stop) → schema_of bytes ≡ Err fault → StopsWith (schema_refusal fault) stop →
    Goes {A = Schema} (Err stop) (IsSchemaOf bytes) (refused (BreaksSchema bytes) schema_refusal)
schema_stops bytes fault stop is due = refuses (IsSchemaOf bytes) (BreaksSchema bytes) schema_refusal fault stop is due

pub map_stops : (tables : Schema) (bytes : List ℕ) (fault : MapFault) (stop : Stop) → map_of tables bytes ≡ Err fault → StopsWith (map_refusal bytes fault) stop →
    Goes {A = ViewMap} (Err stop) (IsMapOf tables bytes) (refused (BreaksMap tables bytes) (map_refusal bytes))
map_stops tables bytes fault stop is due = refuses (IsMapOf tables bytes) (BreaksMap tables bytes) (map_refusal bytes) fault stop is due

pub tokens_stop : (bytes : List ℕ) (fault : LexFault) (stop : Stop) → lexed bytes ≡ Err fault → StopsWith (lex_refusal fault) stop →
    Goes {A = Tokens} (Err stop) (HasTokens bytes) (refused (LacksTokens bytes) lex_refusal)
tokens_stop bytes fault stop is due = refuses (HasTokens bytes) (LacksTokens bytes) lex_refusal fault stop is due

pub program_stops : {A : Type 0} (Is : A → Type 0) (tokens : Tokens) (fault : ParseFault) (stop : Stop) → IsKept HasProgram tokens (Fault fault) → parsed tokens ≡ Err fault → StopsWith (parse_refusal fault) stop →
    Goes {A = A} (Err stop) Is (refused (HasKept tokens) parse_refusal)
program_stops Is tokens fault stop kept is due = refuses Is (HasKept tokens) parse_refusal fault stop (record { kept = kept; found = is }) due

pub types_stop : {A : Type 0} (Is : A → Type 0) (tables : Schema) (p : PlainProgram) (fault : TypeFault) (stop : Stop) → IsLeast fault (all_faults tables (read_by tables) p) → kept_of None (all_faults tables (read_by tables) p) ≡ Some fault →
    StopsWith (type_refusal fault) stop → Goes {A = A} (Err stop) Is (refused (HasLeast tables p) type_refusal)
types_stop Is tables p fault stop least first due = refuses Is (HasLeast tables p) type_refusal fault stop (record { least = least; first = first }) due

pub bundle_stops : {A : Type 0} (view : A → List Entry) (bytes : List ℕ) (fault : BundleFault) (stop : Stop) → BreaksBundle bytes fault → StopsWith (bundle_refusal fault) stop →
    Goes {A = A} (Err stop) (λ b. HasBundle bytes (view b)) (refused (BreaksBundle bytes) bundle_refusal)
bundle_stops view bytes fault stop breaks due = refuses (λ b. HasBundle bytes (view b)) (BreaksBundle bytes) bundle_refusal fault stop breaks due

none_has : (tables : Schema) (text : List ℕ) (rule : SqlRule) → query_of_text tables text ≡ Err rule → (q : PlainQuery) → HasQuery tables text q → ⊥
none_has tables text rule is q has = let found : query_of_text tables text ≡ Ok q = (query_exactly tables text q).0 has in absurd cc

pub query_stops : {A : Type 0} (Is : A → Type 0) (tables : Schema) (text : List ℕ) (rule : SqlRule) (stop : Stop) → query_of_text tables text ≡ Err rule → StopsWith (word_refusal BadQuery) stop →
    Goes {A = A} (Err stop) Is (HasNoQuery tables text)
query_stops Is tables text rule (Stop.Due plan) is due = (none_has tables text rule is, due)
query_stops Is tables text rule Stop.Memory is due = tt

-- ---- the three parts of a source

pub lacks_tokens : {A C : Type 0} (Is : A → Type 0) (To : C → Type 0) (tables : Schema) (bytes : List ℕ) (stop : Stop) →
    Goes {A = A} (Err stop) Is (refused (LacksTokens bytes) lex_refusal) → Goes {A = C} (Err stop) To (HasNoProgram tables bytes)
lacks_tokens Is To tables bytes (Stop.Due plan) h = inl h
lacks_tokens Is To tables bytes Stop.Memory h = tt

pub lacks_program : {A C : Type 0} (Is : A → Type 0) (To : C → Type 0) (tables : Schema) (bytes : List ℕ) (tokens : Tokens) (stop : Stop) →
    lexed bytes ≡ Ok tokens → Goes {A = A} (Err stop) Is (refused (HasKept tokens) parse_refusal) → Goes {A = C} (Err stop) To (HasNoProgram tables bytes)
lacks_program Is To tables bytes tokens (Stop.Due plan) has h = inr (inl (h.0, (tokens, has, h.1), h.2))
lacks_program Is To tables bytes tokens Stop.Memory has h = tt

pub is_program : {C : Type 0} (view : C → PlainProgram) (tables : Schema) (bytes : List ℕ) (tokens : Tokens) (p : PlainProgram) (result : Result C Stop) →
    lexed bytes ≡ Ok tokens → IsReadable tokens.list p →
    Goes {A = C} result (λ c. view c ≡ p) (λ plan. Unit {0}) →
    Goes {A = C} result (λ c. IsWellTyped tables (read_by tables) (view c)) (refused (HasLeast tables p) type_refusal) →
    Goes {A = C} result (λ c. IsProgramOf tables bytes (view c)) (HasNoProgram tables bytes)
is_program view tables bytes tokens p (Ok c) has read same typed =
    record { tokens = tokens; has_tokens = has; has_program = subst (IsReadable tokens.list) (sym same) read; typed = typed }
is_program view tables bytes tokens p (Err (Stop.Due plan)) has read same h = inr (inr (h.0, (tokens, p, has, read, h.1), h.2))
is_program view tables bytes tokens p (Err Stop.Memory) has read same h = tt

-- What texts have is one, or their refusal is.
use Rattle.std.proofs.Common.{◌≡◌, ◌≢◌, ℕ, inl, inr, Bool, true, false, List, [], ◌∷◌, Option, Some, None, Result, Ok, Err, sym, refl, ap, ◌∙◌}
use Rattle.qbs_base.specs.declared.scalar.Scalar.{Scalar}
use Rattle.qbs_base.specs.declared.scalar.Ty.{Ty}
use Rattle.qbs_base.specs.Values.{Schema, Database}
use Rattle.deriv_check.specs.Bundles.{Entry}
use Rattle.deriv_check.specs.Grammar.{HasBundle}
use Rattle.deriv_check.proofs.Bundled.{exact_bundle}
use Rattle.text_readers.proofs.Whole.{all_read, one_offset}
use Rattle.java_ast.specs.Tree.{PlainMethod, PlainProgram}
use Rattle.java_lex.specs.declared.token.LexFault.{LexFault}
use Rattle.java_lex.specs.declared.token.Tokens.{Tokens}
use Rattle.java_lex.specs.Lexing.{lexed}
use Rattle.java_mean.specs.declared.rule.TypeFault.{TypeFault}
use Rattle.java_mean.specs.declared.rule.TypeRule.{TypeRule}
use Rattle.java_mean.specs.declared.rule.TypeRule.TheVariants as types
use Rattle.java_mean.specs.Rules.{has_order}
use Rattle.java_mean.specs.WellTyped.{all_faults}
use Rattle.java_parser.specs.declared.fault.ParseFault.{ParseFault}
use Rattle.java_parser.specs.Parsed.{parsed}
use Rattle.java_parser.proofs.ParsedLaws.{program_is_parsed}
use Rattle.java_mean.specs.Least.{least as kept_of}
use Rattle.java_types.specs.Texts.{read_by}
use Rattle.java_types.proofs.Found.{found_exactly}
use Rattle.schema.specs.Schemas.{schema_of}
use Rattle.view_map.specs.declared.model.ViewMap.{ViewMap}
use Rattle.view_map.specs.Maps.{map_of}
use Rattle.sql_ast.specs.Texts.{HasQuery}
use Rattle.sql_ast.specs.Tree.{PlainQuery}
use Rattle.sql_ast.specs.Valid.{params_in}
use Rattle.deliveries.specs.declared.plan.Plan.{Plan}
use Rattle.plans.specs.Calls.{Call, Called, Calls, CallsNothing, arguments, method_named, word_refusal}
use Rattle.plans.specs.Opening.{BreaksBundle, bundle_refusal, IsSchemaOf, BreaksSchema, schema_refusal, IsMapOf, BreaksMap, map_refusal, lex_refusal, parse_refusal, type_refusal, IsProgramOf, HasNoProgram}
use Rattle.deliveries.specs.Steps.{refused}
use Rattle.plans.specs.Tables.{loaded, HasRows, LacksRows, data_refusal}
use Rattle.qbs.specs.Sql.{IsAsked, AsksNothing}
use Rattle.qbs.proofs.OneStep.{IsOne, ok_same, decided, decided_by, err_of}

pub schema_one : (bytes : List ℕ) → IsOne {B = Schema} (IsSchemaOf bytes) (refused (BreaksSchema bytes) schema_refusal)
schema_one bytes = decided_by (IsSchemaOf bytes) (BreaksSchema bytes) schema_refusal (schema_of bytes) (λ b e. e) (λ f e. e)

pub map_one : (tables : Schema) (bytes : List ℕ) → IsOne {B = ViewMap} (IsMapOf tables bytes) (refused (BreaksMap tables bytes) (map_refusal bytes))
map_one tables bytes = decided_by (IsMapOf tables bytes) (BreaksMap tables bytes) (map_refusal bytes) (map_of tables bytes) (λ b e. e) (λ f e. e)

pub rows_one : (tables : Schema) (texts : List (List ℕ)) → IsOne {B = Database} (HasRows tables texts) (refused (LacksRows tables texts) data_refusal)
rows_one tables texts = decided_by (HasRows tables texts) (LacksRows tables texts) data_refusal (loaded tables texts) (λ b e. e) (λ f e. e)

-- ---- the program of a source, from left to right

abbrev typed_or : PlainProgram → Option TypeFault → Result PlainProgram Plan
typed_or p None = Ok p
typed_or p (Some fault) = Err (type_refusal fault)

abbrev parsed_or : Schema → Result PlainProgram ParseFault → Result PlainProgram Plan
parsed_or tables (Ok p) = typed_or p (kept_of None (all_faults tables (read_by tables) p))
parsed_or tables (Err fault) = Err (parse_refusal fault)

abbrev lexed_or : Schema → Result Tokens LexFault → Result PlainProgram Plan
lexed_or tables (Ok tokens) = parsed_or tables (parsed tokens)
lexed_or tables (Err fault) = Err (lex_refusal fault)

program_found : (tables : Schema) (bytes : List ℕ) (p : PlainProgram) → IsProgramOf tables bytes p → lexed_or tables (lexed bytes) ≡ Ok p
program_found tables bytes p is =
    ap (lexed_or tables) is.has_tokens ∙ ap (parsed_or tables) (program_is_parsed is.tokens p is.has_program) ∙ ap (λ (fs : List TypeFault). typed_or p (kept_of None fs)) is.typed

program_lacking : (tables : Schema) (bytes : List ℕ) (plan : Plan) → HasNoProgram tables bytes plan → lexed_or tables (lexed bytes) ≡ Err plan
program_lacking tables bytes plan (inl h) = ap (lexed_or tables) h.1 ∙ ap (err_of {A = PlainProgram} {F = Plan}) (sym h.2)
program_lacking tables bytes plan (inr (inl h)) =
    ap (lexed_or tables) h.1.1 ∙ ap (parsed_or tables) h.1.2.found ∙ ap (err_of {A = PlainProgram} {F = Plan}) (sym h.2)
program_lacking tables bytes plan (inr (inr h)) =
    ap (lexed_or tables) h.1.2 ∙ ap (parsed_or tables) (program_is_parsed h.1.0 h.1.1 h.1.3) ∙ ap (typed_or h.1.1) h.1.4.first ∙ ap (err_of {A = PlainProgram} {F = Plan}) (sym h.2)

pub program_one : (tables : Schema) (bytes : List ℕ) → IsOne {B = PlainProgram} (IsProgramOf tables bytes) (HasNoProgram tables bytes)
program_one tables bytes =
    decided (IsProgramOf tables bytes) (HasNoProgram tables bytes) (lexed_or tables (lexed bytes)) (program_found tables bytes) (program_lacking tables bytes)

-- ---- the entries of a bundle

one_bundle : (bytes : List ℕ) (a b : List Entry) → HasBundle bytes a → HasBundle bytes b → a ≡ b
one_bundle bytes a b x y = ok_same _ a b (all_read exact_bundle tt bytes a x) (all_read exact_bundle tt bytes b y)

pub bundle_one : (bytes : List ℕ) → IsOne {B = List Entry} (HasBundle bytes) (refused (BreaksBundle bytes) bundle_refusal)
bundle_one bytes = record {
  same = λ b c x y. one_bundle bytes b c x y;
  stops = λ p q x y. x.2 ∙ ap (λ (n : ℕ). bundle_refusal (record { offset = n })) (one_offset HasBundle bytes x.0.offset y.0.offset x.1 y.1) ∙ sym y.2;
  apart = λ b p x y. y.1.no_member b x;
}

-- ---- the call of words

abbrev fits_or : PlainMethod → Result (List Scalar) TypeRule → Result Called TypeRule
fits_or m (Ok args) = Ok (record { method = m; args = args })
fits_or m (Err rule) = Err rule

abbrev called_or : List (List ℕ) → Option PlainMethod → Result Called TypeRule
called_or words (Some m) = fits_or m (arguments m.params words)
called_or words None = Err types.Unknown

call_found : (p : PlainProgram) (call : Call) (c : Called) → Calls p call c → called_or call.words (method_named call.method p.methods) ≡ Ok c
call_found p call c is = ap (called_or call.words) is.named ∙ ap (fits_or c.method) is.fit

call_lacking : (p : PlainProgram) (call : Call) (rule : TypeRule) → CallsNothing p call rule → called_or call.words (method_named call.method p.methods) ≡ Err rule
call_lacking p call rule (inl h) = ap (called_or call.words) h.1 ∙ ap (err_of {A = Called} {F = TypeRule}) (sym h.0)
call_lacking p call rule (inr h) = ap (called_or call.words) h.1 ∙ ap (fits_or h.0) h.2

pub call_one : (p : PlainProgram) (call : Call) → IsOne {B = Called} (Calls p call) (refused (CallsNothing p call) word_refusal)
call_one p call = decided_by (Calls p call) (CallsNothing p call) word_refusal (called_or call.words (method_named call.method p.methods)) (call_found p call) (call_lacking p call)

-- ---- the query of a text

abbrev closed_or : PlainQuery → List Ty → Result PlainQuery TypeRule
closed_or q [] = Ok q
closed_or q (ty ∷ tys) = Err types.Arity

abbrev ordered_or : PlainQuery → Bool → Result PlainQuery TypeRule
ordered_or q true = closed_or q (params_in q)
ordered_or q false = Err types.UnorderedQuery

abbrev asked_or : Option PlainQuery → Result PlainQuery TypeRule
asked_or (Some q) = ordered_or q (has_order (Some q))
asked_or None = Err types.BadQuery

query_found : (tables : Schema) (text : List ℕ) (q : PlainQuery) → IsAsked tables text q → asked_or (read_by tables text) ≡ Ok q
query_found tables text q is = ap asked_or ((found_exactly tables text q).1 is.has_query) ∙ ap (ordered_or q) is.ordered ∙ ap (closed_or q) is.closed

none_read : (tables : Schema) (text : List ℕ) → ((q : PlainQuery) → HasQuery tables text q → ⊥) → (o : Option PlainQuery) → read_by tables text ≡ o → asked_or o ≡ Err types.BadQuery
none_read tables text none (Some q) e = absurd (none q ((found_exactly tables text q).0 e))
none_read tables text none None e = refl

some_params : (q : PlainQuery) (tys : List Ty) → params_in q ≡ tys → params_in q ≢ [] → closed_or q tys ≡ Err types.Arity
some_params q [] e some = absurd (some e)
some_params q (ty ∷ tys) e some = refl

query_lacking : (tables : Schema) (text : List ℕ) (rule : TypeRule) → AsksNothing tables text rule → asked_or (read_by tables text) ≡ Err rule
query_lacking tables text types.BadQuery h = none_read tables text h (read_by tables text) refl
query_lacking tables text types.UnorderedQuery h = ap asked_or ((found_exactly tables text h.0).1 h.1) ∙ ap (ordered_or h.0) h.2
query_lacking tables text types.Arity h =
    ap asked_or ((found_exactly tables text h.0).1 h.1) ∙ ap (ordered_or h.0) h.2 ∙ some_params h.0 (params_in h.0) refl h.3
query_lacking tables text types.Unknown h = absurd h
query_lacking tables text types.Mismatch h = absurd h
query_lacking tables text types.DoubleName h = absurd h
query_lacking tables text types.TextIdentity h = absurd h
query_lacking tables text types.ListAlias h = absurd h
query_lacking tables text types.ModifiedInLoop h = absurd h
query_lacking tables text types.ReturnPlace h = absurd h
query_lacking tables text types.BreakPlace h = absurd h

pub query_one : (tables : Schema) (text : List ℕ) → IsOne {B = PlainQuery} (IsAsked tables text) (refused (AsksNothing tables text) word_refusal)
query_one tables text = decided_by (IsAsked tables text) (AsksNothing tables text) word_refusal (asked_or (read_by tables text)) (query_found tables text) (query_lacking tables text)

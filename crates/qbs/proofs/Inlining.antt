-- What is due for `inline` is one, and what it is worth follows from a plan that is due and was delivered.
use Rattle.std.proofs.Common.{◌≡◌, ◌⊎◌, inl, inr, ℕ, List, [], ◌∷◌, ◌++◌, Option, Some, None, Result, Ok, Err, sym, refl, ap, ◌∙◌, subst, codes}
use Rattle.std.specs.Prelude.{IsSome}
use Rattle.std.specs.Io.KnownBytes.{Appends}
use Rattle.qbs_base.specs.declared.status.Status.{Status}
use Rattle.qbs_base.specs.declared.status.Status.TheVariants as statuses
use Rattle.qbs_base.specs.Values.{Schema}
use Rattle.java_ast.specs.Tree.{PlainParam, PlainMethod, PlainProgram}
use Rattle.java_lex.specs.declared.token.LexFault.{LexFault}
use Rattle.java_lex.specs.declared.token.Tokens.{Tokens}
use Rattle.java_lex.specs.Lexing.{lexed}
use Rattle.java_grammar.specs.InGrammar.{IsInGrammar}
use Rattle.java_grammar.specs.ReadBack.{IsReadBack}
use Rattle.java_grammar.specs.Written.{IsWritten}
use Rattle.java_mean.specs.declared.rule.TypeFault.{TypeFault}
use Rattle.java_mean.specs.Keeps.{KeepsMethod, KeepsMethods}
use Rattle.java_mean.specs.Least.{least as kept_of}
use Rattle.java_mean.specs.Types.{AreArguments}
use Rattle.java_mean.specs.WellTyped.{all_faults, IsWellTyped}
use Rattle.java_parser.specs.declared.fault.ParseFault.{ParseFault}
use Rattle.java_text.specs.Canonical.{canonical}
use Rattle.java_types.specs.Texts.{read_by}
use Rattle.java_unplaced.proofs.Kept.{keep_alike}
use Rattle.java_calls.specs.KeepsCalls.{KeepsMethodWithCalls, AllKept, KeepsCalls}
use Rattle.java_calls.proofs.Grown.{one_inlined}
use Rattle.call_reader.specs.WithCalls.{parsed_with_calls}
use Rattle.call_reader.proofs.Answered.{program_is_read}
use Rattle.call_reader.proofs.Fits.{program_with_calls_fits}
use Rattle.call_rules.specs.declared.rule.HelperRule.{HelperRule}
use Rattle.call_rules.specs.declared.rule.HelperFault.{HelperFault}
use Rattle.call_rules.specs.Faults.{IsFaultOf, plain_rule, rule_name}
use Rattle.java_calls.specs.Rules.{rule_number}
use Rattle.inlining.specs.Inlined.{IsWhole}
use Rattle.inlining.proofs.OneFault.{one_fault, whole_or_fault}
use Rattle.inlined_grammar.proofs.InGrammar.{typed_in_grammar}
use Rattle.inlined_grammar.proofs.Plain.{grammar_keeps}
use Rattle.inlined_grammar.proofs.Written.{is_written}
use Rattle.method_texts.specs.Anew.{text_anew}
use Rattle.kept_texts.specs.Kept.{IsTextFor}
use Rattle.words.specs.declared.command.Command.TheVariants as commands
use Rattle.deliveries.specs.declared.plan.Plan.{Plan}
use Rattle.deliveries.specs.declared.fetch.Stop.{Stop}
use Rattle.deliveries.specs.Code.{Goes, OrMemory, StopsWith}
use Rattle.deliveries.specs.Deliver.{Change}
use Rattle.deliveries.specs.Limits.{most_schema, most_source}
use Rattle.deliveries.specs.Plan.{Given, refusal}
use Rattle.deliveries.specs.Steps.{Ends, refused, IsRead, IsNotRead, reads}
use Rattle.plans.specs.Lines.{rule_text}
use Rattle.plans.specs.Opening.{IsSchemaOf, BreaksSchema, schema_refusal, HasTokens, lex_refusal, parse_refusal, HasLeast, type_refusal}
use Rattle.qbs.specs.Again.{IsReadAgain}
use Rattle.qbs.specs.Commands.{is_built}
use Rattle.qbs.specs.Inline.{IsProgramWithCallsOf, HasKeptWithCalls, HasNoProgramWithCalls, has_program_with_calls, place_in, helper_refusal, has_no_calls_left, inlined_plan, Inlines, types_and_writes, inline_of, inline, IsInlining, HasInlining}
use Rattle.qbs.specs.Pruners.{May}
use Rattle.qbs.specs.Top.{IsDone, Alike}
use Rattle.qbs.proofs.Evident.{due_for, written}
use Rattle.qbs.proofs.OneFound.{schema_one}
use Rattle.qbs.proofs.OneRead.{read_one}
use Rattle.qbs.proofs.OneStep.{IsOne, HasOne, step_one, decided, err_of}
use Rattle.qbs.proofs.Promised.{unread, where_ends}

-- ---- one program, one whole, one fault

abbrev parsed_or : Result PlainProgram ParseFault → Result PlainProgram Plan
parsed_or (Ok p) = Ok p
parsed_or (Err fault) = Err (parse_refusal fault)

abbrev lexed_or : Result Tokens LexFault → Result PlainProgram Plan
lexed_or (Ok tokens) = parsed_or (parsed_with_calls tokens)
lexed_or (Err fault) = Err (lex_refusal fault)

calls_found : (bytes : List ℕ) (p : PlainProgram) → IsProgramWithCallsOf bytes p → lexed_or (lexed bytes) ≡ Ok p
calls_found bytes p is = ap lexed_or is.has_tokens ∙ ap parsed_or (program_is_read is.tokens p is.has_program)

calls_lacking : (bytes : List ℕ) (plan : Plan) → HasNoProgramWithCalls bytes plan → lexed_or (lexed bytes) ≡ Err plan
calls_lacking bytes plan (inl h) = ap lexed_or h.1 ∙ ap (err_of {A = PlainProgram} {F = Plan}) (sym h.2)
calls_lacking bytes plan (inr h) = ap lexed_or h.1.1 ∙ ap parsed_or h.1.2.found ∙ ap (err_of {A = PlainProgram} {F = Plan}) (sym h.2)

pub calls_one : (bytes : List ℕ) → IsOne {B = PlainProgram} (IsProgramWithCallsOf bytes) (HasNoProgramWithCalls bytes)
calls_one bytes = decided (IsProgramWithCallsOf bytes) (HasNoProgramWithCalls bytes) (lexed_or (lexed bytes)) (calls_found bytes) (calls_lacking bytes)

-- the refusal of a fault by its rule and the byte at which what breaks it begins
abbrev refusal_at : List ℕ → HelperRule → ℕ → Plan
refusal_at source rule n = refusal statuses.Types (codes "qbs: helpers: " ++ rule_text (rule_number (plain_rule rule)) (rule_name rule) (place_in source n))

same_refusal : (source : List ℕ) (p : PlainProgram) (f g : HelperFault) → IsFaultOf p f → IsFaultOf p g → helper_refusal source f ≡ helper_refusal source g
same_refusal source p f g x y =
    let one = one_fault p f g x y in
    ap (λ (r : HelperRule). refusal_at source r f.at.start) one.rule ∙ ap (λ (n : ℕ). refusal_at source g.rule n) one.start

pub whole_one : (source : List ℕ) (p : PlainProgram) → IsOne {B = PlainProgram} (IsWhole p) (refused (IsFaultOf p) (helper_refusal source))
whole_one source p = record {
  same = λ b c x y. one_inlined p b c x.inlined y.inlined;
  stops = λ a b x y. x.2 ∙ same_refusal source p x.0 y.0 x.1 y.1 ∙ sym y.2;
  apart = λ b plan x y. whole_or_fault p b y.0 x y.1;
}

fault_same : (o : Option TypeFault) (f g : TypeFault) → o ≡ Some f → o ≡ Some g → f ≡ g
fault_same o f g a b = cc

none_least : (fs : List TypeFault) (f : TypeFault) → fs ≡ [] → kept_of None fs ≡ Some f → ⊥
none_least [] f e h = absurd cc
none_least (g ∷ fs) f e h = absurd cc

pub typed_one : (tables : Schema) (q : PlainProgram) → IsOne {B = Unit {0}} (λ u. IsWellTyped tables (read_by tables) q) (refused (HasLeast tables q) type_refusal)
typed_one tables q = record {
  same = λ b c x y. refl;
  stops = λ a b x y. x.2 ∙ ap type_refusal (fault_same (kept_of None (all_faults tables (read_by tables) q)) x.0 y.0 x.1.first y.1.first) ∙ sym y.2;
  apart = λ b plan x y. none_least (all_faults tables (read_by tables) q) y.0 x y.1.first;
}

-- ---- one plan

-- the text that is written is one
pub text_one : (text : List ℕ) (p : PlainProgram) (a b : List ℕ) → IsTextFor text p a → IsTextFor text p b → a ≡ b
text_one text p a b x y = by_cases x.is y.is
  where
    by_cases : (a ≡ text) ⊎ ((IsReadBack text p → ⊥) × (a ≡ canonical p)) → (b ≡ text) ⊎ ((IsReadBack text p → ⊥) × (b ≡ canonical p)) → a ≡ b
    by_cases (inl h) (inl k) = h ∙ sym k
    by_cases (inl h) (inr k) = absurd (k.0 (subst (λ (w : List ℕ). IsReadBack w p) h x.back))
    by_cases (inr h) (inl k) = absurd (h.0 (subst (λ (w : List ℕ). IsReadBack w p) k y.back))
    by_cases (inr h) (inr k) = h.1 ∙ sym k.1

inlines_alike : (tables : Schema) (source : List ℕ) (p q : PlainProgram) (a b : Plan) → Inlines tables source p q a → Inlines tables source p q b → Alike a b
inlines_alike tables source p q a b x y =
    inl (x.written ∙ ap inlined_plan (text_one (text_anew source p q) q x.out y.out x.text y.text) ∙ sym y.written)

inline_of_one : (s t : List ℕ) → HasOne (inline_of s t)
inline_of_one s t =
    step_one (IsSchemaOf s) (refused (BreaksSchema s) schema_refusal) (λ tables. has_program_with_calls t (λ p. has_no_calls_left t p (λ q. types_and_writes tables t p q))) (schema_one s)
    (λ tables is. step_one (IsProgramWithCallsOf t) (HasNoProgramWithCalls t) (λ p. has_no_calls_left t p (λ q. types_and_writes tables t p q)) (calls_one t)
    (λ p read. step_one (IsWhole p) (refused (IsFaultOf p) (helper_refusal t)) (λ q. types_and_writes tables t p q) (whole_one t p)
    (λ q whole. step_one {B = Unit {0}} (λ u. IsWellTyped tables (read_by tables) q) (refused (HasLeast tables q) type_refusal) (λ u. Inlines tables t p q) (typed_one tables q)
    (λ u typed. record { alike = inlines_alike tables t p q }))))

pub inline_one : (files : Given) (schema source : List ℕ) → IsSome (files.told schema) → IsSome (files.told source) → ((name : List ℕ) → files.failed name → ⊥) → HasOne (inline files schema source)
inline_one files schema source has_schema has_source calm =
    step_one (IsRead files schema most_schema) (IsNotRead files schema most_schema (codes "schema")) (λ s. reads files source most_source (codes "source") (λ t. inline_of s t)) (read_one files schema most_schema (codes "schema") has_schema calm)
    (λ s is. step_one (IsRead files source most_source) (IsNotRead files source most_source (codes "source")) (λ t. inline_of s t) (read_one files source most_source (codes "source") has_source calm)
    (λ t has. inline_of_one s t))

-- ---- steps

-- a rule of helpers is broken
pub helper_stops : (source : List ℕ) (p : PlainProgram) (next : PlainProgram → Ends) (f : HelperFault) (stop : Stop) → IsFaultOf p f → StopsWith (helper_refusal source f) stop → OrMemory (Err stop) (has_no_calls_left source p next)
helper_stops source p next f (Stop.Due plan) is due = inl (f, is, due)
helper_stops source p next f Stop.Memory is due = tt

pub typed_stops : (tables : Schema) (source : List ℕ) (p q : PlainProgram) (f : TypeFault) (stop : Stop) → HasLeast tables q f → StopsWith (type_refusal f) stop → OrMemory (Err stop) (types_and_writes tables source p q)
typed_stops tables source p q f (Stop.Due plan) is due = inl (f, is, due)
typed_stops tables source p q f Stop.Memory is due = tt

pub calls_stop : (source : List ℕ) (tokens : Tokens) (f : ParseFault) (stop : Stop) → HasTokens source tokens → HasKeptWithCalls tokens f → StopsWith (parse_refusal f) stop →
    Goes {A = PlainProgram} (Err stop) (IsProgramWithCallsOf source) (HasNoProgramWithCalls source)
calls_stop source tokens f (Stop.Due plan) has is due = inr (f, (tokens, has, is), due)
calls_stop source tokens f Stop.Memory has is due = tt

-- what the text asks of the inlined program
pub whole_fits : (tables : Schema) (source : List ℕ) (p q : PlainProgram) → IsProgramWithCallsOf source p → IsWhole p q → IsWellTyped tables (read_by tables) q → IsInGrammar q × IsWritten q
whole_fits tables source p q read whole well =
    let fits : IsInGrammar p × IsWritten p = program_with_calls_fits source read.tokens p read.has_tokens read.has_program in
    (typed_in_grammar tables (read_by tables) p q fits.0 whole.rules whole.inlined well, is_written p q fits.1 whole.inlined)

pub whole_kept : (tables : Schema) (source : List ℕ) (p q : PlainProgram) → IsProgramWithCallsOf source p → IsWhole p q → IsWellTyped tables (read_by tables) q → KeepsCalls p q tables
whole_kept tables source p q read whole well =
    let fits : IsInGrammar p × IsWritten p = program_with_calls_fits source read.tokens p read.has_tokens read.has_program in
    grammar_keeps tables (read_by tables) p q fits.0 whole.rules whole.inlined well

pub inlines : (tables : Schema) (source : List ℕ) (p q : PlainProgram) (text out : List ℕ) (plan : Plan) → IsProgramWithCallsOf source p → IsWhole p q → IsWellTyped tables (read_by tables) q →
    text ≡ text_anew source p q → IsTextFor text q out → IsReadAgain tables out q → plan ≡ inlined_plan out → Inlines tables source p q plan
inlines tables source p q text out plan read whole well is back again due =
    record { keeps = whole_kept tables source p q read whole well; out = out; text = subst (λ (t : List ℕ). IsTextFor t q out) is back; again = again; written = due }

-- ---- what it is worth

through : (tables : Schema) (all ms ns ks : List PlainMethod) → AllKept tables all ms ns → KeepsMethods tables ns ks → AllKept tables all ms ks
through tables all [] [] [] h k = tt
through tables all [] [] (x ∷ ks) h k = absurd k
through tables all [] (n ∷ ns) ks h k = absurd h
through tables all (m ∷ ms) [] ks h k = absurd h
through tables all (m ∷ ms) (n ∷ ns) [] h k = absurd k
through tables all (m ∷ ms) (n ∷ ns) (x ∷ ks) h k =
    let first : KeepsMethodWithCalls tables all m n = h.0 in
    let then : KeepsMethod tables n x = k.0 in (
      record {
        name = first.name ∙ then.name;
        params = first.params ∙ then.params;
        result = first.result ∙ then.result;
        done = λ reader db is args are depth turns lines value done.
            then.done reader db is args (subst (λ (ps : List PlainParam). AreArguments tables ps args) first.params are) turns lines value
            (first.done reader db is args are depth turns lines value done);
      },
      through tables all ms ns ks h.1 k.1,
    )

inlining_of : (s t : List ℕ) (plan : Plan) → inline_of s t plan → plan.status ≡ statuses.Ok → IsInlining s t plan.out × (plan.rep ≡ [])
inlining_of s t plan (inl h) ok = let e : statuses.Schema ≡ statuses.Ok = subst (λ (p : Plan). p.status ≡ statuses.Ok) h.2 ok in absurd cc
inlining_of s t plan (inr (tables, is, inl (inl h))) ok = let e : statuses.Source ≡ statuses.Ok = subst (λ (p : Plan). p.status ≡ statuses.Ok) h.2 ok in absurd cc
inlining_of s t plan (inr (tables, is, inl (inr h))) ok = let e : statuses.Source ≡ statuses.Ok = subst (λ (p : Plan). p.status ≡ statuses.Ok) h.2 ok in absurd cc
inlining_of s t plan (inr (tables, is, inr (p, read, inl h))) ok = let e : statuses.Types ≡ statuses.Ok = subst (λ (x : Plan). x.status ≡ statuses.Ok) h.2 ok in absurd cc
inlining_of s t plan (inr (tables, is, inr (p, read, inr (q, whole, inl h)))) ok = let e : statuses.Types ≡ statuses.Ok = subst (λ (x : Plan). x.status ≡ statuses.Ok) h.2 ok in absurd cc
inlining_of s t plan (inr (tables, is, inr (p, read, inr (q, whole, inr (u, well, h))))) ok = (
  subst (λ (x : Plan). IsInlining s t x.out) (sym h.written)
      (record {
        tables = tables;
        program = p;
        is_schema = is;
        is_program = read;
        inlined = q;
        is_inlined = whole;
        written = h.again.program;
        is_written = h.again.is_program;
        alike = h.again.same;
        output = h.text;
        keeps = through tables p.methods p.methods q.methods h.again.program.methods h.keeps (keep_alike tables q h.again.program (sym h.again.same));
      }),
  ap (λ (x : Plan). x.rep) h.written,
)

-- the bytes that `inline` read, and what it wrote
record Wrote (files : Given) (schema source : List ℕ) (plan : Plan) : Type 0 where
  schema_read : List ℕ
  source_read : List ℕ
  read_schema : IsRead files schema most_schema schema_read
  read_source : IsRead files source most_source source_read
  is : IsInlining schema_read source_read plan.out
  none : plan.rep ≡ []

wrote : (files : Given) (schema source : List ℕ) (plan : Plan) → inline files schema source plan → plan.status ≡ statuses.Ok → Wrote files schema source plan
wrote files schema source plan (inl h) ok = absurd (unread files schema most_schema (codes "schema") plan h ok)
wrote files schema source plan (inr (s, read, inl h)) ok = absurd (unread files source most_source (codes "source") plan h ok)
wrote files schema source plan (inr (s, read, inr (t, has, h))) ok =
    let k = inlining_of s t plan h ok in
    record { schema_read = s; source_read = t; read_schema = read; read_source = has; is = k.0; none = k.1 }

pub inlined : (files : Given) (may : May) (words : List (List ℕ)) (out rep : Change) (result : Status) → IsDone files may words out rep result → HasInlining files words out rep result
inlined files may words out rep result done schema source has ok =
    let w = written files may words out rep result done (λ e. let no : statuses.WriteFault ≡ statuses.Ok = sym e ∙ ok in cc) in
    let well : w.plan.status ≡ statuses.Ok = w.status ∙ ok in
    let due = due_for files may words (commands.Inline schema source) w.plan has w.due (λ e. let no : statuses.NoMemory ≡ statuses.Ok = sym e ∙ well in cc) in
    let h : Wrote files schema source w.plan =
    wrote files schema source w.plan
    (where_ends (is_built (commands.Inline schema source)) (inline files schema source) w.plan due (λ e. let no : statuses.NotYet ≡ statuses.Ok = sym e ∙ well in cc)) well in
    record {
      schema_read = h.schema_read;
      source_read = h.source_read;
      text = w.plan.out;
      read_schema = h.read_schema;
      read_source = h.read_source;
      is = h.is;
      wrote_text = w.wrote_text;
      wrote_lines = subst (λ (lines : List ℕ). Appends rep.old rep.new lines) h.none w.wrote_lines;
    }

-- What is gathered from loops is one, so that what is due for `gather` is, and what it is worth follows from a plan that is due and was delivered.
use Rattle.std.proofs.lemmas.Bool.Decides.{nat_tests}
use Rattle.std.proofs.lemmas.List.{map-append, take-append-drop}
use Rattle.std.proofs.Common.{◌≡◌, inl, inr, ℕ, zero, suc, ◌+◌, ◌≤◌, ◌<◌, if◌then◌else◌, nat_le, List, [], ◌∷◌, ◌++◌, map, length, take, drop, slice_get, Bool, true, false, Option, Some, None, Result, Ok, Err, IfOk, OnOk, sym, refl, ap, ◌∙◌, subst, codes, arith}
use Rattle.std.specs.Prelude.{IsSome}
use Rattle.std.specs.List.{AllByRecursion, flat_map}
use Rattle.qbs_base.specs.declared.memory.NoMemory.{NoMemory}
use Rattle.qbs_base.specs.declared.status.Status.{Status}
use Rattle.qbs_base.specs.declared.status.Status.TheVariants as statuses
use Rattle.qbs_base.specs.Values.{Schema}
use Rattle.java_ast.specs.Tree.{PlainProgram}
use Rattle.kernel_lang.specs.Plain.{Fragment}
use Rattle.kernel_lang.specs.Whole.{fragment_of}
use Rattle.templates.specs.Numbered.{candidates_of}
use Rattle.tor_axioms.specs.Accepts.{Proof}
use Rattle.query_search.specs.Verdicts.{NoneOf, Budget, Hit, or_later, proofs_of, first_hit, verdict_by, verdict, before}
use Rattle.small_dbs.specs.declared.small.SmallDb.{SmallDb}
use Rattle.verdicts.specs.declared.verdict.LoopVerdict.{LoopVerdict}
use Rattle.verdicts.specs.Reports.{verdict_line, pruned_line}
use Rattle.java_loops.specs.Kernel.Kernel.{Broken, broken, lowering, setting_at}
use Rattle.java_loops.specs.Kernel.Setting.{Setting}
use Rattle.java_types.specs.Texts.{read_by}
use Rattle.loop_text.specs.Statements.Loops.{loops_of}
use Rattle.proof_store.specs.Grammar.{HasStore}
use Rattle.proof_store.specs.Texts.{store_text}
use Rattle.proof_store.proofs.Outcomes.{gathers_one}
use Rattle.rewrite_core.specs.declared.searches.Search.{Search}
use Rattle.rewrite_core.specs.Rewriting.{verdicts_of}
use Rattle.rewrite_core.specs.Searches.{PlainSearch, plain_search, search_by, searches_of}
use Rattle.rewrite_core.specs.Trying.{Answer, Outside, Searched, answer_unless, Tried, tried_in, tried_at, and_further, program_after, standing_after, trying, all_tried}
use Rattle.words.specs.declared.command.Command.TheVariants as commands
use Rattle.words.specs.declared.command.Options.{Options}
use Rattle.deliveries.specs.declared.plan.Plan.{Plan}
use Rattle.deliveries.specs.Deliver.{Change}
use Rattle.deliveries.specs.Limits.{most_schema, most_source}
use Rattle.deliveries.specs.Plan.{Given}
use Rattle.deliveries.specs.Steps.{refused, IsRead, IsNotRead, reads}
use Rattle.plans.specs.Opening.{IsSchemaOf, BreaksSchema, schema_refusal, IsProgramOf, HasNoProgram, has_program}
use Rattle.qbs.specs.Commands.{is_built}
use Rattle.qbs.specs.Gather.{GathersAt, AllGather, SearchesGather, GathersStore, gather_of, gather, IsGathering, HasGathering}
use Rattle.qbs.specs.Pruners.{May}
use Rattle.qbs.specs.Rewrite.{size_of, budget_of, rewriting_plan}
use Rattle.qbs.specs.Top.{IsDone, Alike}
use Rattle.qbs.proofs.Evident.{due_for, written}
use Rattle.qbs.proofs.OneFound.{schema_one, program_one}
use Rattle.qbs.proofs.OneRead.{read_one}
use Rattle.qbs.proofs.OneStep.{HasOne, step_one}
use Rattle.qbs.proofs.Promised.{unread, no_program, where_ends}

-- ---- one end

gathered_at_one : (tables : Schema) (size : ℕ) (a : Answer) (items x y : List SmallDb) → GathersAt tables size a items x → GathersAt tables size a items y → x ≡ y
gathered_at_one tables size (Searched f v) items x y p q = gathers_one tables f (take (before v) (candidates_of f size)) items x y p q
gathered_at_one tables size (Outside b) items x y p q = sym p ∙ q

all_gather_one : (tables : Schema) (size : ℕ) (ts : List Tried) (items x y : List SmallDb) → AllGather tables size ts items x → AllGather tables size ts items y → x ≡ y
all_gather_one tables size [] items x y p q = sym p ∙ q
all_gather_one tables size (t ∷ ts) items x y p q =
    let mid : p.0 ≡ q.0 = gathered_at_one tables size t.answer items p.0 q.0 p.1 q.1 in
    all_gather_one tables size ts p.0 x y p.2 (subst (λ (l : List SmallDb). AllGather tables size ts l y) (sym mid) q.2)

-- ---- one plan

gathers_alike : (tables : Schema) (size budget : ℕ) (t : PlainProgram) (p q : Plan) → GathersStore tables size budget t p → GathersStore tables size budget t q → Alike p q
gathers_alike tables size budget t p q a b =
    inl (a.written
    ∙ ap (λ (items : List SmallDb). rewriting_plan tables size budget t (store_text items) 0) (all_gather_one tables size (all_tried tables size budget t) [] a.items b.items a.gathered b.gathered)
    ∙ sym b.written)

gather_of_one : (o : Options) (s t : List ℕ) → HasOne (gather_of o s t)
gather_of_one o s t =
    step_one (IsSchemaOf s) (refused (BreaksSchema s) schema_refusal) (λ tables. has_program tables t (λ p. GathersStore tables (size_of o) (budget_of o) p)) (schema_one s)
    (λ tables is. step_one (IsProgramOf tables t) (HasNoProgram tables t) (λ p. GathersStore tables (size_of o) (budget_of o) p) (program_one tables t)
    (λ p read. record { alike = gathers_alike tables (size_of o) (budget_of o) p }))

pub gather_one : (files : Given) (o : Options) (schema source : List ℕ) → IsSome (files.told schema) → IsSome (files.told source) → ((name : List ℕ) → files.failed name → ⊥) → HasOne (gather files o schema source)
gather_one files o schema source has_schema has_source calm =
    step_one (IsRead files schema most_schema) (IsNotRead files schema most_schema (codes "schema")) (λ s. reads files source most_source (codes "source") (λ t. gather_of o s t)) (read_one files schema most_schema (codes "schema") has_schema calm)
    (λ s is. step_one (IsRead files source most_source) (IsNotRead files source most_source (codes "source")) (λ t. gather_of o s t) (read_one files source most_source (codes "source") has_source calm)
    (λ t has. gather_of_one o s t))

-- ---- what was searched

one_gathered : (tables : Schema) (size : ℕ) (a : Answer) (ts : List Tried) (items end : List SmallDb) → ((mid : List SmallDb) → SearchesGather tables size (searches_of ts) mid end → AllGather tables size ts mid end) →
    SearchesGather tables size (search_by a ++ searches_of ts) items end → (mid : List SmallDb) × GathersAt tables size a items mid × AllGather tables size ts mid end
one_gathered tables size (Searched f v) ts items end further h = (h.0, h.1, further h.0 h.2)
one_gathered tables size (Outside b) ts items end further h = (items, refl, further items h)

-- what was searched in tries leaves what the tries leave
all_gathered : (tables : Schema) (size : ℕ) (ts : List Tried) (items end : List SmallDb) → SearchesGather tables size (searches_of ts) items end → AllGather tables size ts items end
all_gathered tables size [] items end h = h
all_gathered tables size (t ∷ ts) items end h = one_gathered tables size t.answer ts items end (λ mid rest. all_gathered tables size ts mid end rest) h

pub searches_joined : (tables : Schema) (size : ℕ) (xs ys : List PlainSearch) (items mid end : List SmallDb) → SearchesGather tables size xs items mid → SearchesGather tables size ys mid end → SearchesGather tables size (xs ++ ys) items end
searches_joined tables size [] ys items mid end p q = subst (λ (l : List SmallDb). SearchesGather tables size ys l end) (sym p) q
searches_joined tables size (x ∷ xs) ys items mid end p q = (p.0, p.1, searches_joined tables size xs ys p.0 mid end p.2 q)

-- both parts of a list that is cut
pub parts_joined : (tables : Schema) (size : ℕ) (searches front back : List Search) (n : ℕ) (items mid end : List SmallDb) (r : Result Unit NoMemory) → front ≡ take n searches → back ≡ drop n searches →
    SearchesGather tables size (map plain_search front) items mid → OnOk r (SearchesGather tables size (map plain_search back) mid end) → OnOk r (SearchesGather tables size (map plain_search searches) items end)
parts_joined tables size searches front back n items mid end (Ok u) is rest p q =
    subst (λ (ss : List Search). SearchesGather tables size (map plain_search ss) items end) (ap (λ (ss : List Search). ss ++ back) is ∙ ap (λ (ss : List Search). take n searches ++ ss) rest ∙ take-append-drop n searches)
    (subst (λ (ps : List PlainSearch). SearchesGather tables size ps items end) (sym (map-append plain_search front back))
    (searches_joined tables size (map plain_search front) (map plain_search back) items mid end p q))
parts_joined tables size searches front back n items mid end (Err e) is rest p q = tt

-- ---- how many candidates come before an answer

hit_by : (f : Fragment) (k : ℕ) (c : List ℕ) (cs : List (List ℕ)) (h : Hit) (o : Option (List Proof)) → ((e : first_hit f (suc k) cs ≡ Some h) → h.k < suc k + length cs) → or_later k c o (first_hit f (suc k) cs) ≡ Some h → h.k < k + length (c ∷ cs)
hit_by f k c cs h (Some ds) later e = let same : k ≡ h.k = cc in omega arith
hit_by f k c cs h None later e = let below : h.k < suc k + length cs = later e in omega arith

hit_below : (f : Fragment) (k : ℕ) (cs : List (List ℕ)) (h : Hit) → first_hit f k cs ≡ Some h → h.k < k + length cs
unfolding first_hit
hit_below f k [] h e = absurd cc
hit_below f k (c ∷ cs) h e = hit_by f k c cs h (proofs_of f c) (λ there. hit_below f (suc k) cs h there) e

fewer_taken : {A : Type 0} (n : ℕ) (xs : List A) → length (take n xs) ≤ length xs
fewer_taken zero xs = omega arith
fewer_taken (suc n) [] = omega arith
fewer_taken (suc n) (x ∷ xs) = let h : length (take n xs) ≤ length xs = fewer_taken n xs in omega arith

none_before : (budget n : ℕ) (is : Bool) → nat_le n budget ≡ is → before (if is then NoneOf n else Budget budget n) ≤ n
none_before budget n true e = omega arith
none_before budget n false e = let h : budget ≤ n = grind (arith, nat_tests, e) in h

verdict_before : (f : Fragment) (size budget : ℕ) → before (verdict f size budget) ≤ length (candidates_of f size)
unfolding verdict
verdict_before f size budget = by_hit (first_hit f 0 (take budget (candidates_of f size))) refl
  where
    n : ℕ
    n = length (candidates_of f size)

    by_hit : (o : Option Hit) → first_hit f 0 (take budget (candidates_of f size)) ≡ o → before (verdict_by budget n o) ≤ n
    by_hit (Some h) e =
        let below : h.k < 0 + length (take budget (candidates_of f size)) = hit_below f 0 (take budget (candidates_of f size)) h e in
        let taken : length (take budget (candidates_of f size)) ≤ n = fewer_taken budget (candidates_of f size) in
        omega arith
    by_hit None e = none_before budget n (nat_le n budget) refl

abbrev IsBeforeAll : ℕ → PlainSearch → Type 0
IsBeforeAll size s = s.before ≤ length (candidates_of s.fragment size)

abbrev AnswersBefore : ℕ → Answer → Type 0
AnswersBefore size (Searched f v) = before v ≤ length (candidates_of f size)
AnswersBefore size (Outside b) = Unit {0}

answered_before : (size budget : ℕ) (w : Setting) (o : Option Broken) → AnswersBefore size (answer_unless size budget w o)
answered_before size budget w (Some b) = tt
answered_before size budget w None = verdict_before (lowering w).fragment size budget

tried_before : (schema : Schema) (size budget : ℕ) (p : PlainProgram) (path : Option (List ℕ)) (t : Tried) → tried_at schema size budget p path ≡ Some t → AnswersBefore size t.answer
tried_before schema size budget p None t e = absurd cc
tried_before schema size budget p (Some path) t e = at_setting (setting_at schema (read_by schema) path p) e
  where
    at_setting : (o : Option Setting) → tried_in size budget p path o ≡ Some t → AnswersBefore size t.answer
    at_setting None e = absurd cc
    at_setting (Some w) e =
        let same : record { program = p; path = path; setting = w; answer = answer_unless size budget w (broken w) } ≡ t = cc in
        subst (λ (x : Tried). AnswersBefore size x.answer) same (answered_before size budget w (broken w))

one_before : (size : ℕ) (a : Answer) (rest : List PlainSearch) → AnswersBefore size a → AllByRecursion (IsBeforeAll size) rest → AllByRecursion (IsBeforeAll size) (search_by a ++ rest)
one_before size (Searched f v) rest h k = (h, k)
one_before size (Outside b) rest h k = k

further_before : (size : ℕ) (o : Option Tried) (further : Tried → List Tried) → ((t : Tried) → o ≡ Some t → AnswersBefore size t.answer) → ((t : Tried) → AllByRecursion (IsBeforeAll size) (searches_of (further t))) →
    AllByRecursion (IsBeforeAll size) (searches_of (and_further o further))
further_before size None further here rest = tt
further_before size (Some t) further here rest = one_before size t.answer (searches_of (further t)) (here t refl) (rest t)

trying_before : (left : ℕ) (schema : Schema) (size budget : ℕ) (p : PlainProgram) (n : ℕ) → AllByRecursion (IsBeforeAll size) (searches_of (trying left schema size budget p n))
unfolding trying
trying_before zero schema size budget p n = tt
trying_before (suc left) schema size budget p n =
    further_before size (tried_at schema size budget p (slice_get (loops_of p) n)) (λ t. trying left schema size budget (program_after t) (standing_after n t.answer))
    (λ t e. tried_before schema size budget p (slice_get (loops_of p) n) t e) (λ t. trying_before left schema size budget (program_after t) (standing_after n t.answer))

all_before : (schema : Schema) (size budget : ℕ) (p : PlainProgram) → AllByRecursion (IsBeforeAll size) (searches_of (all_tried schema size budget p))
unfolding all_tried
all_before schema size budget p = trying_before (length (loops_of p)) schema size budget p 0

all_seen : {A B : Type 0} (P : B → Type 0) (view : A → B) (xs : List A) → AllByRecursion P (map view xs) → AllByRecursion (λ x. P (view x)) xs
all_seen P view [] h = tt
all_seen P view (x ∷ xs) h = (h.0, all_seen P view xs h.1)

-- of what was searched of a program
pub searched_before : (schema : Schema) (size budget : ℕ) (p : PlainProgram) (searches : List Search) → map plain_search searches ≡ searches_of (all_tried schema size budget p) →
    AllByRecursion (λ (s : Search). s.before ≤ length (candidates_of (fragment_of s.frag.value) size)) searches
searched_before schema size budget p searches is = all_seen (IsBeforeAll size) plain_search searches (subst (AllByRecursion (IsBeforeAll size)) (sym is) (all_before schema size budget p))

-- ---- what is written

abbrev plan_with : List ℕ → List ℕ → Plan
plan_with a b = record { status = Status.Ok; out = a; rep = b }

gathers : (tables : Schema) (size budget : ℕ) (p : PlainProgram) (searches : List Search) (verdicts : List LoopVerdict) (items : List SmallDb) (plan : Plan) →
    map plain_search searches ≡ searches_of (all_tried tables size budget p) → verdicts ≡ verdicts_of (all_tried tables size budget p) →
    SearchesGather tables size (map plain_search searches) [] items → HasStore tables (store_text items) items →
    plan ≡ plan_with (store_text items) (flat_map verdict_line verdicts ++ pruned_line 0) → GathersStore tables size budget p plan
gathers tables size budget p searches verdicts items plan is said left store due =
    record {
      items = items;
      gathered = all_gathered tables size (all_tried tables size budget p) [] items (subst (λ (ss : List PlainSearch). SearchesGather tables size ss [] items) is left);
      store = store;
      written = due ∙ ap (λ (vs : List LoopVerdict). plan_with (store_text items) (flat_map verdict_line vs ++ pruned_line 0)) said;
    }

-- the same for the numbers that options stand for
gathers_as : (tables : Schema) (size size_in budget budget_in : ℕ) (p : PlainProgram) (searches : List Search) (verdicts : List LoopVerdict) (items : List SmallDb) (plan : Plan) →
    size ≡ size_in → budget ≡ budget_in →
    map plain_search searches ≡ searches_of (all_tried tables size budget p) → verdicts ≡ verdicts_of (all_tried tables size budget p) →
    SearchesGather tables size (map plain_search searches) [] items → HasStore tables (store_text items) items →
    plan ≡ plan_with (store_text items) (flat_map verdict_line verdicts ++ pruned_line 0) → GathersStore tables size_in budget_in p plan
gathers_as tables size size_in budget budget_in p searches verdicts items plan same_size same_budget is said left store due =
    subst (λ (s : ℕ). GathersStore tables s budget_in p plan) same_size
    (subst (λ (b : ℕ). GathersStore tables size b p plan) same_budget (gathers tables size budget p searches verdicts items plan is said left store due))

pub gathers_found : (tables : Schema) (size size_in budget budget_in : ℕ) (p : PlainProgram) (searches : List Search) (verdicts : List LoopVerdict) (items : List SmallDb) (result : Result Plan NoMemory) →
    size ≡ size_in → budget ≡ budget_in →
    map plain_search searches ≡ searches_of (all_tried tables size budget p) → verdicts ≡ verdicts_of (all_tried tables size budget p) →
    SearchesGather tables size (map plain_search searches) [] items → OnOk result (HasStore tables (store_text items) items) →
    IfOk result (λ plan. plan ≡ plan_with (store_text items) (flat_map verdict_line verdicts ++ pruned_line 0)) → IfOk result (GathersStore tables size_in budget_in p)
gathers_found tables size size_in budget budget_in p searches verdicts items (Ok plan) same_size same_budget is said left store due =
    gathers_as tables size size_in budget budget_in p searches verdicts items plan same_size same_budget is said left store due
gathers_found tables size size_in budget budget_in p searches verdicts items (Err e) same_size same_budget is said left store due = tt

-- ---- what it is worth

gathered_of : (o : Options) (s t : List ℕ) (plan : Plan) → gather_of o s t plan → plan.status ≡ statuses.Ok → IsGathering (size_of o) (budget_of o) s t plan.out plan.rep
gathered_of o s t plan (inl h) ok = let e : statuses.Schema ≡ statuses.Ok = subst (λ (p : Plan). p.status ≡ statuses.Ok) h.2 ok in absurd cc
gathered_of o s t plan (inr (tables, is, inl h)) ok = absurd (no_program tables t plan h ok)
gathered_of o s t plan (inr (tables, is, inr (p, read, h))) ok =
    subst (λ (x : Plan). IsGathering (size_of o) (budget_of o) s t x.out x.rep) (sym h.written)
    (record {
      tables = tables;
      program = p;
      is_schema = is;
      is_program = read;
      tries = all_tried tables (size_of o) (budget_of o) p;
      are_tries = refl;
      items = h.items;
      gathered = h.gathered;
      store = h.store;
      report = refl;
    })

-- the bytes that `gather` read, and what it wrote
record Wrote (files : Given) (o : Options) (schema source : List ℕ) (plan : Plan) : Type 0 where
  schema_read : List ℕ
  source_read : List ℕ
  read_schema : IsRead files schema most_schema schema_read
  read_source : IsRead files source most_source source_read
  is : IsGathering (size_of o) (budget_of o) schema_read source_read plan.out plan.rep

wrote : (files : Given) (o : Options) (schema source : List ℕ) (plan : Plan) → gather files o schema source plan → plan.status ≡ statuses.Ok → Wrote files o schema source plan
wrote files o schema source plan (inl h) ok = absurd (unread files schema most_schema (codes "schema") plan h ok)
wrote files o schema source plan (inr (s, read, inl h)) ok = absurd (unread files source most_source (codes "source") plan h ok)
wrote files o schema source plan (inr (s, read, inr (t, has, h))) ok =
    record { schema_read = s; source_read = t; read_schema = read; read_source = has; is = gathered_of o s t plan h ok }

pub gathered : (files : Given) (may : May) (words : List (List ℕ)) (out rep : Change) (result : Status) → IsDone files may words out rep result → HasGathering files words out rep result
gathered files may words out rep result done o schema source has ok =
    let w = written files may words out rep result done (λ e. let no : statuses.WriteFault ≡ statuses.Ok = sym e ∙ ok in cc) in
    let well : w.plan.status ≡ statuses.Ok = w.status ∙ ok in
    let due = due_for files may words (commands.Gather o schema source) w.plan has w.due (λ e. let no : statuses.NoMemory ≡ statuses.Ok = sym e ∙ well in cc) in
    let h : Wrote files o schema source w.plan =
    wrote files o schema source w.plan
    (where_ends (is_built (commands.Gather o schema source)) (gather files o schema source) w.plan due (λ e. let no : statuses.NotYet ≡ statuses.Ok = sym e ∙ well in cc)) well in
    record {
      schema_read = h.schema_read;
      source_read = h.source_read;
      text = w.plan.out;
      lines = w.plan.rep;
      read_schema = h.read_schema;
      read_source = h.read_source;
      is = h.is;
      wrote_text = w.wrote_text;
      wrote_lines = w.wrote_lines;
    }

-- What is seen by a map, behind a schema, a map and a source, and what is due then.
use Rattle.std.proofs.Common.{◌≡◌, ℕ, inl, inr, List, [], Option, map, filter, None, Result, Ok, Err, IfOk, refl, sym, subst, ap₂, ap, ◌∙◌, ◌∷◌, codes}
use Rattle.qbs_base.specs.declared.status.Status.{Status}
use Rattle.java_ast.specs.Reading.{program as plain_program}
use Rattle.java_ast.specs.Tree.{PlainProgram}
use Rattle.java_mean.specs.WellTyped.{IsWellTyped}
use Rattle.java_types.specs.Texts.{read_by}
use Rattle.qbs_base.specs.Values.{Schema}
use Rattle.deriv_check.specs.Texts.{bundle_text}
use Rattle.verdicts.specs.declared.verdict.LoopVerdict.{LoopVerdict}
use Rattle.view_items.specs.declared.cell.Cell.{Cell}
use Rattle.view_map.specs.declared.model.ViewMap.{ViewMap}
use Rattle.view_slices.specs.Slices.{File}
use Rattle.view_slices.specs.Views.{View}
use Rattle.view_reports.specs.declared.lines.ViewLine.{ViewLine}
use Rattle.view_spell.specs.declared.spelled.SliceSpelled.{SliceSpelled}
use Rattle.deliveries.specs.declared.plan.Plan.{Plan}
use Rattle.deliveries.specs.declared.fetch.Stop.{Stop}
use Rattle.deliveries.specs.Code.{Goes, OrMemory}
use Rattle.deliveries.specs.Limits.{most_schema, most_source, most_bundle}
use Rattle.deliveries.specs.Steps.{Ends, refused}
use Rattle.plans.specs.Opening.{IsSchemaOf, BreaksSchema, schema_refusal, IsMapOf, BreaksMap, map_refusal, IsProgramOf}
use Rattle.plans.proofs.Fetched.{read_there, not_read_there}
use Rattle.qbs.specs.declared.opened_by_view.SeenBy.{SeenBy}
use Rattle.qbs.specs.Check.{reads_evidence}
use Rattle.qbs.specs.CheckByView.{seen_program}
use Rattle.qbs.specs.Fates.{IsReport, told_lines}
use Rattle.qbs.specs.Opened.{reads_all}
use Rattle.qbs.specs.OpenedByView.{sees_by}
use Rattle.qbs.specs.ProveByView.{placed_line, IsPlacedReport, ProvesView, ProvesNothing, ProvesSeen}
use Rattle.qbs.specs.Proven.{IsProven}
use Rattle.qbs.specs.declared.prove.Proven.{Proven}
use Rattle.qbs.specs.Pruners.{May}
use Rattle.qbs.specs.RewriteByView.{cells_of, loop_byte, verdict_in, line_in, fate_at, is_told}
use Rattle.qbs.specs.SeenAgain.{Stood, slices_in}
use Rattle.qbs.specs.SeenBy.{IsSeenBy, none_seen}
use Rattle.qbs.specs.declared.seen.Seen as code
use Rattle.qbs.specs.declared.seen.Seen.TheVariants as found
use Rattle.qbs.specs.declared.seen.Viewed.{Viewed}
use Rattle.qbs.specs.Seen.{IsViewed, HasSeen, seen_by}
use Rattle.qbs.specs.View.{Seen, Nothing, IsTooLong}
use Rattle.qbs.proofs.Beginning.{store_there, store_not_there}
use Rattle.qbs.proofs.Going.{due_as}
use Rattle.qbs.proofs.Viewed.{is_seen}

-- ---- what lacks

module _ {A : Type 0} (Is : A → Type 0) (w s t : List ℕ) where
  pub schema_lacks : {B : Type 0} (From : B → Type 0) (stop : Stop) → Goes {A = B} (Err stop) From (refused (BreaksSchema s) schema_refusal) → Goes {A = A} (Err stop) Is (sees_by w s t none_seen)
  schema_lacks From (Stop.Due plan) h = inl h
  schema_lacks From Stop.Memory h = tt

  pub map_lacks : {B : Type 0} (From : B → Type 0) (tables : Schema) (stop : Stop) → IsSchemaOf s tables → Goes {A = B} (Err stop) From (refused (BreaksMap tables w) (map_refusal w)) → Goes {A = A} (Err stop) Is (sees_by w s t none_seen)
  map_lacks From tables (Stop.Due plan) is h = inr (tables, is, inl h)
  map_lacks From tables Stop.Memory is h = tt

  pub view_lacks : {B : Type 0} (From : B → Type 0) (tables : Schema) (m : ViewMap) (stop : Stop) → IsSchemaOf s tables → IsMapOf tables w m → Goes {A = B} (Err stop) From (IsTooLong m tables t) → Goes {A = A} (Err stop) Is (sees_by w s t none_seen)
  view_lacks From tables m (Stop.Due plan) is has h = inr (tables, is, inr (m, has, inl h))
  view_lacks From tables m Stop.Memory is has h = tt

not_seen : (w s t : List ℕ) (next : Schema → ViewMap → Seen → Ends) (plan : Plan) → sees_by w s t none_seen plan → sees_by w s t next plan
not_seen w s t next plan (inl h) = inl h
not_seen w s t next plan (inr (tables, is, inl h)) = inr (tables, is, inl h)
not_seen w s t next plan (inr (tables, is, inr (m, has, inl h))) = inr (tables, is, inr (m, has, inl h))
not_seen w s t next plan (inr (tables, is, inr (m, has, inr (seen, sees, h)))) = absurd h

-- what is seen has a well-typed program
pub well_seen : (m : ViewMap) (tables : Schema) (t : List ℕ) (s : code.Seen) → HasSeen m tables t s → IsWellTyped tables (read_by tables) (seen_program (seen_by s))
well_seen m tables t (found.Methods file viewed) h = h.seen.1.typed
well_seen m tables t (found.Nothing n) h = refl

-- ---- what is due

pub unseen_due : {A : Type 0} (Is : A → Type 0) (w s t : List ℕ) (next : Schema → ViewMap → Seen → Ends) (stop : Stop) → Goes {A = A} (Err stop) Is (sees_by w s t none_seen) → OrMemory (Err stop) (sees_by w s t next)
unseen_due Is w s t next (Stop.Due plan) h = not_seen w s t next plan h
unseen_due Is w s t next Stop.Memory h = tt

pub seen_due : (w s t : List ℕ) (next : Schema → ViewMap → Seen → Ends) (o : SeenBy) (result : Result Plan Stop) → IsSeenBy w s t o → OrMemory result (next o.schema o.map (seen_by o.seen)) → OrMemory result (sees_by w s t next)
seen_due w s t next o (Ok plan) is h = inr (o.schema, is.is_schema, inr (o.map, is.is_map, inr (seen_by o.seen, is_seen o.map o.schema t o.seen is.has, h)))
seen_due w s t next o (Err (Stop.Due plan)) is h = inr (o.schema, is.is_schema, inr (o.map, is.is_map, inr (seen_by o.seen, is_seen o.map o.schema t o.seen is.has, h)))
seen_due w s t next o (Err Stop.Memory) is h = tt

-- ---- what is told later, in terms of the whole call

module _ (told later : List ℕ → Option (List ℕ)) (rose after : List ℕ → Type 0) (same : later ≡ told) (f : (name : List ℕ) → after name → rose name) where
  all_later : (schema source : List ℕ) (store : Option (List ℕ)) (next : List ℕ → List ℕ → Option (List ℕ) → Ends) (plan : Plan) →
      reads_all (record { told = later; failed = after }) schema source store next plan → reads_all (record { told = told; failed = rose }) schema source store next plan
  all_later schema source store next plan (inl h) = inl (not_read_there told later after rose schema most_schema (codes "schema") plan same f h)
  all_later schema source store next plan (inr (s, read, inl h)) =
      inr (s, read_there told later after rose schema most_schema s same read, inl (not_read_there told later after rose source most_source (codes "source") plan same f h))
  all_later schema source store next plan (inr (s, read, inr (t, has, inl h))) =
      inr (s, read_there told later after rose schema most_schema s same read, inr (t, read_there told later after rose source most_source t same has, inl (store_not_there told later after rose store plan same f h)))
  all_later schema source store next plan (inr (s, read, inr (t, has, inr (b, there, h)))) =
      inr (s, read_there told later after rose schema most_schema s same read, inr (t, read_there told later after rose source most_source t same has, inr (b, store_there told later after rose store b same there, h)))

  pub all_there : (schema source : List ℕ) (store : Option (List ℕ)) (next : List ℕ → List ℕ → Option (List ℕ) → Ends) (result : Result Plan Stop) →
      OrMemory result (reads_all (record { told = later; failed = after }) schema source store next) → OrMemory result (reads_all (record { told = told; failed = rose }) schema source store next)
  all_there schema source store next result h =
      due_as (reads_all (record { told = later; failed = after }) schema source store next) (reads_all (record { told = told; failed = rose }) schema source store next) result (all_later schema source store next) h

  evidence_later : (schema source bundle : List ℕ) (next : List ℕ → List ℕ → List ℕ → Ends) (plan : Plan) →
      reads_evidence (record { told = later; failed = after }) schema source bundle next plan → reads_evidence (record { told = told; failed = rose }) schema source bundle next plan
  evidence_later schema source bundle next plan (inl h) = inl (not_read_there told later after rose schema most_schema (codes "schema") plan same f h)
  evidence_later schema source bundle next plan (inr (s, read, inl h)) =
      inr (s, read_there told later after rose schema most_schema s same read, inl (not_read_there told later after rose source most_source (codes "source") plan same f h))
  evidence_later schema source bundle next plan (inr (s, read, inr (t, has, inl h))) =
      inr (s, read_there told later after rose schema most_schema s same read, inr (t, read_there told later after rose source most_source t same has, inl (not_read_there told later after rose bundle most_bundle (codes "bundle") plan same f h)))
  evidence_later schema source bundle next plan (inr (s, read, inr (t, has, inr (b, there, h)))) =
      inr (s, read_there told later after rose schema most_schema s same read, inr (t, read_there told later after rose source most_source t same has, inr (b, read_there told later after rose bundle most_bundle b same there, h)))

  pub evidence_there : (schema source bundle : List ℕ) (next : List ℕ → List ℕ → List ℕ → Ends) (result : Result Plan Stop) →
      OrMemory result (reads_evidence (record { told = later; failed = after }) schema source bundle next) → OrMemory result (reads_evidence (record { told = told; failed = rose }) schema source bundle next)
  evidence_there schema source bundle next result h =
      due_as (reads_evidence (record { told = later; failed = after }) schema source bundle next) (reads_evidence (record { told = told; failed = rose }) schema source bundle next) result (evidence_later schema source bundle next) h

-- ---- the report

-- where nothing is said of what becomes of slices, nothing becomes of them
no_fate : (file : File) (sts : List Stood) (byte : ℕ) → fate_at file sts [] byte ≡ None
no_fate file [] byte = refl
no_fate file (st ∷ sts) byte = refl

lines_placed : (source : List ℕ) (m : ViewMap) (tables : Schema) (v : View) (vs : List LoopVerdict) →
    map (λ (x : LoopVerdict). line_in (fate_at v.file (slices_in v.methods) [] (loop_byte (cells_of m tables v) x)) (verdict_in source (cells_of m tables v) x)) vs ≡ map (placed_line source m tables v) vs
lines_placed source m tables v [] = refl
lines_placed source m tables v (x ∷ vs) =
    ap₂ (λ (l : ViewLine) (ls : List ViewLine). l ∷ ls)
    (ap (λ (fate : Option SliceSpelled). line_in fate (verdict_in source (cells_of m tables v) x)) (no_fate v.file (slices_in v.methods) (loop_byte (cells_of m tables v) x))) (lines_placed source m tables v vs)

pub is_placed : (source : List ℕ) (m : ViewMap) (tables : Schema) (v : View) (cells : List Cell) (vs : List LoopVerdict) (dropped : ℕ) (rep : List ℕ) → cells ≡ cells_of m tables v →
    IsReport (told_lines source cells v.file (slices_in v.methods) [] vs) dropped rep → IsPlacedReport m tables source v vs dropped rep
is_placed source m tables v cells vs dropped rep e h =
    record {
      said = h.said;
      tried = h.tried ∙ ap (λ (cs : List Cell). told_lines source cs v.file (slices_in v.methods) [] vs) e ∙ lines_placed source m tables v (filter (is_told m tables v) vs);
      report = h.report;
    }

pub all_placed : {X : Type 0} (source : List ℕ) (m : ViewMap) (tables : Schema) (v : View) (cells : List Cell) (vs : List LoopVerdict) (dropped : ℕ) (r : Result (List ℕ) X) → cells ≡ cells_of m tables v →
    IfOk r (IsReport (told_lines source cells v.file (slices_in v.methods) [] vs) dropped) → IfOk r (IsPlacedReport m tables source v vs dropped)
all_placed source m tables v cells vs dropped (Ok rep) e h = is_placed source m tables v cells vs dropped rep e h
all_placed source m tables v cells vs dropped (Err other) e h = tt

-- ---- what is written

abbrev plan_of : List ℕ → List ℕ → Plan
plan_of out lines = record { status = Status.Ok; out = out; rep = lines }

pub view_proved : (may : May) (m : ViewMap) (tables : Schema) (size budget : ℕ) (source : List ℕ) (v : View) (p : PlainProgram) (r : Proven) (rep : List ℕ) (plan : Plan) → IsProven may tables size budget p r →
    IsPlacedReport m tables source v r.verdicts r.dropped rep → plan ≡ record { status = Status.Ok; out = r.bundle; rep = rep } → ProvesView may m tables size budget source v p plan
view_proved may m tables size budget source v p r rep plan is report due =
    record {
      pruned = r.dropped;
      evidence = is.evidence;
      rep = rep;
      report = subst (λ (vs : List LoopVerdict). IsPlacedReport m tables source v vs r.dropped rep) is.verdicts report;
      written = due ∙ ap (λ (text : List ℕ). plan_of text rep) is.bundle;
    }

pub nothing_proved : (text rep : List ℕ) (plan : Plan) → text ≡ bundle_text [] → IsReport [] 0 rep → plan ≡ plan_of text rep → ProvesNothing plan
nothing_proved text rep plan e h due = record { rep = rep; report = record { said = h.said; unseen = h.tried; report = h.report }; written = due ∙ ap (λ (out : List ℕ). plan_of out rep) e }

pub nothing_due : {X : Type 0} (may : May) (m : ViewMap) (tables : Schema) (size budget : ℕ) (source : List ℕ) (seen : Seen) (r : Result Plan X) → seen ≡ Nothing →
    IfOk r (λ plan. ProvesNothing plan) → IfOk r (ProvesSeen may m tables size budget source seen)
nothing_due may m tables size budget source seen (Ok plan) e h = subst (λ (s : Seen). ProvesSeen may m tables size budget source s plan) (sym e) h
nothing_due may m tables size budget source seen (Err other) e h = tt

-- the text of a view has its program
pub text_program : (m : ViewMap) (tables : Schema) (source : List ℕ) (file : File) (v : Viewed) → IsViewed m tables source file v → IsProgramOf tables v.text (plain_program v.typed.value.program)
text_program m tables source file v h = subst (λ (text : List ℕ). IsProgramOf tables text (plain_program v.typed.value.program)) (sym h.text) h.seen.1

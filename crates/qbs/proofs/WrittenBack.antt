-- What is seen of a file is rewritten, and written back.
use Rattle.std.proofs.Common.{◌≡◌, ℕ, List, [], length, codes, true, Option, Result, Ok, Err, IfOk, inl, inr, refl, sym, ap, ◌∙◌, subst}
use Rattle.qbs_base.specs.declared.memory.NoMemory.{NoMemory}
use Rattle.qbs_base.specs.declared.status.Status.{Status}
use Rattle.qbs_base.specs.declared.status.Status.TheVariants as statuses
use Rattle.qbs_base.specs.Values.{Schema}
use Rattle.java_ast.specs.Reading.{program as plain_program}
use Rattle.java_ast.specs.Tree.{PlainProgram}
use Rattle.java_grammar.specs.InGrammar.{IsInGrammar}
use Rattle.java_grammar.specs.Written.{IsWritten}
use Rattle.java_stretches.specs.Patches.{PlainPatch, plain_patches}
use Rattle.kernel_lang.specs.Plain.{Fragment}
use Rattle.rewrite_core.specs.declared.rewritten.Rewritten.{Rewritten}
use Rattle.rewrite_core.specs.Patches.{patches_left}
use Rattle.rewrite_core.specs.Results.{IsRewritingOf}
use Rattle.rewrite_core.specs.Trying.{all_tried}
use Rattle.rewrite_core.proofs.SourceFits.{source_fits}
use Rattle.small_dbs.specs.declared.small.SmallDb.{SmallDb}
use Rattle.verdicts.specs.declared.verdict.LoopVerdict.{LoopVerdict}
use Rattle.view_items.specs.declared.cell.Cell.{Cell}
use Rattle.view_map.specs.declared.model.ViewMap.{ViewMap}
use Rattle.view_slices.specs.Slices.{File}
use Rattle.view_slices.specs.Views.{View}
use Rattle.view_spell.specs.declared.spelled.SliceSpelled.{SliceSpelled}
use Rattle.view_spell.specs.Placed.{patches_of, are_apart, are_answers, slices_with}
use Rattle.deliveries.specs.declared.plan.Plan.{Plan}
use Rattle.deliveries.specs.declared.fetch.Stop.{Stop}
use Rattle.deliveries.specs.Code.{Goes, OrMemory}
use Rattle.deliveries.specs.Limits.{most_map, most_schema, most_source}
use Rattle.deliveries.specs.Plan.{Given}
use Rattle.deliveries.specs.Steps.{Ends, refused, IsRead, IsNotRead}
use Rattle.plans.specs.Opening.{IsSchemaOf, BreaksSchema, schema_refusal, IsMapOf, BreaksMap, map_refusal, has_map, IsProgramOf}
use Rattle.plans.proofs.Fetched.{read_there, not_read_there}
use Rattle.words.specs.declared.command.Options.{Options}
use Rattle.qbs.specs.declared.seen.Seen as code
use Rattle.qbs.specs.declared.seen.Viewed.{Viewed}
use Rattle.qbs.specs.Fates.{IsReport, told_lines}
use Rattle.qbs.specs.Opened.{reads_all, AreRead, none_due}
use Rattle.qbs.specs.Pruners.{May, with_bank}
use Rattle.qbs.specs.Rewrite.{size_of, budget_of}
use Rattle.qbs.specs.RewriteByView.{IsWrittenBy, IsLeft, WritesBack, rewrite_by_view_of, rewrite_by_view, cells_of, seen_in, puts_in}
use Rattle.qbs.specs.Seen.{HasSeen, IsViewed, seen_by}
use Rattle.qbs.specs.SeenAgain.{IsSettled, slices_in}
use Rattle.qbs.specs.Store.{IsBankOf, HasNoBank, has_store}
use Rattle.qbs.specs.View.{Seen, Methods, Nothing, IsSeen, IsTooLong, sees, text_of}
use Rattle.qbs.proofs.Beginning.{store_there, store_not_there}
use Rattle.qbs.proofs.Going.{goes_on, stops_at}
use Rattle.qbs.proofs.Rewrote.{is_rewriting, is_source}
use Rattle.qbs.proofs.Viewed.{is_seen}

-- ---- telling the files apart

module _ (may : May) (o : Options) (w s t : List ℕ) (b : Option (List ℕ)) where
  abbrev pub behind_store : ViewMap → Schema → Seen → Option (List SmallDb) → Ends
  behind_store m tables seen bank = WritesBack (with_bank may bank) m tables (size_of o) (budget_of o) t seen

  abbrev pub behind_seen : ViewMap → Schema → Seen → Ends
  behind_seen m tables seen = has_store tables b (λ bank. behind_store m tables seen bank)

  abbrev pub behind_map : Schema → ViewMap → Ends
  behind_map tables m = sees m tables t (λ seen. behind_seen m tables seen)

  abbrev pub behind_schema : Schema → Ends
  behind_schema tables = has_map tables w (λ m. behind_map tables m)

  pub schema_stops : (stop : Stop) → Goes {A = Schema} (Err stop) (IsSchemaOf s) (refused (BreaksSchema s) schema_refusal) → OrMemory (Err stop) (rewrite_by_view_of may o w s t b)
  schema_stops stop h = stops_at (IsSchemaOf s) (IsSchemaOf s) (refused (BreaksSchema s) schema_refusal) (λ tables. behind_schema tables) stop h

  past_schema : (tables : Schema) (result : Result Plan Stop) → IsSchemaOf s tables → OrMemory result (behind_schema tables) → OrMemory result (rewrite_by_view_of may o w s t b)
  past_schema tables result is h = goes_on (IsSchemaOf s) (refused (BreaksSchema s) schema_refusal) (λ tables. behind_schema tables) tables result is h

  pub map_stops : (tables : Schema) (stop : Stop) → IsSchemaOf s tables → Goes {A = ViewMap} (Err stop) (IsMapOf tables w) (refused (BreaksMap tables w) (map_refusal w)) → OrMemory (Err stop) (rewrite_by_view_of may o w s t b)
  map_stops tables stop is h = past_schema tables (Err stop) is (stops_at (IsMapOf tables w) (IsMapOf tables w) (refused (BreaksMap tables w) (map_refusal w)) (λ m. behind_map tables m) stop h)

  past_map : (tables : Schema) (m : ViewMap) (result : Result Plan Stop) → IsSchemaOf s tables → IsMapOf tables w m → OrMemory result (behind_map tables m) → OrMemory result (rewrite_by_view_of may o w s t b)
  past_map tables m result is has h = past_schema tables result is (goes_on (IsMapOf tables w) (refused (BreaksMap tables w) (map_refusal w)) (λ m. behind_map tables m) m result has h)

  pub seen_stops : (tables : Schema) (m : ViewMap) (stop : Stop) → IsSchemaOf s tables → IsMapOf tables w m → Goes {A = code.Seen} (Err stop) (HasSeen m tables t) (IsTooLong m tables t) → OrMemory (Err stop) (rewrite_by_view_of may o w s t b)
  seen_stops tables m stop is has h =
      past_map tables m (Err stop) is has (stops_at (HasSeen m tables t) (IsSeen m tables t) (IsTooLong m tables t) (λ seen. behind_seen m tables seen) stop h)

  past_seen : (tables : Schema) (m : ViewMap) (seen : code.Seen) (result : Result Plan Stop) → IsSchemaOf s tables → IsMapOf tables w m → HasSeen m tables t seen → OrMemory result (behind_seen m tables (seen_by seen)) → OrMemory result (rewrite_by_view_of may o w s t b)
  past_seen tables m seen result is has there h =
      past_map tables m result is has (goes_on (IsSeen m tables t) (IsTooLong m tables t) (λ seen. behind_seen m tables seen) (seen_by seen) result (is_seen m tables t seen there) h)

  pub store_stops : (tables : Schema) (m : ViewMap) (seen : code.Seen) (stop : Stop) → IsSchemaOf s tables → IsMapOf tables w m → HasSeen m tables t seen → Goes {A = Option (List SmallDb)} (Err stop) (IsBankOf tables b) (HasNoBank tables b) → OrMemory (Err stop) (rewrite_by_view_of may o w s t b)
  store_stops tables m seen stop is has there h =
      past_seen tables m seen (Err stop) is has there (stops_at (IsBankOf tables b) (IsBankOf tables b) (HasNoBank tables b) (λ bank. behind_store m tables (seen_by seen) bank) stop h)

  pub goes_back : (tables : Schema) (m : ViewMap) (seen : code.Seen) (bank : Option (List SmallDb)) (plan : Plan) → IsSchemaOf s tables → IsMapOf tables w m → HasSeen m tables t seen → IsBankOf tables b bank
      → WritesBack (with_bank may bank) m tables (size_of o) (budget_of o) t (seen_by seen) plan → OrMemory (Ok plan) (rewrite_by_view_of may o w s t b)
  goes_back tables m seen bank plan is has there held h =
      past_seen tables m seen (Ok plan) is has there (goes_on (IsBankOf tables b) (HasNoBank tables b) (λ bank. behind_store m tables (seen_by seen) bank) bank (Ok plan) held h)

-- ---- reading them

module _ (may : May) (o : Options) (told : List ℕ → Option (List ℕ)) (rose : List ℕ → Type 0) (words schema source : List ℕ) where
  abbrev call : Given
  call = record { told = told; failed = rose }

  abbrev behind_words : List ℕ → Ends
  behind_words w = reads_all call schema source o.store (λ s t b. rewrite_by_view_of may o w s t b)

  pub words_unread : (stop : Stop) → Goes {A = List ℕ} (Err stop) (IsRead call words most_map) (IsNotRead call words most_map (codes "map")) → OrMemory (Err stop) (rewrite_by_view call may o words schema source)
  words_unread stop h = stops_at (IsRead call words most_map) (IsRead call words most_map) (IsNotRead call words most_map (codes "map")) (λ w. behind_words w) stop h

  past_words : (between : List ℕ → Type 0) (w : List ℕ) (result : Result Plan Stop) → IsRead (record { told = told; failed = between }) words most_map w → OrMemory result (behind_words w) → OrMemory result (rewrite_by_view call may o words schema source)
  past_words between w result read h = goes_on (IsRead call words most_map) (IsNotRead call words most_map (codes "map")) (λ w. behind_words w) w result read h

  not_read_later : (later : List ℕ → Option (List ℕ)) (after : List ℕ → Type 0) (w : List ℕ) (plan : Plan) → later ≡ told → ((name : List ℕ) → after name → rose name)
      → reads_all (record { told = later; failed = after }) schema source o.store none_due plan → behind_words w plan
  not_read_later later after w plan same f (inl h) = inl (not_read_there told later after rose schema most_schema (codes "schema") plan same f h)
  not_read_later later after w plan same f (inr (s, read, inl h)) =
      inr (s, read_there told later after rose schema most_schema s same read, inl (not_read_there told later after rose source most_source (codes "source") plan same f h))
  not_read_later later after w plan same f (inr (s, read, inr (t, has, inl h))) =
      inr (s, read_there told later after rose schema most_schema s same read, inr (t, read_there told later after rose source most_source t same has, inl (store_not_there told later after rose o.store plan same f h)))
  not_read_later later after w plan same f (inr (s, read, inr (t, has, inr (b, there, h)))) = absurd h

  pub rest_unread : {A : Type 0} (Is : A → Type 0) (later : List ℕ → Option (List ℕ)) (between after : List ℕ → Type 0) (w : List ℕ) (stop : Stop) → later ≡ told → ((name : List ℕ) → after name → rose name)
      → IsRead (record { told = told; failed = between }) words most_map w → Goes {A = A} (Err stop) Is (reads_all (record { told = later; failed = after }) schema source o.store none_due)
      → OrMemory (Err stop) (rewrite_by_view call may o words schema source)
  rest_unread Is later between after w (Stop.Due plan) same f read h = past_words between w (Err (Stop.Due plan)) read (not_read_later later after w plan same f h)
  rest_unread Is later between after w Stop.Memory same f read h = tt

  pub all_read_on : (later : List ℕ → Option (List ℕ)) (between after : List ℕ → Type 0) (w s t : List ℕ) (b : Option (List ℕ)) (result : Result Plan Stop) → later ≡ told
      → IsRead (record { told = told; failed = between }) words most_map w → AreRead (record { told = later; failed = after }) schema source o.store s t b
      → OrMemory result (rewrite_by_view_of may o w s t b) → OrMemory result (rewrite_by_view call may o words schema source)
  all_read_on later between after w s t b (Ok plan) same read r h =
      past_words between w (Ok plan) read
      (inr (s, read_there told later after rose schema most_schema s same r.read_schema, inr (t, read_there told later after rose source most_source t same r.read_source, inr (b, store_there told later after rose o.store b same r.read_store, h))))
  all_read_on later between after w s t b (Err (Stop.Due plan)) same read r h =
      past_words between w (Err (Stop.Due plan)) read
      (inr (s, read_there told later after rose schema most_schema s same r.read_schema, inr (t, read_there told later after rose source most_source t same r.read_source, inr (b, store_there told later after rose o.store b same r.read_store, h))))
  all_read_on later between after w s t b (Err Stop.Memory) same read r h = tt

-- ---- what is left of a program

-- the text that is kept is that of the view, and has its program
pub program_kept : (m : ViewMap) (tables : Schema) (source : List ℕ) (file : File) (v : Viewed) → IsViewed m tables source file v → IsProgramOf tables v.text (plain_program v.typed.value.program)
program_kept m tables source file v h = subst (λ (text : List ℕ). IsProgramOf tables text (plain_program v.typed.value.program)) (sym h.text) h.seen.1

-- a rewriting in a box
pub rewriting_held : {B : Type 0} (value : B → Rewritten) (drops keeps : Fragment → List ℕ → Type 0) (tables : Schema) (size size_in budget budget_in : ℕ) (lent text : List ℕ) (p q : PlainProgram) (found : Result Rewritten NoMemory) (result : Result B NoMemory)
    → size ≡ size_in → budget ≡ budget_in → lent ≡ text → q ≡ p → IfOk found (IsRewritingOf drops keeps tables size budget lent q) → IfOk result (λ b. found ≡ Ok (value b))
    → IfOk result (λ b. IsRewritingOf drops keeps tables size_in budget_in text p (value b))
rewriting_held value drops keeps tables size size_in budget budget_in lent text p q found (Err e) s k l m h is = tt
rewriting_held value drops keeps tables size size_in budget budget_in lent text p q found (Ok b) s k l m h is =
    let r : IsRewritingOf drops keeps tables size budget lent q (value b) = subst (λ (f : Result Rewritten NoMemory). IfOk f (IsRewritingOf drops keeps tables size budget lent q)) is h in
    subst (λ (x : ℕ). IsRewritingOf drops keeps tables x budget_in text p (value b)) s
    (subst (λ (x : ℕ). IsRewritingOf drops keeps tables size x text p (value b)) k
    (subst (λ (x : List ℕ). IsRewritingOf drops keeps tables size budget x p (value b)) l
    (subst (λ (x : PlainProgram). IsRewritingOf drops keeps tables size budget lent x (value b)) m r)))

-- it is of the grammar and can be written, since the program of the text is
pub left_fits : (drops keeps : Fragment → List ℕ → Type 0) (tables : Schema) (size budget : ℕ) (text : List ℕ) (p : PlainProgram) (r : Rewritten) → IsProgramOf tables text p → IsRewritingOf drops keeps tables size budget text p r
    → IsInGrammar (plain_program r.program) × IsWritten (plain_program r.program)
left_fits drops keeps tables size budget text p r is done = let fits : IsInGrammar p × IsWritten p = source_fits text p (is_source tables text p is) in done.written fits.0 fits.1

-- ---- what is written

-- what is so where another thing is, which is so
pub so_too : {A : Type 0} (P : Type 0) (Q : A → Type 0) (result : Result A NoMemory) → P → IfOk result (λ a. P → Q a) → IfOk result Q
so_too P Q (Ok a) p h = h p
so_too P Q (Err e) p h = tt

abbrev plan_with : List ℕ → List ℕ → Plan
plan_with a b = record { status = Status.Ok; out = a; rep = b }

pub left_written : (may : May) (m : ViewMap) (tables : Schema) (size budget : ℕ) (source : List ℕ) (seen : Seen) (result : Result Plan NoMemory) → seen ≡ Nothing → IfOk result (λ plan. plan.status ≡ statuses.Ok) → IfOk result (λ plan. IsLeft source plan.out plan.rep)
    → IfOk result (WritesBack may m tables size budget source seen)
left_written may m tables size budget source seen (Ok plan) none ok h =
    subst (λ (s : Seen). WritesBack may m tables size budget source s plan) (sym none)
    (record { out = plan.out; rep = plan.rep; is = h; written = ap (λ (x : Status). record { status = x; out = plan.out; rep = plan.rep }) ok })
left_written may m tables size budget source seen (Err e) none ok h = tt

module _ (may : May) (m : ViewMap) (tables : Schema) (source : List ℕ) (v : View) (p : PlainProgram) (out rep : List ℕ) where
  written_over : (size budget : ℕ) (text : List ℕ) (r : Rewritten) (spelled : List SliceSpelled)
      → text ≡ text_of m tables v
      → IsRewritingOf may.drops may.keeps tables size budget text p r
      → are_answers (seen_in m tables v) 0 (slices_with v.methods) (plain_patches r.patches) spelled ≡ true
      → are_apart 0 (length source) (patches_of spelled) ≡ true
      → IsSettled m tables source v.file (plain_program r.program).methods (slices_in v.methods) spelled out
      → IsReport (told_lines source (cells_of m tables v) v.file (slices_in v.methods) spelled r.verdicts) r.dropped rep
      → IsWrittenBy may m tables size budget source v p out rep
  written_over size budget text r spelled is_text done answers apart settled report =
      let puts : plain_patches r.patches ≡ puts_in m tables size budget v p = done.patches ∙ ap (λ (x : List ℕ). patches_left x [] (all_tried tables size budget p)) is_text in
      record {
        rewriting = is_rewriting tables size budget p (plain_program r.program) done.exact done.typed done.keeps done.standing;
        spelled = spelled;
        answers = subst (λ (ps : List PlainPatch). are_answers (seen_in m tables v) 0 (slices_with v.methods) ps spelled ≡ true) puts answers;
        apart = apart;
        settled = subst (λ (q : PlainProgram). IsSettled m tables source v.file q.methods (slices_in v.methods) spelled out) done.exact settled;
        pruned = r.dropped;
        counted = done.dropped;
        said = report.said;
        tried = report.tried ∙ ap (λ (vs : List LoopVerdict). told_lines source (cells_of m tables v) v.file (slices_in v.methods) spelled vs) done.verdicts;
        report = report.report;
      }

  -- the tokens that are lent are those of the view
  pub written_back : (size budget : ℕ) (text : List ℕ) (cells : List Cell) (r : Rewritten) (spelled : List SliceSpelled)
      → text ≡ text_of m tables v
      → cells ≡ cells_of m tables v
      → IsRewritingOf may.drops may.keeps tables size budget text p r
      → are_answers (record { map = m; schema = tables; items = v.file.items; cells = cells }) 0 (slices_with v.methods) (plain_patches r.patches) spelled ≡ true
      → are_apart 0 (length source) (patches_of spelled) ≡ true
      → IsSettled m tables source v.file (plain_program r.program).methods (slices_in v.methods) spelled out
      → IsReport (told_lines source cells v.file (slices_in v.methods) spelled r.verdicts) r.dropped rep
      → WritesBack may m tables size budget source (Methods v p) (plan_with out rep)
  written_back size budget text cells r spelled is_text are done answers apart settled report =
      record {
        out = out;
        rep = rep;
        is = written_over size budget text r spelled is_text done
            (subst (λ (cs : List Cell). are_answers (record { map = m; schema = tables; items = v.file.items; cells = cs }) 0 (slices_with v.methods) (plain_patches r.patches) spelled ≡ true) are answers)
            apart settled
            (subst (λ (cs : List Cell). IsReport (told_lines source cs v.file (slices_in v.methods) spelled r.verdicts) r.dropped rep) are report);
        written = refl;
      }

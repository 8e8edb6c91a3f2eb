-- Tries, and the further ones behind them.
use Rattle.std.proofs.Common.{◌≡◌, ℕ, zero, suc, Bool, ◌+◌, ◌-◌, ◌≤◌, List, [], ◌∷◌, ◌++◌, length, slice_get, Option, Some, None, Result, Ok, Err, IfOk, OnOk, refl, sym, ap, ap₂, ◌∙◌, subst, arith, append_assoc, append-nil}
use Rattle.std.proofs.lemmas.List.{map-append}
use Rattle.qbs_base.specs.Values.{Schema}
use Rattle.deriv_check.specs.declared.bundle.BundleEntry.{BundleEntry}
use Rattle.deriv_check.specs.Bundles.{Entry, entries_of}
use Rattle.kernel_lang.specs.Plain.{Fragment}
use Rattle.java_ast.specs.Reading.{program as plain_program}
use Rattle.java_ast.specs.Tree.{PlainProgram}
use Rattle.java_mean.specs.Numbers.{NumbersFit}
use Rattle.java_mean.specs.WellTyped.{IsWellTyped}
use Rattle.java_types.specs.Texts.{read_by}
use Rattle.loop_text.specs.Statements.Loops.{loops_of}
use Rattle.java_loops.specs.Kernel.Kernel.{setting_at}
use Rattle.java_loops.specs.Kernel.Setting.{Setting}
use Rattle.rewrite_core.specs.declared.outcome.Outcome.{Outcome}
use Rattle.verdicts.specs.declared.verdict.LoopVerdict.{LoopVerdict}
use Rattle.rewrite_core.specs.Outcome.{try_with, IsOutcomeOf, program_with, entries_with, standing_with, patches_with, BeginsBefore}
use Rattle.java_stretches.specs.declared.patch.Patch.{Patch}
use Rattle.java_stretches.specs.Patches.{PlainPatch, plain_patches}
use Rattle.rewrite_core.specs.declared.progress.AllTried.{AllTried}
use Rattle.rewrite_core.specs.declared.progress.Report.{Report}
use Rattle.rewrite_core.specs.Progress.{Progress, progress_in, starts_at, ends_with, Leads}
use Rattle.rewrite_core.specs.Patches.{patches_by, patches_left}
use Rattle.rewrite_core.specs.Pruned.{ArePruned}
use Rattle.rewrite_core.specs.declared.searches.Search.{Search}
use Rattle.rewrite_core.specs.declared.stage.Stage.{Stage}
use Rattle.rewrite_core.specs.Rewriting.{verdict_of, verdicts_of, entry_for, bundle_of}
use Rattle.rewrite_core.specs.Searches.{PlainSearch, search_by, searches_of, kept_searches, and_searched, none_searched}
use Rattle.rewrite_core.specs.Stages.{IsStage, next_of}
use Rattle.rewrite_core.specs.TriedAsking.{AllMayBeAsked, standing_left}
use Rattle.rewrite_core.specs.Trying.{Tried, tried_in, tried_at, program_after, standing_after, and_further, trying, all_tried, left_of}
use Rattle.rewrite_core.proofs.KeptSearches.{Notes, and_nothing, and_both, and_one, searches_joined}
use Rattle.rewrite_core.proofs.Turns.{one_follows, all_follow}

-- ---- Which they are

module _ (schema : Schema) (size budget : ℕ) where
  -- where no loop is there to try
  pub none_there : (left : ℕ) (p : PlainProgram) (n : ℕ) → tried_at schema size budget p (slice_get (loops_of p) n) ≡ None → trying left schema size budget p n ≡ []
  unfolding trying
  none_there zero p n e = refl
  none_there (suc left) p n e = ap (λ (o : Option Tried). and_further o (λ t. trying left schema size budget (program_after t) (standing_after n t.answer))) e

  -- one try
  pub one_there : (p : PlainProgram) (n : ℕ) (t : Tried) → tried_at schema size budget p (slice_get (loops_of p) n) ≡ Some t → trying 1 schema size budget p n ≡ t ∷ []
  unfolding trying
  one_there p n t e = ap (λ (o : Option Tried). and_further o (λ k. [])) e

  module _ (a b : ℕ) (p : PlainProgram) (n : ℕ) (all some : PlainProgram → ℕ → List Tried) (ih : (q : PlainProgram) (m : ℕ) → all q m ≡ some q m ++ trying b schema size budget (left_of q (some q m)) (standing_left m (some q m))) where
    abbrev from : (PlainProgram → ℕ → List Tried) → Option Tried → List Tried
    from further o = and_further o (λ t. further (program_after t) (standing_after n t.answer))

    by_try : (o : Option Tried) → tried_at schema size budget p (slice_get (loops_of p) n) ≡ o → from all o ≡ from some o ++ trying b schema size budget (left_of p (from some o)) (standing_left n (from some o))
    by_try None e = sym (none_there b p n e)
    by_try (Some t) e = ap (λ (ts : List Tried). t ∷ ts) (ih (program_after t) (standing_after n t.answer))

  -- so many tries, and then further ones from what they leave
  pub some_and_further : (a b : ℕ) (p : PlainProgram) (n : ℕ)
      → trying (a + b) schema size budget p n ≡ trying a schema size budget p n ++ trying b schema size budget (left_of p (trying a schema size budget p n)) (standing_left n (trying a schema size budget p n))
  unfolding trying
  some_and_further zero b p n = let e : 0 + b ≡ b = omega arith in ap (λ (k : ℕ). trying k schema size budget p n) e
  some_and_further (suc a) b p n =
      let e : suc a + b ≡ suc (a + b) = omega arith in
      ap (λ (k : ℕ). trying k schema size budget p n) e
      ∙ by_try a b p n (λ q m. trying (a + b) schema size budget q m) (λ q m. trying a schema size budget q m) (λ q m. some_and_further a b q m) (tried_at schema size budget p (slice_get (loops_of p) n)) refl

-- ---- What comes of them

left_through : (p : PlainProgram) (ts us : List Tried) → left_of p (ts ++ us) ≡ left_of (left_of p ts) us
left_through p [] us = refl
left_through p (t ∷ ts) us = left_through (program_after t) ts us

standing_through : (n : ℕ) (ts us : List Tried) → standing_left n (ts ++ us) ≡ standing_left (standing_left n ts) us
standing_through n [] us = refl
standing_through n (t ∷ ts) us = standing_through (standing_after n t.answer) ts us

patched_through : (source : List ℕ) (ps : List PlainPatch) (ts us : List Tried) → patches_left source ps (ts ++ us) ≡ patches_left source (patches_left source ps ts) us
patched_through source ps [] us = refl
patched_through source ps (t ∷ ts) us = patched_through source (patches_by source t t.answer ps) ts us

bundles_joined : (ts us : List Tried) → bundle_of (ts ++ us) ≡ bundle_of ts ++ bundle_of us
bundles_joined [] us = refl
bundles_joined (t ∷ ts) us = ap (λ (es : List Entry). entry_for t ++ es) (bundles_joined ts us) ∙ sym (append_assoc (entry_for t) (bundle_of ts) (bundle_of us))

all_asked : (schema : Schema) (ts us : List Tried) → AllMayBeAsked schema ts → AllMayBeAsked schema us → AllMayBeAsked schema (ts ++ us)
all_asked schema [] us h k = k
all_asked schema (t ∷ ts) us h k = (h.0, all_asked schema ts us h.1 k)

module _ (D K : Fragment → List ℕ → Type 0) (size : ℕ) (source : List ℕ) where
  pruned_joined : (ts us : List Tried) (m n : ℕ) → ArePruned D K size ts m → ArePruned D K size us n → ArePruned D K size (ts ++ us) (m + n)
  pruned_joined [] us m n h k = let e : n ≡ m + n = (let none : m ≡ 0 = h in omega arith) in subst (ArePruned D K size us) e k
  pruned_joined (t ∷ ts) us m n h k = (h.0, h.1 + n, h.2, pruned_joined ts us h.1 n h.3 k, (let sum : m ≡ h.0 + h.1 = h.4 in omega arith))

  module _ (schema : Schema) where
    pub no_tries : (s : Progress) → Leads D K schema size source [] s s
    no_tries s =
        record {
          program = refl;
          standing = refl;
          verdicts = sym (append-nil s.verdicts);
          entries = sym (append-nil s.entries);
          pruned = 0;
          counted = refl;
          dropped = omega arith;
          asked = tt;
          patches = refl;
          searches = and_nothing s.searches;
        }

    pub and_tries : (ts us : List Tried) (s t u : Progress) → Leads D K schema size source ts s t → Leads D K schema size source us t u → Leads D K schema size source (ts ++ us) s u
    and_tries ts us s t u h k =
        record {
          program = k.program ∙ ap (λ (p : PlainProgram). left_of p us) h.program ∙ sym (left_through s.program ts us);
          standing = k.standing ∙ ap (λ (n : ℕ). standing_left n us) h.standing ∙ sym (standing_through s.standing ts us);
          verdicts =
              k.verdicts ∙ ap (λ vs. vs ++ verdicts_of us) h.verdicts ∙ append_assoc s.verdicts (verdicts_of ts) (verdicts_of us) ∙ ap (λ vs. s.verdicts ++ vs) (sym (map-append verdict_of ts us));
          entries =
              k.entries ∙ ap (λ es. es ++ bundle_of us) h.entries ∙ append_assoc s.entries (bundle_of ts) (bundle_of us) ∙ ap (λ es. s.entries ++ es) (sym (bundles_joined ts us));
          pruned = h.pruned + k.pruned;
          counted = pruned_joined ts us h.pruned k.pruned h.counted k.counted;
          dropped = (let one : t.dropped ≡ s.dropped + h.pruned = h.dropped in let two : u.dropped ≡ t.dropped + k.pruned = k.dropped in omega arith);
          asked = all_asked schema ts us h.asked k.asked;
          patches = k.patches ∙ ap (λ (ps : List PlainPatch). patches_left source ps us) h.patches ∙ sym (patched_through source s.patches ts us);
          searches =
              k.searches ∙ ap (λ (o : Option (List PlainSearch)). and_searched o (searches_of us)) h.searches ∙ and_both s.searches (searches_of ts) (searches_of us)
              ∙ ap (and_searched s.searches) (sym (searches_joined ts us));
        }

    -- some of so many tries, and then the others
    pub both_halves : (budget left half : ℕ) (s t u : Progress) → half ≤ left → Leads D K schema size source (trying half schema size budget s.program s.standing) s t
        → Leads D K schema size source (trying (left - half) schema size budget t.program t.standing) t u
        → Leads D K schema size source (trying left schema size budget s.program s.standing) s u
    both_halves budget left half s t u few h k =
        let whole : half + (left - half) ≡ left = omega (arith, few) in
        let same : trying (left - half) schema size budget t.program t.standing ≡ trying (left - half) schema size budget (left_of s.program (trying half schema size budget s.program s.standing)) (standing_left s.standing (trying half schema size budget s.program s.standing)) =
        ap₂ (λ (p : PlainProgram) (n : ℕ). trying (left - half) schema size budget p n) h.program h.standing in
        subst (λ (ts : List Tried). Leads D K schema size source ts s u)
        (ap (λ (ts : List Tried). trying half schema size budget s.program s.standing ++ ts) same
        ∙ sym (some_and_further schema size budget half (left - half) s.program s.standing)
        ∙ ap (λ (n : ℕ). trying n schema size budget s.program s.standing) whole)
        (and_tries (trying half schema size budget s.program s.standing) (trying (left - half) schema size budget t.program t.standing) s t u h k)

-- ---- One try, as code makes it

module _ (D K : Fragment → List ℕ → Type 0) (schema : Schema) (size budget : ℕ) (source : List ℕ) where
  -- the next loop is tried with this outcome
  pub one_leads : (s u : Progress) (path : List ℕ) (w : Setting) (o : Outcome) → slice_get (loops_of s.program) s.standing ≡ Some path → setting_at schema (read_by schema) path s.program ≡ Some w
      → IsOutcomeOf D K schema size (try_with size budget s.program path w) o
      → u.program ≡ program_with o.way path s.program → u.standing ≡ standing_with s.standing o.way → u.verdicts ≡ s.verdicts ++ o.verdict ∷ [] → u.entries ≡ s.entries ++ entries_with o.verdict.at o.way → u.dropped ≡ s.dropped + o.dropped → u.patches ≡ patches_with source o.way path s.program s.patches
      → u.searches ≡ and_searched s.searches (search_by (try_with size budget s.program path w).answer)
      → Leads D K schema size source (trying 1 schema size budget s.program s.standing) s u
  one_leads s u path w o next there k program standing verdicts entries dropped patches searches =
      subst (λ (ts : List Tried). Leads D K schema size source ts s u)
      (sym (one_there schema size budget s.program s.standing (try_with size budget s.program path w) (ap (tried_at schema size budget s.program) next ∙ ap (tried_in size budget s.program path) there)))
      (record {
        program = program ∙ sym k.program;
        standing = standing ∙ sym (k.standing s.standing);
        verdicts = verdicts ∙ ap (λ (v : LoopVerdict). s.verdicts ++ v ∷ []) (sym k.verdict);
        entries = entries ∙ ap (λ (es : List Entry). s.entries ++ es) (sym (append-nil (entry_for (try_with size budget s.program path w)) ∙ k.entry));
        pruned = o.dropped;
        counted = (o.dropped, 0, k.pruned, refl, omega arith);
        dropped = dropped;
        asked = (k.asked, tt);
        patches = patches ∙ sym (k.patches source s.patches);
        searches = searches ∙ and_one s.searches (try_with size budget s.program path w);
      })

  pub no_loop_left : (s : Progress) → slice_get (loops_of s.program) s.standing ≡ None → Leads D K schema size source (trying 1 schema size budget s.program s.standing) s s
  no_loop_left s none =
      subst (λ (ts : List Tried). Leads D K schema size source ts s s) (sym (none_there schema size budget 1 s.program s.standing (ap (tried_at schema size budget s.program) none))) (no_tries D K size source schema s)

  pub no_try : (left : ℕ) (s : Progress) → left ≡ 0 → Leads D K schema size source (trying left schema size budget s.program s.standing) s s
  unfolding trying
  no_try left s none = subst (λ (n : ℕ). Leads D K schema size source (trying n schema size budget s.program s.standing) s s) (sym none) (no_tries D K size source schema s)

  -- what it leads to is well typed
  pub leads_typed : (left : ℕ) (s u : Progress) → Leads D K schema size source (trying left schema size budget s.program s.standing) s u → IsWellTyped schema (read_by schema) s.program → IsWellTyped schema (read_by schema) u.program
  leads_typed left s u h typed = subst (IsWellTyped schema (read_by schema)) (sym h.program) ((all_follow schema size budget left s.program s.standing h.asked).typed typed)

  -- ---- By what a call answers

  module _ {A E : Type 0} (r : Result A E) (u : A → Progress) (s : Progress) where
    -- so it is of as many tries
    pub as_many_tries : (m n : ℕ) → n ≡ m → IfOk r (λ x. Leads D K schema size source (trying m schema size budget s.program s.standing) s (u x)) → IfOk r (λ x. Leads D K schema size source (trying n schema size budget s.program s.standing) s (u x))
    as_many_tries m n e h = subst (λ (k : ℕ). IfOk r (λ x. Leads D K schema size source (trying k schema size budget s.program s.standing) s (u x))) (sym e) h

pub then_others : (D K : Fragment → List ℕ → Type 0) (schema : Schema) (size budget : ℕ) (source : List ℕ) {A E : Type 0} (r : Result A E) (u : A → Progress) (s t : Progress) (left half : ℕ) → half ≤ left
    → Leads D K schema size source (trying half schema size budget s.program s.standing) s t
    → IfOk r (λ x. Leads D K schema size source (trying (left - half) schema size budget t.program t.standing) t (u x))
    → IfOk r (λ x. Leads D K schema size source (trying left schema size budget s.program s.standing) s (u x))
then_others D K schema size budget source (Ok x) u s t left half few h k = both_halves D K size source schema budget left half s t (u x) few h k
then_others D K schema size budget source (Err e) u s t left half few h k = tt

-- ---- The next loop

-- the path that a stage has next is that of the next loop
pub next_listed : (s : Stage) (path : List ℕ) → IsStage s → next_of s ≡ Some path → slice_get (loops_of (plain_program s.typed.program)) s.standing ≡ Some path
next_listed s path lists there = sym lists.next ∙ there

pub none_listed : (s : Stage) → IsStage s → next_of s ≡ None → slice_get (loops_of (plain_program s.typed.program)) s.standing ≡ None
none_listed s lists none = sym lists.next ∙ none

-- so it is of the stage that is lent
pub next_here : (a s : Stage) (o : Option (List ℕ)) → a ≡ s → o ≡ next_of a → next_of s ≡ o
next_here a s o e is = sym (is ∙ ap (λ (x : Stage). next_of x) e)

same_path : (o : Option (List ℕ)) (p q : List ℕ) → o ≡ Some p → o ≡ Some q → p ≡ q
same_path o p q e h = cc

-- there is a loop of which this is the outcome
abbrev HasOutcome : (Fragment → List ℕ → Type 0) → (Fragment → List ℕ → Type 0) → Schema → ℕ → ℕ → Stage → List ℕ → Outcome → Type 0
HasOutcome D K schema size budget d path o =
    (w : Setting) × (setting_at schema (read_by schema) path (plain_program d.typed.program) ≡ Some w) × IsOutcomeOf D K schema size (try_with size budget (plain_program d.typed.program) path w) o

module _ (D K : Fragment → List ℕ → Type 0) (schema : Schema) (size budget : ℕ) (d v : Stage) (path : List ℕ) (o : Outcome) (same : d ≡ v) (outcome : HasOutcome D K schema size budget d path o) (there : next_of v ≡ Some path) (q : List ℕ) (next : next_of v ≡ Some q) where
  here : HasOutcome D K schema size budget v path o
  here = subst (λ (s : Stage). HasOutcome D K schema size budget s path o) same outcome

  -- what comes in the loop's place begins no later, and leaves literals of 64 bits
  pub outcome_begins : BeginsBefore q o.way
  outcome_begins = subst (λ (r : List ℕ). BeginsBefore r o.way) (same_path (next_of v) path q there next) here.2.begins

  pub outcome_fits : NumbersFit (program_with o.way q (plain_program v.typed.program))
  outcome_fits =
      let t : Tried = try_with size budget (plain_program v.typed.program) path here.0 in
      subst (λ (r : List ℕ). NumbersFit (program_with o.way r (plain_program v.typed.program))) (same_path (next_of v) path q there next)
      (subst NumbersFit here.2.program ((one_follows schema t t.answer here.2.asked).numbers v.typed.numbers))

pub pass_leads : (D K : Fragment → List ℕ → Type 0) (schema : Schema) (size budget : ℕ) (source : List ℕ) {A E : Type 0} (r : Result A E) (u : A → Stage) (d v : Stage) (before after : Report) (noted : Option (List Search)) (path : List ℕ) (o : Outcome)
    → d ≡ v → next_of v ≡ Some path → IsStage v
    → HasOutcome D K schema size budget d path o
    → IfOk r (λ x. (q : List ℕ) → next_of v ≡ Some q → plain_program (u x).typed.program ≡ program_with o.way q (plain_program v.typed.program))
    → IfOk r (λ x. (u x).standing ≡ standing_with v.standing o.way)
    → OnOk r (after.verdicts ≡ before.verdicts ++ o.verdict ∷ [])
    → OnOk r (entries_of after.bundle ≡ entries_of before.bundle ++ entries_with o.verdict.at o.way)
    → OnOk r (after.dropped ≡ before.dropped + o.dropped)
    → OnOk r ((q : List ℕ) → next_of v ≡ Some q → plain_patches after.patches ≡ patches_with source o.way q (plain_program v.typed.program) (plain_patches before.patches))
    → after.searches ≡ noted
    → Notes schema size budget (plain_program d.typed.program) path (kept_searches before.searches) (kept_searches noted)
    → IfOk r (λ x. Leads D K schema size source (trying 1 schema size budget (plain_program v.typed.program) v.standing) (progress_in v before) (progress_in (u x) after))
pass_leads D K schema size budget source (Ok x) u d v before after noted path o same there listed outcome program standing verdicts entries dropped patches searches notes =
    let k : HasOutcome D K schema size budget v path o = subst (λ (s : Stage). HasOutcome D K schema size budget s path o) same outcome in
    one_leads D K schema size budget source (progress_in v before) (progress_in (u x) after) path k.0 o (next_listed v path listed there) k.1 k.2 (program path there) standing verdicts entries dropped (patches path there)
    (ap kept_searches searches ∙ subst (λ (s : Stage). Notes schema size budget (plain_program s.typed.program) path (kept_searches before.searches) (kept_searches noted)) same notes k.0 k.1)
pass_leads D K schema size budget source (Err e) u d v before after noted path o same there listed outcome program standing verdicts entries dropped patches searches notes = tt

pub pass_typed : (D K : Fragment → List ℕ → Type 0) (schema : Schema) (size budget : ℕ) (source : List ℕ) {A E : Type 0} (r : Result A E) (u : A → Stage) (v : Stage) (before after : Report) → IsWellTyped schema (read_by schema) (plain_program v.typed.program)
    → IfOk r (λ x. Leads D K schema size source (trying 1 schema size budget (plain_program v.typed.program) v.standing) (progress_in v before) (progress_in (u x) after))
    → IfOk r (λ x. IsWellTyped schema (read_by schema) (plain_program (u x).typed.program))
pass_typed D K schema size budget source (Ok x) u v before after typed h = leads_typed D K schema size budget source 1 (progress_in v before) (progress_in (u x) after) h typed
pass_typed D K schema size budget source (Err e) u v before after typed h = tt

-- ---- From the first loop on

abbrev made : PlainProgram → ℕ → List LoopVerdict → List Entry → ℕ → List PlainPatch → Option (List PlainSearch) → Progress
made p n vs es d ps ss = record { program = p; standing = n; verdicts = vs; entries = es; dropped = d; patches = ps; searches = ss }

pub at_start : (p : PlainProgram) (keep : Bool) (s : Stage) (r : Report) → plain_program s.typed.program ≡ p → s.standing ≡ 0 → (r.verdicts ≡ []) × (r.bundle ≡ []) × (r.dropped ≡ 0) × (r.patches ≡ []) → kept_searches r.searches ≡ none_searched keep
    → progress_in s r ≡ starts_at p keep
at_start p keep s r program standing none searches =
    ap (λ (q : PlainProgram). made q s.standing r.verdicts (entries_of r.bundle) r.dropped (plain_patches r.patches) (kept_searches r.searches)) program
    ∙ ap (λ (n : ℕ). made p n r.verdicts (entries_of r.bundle) r.dropped (plain_patches r.patches) (kept_searches r.searches)) standing
    ∙ ap (λ (vs : List LoopVerdict). made p 0 vs (entries_of r.bundle) r.dropped (plain_patches r.patches) (kept_searches r.searches)) none.0
    ∙ ap (λ (es : List BundleEntry). made p 0 [] (entries_of es) r.dropped (plain_patches r.patches) (kept_searches r.searches)) none.1
    ∙ ap (λ (d : ℕ). made p 0 [] [] d (plain_patches r.patches) (kept_searches r.searches)) none.2
    ∙ ap (λ (ps : List Patch). made p 0 [] [] 0 (plain_patches ps) (kept_searches r.searches)) none.3
    ∙ ap (λ (ss : Option (List PlainSearch)). made p 0 [] [] 0 [] ss) searches

pub all_lead : (D K : Fragment → List ℕ → Type 0) (schema : Schema) (size budget : ℕ) (source : List ℕ) (p : PlainProgram) (keep : Bool) (s t : Progress) (left n : ℕ) (r : AllTried) → s ≡ starts_at p keep → left ≡ length (loops_of p)
    → Leads D K schema size source (trying left schema size budget s.program s.standing) s t → ends_with r n ≡ t
    → (x : ℕ) × Leads D K schema size source (all_tried schema size budget p) (starts_at p keep) (ends_with r x)
unfolding all_tried
all_lead D K schema size budget source p keep s t left n r start many h end = (
  n,
  subst (λ (z : Progress). Leads D K schema size source (trying (length (loops_of p)) schema size budget p 0) (starts_at p keep) z) (sym end)
      (subst (λ (k : ℕ). Leads D K schema size source (trying k schema size budget p 0) (starts_at p keep) t) many
      (subst (λ (z : Progress). Leads D K schema size source (trying left schema size budget z.program z.standing) z t) start h)),
)

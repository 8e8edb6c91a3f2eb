-- The text in which the loops that gave way are replaced is a text of the rewritten program.
use Rattle.std.proofs.Common.{◌≡◌, ℕ, zero, suc, List, [], length, slice_get, Option, Some, None, refl, sym, ap, ◌∙◌}
use Rattle.qbs_base.specs.Values.{Schema}
use Rattle.query_search.specs.Verdicts.{Found, NoneOf, Budget}
use Rattle.sql_parts.proofs.Tools.{get_map}
use Rattle.java_ast.specs.Spans.{place_of}
use Rattle.java_ast.specs.Tree.{PlainProgram}
use Rattle.java_grammar.specs.ReadBack.{IsReadBack}
use Rattle.java_stretches.specs.Carries.{Carries}
use Rattle.java_stretches.specs.Patches.{PlainPatch, put_patch}
use Rattle.java_mean.specs.Queries.{Reader}
use Rattle.java_types.specs.Texts.{read_by}
use Rattle.java_types.proofs.Found.{found_exactly}
use Rattle.loop_text.specs.Statements.Loops.{loops_of}
use Rattle.java_loops.specs.Kernel.Kernel.{broken, setting_at}
use Rattle.java_loops.specs.Kernel.Setting.{Setting}
use Rattle.loop_lists.proofs.LoopSites.{Site, site, sites_of}
use Rattle.rewrite_core.specs.Asked.{Place, first_of_run, replaced}
use Rattle.rewrite_core.specs.Asking.{HasAsks}
use Rattle.rewrite_core.specs.Output.{IsSourceOf}
use Rattle.rewrite_core.specs.Patches.{instead, patches_by, patches_left, patched_text}
use Rattle.rewrite_core.specs.Trying.{Answer, Outside, Searched, answer_unless, Tried, tried_in, tried_at, program_by, program_after, standing_after, and_further, trying, left_of, rewritten, all_tried}
use Rattle.rewrite_core.specs.TriedAsking.{MayBeAskedBy, AllMayBeAsked}
use Rattle.rewrite_core.proofs.HasAsks.{has_asks}
use Rattle.rewrite_core.proofs.LoopPlaces.{places_of, sited}
use Rattle.rewrite_core.proofs.PutPatches.{bare_patches, Stands, gives_way, passes, loop_leads, run_starts, loop_stands, run_before, asks_come, source_stands, text_read_back}
use Rattle.rewrite_core.proofs.Untried.{site_there}
use Rattle.rewrite_core.proofs.Writable.Asks.{instead_fine}

-- ---- A loop gives way

module _ (schema : Schema) (source : List ℕ) (l : Place) (n : ℕ) (ps : List PlainPatch) (h : Stands source l.program n ps) (has : HasAsks schema (read_by schema) l.program l.path l.setting l.candidate) (number : slice_get (loops_of l.program) n ≡ Some l.path) where
  abbrev reader : Reader schema
  reader = record { read = read_by schema; exact = found_exactly schema }

  -- where the loop stands among all
  place : slice_get (places_of l.program) n ≡ Some (place_of l.setting.fragment.loop)
  place =
      ap (λ xs. slice_get xs n) (sym (sited l.program))
      ∙ get_map (λ (s : Site). s.at) (sites_of l.program) n (site l.path (place_of l.setting.fragment.loop)) (site_there schema l.program l.path n l.setting number has.loop.there)

  loop_gives_way : Stands source (replaced l) n (put_patch source l.path (first_of_run l) (instead l) l.program ps)
  loop_gives_way =
      gives_way source l.program n ps h l.path l.setting.fragment (first_of_run l) (instead l) (loop_leads schema (read_by schema) l has) (loop_stands schema (read_by schema) l has).there (run_starts schema (read_by schema) l has)
      (run_before schema (read_by schema) l has) (asks_come schema (read_by schema) l has) (instead_fine schema reader l has h.fine) place

-- ---- All tries

module _ (schema : Schema) (source : List ℕ) where
  one_try : (t : Tried) (a : Answer) (n : ℕ) (ps : List PlainPatch) → slice_get (loops_of t.program) n ≡ Some t.path → MayBeAskedBy schema t a → Stands source t.program n ps → Stands source (program_by t a) (standing_after n a) (patches_by source t a ps)
  one_try t (Searched f (Found h)) n ps number may s =
      loop_gives_way schema source (record { program = t.program; path = t.path; setting = t.setting; candidate = h.candidate }) n ps s (has_asks schema (read_by schema) t.program t.path t.setting h.candidate may) number
  one_try t (Searched f (NoneOf m)) n ps number may s = passes source t.program n ps s
  one_try t (Searched f (Budget b m)) n ps number may s = passes source t.program n ps s
  one_try t (Outside b) n ps number may s = passes source t.program n ps s

  abbrev Ends : PlainProgram → List PlainPatch → List Tried → Type 0
  Ends p ps ts = Carries source (bare_patches (patches_left source ps ts)) (left_of p ts)

  module _ (size budget : ℕ) where
    module _ (p : PlainProgram) (n : ℕ) (ps : List PlainPatch) (s : Stands source p n ps) (further : PlainProgram → ℕ → List Tried) (ih : (q : PlainProgram) (m : ℕ) (qs : List PlainPatch) → AllMayBeAsked schema (further q m) → Stands source q m qs → Ends q qs (further q m)) where
      abbrev tries : Option Tried → List Tried
      tries o = and_further o (λ t. further (program_after t) (standing_after n t.answer))

      by_setting : (path : List ℕ) (o : Option Setting) → slice_get (loops_of p) n ≡ Some path → AllMayBeAsked schema (tries (tried_in size budget p path o)) → Ends p ps (tries (tried_in size budget p path o))
      by_setting path None e h = s.carries
      by_setting path (Some w) e h =
          let t : Tried = record { program = p; path = path; setting = w; answer = answer_unless size budget w (broken w) } in
          ih (program_after t) (standing_after n t.answer) (patches_by source t t.answer ps) h.1 (one_try t t.answer n ps e h.0 s)

      by_path : (o : Option (List ℕ)) → slice_get (loops_of p) n ≡ o → AllMayBeAsked schema (tries (tried_at schema size budget p o)) → Ends p ps (tries (tried_at schema size budget p o))
      by_path None e h = s.carries
      by_path (Some path) e h = by_setting path (setting_at schema (read_by schema) path p) e h

    all_carried : (left : ℕ) (p : PlainProgram) (n : ℕ) (ps : List PlainPatch) → AllMayBeAsked schema (trying left schema size budget p n) → Stands source p n ps → Ends p ps (trying left schema size budget p n)
    unfolding trying
    all_carried zero p n ps h s = s.carries
    all_carried (suc left) p n ps h s = by_path p n ps s (λ q m. trying left schema size budget q m) (λ q m qs k r. all_carried left q m qs k r) (slice_get (loops_of p) n) refl h

    tried_carried : (p : PlainProgram) → AllMayBeAsked schema (all_tried schema size budget p) → Stands source p 0 [] → Ends p [] (all_tried schema size budget p)
    unfolding all_tried
    tried_carried p h s = all_carried (length (loops_of p)) p 0 [] h s

-- ---- The text

pub patched_back : (schema : Schema) (size budget : ℕ) (source : List ℕ) (p : PlainProgram) → IsSourceOf source p → AllMayBeAsked schema (all_tried schema size budget p) → IsReadBack (patched_text source (all_tried schema size budget p)) (rewritten schema size budget p)
patched_back schema size budget source p is may =
    text_read_back source (patches_left source [] (all_tried schema size budget p)) (rewritten schema size budget p) (tried_carried schema source size budget p may (source_stands source p is))

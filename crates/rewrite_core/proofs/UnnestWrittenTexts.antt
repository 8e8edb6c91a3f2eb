-- The text in which the loops that were unnested are replaced is a text of the program that is left.
use Rattle.std.proofs.Common.{◌≡◌, ℕ, ◌<◌, List, [], slice_get, Some, sym, ap, ap₂, ◌∙◌, subst}
use Rattle.qbs_base.specs.Values.{Schema}
use Rattle.qbs_base.specs.declared.span.Span.{Span}
use Rattle.sql_ast.proofs.Tools.{all_at, some_is}
use Rattle.sql_parts.proofs.Tools.{get_map}
use Rattle.java_ast.specs.Path.{last_of, replaced_at, statement_at}
use Rattle.java_ast.specs.Spans.{place_of}
use Rattle.java_ast.specs.Tree.{Statement, Statements, PlainProgram}
use Rattle.java_grammar.specs.ReadBack.{IsReadBack}
use Rattle.java_stretches.specs.Carries.{MayComeFor}
use Rattle.java_stretches.specs.Focus.{Chain}
use Rattle.java_stretches.specs.Patches.{PlainPatch, begins_at, patched, patch_of, start_of, end_of, put_patch}
use Rattle.java_types.specs.Texts.{read_by}
use Rattle.loop_text.specs.Statements.Fragment.{Fragment}
use Rattle.loop_text.specs.Statements.Loops.{loops_of}
use Rattle.loop_lists.proofs.LoopSites.{Site, sites_of, paths_are, StandsAt, all_stand_at}
use Rattle.rewrite_core.specs.Asked.{Place, first_of_run, replaced}
use Rattle.rewrite_core.specs.Asking.{HasAsks}
use Rattle.rewrite_core.specs.Output.{IsSourceOf}
use Rattle.rewrite_core.specs.Patches.{instead, patches_left, patched_text}
use Rattle.rewrite_core.specs.TriedAsking.{AllMayBeAsked}
use Rattle.rewrite_core.specs.Unnesting.{all_unnested, unnested}
use Rattle.rewrite_core.proofs.LoopPlaces.{places_of, sited}
use Rattle.rewrite_core.proofs.PutPatches.{Stands, gives_way, passes, loop_leads, run_starts, run_before, asks_come, source_stands, text_read_back}
use Rattle.rewrite_core.proofs.UnnestReplaced.{statement_put}
use Rattle.rewrite_core.proofs.UnnestWrittenPlaces.{fragment_with, StandsForIn}
use Rattle.rewrite_core.proofs.UnnestWrittenPrograms.{SpreadStands, stands, replaced_is, instead_is_fine, reader_by, unnesting_ends}
use Rattle.rewrite_core.proofs.UnnestWrittenSpread.{is_spread}
use Rattle.rewrite_core.proofs.Untried.{got_mapped}

-- where a loop stands among all
place_there : (p : PlainProgram) (path : List ℕ) (n : ℕ) (s : Statement) → slice_get (loops_of p) n ≡ Some path → statement_at path p ≡ Some s → slice_get (places_of p) n ≡ Some (place_of s)
place_there p path n s number leads =
    let got = got_mapped (λ (t : Site). t.path) (sites_of p) n path (ap (λ xs. slice_get xs n) (paths_are p) ∙ number) in
    let k : StandsAt p got.0 = all_at (StandsAt p) (sites_of p) n got.0 (all_stand_at p) got.1 in
    let same : k.0 ≡ s = some_is k.0 s (sym (sym (ap (λ q. statement_at q p) got.2) ∙ k.1) ∙ leads) in
    ap (λ xs. slice_get xs n) (sym (sited p)) ∙ get_map (λ (t : Site). t.at) (sites_of p) n got.0 got.1 ∙ ap Some (sym k.2 ∙ ap place_of same)

-- a block that begins one behind the other where a run does, no later than a place
abbrev ComesAt : Span → Statements → Statements → Type 0
ComesAt at run block = (lo : ℕ) → (at.line ≡ 0 → ⊥) → Chain lo at.start run → Chain lo at.start block

module _ (schema : Schema) (source : List ℕ) (l : Place) (p : PlainProgram) (n : ℕ) (ps : List PlainPatch) (number : slice_get (loops_of p) n ≡ Some l.path) (k : SpreadStands schema (reader_by schema) l p) (has : HasAsks schema (read_by schema) l.program l.path l.setting l.candidate) (h : Stands source p n ps) where
  there : StandsForIn p l.program l.path k.loop k.spread
  there = stands schema (reader_by schema) l p k has

  same_place : place_of k.spread ≡ place_of k.loop
  same_place = (is_spread schema (reader_by schema) k.loop k.spread k.spreads).place

  abbrev f : Fragment
  f = fragment_with there.seen there.run there.behind k.loop

  fragment_is : l.setting.fragment ≡ fragment_with there.seen there.run there.behind k.spread
  fragment_is = some_is l.setting.fragment (fragment_with there.seen there.run there.behind k.spread) (sym (loop_leads schema (read_by schema) l has) ∙ there.is)

  -- what may come for the spread may come for the loop
  come : MayComeFor f (instead l)
  come =
      let c : MayComeFor l.setting.fragment (instead l) = asks_come schema (read_by schema) l has in
      record {
        first = c.first;
        others = c.others;
        is = c.is;
        simple = c.simple;
        chain = subst (λ (at : Span). ComesAt at there.run (instead l)) same_place (subst (λ (z : Fragment). ComesAt (place_of z.loop) z.run (instead l)) fragment_is c.chain);
      }

  less : first_of_run l < last_of l.path
  less = run_before schema (read_by schema) l has

  new : Stands source (replaced_at l.path (first_of_run l) (instead l) p) n (put_patch source l.path (first_of_run l) (instead l) p ps)
  new =
      gives_way source p n ps h l.path f (first_of_run l) (instead l) there.was k.leads (sym there.first ∙ run_starts schema (read_by schema) l has) less come (instead_is_fine schema (reader_by schema) l p k has h.fine)
      (place_there p l.path n k.loop number k.leads)

  -- the loop ends where its spread does
  ends : end_of (statement_at l.path l.program) ≡ end_of (statement_at l.path p)
  ends = ap (λ q. end_of (statement_at l.path q)) k.is ∙ ap end_of (statement_put p l.path k.spread k.loop k.leads) ∙ ap (λ (at : Span). at.end) same_place ∙ sym (ap end_of k.leads)

  put_same : put_patch source l.path (first_of_run l) (instead l) l.program ps ≡ put_patch source l.path (first_of_run l) (instead l) p ps
  put_same = ap₂ (λ one to. patched ps (patch_of source ps (begins_at ps (start_of one)) to l.path (first_of_run l) (instead l))) (there.before (first_of_run l) less) ends

  -- A loop gives way to the asks for its spread.
  spread_gives_way : Stands source (replaced l) n (put_patch source l.path (first_of_run l) (instead l) l.program ps)
  spread_gives_way =
      subst (λ (q : PlainProgram). Stands source q n (put_patch source l.path (first_of_run l) (instead l) l.program ps)) (sym (replaced_is schema (reader_by schema) l p k has))
      (subst (Stands source (replaced_at l.path (first_of_run l) (instead l) p) n) (sym put_same) new)

-- The text in which the loops are replaced is read back as the program that is left.
pub unnested_back : (schema : Schema) (size budget : ℕ) (source : List ℕ) (p : PlainProgram) → IsSourceOf source p → AllMayBeAsked schema (all_unnested schema size budget p) → IsReadBack (patched_text source (all_unnested schema size budget p)) (unnested schema size budget p)
unnested_back schema size budget source p is may =
    text_read_back source (patches_left source [] (all_unnested schema size budget p)) (unnested schema size budget p)
    (unnesting_ends schema source (Stands source) (passes source) (λ l q n ps number k has h. spread_gives_way schema source l q n ps number k has h) size budget p may (source_stands source p is)).1.carries

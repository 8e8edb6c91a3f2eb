-- Patches of a source that carries a program: one more is put where other statements come in place of a run and its loop.
use Rattle.std.proofs.Common.{◌≡◌, ℕ, suc, ◌≤◌, ◌<◌, Bool, true, false, cond, List, [], ◌∷◌, ◌++◌, map, take, drop, slice_get, Option, Some, None, refl, sym, ap, ◌∙◌, subst, arith}
use Rattle.std.specs.Prelude.{◌&&◌, nat_le, nat_lt}
use Rattle.std.specs.List.{AllByRecursion}
use Rattle.std.proofs.lemmas.Bool.{and_parts}
use Rattle.std.proofs.lemmas.List.{map-append}
use Rattle.qbs_base.specs.Values.{Schema}
use Rattle.qbs_base.specs.declared.span.Span.{Span}
use Rattle.sql_ast.proofs.Tools.{all_joined}
use Rattle.sql_ast.specs.Tree.{PlainQuery}
use Rattle.java_ast.specs.Names.{names_read}
use Rattle.java_ast.specs.Path.{and_then, statement_at, replaced_at, last_of}
use Rattle.java_ast.specs.Spans.{place_of}
use Rattle.java_ast.specs.Tree.{Statement, Statements, Nothing, Then, PlainProgram}
use Rattle.java_grammar.specs.ReadBack.{IsReadBack}
use Rattle.java_stretches.specs.Lines.{IsMargin, joined_lines, CanStandFor}
use Rattle.java_stretches.specs.Patches.{PlainPatch, stretch, is_broken, last_line, blanks_of, earlier, begins_at, patched, margin_by, margin_at, with_patches, patch_of, start_of, end_of, put_patch}
use Rattle.java_stretches.specs.Patches as patches
use Rattle.java_stretches.specs.Carries.{Carries, MayComeFor}
use Rattle.java_stretches.specs.Laid.{Patched, with_texts, ended_before, begun_at}
use Rattle.java_stretches.proofs.Carried.{carried, read_back, one_more, RunStands, run_stands, no_branches}
use Rattle.java_stretches.proofs.Kept.{readable}
use Rattle.java_stretches.proofs.Margins.{margin_of, joined_stands}
use Rattle.java_stretches.proofs.Runs.{run_begins, chain_joined, chain_kept, simple_joined, simple_kept, are_lines}
use Rattle.java_stretches.proofs.Steps.{begun_before}
use Rattle.loop_text.specs.Statements.Fragment.{Fragment, is_simple, are_simple, fragment_at}
use Rattle.loop_text.specs.Statements.KeptStatements.{first_at, with_numbers}
use Rattle.java_loops.specs.Kernel.Kernel as kernel
use Rattle.java_loops.specs.Kernel.Kernel.{lowering}
use Rattle.java_loops.specs.Meant.KeptNumbers.{kept_numbers}
use Rattle.java_loops.specs.Meant.LoopStands.{LoopStands}
use Rattle.java_loops.specs.Walks.Replacing.{Ask, asking, asked}
use Rattle.java_loops.proofs.Kept.KeptPath.{setting_fragment, setting_stands}
use Rattle.rewrite_core.specs.Asked.{Place, asks_of, number_of, first_of_run}
use Rattle.rewrite_core.specs.Asking.{HasAsks}
use Rattle.rewrite_core.specs.Output.{IsSourceOf}
use Rattle.rewrite_core.specs.Patches.{instead}
use Rattle.rewrite_core.proofs.LoopPlaces.{places_among, places_of, stretch_out}
use Rattle.rewrite_core.proofs.PlacesInOrder.{no_loops, methods_ascend, AllFrom, from_one, one_from, one_less, still_from}
use Rattle.rewrite_core.proofs.SomeAsked.{SomeAsk, some_ask, all_asked_simple, asks_chain}
use Rattle.rewrite_core.proofs.SourceFits.{source_fits}
use Rattle.rewrite_core.proofs.StaysTyped.{first_there}
use Rattle.rewrite_core.proofs.Writable.Replaced.{IsFineProgram, AreFineStatements, fine_replaced}

-- ---- Patches without margins and statements

abbrev pub bare_patch : PlainPatch → Patched
bare_patch p = record { from = p.from; to = p.to; text = p.text }

abbrev pub bare_patches : List PlainPatch → List Patched
bare_patches ps = map bare_patch ps

pub texts_are : (source : List ℕ) (at : ℕ) (ps : List PlainPatch) → with_patches source at ps ≡ with_texts source at (bare_patches ps)
texts_are source at [] = refl
texts_are source at (p ∷ ps) = ap (λ (bs : List ℕ). stretch source at p.from ++ (p.text ++ bs)) (texts_are source p.to ps)

begun_same : (ps : List PlainPatch) (s : ℕ) → begun_at (bare_patches ps) s ≡ begins_at ps s
begun_same [] s = refl
begun_same (p ∷ ps) s = ap (λ (k : ℕ). cond (nat_le p.from s && nat_lt s p.to) p.from k) (begun_same ps s)

earlier_step : (v : Bool) (p : PlainPatch) (xs : List Patched) (ps : List PlainPatch) → xs ≡ bare_patches ps → cond v (bare_patch p ∷ xs) xs ≡ bare_patches (cond v (p ∷ ps) ps)
earlier_step true p xs ps e = ap (λ (ys : List Patched). bare_patch p ∷ ys) e
earlier_step false p xs ps e = e

earlier_same : (c : ℕ) (ps : List PlainPatch) → ended_before c (bare_patches ps) ≡ bare_patches (earlier c ps)
earlier_same c [] = refl
earlier_same c (p ∷ ps) = earlier_step (nat_le p.to c) p (ended_before c (bare_patches ps)) (earlier c ps) (earlier_same c ps)

-- with one more
patched_plain : (source : List ℕ) (ps : List PlainPatch) (from to : ℕ) (path : List ℕ) (first : ℕ) (block : Statements)
    → bare_patches (patched ps (patch_of source ps from to path first block)) ≡ ended_before from (bare_patches ps) ++ (record { from = from; to = to; text = joined_lines (margin_at source ps from) block } ∷ [])
patched_plain source ps from to path first block =
    map-append bare_patch (earlier from ps) (patch_of source ps from to path first block ∷ [])
    ∙ ap (λ (xs : List Patched). xs ++ (record { from = from; to = to; text = joined_lines (margin_at source ps from) block } ∷ [])) (sym (earlier_same from ps))

-- ---- Margins

abbrev HasMargin : PlainPatch → Type 0
HasMargin p = IsMargin p.margin

kept_step : (P : PlainPatch → Type 0) (v : Bool) (p : PlainPatch) (ps : List PlainPatch) → P p → AllByRecursion P ps → AllByRecursion P (cond v (p ∷ ps) ps)
kept_step P true p ps h k = (h, k)
kept_step P false p ps h k = k

all_earlier : (P : PlainPatch → Type 0) (c : ℕ) (ps : List PlainPatch) → AllByRecursion P ps → AllByRecursion P (earlier c ps)
all_earlier P c [] h = tt
all_earlier P c (p ∷ ps) h = kept_step P (nat_le p.to c) p (earlier c ps) h.0 (all_earlier P c ps h.1)

last_is : (ps : List PlainPatch) (p : PlainPatch) → AllByRecursion HasMargin ps → patches.last_of ps ≡ Some p → IsMargin p.margin
last_is [] p h e = absurd cc
last_is (q ∷ []) p h e = let is : q ≡ p = cc in subst HasMargin is h.0
last_is (q ∷ r ∷ ps) p h e = last_is (r ∷ ps) p h.1 e

margin_there : (source : List ℕ) (last : Option PlainPatch) (from : ℕ) → ((p : PlainPatch) → last ≡ Some p → IsMargin p.margin) → IsMargin (margin_by source last from)
margin_there source None from h = margin_of (last_line (take from source))
margin_there source (Some p) from h = by (is_broken (stretch source p.to from))
  where
    by : (v : Bool) → IsMargin (cond v (blanks_of (last_line (stretch source p.to from))) p.margin)
    by true = margin_of (last_line (stretch source p.to from))
    by false = h p refl

margin_is : (source : List ℕ) (ps : List PlainPatch) (from : ℕ) → AllByRecursion HasMargin ps → IsMargin (margin_at source ps from)
margin_is source ps from h = margin_there source (patches.last_of (earlier from ps)) from (λ p e. last_is (earlier from ps) p (all_earlier HasMargin from ps h) e)

-- ---- How far the tries have come

-- The source carries the program. All patches begin no later than the last loop that gave way, and all loops from the number n on no earlier.
pub record Stands (source : List ℕ) (p : PlainProgram) (n : ℕ) (ps : List PlainPatch) : Type 0 where
  pub carries : Carries source (bare_patches ps) p
  pub margins : AllByRecursion HasMargin ps
  pub fine : IsFineProgram p
  pub last : ℕ
  pub behind : AllByRecursion (λ (x : PlainPatch). x.from ≤ last) ps
  pub ahead : AllFrom last (drop n (places_of p))

simple_places : (ss : Statements) → are_simple ss ≡ true → places_among ss ≡ []
simple_places Nothing h = refl
simple_places (Then s ss) h =
    let two = and_parts (is_simple s) (are_simple ss) h in
    ap (λ xs. xs ++ places_among ss) (no_loops s (no_branches s two.0)) ∙ simple_places ss two.1

all_ended : (last to : ℕ) (ps : List PlainPatch) → last < to → AllByRecursion (λ (x : PlainPatch). x.from ≤ last) ps → AllByRecursion (λ (x : Patched). x.from < to) (bare_patches ps)
all_ended last to [] less h = tt
all_ended last to (p ∷ ps) less h = (omega (arith, less, h.0), all_ended last to ps less h.1)

all_no_later : (last next : ℕ) (ps : List PlainPatch) → last ≤ next → AllByRecursion (λ (x : PlainPatch). x.from ≤ last) ps → AllByRecursion (λ (x : PlainPatch). x.from ≤ next) ps
all_no_later last next [] less h = tt
all_no_later last next (p ∷ ps) less h = (omega (arith, less, h.0), all_no_later last next ps less h.1)

first_ask : (a : Statements) (k : Ask) (ks : List Ask) → (s : Statement) × (ss : Statements) × (and_then a (asked (k ∷ ks)) ≡ Then s ss)
first_ask Nothing k ks = (asking k.ty k.at k.name k.value, asked ks, refl)
first_ask (Then s ss) k ks = (s, and_then ss (asked (k ∷ ks)), refl)

-- ---- Others come in place of a run and its loop

module _ (source : List ℕ) (p : PlainProgram) (n : ℕ) (ps : List PlainPatch) (h : Stands source p n ps) (path : List ℕ) (f : Fragment) (first : ℕ) (block : Statements) (leads : fragment_at path p ≡ Some f) (there : statement_at path p ≡ Some f.loop)
    (begins : first_at path p ≡ Some first) (less : first < last_of path) (come : MayComeFor f block) (fine : AreFineStatements block) (place : slice_get (places_of p) n ≡ Some (place_of f.loop)) where
  run : RunStands p path f first
  run = run_stands source (bare_patches ps) p h.carries path f first leads begins less

  text_stands : (margin : List ℕ) → IsMargin margin → CanStandFor (joined_lines margin block) block
  text_stands margin m = joined_stands margin block m (record { in_grammar = fine.0; written = fine.1 }) (are_lines block come.first come.others come.is come.simple)

  no_earlier : h.last ≤ (place_of f.loop).start
  no_earlier = one_from h.last n (places_of p) (place_of f.loop) h.ahead place

  begins_before : begins_at ps (place_of run.one).start ≤ (place_of f.loop).start
  begins_before = omega (arith, sym (begun_same ps (place_of run.one).start), begun_before (bare_patches ps) (place_of run.one).start, run.before)

  abbrev text : List ℕ
  text = joined_lines (margin_at source ps (begins_at ps (place_of run.one).start)) block

  abbrev new : PlainPatch
  new = patch_of source ps (begins_at ps (place_of run.one).start) (place_of f.loop).end path first block

  margin : IsMargin (margin_at source ps (begins_at ps (place_of run.one).start))
  margin = margin_is source ps (begins_at ps (place_of run.one).start) h.margins

  more : Carries source (bare_patches (patched ps new)) (replaced_at path first block p)
  more =
      subst (λ (xs : List Patched). Carries source xs (replaced_at path first block p)) (sym (patched_plain source ps (begins_at ps (place_of run.one).start) (place_of f.loop).end path first block))
      (subst (λ (k : ℕ). Carries source (ended_before k (bare_patches ps) ++ (record { from = k; to = (place_of f.loop).end; text = text } ∷ [])) (replaced_at path first block p)) (begun_same ps (place_of run.one).start)
      (one_more source (bare_patches ps) p h.carries path f first leads begins less run.one run.to_one block come text (text_stands (margin_at source ps (begins_at ps (place_of run.one).start)) margin)
      (all_ended h.last (place_of f.loop).end ps (omega (arith, no_earlier, run.grows)) h.behind)))

  ahead : AllFrom (place_of f.loop).start (drop n (places_of (replaced_at path first block p)))
  ahead =
      still_from (place_of f.loop).start n (places_of (replaced_at path first block p)) (places_of p) (stretch_out block (simple_places block come.simple) path first p (omega (arith, less)))
      (from_one 0 n (places_of p) (place_of f.loop) (methods_ascend 0 h.carries.program.methods p.methods h.carries.fits) place)

  gave_way : Stands source (replaced_at path first block p) n (patched ps new)
  gave_way = record {
    carries = more;
    margins = all_joined HasMargin (earlier (begins_at ps (place_of run.one).start) ps) (new ∷ []) (all_earlier HasMargin (begins_at ps (place_of run.one).start) ps h.margins) (margin, tt);
    fine = fine_replaced path first block p fine h.fine;
    last = (place_of f.loop).start;
    behind =
        all_joined (λ (x : PlainPatch). x.from ≤ (place_of f.loop).start) (earlier (begins_at ps (place_of run.one).start) ps) (new ∷ [])
        (all_earlier (λ (x : PlainPatch). x.from ≤ (place_of f.loop).start) (begins_at ps (place_of run.one).start) ps (all_no_later h.last (place_of f.loop).start ps no_earlier h.behind)) (begins_before, tt);
    ahead = ahead;
  }

  -- with the patch as it is put
  pub gives_way : Stands source (replaced_at path first block p) n (put_patch source path first block p ps)
  gives_way =
      subst (λ (o : Option Statement). Stands source (replaced_at path first block p) n (patched ps (patch_of source ps (begins_at ps (start_of o)) (end_of (statement_at path p)) path first block))) (sym run.to_one)
      (subst (λ (o : Option Statement). Stands source (replaced_at path first block p) n (patched ps (patch_of source ps (begins_at ps (place_of run.one).start) (end_of o) path first block))) (sym there) gave_way)

pub passes : (source : List ℕ) (p : PlainProgram) (n : ℕ) (ps : List PlainPatch) → Stands source p n ps → Stands source p (suc n) ps
passes source p n ps h = record { carries = h.carries; margins = h.margins; fine = h.fine; last = h.last; behind = h.behind; ahead = one_less h.last n (places_of p) h.ahead }

-- ---- The asks for a loop

module _ (schema : Schema) (read : List ℕ → Option PlainQuery) (l : Place) (has : HasAsks schema read l.program l.path l.setting l.candidate) where
  abbrev kept : Statements
  kept = with_numbers (kept_numbers l.setting.fragment (names_read (lowering l.setting).entries) (first_of_run l) l.setting.fragment.run) (first_of_run l) l.setting.fragment.run

  pub loop_leads : fragment_at l.path l.program ≡ Some l.setting.fragment
  loop_leads = setting_fragment schema read l.program l.path l.setting (kernel.types_at schema l.path l.program) (fragment_at l.path l.program) refl has.loop.there

  pub run_starts : first_at l.path l.program ≡ Some (first_of_run l)
  run_starts =
      let b = first_there l.path l.program l.setting.fragment loop_leads in
      b.1 ∙ ap Some (sym (ap number_of b.1))

  pub loop_stands : LoopStands l.program l.path l.setting.fragment (first_of_run l)
  loop_stands = setting_stands schema read l.program l.path l.setting (first_of_run l) has.loop.there run_starts

  asks : SomeAsk l
  asks = some_ask schema read l has

  pub run_before : first_of_run l < last_of l.path
  run_before = run_begins l.path l.program l.setting.fragment (first_of_run l) loop_leads run_starts asks.run

  simple : are_simple (instead l) ≡ true
  simple = simple_joined kept (asked (asks_of l)) (simple_kept _ (first_of_run l) l.setting.fragment.run loop_stands.simple) (all_asked_simple (asks_of l))

  some : (s : Statement) × (ss : Statements) × (instead l ≡ Then s ss)
  some =
      let k = first_ask kept asks.first asks.others in
      (k.0, k.1, ap (λ (ks : List Ask). and_then kept (asked ks)) asks.are ∙ k.2)

  -- The kept statements of the run and the asks may come for the run and the loop.
  pub asks_come : MayComeFor l.setting.fragment (instead l)
  asks_come = record {
    first = some.0;
    others = some.1;
    is = some.2;
    simple = simple;
    chain = λ lo lined c.
        chain_joined lo (place_of l.setting.fragment.loop).start (place_of l.setting.fragment.loop).start kept (asked (asks_of l))
        (chain_kept _ (first_of_run l) lo (place_of l.setting.fragment.loop).start l.setting.fragment.run c) (asks_chain l lined);
  }

-- ---- To begin with, and in the end

from_nought : (xs : List Span) → AllFrom 0 xs
from_nought [] = tt
from_nought (x ∷ xs) = (omega arith, from_nought xs)

-- A source carries its program, and no patch stands in it.
pub source_stands : (source : List ℕ) (p : PlainProgram) → IsSourceOf source p → Stands source p 0 []
source_stands source p is = record { carries = carried source is.tokens p is.lexed_as (readable is.tokens.list p is.reads); margins = tt; fine = source_fits source p is; last = 0; behind = tt; ahead = from_nought (places_of p) }

-- The source with its patches in place is a text of the program that it carries.
pub text_read_back : (source : List ℕ) (ps : List PlainPatch) (p : PlainProgram) → Carries source (bare_patches ps) p → IsReadBack (with_patches source 0 ps) p
text_read_back source ps p c = subst (λ (text : List ℕ). IsReadBack text p) (sym (texts_are source 0 ps)) (read_back source (bare_patches ps) p c)

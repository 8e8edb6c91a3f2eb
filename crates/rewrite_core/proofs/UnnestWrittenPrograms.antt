-- The program in which loops are unnested is of the grammar and can be written, where the first one is and can.
use Rattle.std.proofs.Common.{◌≡◌, ℕ, zero, suc, List, [], ◌∷◌, length, slice_get, Option, Some, None, refl, sym, ap, ◌∙◌, subst}
use Rattle.std.specs.List.{AllByRecursion}
use Rattle.std.specs.Option.{option_map}
use Rattle.qbs_base.specs.Values.{Schema}
use Rattle.query_search.specs.Verdicts.{Found, NoneOf, Budget}
use Rattle.sql_ast.proofs.Tools.{some_is}
use Rattle.java_ast.specs.Path.{found_in, last_of, replaced_at, statement_at}
use Rattle.java_ast.specs.Tree.{Expression, Statement, Nothing, Then, PlainProgram}
use Rattle.java_mean.specs.Asks.{frame_of}
use Rattle.java_mean.specs.Queries.{Reader}
use Rattle.java_mean.specs.Types.{Types}
use Rattle.java_stretches.specs.Patches.{PlainPatch, put_patch}
use Rattle.java_types.specs.Texts.{read_by}
use Rattle.java_types.proofs.Found.{found_exactly}
use Rattle.loop_text.specs.Statements.Fragment.{Fragment, fragment_at}
use Rattle.loop_text.specs.Statements.Loops.{loops_of}
use Rattle.java_loops.specs.Kernel.Kernel.{broken, setting_at}
use Rattle.java_loops.specs.Kernel.Setting.{Setting, setting_of}
use Rattle.java_loops.specs.Lowering.Numbering.{entries_of, known_of}
use Rattle.java_loops.specs.Lowering.Spelling.{element_spelled}
use Rattle.java_loops.proofs.Known.KnownNumbers.{IsGoodEntry, entries_good}
use Rattle.java_loops.proofs.Listed.ListedRows.{fragment_seen}
use Rattle.java_loops.proofs.Lowering.LowerChains.{at_setting}
use Rattle.java_loops.proofs.Placing.PlaceLoop.{kernel_unbroken}
use Rattle.java_loops.proofs.Placing.PlaceTyped.{FragmentThere}
use Rattle.spreads.specs.Spread.{spread_of}
use Rattle.rewrite_core.specs.Asked.{Place, first_of_run, spelled_or_text, replaced}
use Rattle.rewrite_core.specs.Asking.{HasAsks}
use Rattle.rewrite_core.specs.Patches.{instead, patches_by, patches_left}
use Rattle.rewrite_core.specs.Trying.{Answer, Outside, Searched, answer_unless, Tried, tried_in, tried_at, program_after, left_of}
use Rattle.rewrite_core.specs.TriedAsking.{AllMayBeAsked}
use Rattle.rewrite_core.specs.Unnesting.{if_found, unnested_at, unnesting_next, unnesting_by, unnesting, all_unnested, unnested}
use Rattle.rewrite_core.proofs.HasAsks.{has_asks}
use Rattle.rewrite_core.proofs.PutPatches.{loop_leads, loop_stands}
use Rattle.rewrite_core.proofs.UnnestReplaced.{unnested_is_replaced}
use Rattle.rewrite_core.proofs.UnnestWrittenPlaces.{fragment_with, StandsForIn, stands_for}
use Rattle.rewrite_core.proofs.UnnestWrittenSpread.{IsFineBefore, before_parts, fine_before, fine_entry, WalksNew, walks_new, IsSpread, is_spread}
use Rattle.rewrite_core.proofs.Writable.Asks.{IsFineAsking, instead_fine_by}
use Rattle.rewrite_core.proofs.Writable.Entries.{of_entries}
use Rattle.rewrite_core.proofs.Writable.Leaves.{OfTests}
use Rattle.rewrite_core.proofs.Writable.Literals.{of_atoms}
use Rattle.rewrite_core.proofs.Writable.Parts.{IsFineFragment, fine_fragment, IsFineElement, fine_element}
use Rattle.rewrite_core.proofs.Writable.Replaced.{IsFine, AreFineStatements, IsFineProgram, fine_replaced}

-- ---- One loop

entries_fine : (w : Setting) (es : List Expression) → AllByRecursion (IsFineBefore w.types) es → AllByRecursion (IsGoodEntry w) es → AllByRecursion IsFine es
entries_fine w [] h k = tt
entries_fine w (e ∷ es) h k = (fine_entry w k.0.number e k.0.entry h.0, entries_fine w es h.1 k.1)

-- the spread of a loop of a program, at its place in the program that a loop is asked for in
pub record SpreadStands (schema : Schema) (reader : Reader schema) (l : Place) (p : PlainProgram) : Type 0 where
  pub loop : Statement
  pub spread : Statement
  pub leads : statement_at l.path p ≡ Some loop
  pub spreads : spread_of schema reader.read loop ≡ Some spread
  pub is : l.program ≡ replaced_at l.path (last_of l.path) (Then spread Nothing) p

module _ (schema : Schema) (reader : Reader schema) (l : Place) (p : PlainProgram) (k : SpreadStands schema reader l p) (has : HasAsks schema reader.read l.program l.path l.setting l.candidate) where
  loops : IsSpread k.loop k.spread
  loops = is_spread schema reader k.loop k.spread k.spreads

  pub stands : StandsForIn p l.program l.path k.loop k.spread
  stands = subst (λ q. StandsForIn p q l.path k.loop k.spread) (sym k.is) (stands_for p l.path k.loop k.spread loops.loop loops.loop' k.leads)

  -- What comes in place of the spread comes in place of the loop.
  pub replaced_is : replaced l ≡ replaced_at l.path (first_of_run l) (instead l) p
  replaced_is = ap (replaced_at l.path (first_of_run l) (instead l)) k.is ∙ unnested_is_replaced p l.path (first_of_run l) k.spread (instead l) (loop_stands schema reader.read l has).before k.loop k.leads

  module _ (fine : IsFineProgram p) where
    parts : IsFineFragment (fragment_with stands.seen stands.run stands.behind k.loop)
    parts = fine_fragment l.path p (fragment_with stands.seen stands.run stands.behind k.loop) fine stands.was

    asking_there : (f : Fragment) (g : Types) → FragmentThere schema reader.read l.program l.path f g → broken (setting_of schema reader.read g f) ≡ None → fragment_at l.path l.program ≡ Some f → IsFineAsking l.program l.path (setting_of schema reader.read g f)
    asking_there f g there rules at =
        let w : Setting = setting_of schema reader.read g f in
        let same : f ≡ fragment_with stands.seen stands.run stands.behind k.spread = some_is f (fragment_with stands.seen stands.run stands.behind k.spread) (sym at ∙ stands.is) in
        let loop : f.loop ≡ k.spread = ap (λ (z : Fragment). z.loop) same in
        let run : AreFineStatements f.run = subst AreFineStatements (sym (ap (λ (z : Fragment). z.run) same)) parts.run in
        let new : WalksNew g f.loop = walks_new (frame_of schema reader.read there.place.method) g there.typed.loop g there.typed.after f.loop there.typed.body (λ x j i. i) in
        let tests : OfTests (IsFineBefore g) f.loop = subst (OfTests (IsFineBefore g)) (sym loop) (loops.tests g parts.loop (subst (WalksNew g) loop new)) in
        record {
          run = run;
          entries =
              entries_fine w (entries_of w) (of_entries (IsFineBefore g) (before_parts g) (fine_before g) f run tests (known_of w))
              (entries_good schema reader.read f g (fragment_seen schema reader.read l.program l.path f g has.loop.typed there) (kernel_unbroken w rules).conditions);
          atoms = of_atoms (IsFineBefore g) (before_parts g) f tests w (entries_of w) (known_of w);
          elements = λ x. subst (λ o. IsFineElement (spelled_or_text (element_spelled o))) (sym (stands.spelled x)) (fine_element x l.path p fine);
        }

    -- The statements that come in place of the spread are of the grammar and can be written.
    pub instead_is_fine : AreFineStatements (instead l)
    instead_is_fine =
        instead_fine_by schema reader l has
        (at_setting (λ (w : Setting). fragment_at l.path l.program ≡ Some w.fragment → IsFineAsking l.program l.path w) schema reader.read l.program l.path l.setting has.loop.typed has.loop.numbers asking_there has.loop.there has.loop.unbroken
        (loop_leads schema reader.read l has))

    pub unnested_is_fine : IsFineProgram (replaced l)
    unnested_is_fine = subst IsFineProgram (sym replaced_is) (fine_replaced l.path (first_of_run l) (instead l) p instead_is_fine fine)

-- ---- All loops

abbrev pub reader_by : (schema : Schema) → Reader schema
reader_by schema = record { read = read_by schema; exact = found_exactly schema }

-- What stays so where a loop stands, and where one gives way, is so in the end.
module _ (schema : Schema) (source : List ℕ) (Holds : PlainProgram → ℕ → List PlainPatch → Type 0) (passes : (p : PlainProgram) (n : ℕ) (ps : List PlainPatch) → Holds p n ps → Holds p (suc n) ps)
    (gives : (l : Place) (p : PlainProgram) (n : ℕ) (ps : List PlainPatch) → slice_get (loops_of p) n ≡ Some l.path → SpreadStands schema (reader_by schema) l p → HasAsks schema (read_by schema) l.program l.path l.setting l.candidate → Holds p n ps → Holds (replaced l) n (put_patch source l.path (first_of_run l) (instead l) l.program ps)) where
  abbrev Ends : PlainProgram → List PlainPatch → List Tried → Type 0
  Ends p ps ts = (n : ℕ) × Holds (left_of p ts) n (patches_left source ps ts)

  module _ (size budget : ℕ) where
    module _ (p : PlainProgram) (n : ℕ) (ps : List PlainPatch) (further : PlainProgram → ℕ → List Tried) (ih : (q : PlainProgram) (m : ℕ) (qs : List PlainPatch) → AllMayBeAsked schema (further q m) → Holds q m qs → Ends q qs (further q m)) (h : Holds p n ps) where
      -- the tries from one on, where it finds a candidate, and those of the loops behind it
      abbrev tries : Option Tried → List Tried
      tries o = unnesting_next o (λ t. further (program_after t) n) (further p (suc n))

      abbrev EndsBy : List Tried → Type 0
      EndsBy ts = AllMayBeAsked schema ts → Ends p ps ts

      stays : EndsBy (tries None)
      stays may = ih p (suc n) ps may (passes p n ps h)

      module _ (path : List ℕ) (number : slice_get (loops_of p) n ≡ Some path) where
        module _ (s z : Statement) (leads : statement_at path p ≡ Some s) (spreads : spread_of schema (read_by schema) s ≡ Some z) where
          abbrev with_spread : PlainProgram
          with_spread = replaced_at path (last_of path) (Then z Nothing) p

          by_answer : (w : Setting) (a : Answer) → EndsBy (tries (if_found (record { program = with_spread; path = path; setting = w; answer = a }) a))
          by_answer w (Searched f (Found c)) may =
              let t : Tried = record { program = with_spread; path = path; setting = w; answer = Searched f (Found c) } in
              let l : Place = record { program = with_spread; path = path; setting = w; candidate = c.candidate } in
              ih (program_after t) n (patches_by source t t.answer ps) may.1
              (gives l p n ps number (record { loop = s; spread = z; leads = leads; spreads = spreads; is = refl }) (has_asks schema (read_by schema) with_spread path w c.candidate may.0) h)
          by_answer w (Searched f (NoneOf m)) may = stays may
          by_answer w (Searched f (Budget b m)) may = stays may
          by_answer w (Outside b) may = stays may

          by_setting : (o : Option Setting) → EndsBy (tries (found_in (λ (t : Tried). if_found t t.answer) (tried_in size budget with_spread path o)))
          by_setting None may = stays may
          by_setting (Some w) may = by_answer w (answer_unless size budget w (broken w)) may

        -- where this is the spread of the loop
        abbrev tried_with : Option Statement → Option Tried
        tried_with o = found_in (λ q. found_in (λ (t : Tried). if_found t t.answer) (tried_at schema size budget q (Some path))) (option_map (λ z. replaced_at path (last_of path) (Then z Nothing) p) o)

        by_spread : (s : Statement) → statement_at path p ≡ Some s → (o : Option Statement) → spread_of schema (read_by schema) s ≡ o → EndsBy (tries (tried_with o))
        by_spread s leads None e may = stays may
        by_spread s leads (Some z) e may = by_setting s z leads e (setting_at schema (read_by schema) path (replaced_at path (last_of path) (Then z Nothing) p)) may

        by_statement : (o : Option Statement) → statement_at path p ≡ o → EndsBy (tries (tried_with (found_in (spread_of schema (read_by schema)) o)))
        by_statement None e may = stays may
        by_statement (Some s) e may = by_spread s e (spread_of schema (read_by schema) s) refl may

      by_path : (o : Option (List ℕ)) → slice_get (loops_of p) n ≡ o → EndsBy (unnesting_by o (unnested_at schema size budget p) (λ t. further (program_after t) n) (further p (suc n)))
      by_path None e may = (n, h)
      by_path (Some path) e may = by_statement path e (statement_at path p) refl may

    all_end : (left : ℕ) (p : PlainProgram) (n : ℕ) (ps : List PlainPatch) → AllMayBeAsked schema (unnesting left schema size budget p n) → Holds p n ps → Ends p ps (unnesting left schema size budget p n)
    unfolding unnesting
    all_end zero p n ps may h = (n, h)
    all_end (suc left) p n ps may h = by_path p n ps (λ q m. unnesting left schema size budget q m) (λ q m qs a i. all_end left q m qs a i) h (slice_get (loops_of p) n) refl may

    pub unnesting_ends : (p : PlainProgram) → AllMayBeAsked schema (all_unnested schema size budget p) → Holds p 0 [] → Ends p [] (all_unnested schema size budget p)
    unfolding all_unnested
    unnesting_ends p may h = all_end (length (loops_of p)) p 0 [] may h

-- The program after all tries is of the grammar and can be written.
pub unnested_fine : (schema : Schema) (size budget : ℕ) (p : PlainProgram) → AllMayBeAsked schema (all_unnested schema size budget p) → IsFineProgram p → IsFineProgram (unnested schema size budget p)
unnested_fine schema size budget p may fine =
    (unnesting_ends schema [] (λ q n ps. IsFineProgram q) (λ q n ps h. h) (λ l q n ps number k has h. unnested_is_fine schema (reader_by schema) l q k has h) size budget p may fine).1

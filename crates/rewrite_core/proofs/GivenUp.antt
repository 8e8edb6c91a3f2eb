-- The program that code makes where a loop gives way is the one that is defined.
use Rattle.std.proofs.Common.{◌≡◌, ℕ, ◌≤◌, true, List, [], ◌∷◌, map, Option, Some, None, refl, sym, ap, ap₂, ◌∙◌, subst}
use Rattle.std.specs.List.{AllByRecursion}
use Rattle.qbs_base.specs.declared.scalar.Ty.{Ty}
use Rattle.qbs_base.specs.declared.span.Span.{Span}
use Rattle.qbs_base.specs.Values.{Schema}
use Rattle.kernel_lang.specs.Typed.{is_typed}
use Rattle.kernel_lang.specs.Whole.{fragment_of}
use Rattle.sql_ast.specs.declared.tree.Query.{Query}
use Rattle.sql_ast.specs.Reading.{query}
use Rattle.sql_ast.specs.Tree.{PlainQuery}
use Rattle.sql_ast.specs.Valid.{IsQueryOf}
use Rattle.sql_parts.specs.Given.{AreKnown, AreKnownTo}
use Rattle.vc_gen.specs.Soundness.{EndsAnywhere}
use Rattle.java_ast.specs.Path.{and_then, last_of, replaced_at, statement_at}
use Rattle.java_ast.specs.Spans.{place_of}
use Rattle.java_ast.specs.Tree.{Statement, Statements, PlainProgram}
use Rattle.java_mean.specs.Numbers.{NumbersFit}
use Rattle.java_mean.specs.Types.{Types}
use Rattle.java_mean.specs.WellTyped.{IsWellTyped}
use Rattle.loop_text.specs.Statements.Fragment.{Fragment, fragment_at}
use Rattle.loop_text.specs.Statements.KeptStatements.{AreKept, first_at, with_numbers}
use Rattle.java_ast.specs.Names.{Names, names_read}
use Rattle.java_loops.specs.Kernel.Kernel.{broken, lowering, types_at, setting_there, setting_at}
use Rattle.java_loops.specs.Kernel.Setting.{Setting, setting_of}
use Rattle.java_loops.specs.Lowering.Lowered.{Lowering}
use Rattle.java_loops.specs.Meant.KeptNumbers.{kept_numbers}
use Rattle.java_loops.specs.Meant.LoopStands.{LoopStands}
use Rattle.java_loops.specs.Meant.Lowers.{IsLowered}
use Rattle.java_loops.specs.Walks.Replacing.{asked}
use Rattle.java_loops.proofs.Kept.KeptPath.{setting_stands}
use Rattle.java_loops.proofs.Kept.KeptRuns.{kept_numbers_only}
use Rattle.java_loops.proofs.Typing.TypedAccumulators.{accumulators_there as needed_there}
use Rattle.java_loops.proofs.Typing.TypedFragment.{fragment_fits}
use Rattle.lowering.specs.Asked.{queries_in}
use Rattle.lowering.specs.declared.lowering.lowered.Lowered.{Lowered}
use Rattle.lowering.specs.Lowers.{lowering_in_code}
use Rattle.rewrite_core.specs.Asked.{Place, asks_of, number_of, replaced}
use Rattle.rewrite_core.specs.Asking.{HasAsks, MayBeAsked}
use Rattle.rewrite_core.specs.LoopWithCandidate.{LoopWithCandidate, asked_from, AreValidFrom}
use Rattle.rewrite_core.specs.Patches.{instead}
use Rattle.rewrite_core.proofs.HasAsks.{may_with}
use Rattle.rewrite_core.proofs.Giving.{looped_at, all_asked, all_are_valid}

queries_found : (qs : List Query) → queries_in (map (λ q. Some (query q)) qs) ≡ map query qs
queries_found [] = refl
queries_found (q ∷ qs) = ap (λ (ps : List PlainQuery). query q ∷ ps) (queries_found qs)

known_valid : (schema : Schema) (types : List Ty) (qs : List PlainQuery) (args : List (List ℕ)) → AreKnown schema types qs args → AllByRecursion (IsQueryOf schema) qs
known_valid schema types [] [] h = tt
known_valid schema types [] (a ∷ args) h = absurd h
known_valid schema types (q ∷ qs) [] h = absurd h
known_valid schema types (q ∷ qs) (a ∷ args) h = (h.0.valid, known_valid schema types qs args h.1)

-- what is known of the setting of a loop
pub record IsThere (schema : Schema) (p : PlainProgram) (path : List ℕ) (w : Setting) : Type 0 where
  pub schema_is : w.schema ≡ schema
  pub fragment_is : fragment_at path p ≡ Some w.fragment

some_is : (a b : Setting) → Some a ≡ Some b → a ≡ b
some_is a b e = cc

there_by : (schema : Schema) (read : List ℕ → Option PlainQuery) (t : Option Types) (f : Option Fragment) (w : Setting) → setting_there schema read t f ≡ Some w → (w.schema ≡ schema) × (f ≡ Some w.fragment)
there_by schema read (Some t) (Some f) w e =
    let same : setting_of schema read t f ≡ w = some_is (setting_of schema read t f) w e in
    (sym (ap (λ (z : Setting). z.schema) same), ap (λ (z : Setting). Some z.fragment) same)
there_by schema read (Some t) None w e = absurd cc
there_by schema read None f w e = absurd cc

pub is_there : (schema : Schema) (read : List ℕ → Option PlainQuery) (p : PlainProgram) (path : List ℕ) (w : Setting) → setting_at schema read path p ≡ Some w → IsThere schema p path w
is_there schema read p path w e = let h = there_by schema read (types_at schema path p) (fragment_at path p) w e in record { schema_is = h.0; fragment_is = h.1 }

same_setting : (o : Option Setting) (v w : Setting) → o ≡ Some v → o ≡ Some w → v ≡ w
same_setting o v w e h = cc

module _ (schema : Schema) (read : List ℕ → Option PlainQuery) (p : PlainProgram) (path : List ℕ) (l : Lowered) (typed : IsWellTyped schema read p) (numbers : NumbersFit p) (k : IsLowered schema read p path (lowering_in_code l) l.first l.kept) where
  -- the number of the first statement of the run is at most the loop's
  pub first_before : l.first ≤ last_of path
  first_before = (setting_stands schema read p path k.setting l.first k.there k.begins).before

  -- the fragment fits the schema
  pub fits_schema : is_typed schema (fragment_of l.frag) ≡ true
  fits_schema = subst (λ (z : Lowering). is_typed schema z.fragment ≡ true) k.lowered (fragment_fits schema read p path k.setting typed numbers k.there k.unbroken)

  module _ (candidate : List ℕ) (w : Setting) (there : setting_at schema read path p ≡ Some w) where
    same : k.setting ≡ w
    same = same_setting (setting_at schema read path p) k.setting w k.there there

    lowered_is : lowering w ≡ lowering_in_code l
    lowered_is = ap lowering (sym same) ∙ k.lowered

    abbrev place : Place
    place = record { program = p; path = path; setting = w; candidate = candidate }

    abbrev made : Schema → Statements → Span → Lowering → List PlainQuery → LoopWithCandidate
    made s run at z qs = record { schema = s; program = p; path = path; run = run; at = at; fragment = z.fragment; entries = z.entries; known = qs; arguments = z.arguments; candidate = candidate }

    looped_is : (run : Statements) (at : Span) → run ≡ w.fragment.run → at ≡ place_of w.fragment.loop → made schema run at (lowering_in_code l) (map query l.known) ≡ looped_at place
    looped_is run at run_is at_is =
        let found : IsThere schema p path w = is_there schema read p path w there in
        let queries : map query l.known ≡ queries_in (lowering w).known = sym (ap (λ (z : Lowering). queries_in z.known) lowered_is ∙ queries_found l.known) in
        ap (λ (s : Schema). made s run at (lowering_in_code l) (map query l.known)) (sym found.schema_is)
        ∙ ap (λ (r : Statements). made w.schema r at (lowering_in_code l) (map query l.known)) run_is
        ∙ ap (λ (a : Span). made w.schema w.fragment.run a (lowering_in_code l) (map query l.known)) at_is
        ∙ ap (λ (z : Lowering). made w.schema w.fragment.run (place_of w.fragment.loop) z (map query l.known)) (sym lowered_is)
        ∙ ap (made w.schema w.fragment.run (place_of w.fragment.loop) (lowering w)) queries

    asks_are : (g : LoopWithCandidate) → g ≡ looped_at place → asked_from g 0 l.names ≡ asked (asks_of place)
    asks_are g is =
        ap₂ (λ (h : LoopWithCandidate) (xs : Names). asked_from h 0 xs) is (sym (ap (λ (z : Lowering). z.names) lowered_is))
        ∙ all_asked place (needed_there schema read p path w typed numbers there (subst (λ (z : Setting). broken z ≡ None) same k.unbroken))

    kept_are : l.kept ≡ kept_numbers w.fragment (names_read (lowering w).entries) l.first w.fragment.run
    kept_are =
        kept_numbers_only w.fragment (names_read (lowering w).entries) l.first w.fragment.run l.kept
        (subst (λ (z : Lowering). AreKept w.fragment (names_read z.entries) l.first w.fragment.run l.kept) (sym lowered_is)
        (subst (λ (z : Setting). AreKept z.fragment (names_read (lowering_in_code l).entries) l.first z.fragment.run l.kept) same k.keeps))

    found_looped : (run : Statements) (at : Span) → ((f : Fragment) → fragment_at path p ≡ Some f → run ≡ f.run) → ((s : Statement) → statement_at path p ≡ Some s → at ≡ place_of s) → made schema run at (lowering_in_code l) (map query l.known) ≡ looped_at place
    found_looped run at run_is at_is =
        let found : IsThere schema p path w = is_there schema read p path w there in
        let stands : LoopStands p path w.fragment l.first = setting_stands schema read p path w l.first there k.begins in
        looped_is run at (run_is w.fragment found.fragment_is) (at_is w.fragment.loop stands.there)

    first_is : number_of (first_at path p) ≡ l.first
    first_is = ap number_of k.begins

    -- The statements that code makes in place of the run and the loop are those that are defined.
    pub instead_is : (run : Statements) (at : Span) → ((f : Fragment) → fragment_at path p ≡ Some f → run ≡ f.run) → ((s : Statement) → statement_at path p ≡ Some s → at ≡ place_of s) → (new : Statements) → new ≡ and_then (with_numbers l.kept l.first w.fragment.run) (asked_from (made schema run at (lowering_in_code l) (map query l.known)) 0 l.names) → new ≡ instead place
    instead_is run at run_is at_is new news =
        news
        ∙ ap₂ (λ (ns : List ℕ) (ss : Statements). and_then (with_numbers ns l.first w.fragment.run) ss) kept_are (asks_are (made schema run at (lowering_in_code l) (map query l.known)) (found_looped run at run_is at_is))
        ∙ ap (λ (n : ℕ). and_then (with_numbers (kept_numbers w.fragment (names_read (lowering w).entries) n w.fragment.run) n w.fragment.run) (asked (asks_of place))) (sym first_is)

    -- The program with them is the one that is defined.
    pub replaced_is : (run : Statements) (at : Span) → ((f : Fragment) → fragment_at path p ≡ Some f → run ≡ f.run) → ((s : Statement) → statement_at path p ≡ Some s → at ≡ place_of s) → (q : PlainProgram) (new : Statements) → new ≡ and_then (with_numbers l.kept l.first w.fragment.run) (asked_from (made schema run at (lowering_in_code l) (map query l.known)) 0 l.names) → q ≡ replaced_at path l.first new p → q ≡ replaced place
    replaced_is run at run_is at_is q new news e =
        e
        ∙ ap (λ (ss : Statements). replaced_at path l.first ss p) (instead_is run at run_is at_is new news)
        ∙ ap (λ (n : ℕ). replaced_at path n (instead place) p) (sym first_is)

    -- the loop has asks
    pub has_there : (run : Statements) (at : Span) → ((f : Fragment) → fragment_at path p ≡ Some f → run ≡ f.run) → ((s : Statement) → statement_at path p ≡ Some s → at ≡ place_of s) → AreKnownTo schema (fragment_of l.frag) (map query l.known) l.known_args → AreValidFrom (made schema run at (lowering_in_code l) (map query l.known)) 0 l.names → HasAsks schema read p path w candidate
    has_there run at run_is at_is known valid =
        let unbroken : broken w ≡ None = subst (λ (z : Setting). broken z ≡ None) same k.unbroken in
        let found : IsThere schema p path w = is_there schema read p path w there in
        let queries : map query l.known ≡ queries_in (lowering w).known = sym (ap (λ (z : Lowering). queries_in z.known) lowered_is ∙ queries_found l.known) in
        let valid' : AreValidFrom (looped_at place) 0 (lowering w).names = subst (λ (xs : Names). AreValidFrom (looped_at place) 0 xs) (sym (ap (λ (z : Lowering). z.names) lowered_is)) (subst (λ (g : LoopWithCandidate). AreValidFrom g 0 l.names) (found_looped run at run_is at_is) valid) in
        record {
          loop = record { typed = typed; numbers = numbers; there = there; unbroken = unbroken };
          known = subst (AllByRecursion (IsQueryOf schema)) queries (known_valid schema (fragment_of l.frag).entries (map query l.known) l.known_args known.each);
          emitted = all_are_valid place (needed_there schema read p path w typed numbers there unbroken) valid';
        }

    -- It may be asked for, where the candidate's postconditions say what the fragment ends with.
    pub may_there : HasAsks schema read p path w candidate → EndsAnywhere (fragment_of l.frag) candidate → MayBeAsked schema read p path w candidate
    may_there has ends = may_with schema read p path w candidate has (subst (λ (z : Lowering). EndsAnywhere z.fragment candidate) (sym lowered_is) ends)

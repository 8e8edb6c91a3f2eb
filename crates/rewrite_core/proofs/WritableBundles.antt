-- The bundle of what is tried is within the limits of its grammar.
use Rattle.std.proofs.Common.{◌≡◌, ℕ, zero, suc, ◌+◌, ◌<◌, ◌≤◌, ◌^◌, Bool, true, not, ◌&&◌, ◌==◌, nat_le, List, [], ◌∷◌, ◌++◌, length, take, Option, Some, None, Ok, refl, sym, subst, arith, false}
use Rattle.std.specs.Prelude.{slice_get}
use Rattle.std.specs.List.{AllByRecursion, flat_map, list_all}
use Rattle.std.proofs.lemmas.Bool.{and_parts}
use Rattle.std.proofs.lemmas.Bool.Decides.{nat_tests}
use Rattle.std.proofs.lemmas.List.{length-take-le}
use Rattle.std.proofs.lemmas.List.Sums.{count_by-le-length, suffix_len-le-length}
use Rattle.qbs_base.specs.Bytes.{line_feed}
use Rattle.qbs_base.specs.declared.span.Span.{Span}
use Rattle.qbs_base.specs.Values.{Schema}
use Rattle.sql_ast.proofs.Tools.{all_at, all_joined}
use Rattle.sql_parts.proofs.Tools.{get_map}
use Rattle.tor_terms.specs.declared.term.Atom.{Atom}
use Rattle.tor_terms.specs.declared.term.Index.TheVariants.{At, Next}
use Rattle.tor_terms.specs.Plain.{Form, Tree, Hold}
use Rattle.tor_axioms.specs.declared.derivation.Step.{Step}
use Rattle.tor_axioms.specs.Accepts.{Claim, Proof, Steps, Split, Absurd}
use Rattle.tor_prover.specs.Derive.{derivation_of}
use Rattle.tor_prover.specs.Shape.{IsStepOfRules, IsNestedWithin, IfNested}
use Rattle.tor_prover.proofs.Nested.{derivation-nested}
use Rattle.deriv_check.specs.Bundles.{Entry}
use Rattle.text_readers.specs.Offsets.{Each}
use Rattle.deriv_check.specs.Grammar.{IsSmall, HasSmallStep, IsNested, IsWritable, IsWritableEntry}
use Rattle.kernel_lang.specs.declared.parts.Update.{Update}
use Rattle.kernel_lang.specs.Paths.{Path, each_with, guard_paths}
use Rattle.kernel_lang.specs.Plain.{Fragment}
use Rattle.kernel_lang.specs.Pools.{Member, members}
use Rattle.kernel_lang.specs.Postcondition.{loops_of as loops_round, start_term, whole, part}
use Rattle.kernel_lang.specs.Running.{Layer, outside, inside}
use Rattle.kernel_lang.specs.Validity.{count_conditions}
use Rattle.vc_gen.specs.Conditions.{by_paths, true_steps, false_steps, exit, at_level, level, conditions_in, ways_through, own_conditions, all_conditions, conditions}
use Rattle.query_search.specs.Firsts.{IsVerdict}
use Rattle.query_search.specs.Verdicts.{with_derivation, all_derived, Hit, Found, NoneOf, Budget}
use Rattle.query_search.proofs.Firsts.{verdict-first}
use Rattle.java_lex.specs.Bytes.{is_in_line}
use Rattle.java_lex.specs.Lexing.{lexed}
use Rattle.java_lex.specs.Spans.{StandsIn, StandInOrder}
use Rattle.java_lex.specs.declared.token.Token.{Token}
use Rattle.java_lex.specs.declared.token.Tokens.{Tokens}
use Rattle.java_lex.proofs.Spanned.{spans}
use Rattle.java_ast.specs.Path.{statement_at}
use Rattle.java_ast.specs.Spans.{place_of}
use Rattle.java_ast.specs.Tree.{Statement, PlainProgram}
use Rattle.java_grammar.specs.Grammar.{IsReadable}
use Rattle.java_grammar.specs.Marks.{all_strict}
use Rattle.java_grammar.specs.Placing.{BeginsWithToken}
use Rattle.java_grammar.proofs.TwoPlaces.{strict_tokens, begins_with_token}
use Rattle.java_types.specs.Texts.{read_by}
use Rattle.loop_text.specs.Sites.Sites.{place_of as site_place}
use Rattle.loop_text.specs.Statements.Fragment.{accumulators, needed_of}
use Rattle.loop_text.specs.Statements.Loops.{loops_of}
use Rattle.java_loops.specs.Kernel.Kernel.{has_small_pool, is_small, broken, lowering, setting_at}
use Rattle.java_loops.specs.Kernel.Setting.{Setting}
use Rattle.java_loops.specs.Lowering.Lowered.{fragment_with}
use Rattle.java_loops.specs.Lowering.Numbering.{numbers_of, count_flags}
use Rattle.java_loops.proofs.Nested.NestRules.{true_from_not}
use Rattle.java_loops.proofs.Standing.StandingRules.{none_where}
use Rattle.java_loops.proofs.Valid.ValidLoop.{rules}
use Rattle.loop_lists.proofs.LoopSites.{Site, site, sites_of, StandsAt, all_stand_at}
use Rattle.rewrite_core.specs.Asked.{Place, replaced}
use Rattle.rewrite_core.specs.Rewriting.{loop_place, entry_by, bundle_of}
use Rattle.rewrite_core.specs.Trying.{Answer, Outside, Searched, answer_unless, Tried, tried_in, tried_at, program_by, program_after, standing_after, and_further, trying, all_tried}
use Rattle.rewrite_core.proofs.AcceptedBundles.{IsHit, hit_by}
use Rattle.rewrite_core.proofs.LoopOutcomes.{found_small}
use Rattle.rewrite_core.proofs.LoopPlaces.{places_of, places_at, sited, LeftOut}
use Rattle.rewrite_core.proofs.LoopsApart.{places_left}
use Rattle.rewrite_core.proofs.Untried.{site_there}

-- ---- Derivations

small_child : (n : ℕ) → n ≤ 1 → IsSmall n
small_child n few = omega arith

small_path : (path : List ℕ) → AllByRecursion (λ child. child ≤ 1) path → Each IsSmall path
small_path [] h = tt
small_path (n ∷ path) h = (small_child n h.0, small_path path h.1)

small_rule : (n : ℕ) → n ≤ 44 → IsSmall n
small_rule n few = omega arith

small_steps : (steps : List Step) → AllByRecursion IsStepOfRules steps → Each HasSmallStep steps
small_steps [] h = tt
small_steps (s ∷ steps) h = ((small_rule s.rule h.0.0, small_path s.path h.0.1), small_steps steps h.1)

small_atom : (k n : ℕ) → k < n → n ≤ 24 → IsSmall k
small_atom k n within few = omega arith

module _ (atoms : List Atom) (few : length atoms ≤ 24) where
  nested : (room : ℕ) (d : Proof) → IsNestedWithin atoms room d → IsNested room d
  nested room (Steps left right) h = (small_steps left h.0, small_steps right h.1)
  nested zero (Split k holding failing) h = absurd h
  nested (suc room) (Split k holding failing) h = (small_atom k (length atoms) h.0 few, nested room holding h.1, nested room failing h.2)
  nested room Absurd h = tt

  if_nested : (o : Option Proof) (d : Proof) → IfNested atoms 10 o → o ≡ Some d → IsWritable d
  if_nested None d h e = absurd cc
  if_nested (Some p) d h e = let same : p ≡ d = cc in subst IsWritable same (nested 10 p h)

abbrev HasFewAtoms : Claim → Type 0
HasFewAtoms c = length c.atoms ≤ 24

both_derived : (o : Option Proof) (os : Option (List Proof)) (ds : List Proof) → with_derivation o os ≡ Some ds → (d : Proof) × (rest : List Proof) × (o ≡ Some d) × (os ≡ Some rest) × (d ∷ rest ≡ ds)
both_derived None os ds e = absurd cc
both_derived (Some d) None ds e = absurd cc
both_derived (Some d) (Some rest) ds e = (d, rest, refl, refl, cc)

derivations_small : (cs : List Claim) (ds : List Proof) → AllByRecursion HasFewAtoms cs → all_derived cs ≡ Some ds → Each IsWritable ds
unfolding all_derived
derivations_small [] ds few e = let none : [] ≡ ds = cc in subst (Each IsWritable) none tt
derivations_small (c ∷ cs) ds few e =
    let parts = both_derived (derivation_of c) (all_derived cs) ds e in
    subst (Each IsWritable) parts.4 (if_nested c.atoms few.0 (derivation_of c) parts.0 (derivation-nested c) parts.2, derivations_small cs parts.1 few.1 parts.3)

-- ---- The atoms of conditions

module _ (atoms : List Atom) where
  abbrev IsOver : Claim → Type 0
  IsOver c = c.atoms ≡ atoms

  abbrev AreOver : List Claim → Type 0
  AreOver cs = AllByRecursion IsOver cs

  over_paths : (F : Path) (l r : Tree) (ps : List Path) → AreOver (by_paths atoms F l r ps)
  over_paths F l r [] = tt
  over_paths F l r (p ∷ ps) = (refl, over_paths F l r ps)

  over_flat : {X : Type 0} (f : X → List Claim) (xs : List X) → ((x : X) → AreOver (f x)) → AreOver (flat_map f xs)
  over_flat f [] each = tt
  over_flat f (x ∷ xs) each = all_joined IsOver (f x) (flat_map f xs) (each x) (over_flat f xs each)

  module _ (u : Update) (fs : List Form) where
    over_level : (outer : List ℕ) (w : Tree) (y : Layer) (ys : List Layer) (F : Path) → AreOver (at_level atoms u fs outer w y ys F)
    over_level outer w y ys F = (
      refl,
      all_joined IsOver (true_steps atoms u fs outer w y ys F) (false_steps atoms u fs outer w y ys F ++ exit atoms u fs outer w y ys F ∷ [])
          (over_paths F (part u fs outer w y ys (Next y.over)) (whole u fs (outer ++ y.over ∷ []) (part u fs outer w y ys (At y.over)) ys) (guard_paths y.guard true))
          (all_joined IsOver (false_steps atoms u fs outer w y ys F) (exit atoms u fs outer w y ys F ∷ []) (over_paths F (part u fs outer w y ys (Next y.over)) (part u fs outer w y ys (At y.over)) (guard_paths y.guard false)) (refl, tt)),
    )

    over_layers : (outer : List ℕ) (Fs : List Path) (w : Tree) (ys : List Layer) → AreOver (conditions_in atoms u fs outer Fs w ys)
    over_layers outer Fs w [] = tt
    over_layers outer Fs w (y ∷ ys) =
        let inner : List Claim = conditions_in atoms u fs (outer ++ y.over ∷ []) (each_with Fs (guard_paths y.guard true)) (Hold (length outer + 2)) ys in
        all_joined IsOver (level atoms u fs outer Fs w y ys) inner
        (over_flat (at_level atoms u fs outer w y ys) Fs (λ F. over_level outer w y ys F))
        (over_layers (outer ++ y.over ∷ []) (each_with Fs (guard_paths y.guard true)) (Hold (length outer + 2)) ys)

  over_members : (ms : List Member) → AreOver (all_conditions atoms ms)
  over_members [] = tt
  over_members (m ∷ ms) =
      all_joined IsOver (own_conditions atoms m) (all_conditions atoms ms)
      (over_layers m.0.update m.1 (loops_round (outside m.0)) (ways_through ([] ∷ []) (outside m.0)) (start_term m.0.start) (inside m.0))
      (over_members ms)

few_over : (atoms : List Atom) (cs : List Claim) → length atoms ≤ 24 → AreOver atoms cs → AllByRecursion HasFewAtoms cs
few_over atoms [] few h = tt
few_over atoms (c ∷ cs) few h = (subst (λ (xs : List Atom). length xs ≤ 24) (sym h.0) few, few_over atoms cs few h.1)

-- a fragment of the kernel form has at most 24 atoms
le_24 : (n : ℕ) → nat_le n 24 ≡ true → n ≤ 24
le_24 n e = grind (arith, nat_tests)

few_atoms : (w : Setting) → broken w ≡ None → length (lowering w).fragment.atoms ≤ 24
few_atoms w none =
    let f : Fragment = fragment_with w (numbers_of w) (needed_of w.fragment) in
    let accs : ℕ = length (accumulators w.fragment) + count_flags w.sites in
    let small : is_small accs f ≡ true = true_from_not (is_small accs f) (none_where (not (is_small accs f)) (site_place w.fragment.loop) (rules w none).counts) in
    let entries : Bool = nat_le (length f.entries) 9 && nat_le (count_conditions f.accs) 4096 in
    let a = and_parts (list_all has_small_pool f.accs) (nat_le (length f.lists) 256 && (nat_le accs 8 && (nat_le (length f.atoms) 24 && entries))) small in
    let b = and_parts (nat_le (length f.lists) 256) (nat_le accs 8 && (nat_le (length f.atoms) 24 && entries)) a.1 in
    let c = and_parts (nat_le accs 8) (nat_le (length f.atoms) 24 && entries) b.1 in
    le_24 (length f.atoms) (and_parts (nat_le (length f.atoms) 24) entries c.1).0

-- ---- Places

abbrev IsSmallPlace : Span → Type 0
IsSmallPlace at = IsSmall at.line × IsSmall at.column

abbrev AreSmall : List Span → Type 0
AreSmall ats = AllByRecursion IsSmallPlace ats

front_small : (xs ys : List Span) → AreSmall (xs ++ ys) → AreSmall xs × AreSmall ys
front_small [] ys h = (tt, h)
front_small (x ∷ xs) ys h = let further = front_small xs ys h.1 in ((h.0, further.0), further.1)

rest_small : (new old : List Span) → LeftOut new old → AreSmall old → AreSmall new
rest_small new old h small =
    let a = front_small h.front (h.left ++ h.back) (subst AreSmall h.was small) in
    subst AreSmall (sym h.is) (all_joined IsSmallPlace h.front h.back a.0 (front_small h.left h.back a.1).1)

-- a stretch with a byte stands at a line and a column that are no more than the text is long
module _ (text : List ℕ) (short : length text < 2 ^ 32) where
  in_text : (at : Span) → at.start < at.end → StandsIn text at → IsSmallPlace at
  in_text at some h =
      let before : List ℕ = take at.start text in
      let n : length before ≡ at.start = length-take-le at.start text (omega (arith, some, h.within)) in
      let lines = count_by-le-length (λ b. b == line_feed) before in
      let columns = suffix_len-le-length is_in_line before in (
        subst IsSmall (sym h.line) (omega (arith, n, lines, some, h.within, short)),
        subst IsSmall (sym h.column) (omega (arith, n, columns, some, h.within, short)),
      )

  token_small : (q : ℕ) (ts : List Token) (n : ℕ) (t : Token) → StandInOrder text q ts → slice_get ts n ≡ Some t → IsSmallPlace t.span
  token_small q [] n t h e = absurd cc
  token_small q (u ∷ ts) zero t h e = let same : u ≡ t = cc in subst (λ (x : Token). IsSmallPlace x.span) same (in_text u.span h.1 h.2)
  token_small q (u ∷ ts) (suc n) t h e = token_small u.span.end ts n t h.3 e

  module _ (tokens : Tokens) (p : PlainProgram) (lexes : lexed text ≡ Ok tokens) (has : IsReadable tokens.list p) where
    statement_small : (path : List ℕ) (s : Statement) → statement_at path p ≡ Some s → IsSmallPlace (place_of s)
    statement_small path s e =
        let h : BeginsWithToken tokens s = begins_with_token text tokens (all_strict tokens.list) p lexes (strict_tokens tokens.list) has path s e in
        let small : IsSmallPlace h.token.span = token_small 0 tokens.list h.number h.token (spans text tokens lexes).0 h.is in
        (subst IsSmall (sym h.same.0) small.0, subst IsSmall (sym h.same.1) small.1)

    sites_small : (ss : List Site) → AllByRecursion (StandsAt p) ss → AreSmall (places_at ss)
    sites_small [] h = tt
    sites_small (s ∷ ss) h = (subst IsSmallPlace h.0.2 (statement_small s.path h.0.0 h.0.1), sites_small ss h.1)

    places_small : AreSmall (places_of p)
    places_small = subst AreSmall (sited p) (sites_small (sites_of p) (all_stand_at p))

-- the place of a loop is one of its program's
loop_small : (schema : Schema) (p : PlainProgram) (path : List ℕ) (n : ℕ) (w : Setting) → AreSmall (places_of p) → slice_get (loops_of p) n ≡ Some path → setting_at schema (read_by schema) path p ≡ Some w → IsSmallPlace (place_of w.fragment.loop)
loop_small schema p path n w small e there =
    all_at IsSmallPlace (places_at (sites_of p)) n (place_of w.fragment.loop) (subst AreSmall (sym (sited p)) small)
    (get_map (λ (s : Site). s.at) (sites_of p) n (site path (place_of w.fragment.loop)) (site_there schema p path n w e there))

-- ---- All tries

module _ (schema : Schema) (size budget : ℕ) (few : budget ≤ 1000000) where
  hit_small : (w : Setting) (h : Hit) → IsHit size budget w h → IsSmall h.k × Each IsWritable h.proofs
  hit_small w h hit =
      let f : Fragment = (lowering w).fragment in
      let first : IsVerdict f size budget (Found h) = subst (IsVerdict f size budget) (sym hit.found) (verdict-first f size budget) in (
        found_small f size budget h hit.found few,
        derivations_small (conditions f h.candidate) h.proofs (few_over f.atoms (conditions f h.candidate) (few_atoms w hit.unbroken) (over_members f.atoms (members f h.candidate))) first.2,
      )

  abbrev AreWritten : List Entry → Type 0
  AreWritten es = Each IsWritableEntry es

  module _ (further : PlainProgram → ℕ → List Tried) (ih : (p : PlainProgram) (n : ℕ) → AreSmall (places_of p) → AreWritten (bundle_of (further p n))) where
    try_written : (t : Tried) (a : Answer) (n : ℕ) → AreSmall (places_of t.program) → slice_get (loops_of t.program) n ≡ Some t.path → setting_at schema (read_by schema) t.path t.program ≡ Some t.setting
        → a ≡ answer_unless size budget t.setting (broken t.setting)
        → AreWritten (entry_by (loop_place t) a ++ bundle_of (further (program_by t a) (standing_after n a)))
    try_written t (Searched f (Found h)) n small listed there is =
        let at = loop_small schema t.program t.path n t.setting small listed there in
        let found = hit_small t.setting h (hit_by size budget t.setting f h (broken t.setting) refl is) in
        let l : Place = record { program = t.program; path = t.path; setting = t.setting; candidate = h.candidate } in
        ((at.0, at.1, found.0, found.1), ih (replaced l) n (rest_small (places_of (replaced l)) (places_of t.program) (places_left schema (read_by schema) l there) small))
    try_written t (Searched f (NoneOf k)) n small listed there is = ih t.program (suc n) small
    try_written t (Searched f (Budget b k)) n small listed there is = ih t.program (suc n) small
    try_written t (Outside b) n small listed there is = ih t.program (suc n) small

    module _ (p : PlainProgram) (n : ℕ) (small : AreSmall (places_of p)) where
      abbrev tries : Option Tried → List Tried
      tries o = and_further o (λ t. further (program_after t) (standing_after n t.answer))

      by_setting : (path : List ℕ) (o : Option Setting) → slice_get (loops_of p) n ≡ Some path → setting_at schema (read_by schema) path p ≡ o → AreWritten (bundle_of (tries (tried_in size budget p path o)))
      by_setting path None e there = tt
      by_setting path (Some w) e there =
          let t : Tried = record { program = p; path = path; setting = w; answer = answer_unless size budget w (broken w) } in
          try_written t t.answer n small e there refl

      by_path : (o : Option (List ℕ)) → slice_get (loops_of p) n ≡ o → AreWritten (bundle_of (tries (tried_at schema size budget p o)))
      by_path None e = tt
      by_path (Some path) e = by_setting path (setting_at schema (read_by schema) path p) e refl

  all_written : (left : ℕ) (p : PlainProgram) (n : ℕ) → AreSmall (places_of p) → AreWritten (bundle_of (trying left schema size budget p n))
  unfolding trying
  all_written zero p n small = tt
  all_written (suc left) p n small = by_path (λ q k. trying left schema size budget q k) (λ q k s. all_written left q k s) p n small (slice_get (loops_of p) n) refl

  tried_written : (p : PlainProgram) → AreSmall (places_of p) → AreWritten (bundle_of (all_tried schema size budget p))
  unfolding all_tried
  tried_written p small = all_written (length (loops_of p)) p 0 small

-- The bundle of the tries of a program that a text has is within the limits of its grammar.
pub bundle_writable : (schema : Schema) (size budget : ℕ) (text : List ℕ) (tokens : Tokens) (p : PlainProgram) → budget ≤ 1000000 → length text < 2 ^ 32 → lexed text ≡ Ok tokens → IsReadable tokens.list p
    → Each IsWritableEntry (bundle_of (all_tried schema size budget p))
bundle_writable schema size budget text tokens p few short lexes has = tried_written schema size budget few p (places_small text short tokens p lexes has)

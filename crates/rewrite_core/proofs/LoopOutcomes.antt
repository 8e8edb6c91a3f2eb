-- What comes of a loop that was tried, by what is said of it.
use Rattle.std.proofs.Common.{◌≡◌, ℕ, suc, ◌≤◌, ◌<◌, ◌^◌, List, [], ◌∷◌, inl, inr, ⊎_elim, Option, Some, None, Result, Ok, Err, IfOk, refl, sym, ap, ap₂, ◌∙◌, subst, arith}
use Rattle.qbs_base.specs.declared.span.Span.{Span}
use Rattle.qbs_base.specs.Values.{Schema}
use Rattle.tor_axioms.specs.declared.derivation.Derivation.{Derivation}
use Rattle.tor_axioms.specs.Accepts.{Proof}
use Rattle.kernel_lang.specs.Plain.{Fragment}
use Rattle.kernel_lang.specs.Whole.{fragment_of}
use Rattle.query_search.specs.Asking.{OfCandidate}
use Rattle.query_search.specs.Counted.{AreCounted, OneIs}
use Rattle.query_search.specs.Firsts.{IsVerdict}
use Rattle.query_search.specs.declared.found.Found.{Found as CodeFound}
use Rattle.query_search.specs.declared.found.Found.TheVariants as codes
use Rattle.query_search.specs.Seen.{proofs_in, verdict_in, dropped_in, IsFoundOf}
use Rattle.query_search.specs.Verdicts.{Hit, Verdict, Found, NoneOf, Budget, verdict, before, IsAcceptedFor}
use Rattle.query_search.proofs.Counts.{counts-map}
use Rattle.query_search.proofs.Firsts.{verdict-first}
use Rattle.sql_ast.specs.Tree.{PlainQuery}
use Rattle.vc_gen.specs.Soundness.{EndsAnywhere}
use Rattle.java_ast.specs.Path.{last_of, replaced_at, found_in}
use Rattle.java_ast.specs.Reading.{statements}
use Rattle.java_ast.specs.Spans.{place_of}
use Rattle.java_ast.specs.Tree.{Statements, PlainProgram}
use Rattle.java_loops.specs.Kernel.Kernel.{Broken, broken, lowering, setting_at, outside_at}
use Rattle.java_loops.specs.Kernel.Setting.{Setting}
use Rattle.java_loops.specs.Lowering.Lowered.{Lowering}
use Rattle.java_loops.specs.Meant.Lowers.{IsLowered}
use Rattle.java_types.specs.Texts.{read_by}
use Rattle.lowering.specs.declared.lowering.lowered.Lowered.{Lowered}
use Rattle.lowering.specs.Lowers.{lowering_in_code}
use Rattle.rewrite_core.specs.declared.outcome.GivesWay.{GivesWay}
use Rattle.rewrite_core.specs.declared.outcome.Outcome.{Outcome}
use Rattle.java_stretches.specs.Patches.{PlainPatch, put_patch}
use Rattle.verdicts.specs.declared.verdict.Said.{Said}
use Rattle.verdicts.specs.declared.verdict.Said.TheVariants as says
use Rattle.verdicts.specs.declared.verdict.LoopVerdict.{LoopVerdict}
use Rattle.rewrite_core.specs.Asked.{number_of, first_of_run}
use Rattle.rewrite_core.specs.Asking.{HasAsks, MayBeAsked}
use Rattle.rewrite_core.specs.Outcome.{try_with, IsOutcomeOf, program_with, entries_with, standing_with, patches_with, BeginsBefore}
use Rattle.rewrite_core.specs.Patches.{instead, patches_by}
use Rattle.rewrite_core.specs.Pruned.{IsPrunedBy}
use Rattle.rewrite_core.specs.Rewriting.{said_by, verdict_of, entry_by, entry_for}
use Rattle.rewrite_core.specs.TriedAsking.{MayBeAskedBy}
use Rattle.rewrite_core.specs.Trying.{Answer, Outside, Searched, answer_unless, Tried, program_after, standing_after}
use Rattle.rewrite_core.proofs.HasAsks.{may_with}

-- ---- What is counted

pub one_is_more : {P : Type 0} (S T : P → Type 0) → ((p : P) → S p → T p) → (ps : List P) → OneIs S ps → OneIs T ps
one_is_more S T more [] h = h
one_is_more S T more (p ∷ ps) h = ⊎_elim (λ k. inl (more p k)) (λ k. inr (one_is_more S T more ps k)) h

pub counted_plainly : (D K E L : ℕ → Type 0) {X : Type 0} (end : ℕ) (r : Result CodeFound X) → IfOk r (λ x. AreCounted D K 0 end (dropped_in x)) → ((k : ℕ) → D k → E k) → ((k : ℕ) → K k → L k)
    → IfOk r (λ x. AreCounted E L 0 end (dropped_in x))
counted_plainly D K E L end (Ok x) h d k = counts-map d k 0 end (dropped_in x) h
counted_plainly D K E L end (Err e) h d k = tt

-- ---- Outcomes

abbrev said_there : Span → Said → LoopVerdict
said_there at said = record { at = at; said = said }

-- what comes of a loop that stands
record Stays (schema : Schema) (t : Tried) : Type 0 where
  program : program_after t ≡ t.program
  entry : entry_for t ≡ []
  standing : (n : ℕ) → standing_after n t.answer ≡ suc n
  asked : MayBeAskedBy schema t t.answer
  patches : (source : List ℕ) (ps : List PlainPatch) → patches_by source t t.answer ps ≡ ps

module _ (D K : Fragment → List ℕ → Type 0) (schema : Schema) (size budget : ℕ) (p : PlainProgram) (path : List ℕ) (w : Setting) where
  abbrev answered : Answer → Tried
  answered a = record { program = p; path = path; setting = w; answer = a }

  by_answer : (a : Answer) (o : Outcome) → answer_unless size budget w (broken w) ≡ a → IsOutcomeOf D K schema size (answered a) o → IsOutcomeOf D K schema size (try_with size budget p path w) o
  by_answer a o e h = subst (λ (b : Answer). IsOutcomeOf D K schema size (answered b) o) (sym e) h

  stays : (a : Answer) (o : Outcome) → Stays schema (answered a) → verdict_of (answered a) ≡ o.verdict → IsPrunedBy D K size a o.dropped → o.way ≡ None → IsOutcomeOf D K schema size (answered a) o
  stays a o h said counted none =
      record {
        verdict = said;
        pruned = counted;
        asked = h.asked;
        program = h.program ∙ ap (λ (x : Option GivesWay). program_with x path p) (sym none);
        entry = h.entry ∙ ap (λ (x : Option GivesWay). entries_with o.verdict.at x) (sym none);
        standing = λ n. h.standing n ∙ ap (standing_with n) (sym none);
        begins = subst (BeginsBefore path) (sym none) tt;
        patches = λ source ps. h.patches source ps ∙ ap (λ (x : Option GivesWay). patches_with source x path p ps) (sym none);
      }

  module _ (at : Span) (at_is : at ≡ place_of w.fragment.loop) (o : Outcome) where
    said_at : (a : Answer) → o.verdict ≡ said_there at (said_by a) → verdict_of (answered a) ≡ o.verdict
    said_at a said = sym (said ∙ ap (λ (x : Span). said_there x (said_by a)) at_is)

    -- a loop that breaks a rule
    pub outside_outcome : (b : Broken) → broken w ≡ Some b → o.verdict ≡ said_there at (says.Outside b.rule b.at) → o.dropped ≡ 0 → o.way ≡ None → IsOutcomeOf D K schema size (try_with size budget p path w) o
    outside_outcome b breaks said none stands =
        by_answer (Outside b) o (ap (answer_unless size budget w) breaks)
        (stays (Outside b) o (record { program = refl; entry = refl; standing = λ n. refl; asked = tt; patches = λ source ps. refl }) (said_at (Outside b) said) none stands)

    module _ (unbroken : broken w ≡ None) (v : Verdict) (is : v ≡ verdict (lowering w).fragment size budget) where
      searched : answer_unless size budget w (broken w) ≡ Searched (lowering w).fragment v
      searched = ap (answer_unless size budget w) unbroken ∙ ap (Searched (lowering w).fragment) (sym is)

      module _ (counted : IsPrunedBy D K size (Searched (lowering w).fragment v) o.dropped) where
        -- one of whose candidates none is accepted
        pub none_outcome : (n : ℕ) → v ≡ NoneOf n → o.verdict ≡ said_there at (says.NoneOf n) → o.way ≡ None → IsOutcomeOf D K schema size (try_with size budget p path w) o
        none_outcome n e said stands =
            by_answer (Searched (lowering w).fragment (NoneOf n)) o (searched ∙ ap (Searched (lowering w).fragment) e)
            (stays (Searched (lowering w).fragment (NoneOf n)) o (record { program = refl; entry = refl; standing = λ k. refl; asked = tt; patches = λ source ps. refl }) (said_at (Searched (lowering w).fragment (NoneOf n)) said)
            (subst (λ (x : Verdict). IsPrunedBy D K size (Searched (lowering w).fragment x) o.dropped) e counted) stands)

        -- or none of those that may be judged
        pub budget_outcome : (b n : ℕ) → v ≡ Budget b n → o.verdict ≡ said_there at (says.Budget b n) → o.way ≡ None → IsOutcomeOf D K schema size (try_with size budget p path w) o
        budget_outcome b n e said stands =
            by_answer (Searched (lowering w).fragment (Budget b n)) o (searched ∙ ap (Searched (lowering w).fragment) e)
            (stays (Searched (lowering w).fragment (Budget b n)) o (record { program = refl; entry = refl; standing = λ k. refl; asked = tt; patches = λ source ps. refl }) (said_at (Searched (lowering w).fragment (Budget b n)) said)
            (subst (λ (x : Verdict). IsPrunedBy D K size (Searched (lowering w).fragment x) o.dropped) e counted) stands)

        -- or one with an accepted candidate
        pub found_outcome : (h : Hit) (way : GivesWay) → v ≡ Found h → o.verdict ≡ said_there at (says.Found h.k) → o.way ≡ Some way → way.k ≡ h.k → proofs_in way.proofs ≡ h.proofs
            → MayBeAsked schema (read_by schema) p path w h.candidate → way.first ≤ last_of path
            → way.first ≡ first_of_run (record { program = p; path = path; setting = w; candidate = h.candidate })
            → statements way.others.items ≡ instead (record { program = p; path = path; setting = w; candidate = h.candidate })
            → IsOutcomeOf D K schema size (try_with size budget p path w) o
        found_outcome h way e said gives number proofs may begins first others =
            let stood : place_of w.fragment.loop ≡ o.verdict.at = ap (λ (x : LoopVerdict). x.at) (said_at (Searched (lowering w).fragment (Found h)) said) in
            by_answer (Searched (lowering w).fragment (Found h)) o (searched ∙ ap (Searched (lowering w).fragment) e)
            (record {
              verdict = said_at (Searched (lowering w).fragment (Found h)) said;
              pruned = subst (λ (x : Verdict). IsPrunedBy D K size (Searched (lowering w).fragment x) o.dropped) e counted;
              asked = may;
              program = ap₂ (λ (n : ℕ) (ss : Statements). replaced_at path n ss p) (sym first) (sym others) ∙ ap (λ (x : Option GivesWay). program_with x path p) (sym gives);
              entry =
                  ap (λ (x : Span). entry_by x (Searched (lowering w).fragment (Found h))) stood
                  ∙ ap₂ (λ (n : ℕ) (ds : List Proof). entry_by o.verdict.at (Searched (lowering w).fragment (Found (record { k = n; candidate = h.candidate; proofs = ds })))) (sym number) (sym proofs)
                  ∙ ap (entries_with o.verdict.at) (sym gives);
              standing = λ n. ap (standing_with n) (sym gives);
              begins = subst (BeginsBefore path) (sym gives) begins;
              patches = λ source ps.
                  ap₂ (λ (n : ℕ) (ss : Statements). put_patch source path n ss p ps) (sym first) (sym others)
                  ∙ ap (λ (x : Option GivesWay). patches_with source x path p ps) (sym gives);
            })

-- ---- Of a loop that is lowered

-- numbers of candidates that are found are small
pub found_small : (f : Fragment) (size budget : ℕ) (h : Hit) → Found h ≡ verdict f size budget → budget ≤ 1000000 → h.k < 2 ^ 32
found_small f size budget h e few =
    let first : IsVerdict f size budget (Found h) = subst (IsVerdict f size budget) (sym e) (verdict-first f size budget) in
    let below : h.k < budget = first.0 in
    omega (arith, below, few)

module _ (D K : Fragment → List ℕ → Type 0) (schema : Schema) (read : List ℕ → Option PlainQuery) (p : PlainProgram) (path : List ℕ) (l : Lowered) (k : IsLowered schema read p path (lowering_in_code l) l.first l.kept) (size budget : ℕ) (v : Verdict) (exact : v ≡ verdict (fragment_of l.frag) size budget) where
  fragment_is : (lowering k.setting).fragment ≡ fragment_of l.frag
  fragment_is = ap (λ (z : Lowering). z.fragment) k.lowered

  pub searched_there : v ≡ verdict (lowering k.setting).fragment size budget
  searched_there = exact ∙ ap (λ (f : Fragment). verdict f size budget) (sym fragment_is)

  pub counted_there : (n : ℕ) → AreCounted (OfCandidate (fragment_of l.frag) size (D (fragment_of l.frag))) (OfCandidate (fragment_of l.frag) size (K (fragment_of l.frag))) 0 (before (verdict (fragment_of l.frag) size budget)) n
      → IsPrunedBy D K size (Searched (lowering k.setting).fragment v) n
  counted_there n h =
      subst (λ (f : Fragment). IsPrunedBy D K size (Searched f v) n) (sym fragment_is)
      (subst (λ (x : Verdict). IsPrunedBy D K size (Searched (fragment_of l.frag) x) n) (sym exact) h)

  -- it may be asked for with a candidate whose postconditions hold
  pub may_there : (candidate : List ℕ) → HasAsks schema read p path k.setting candidate → EndsAnywhere (fragment_of l.frag) candidate → MayBeAsked schema read p path k.setting candidate
  may_there candidate has ends = may_with schema read p path k.setting candidate has (subst (λ (f : Fragment). EndsAnywhere f candidate) (sym fragment_is) ends)

-- ---- Of a loop outside the kernel form

-- the rule that is broken first is that of the loop's setting
pub outside_there : (o : Option Setting) (b : Broken) → found_in broken o ≡ Some b → (w : Setting) × (o ≡ Some w) × (broken w ≡ Some b)
outside_there None b e = absurd cc
outside_there (Some w) b e = (w, refl, e)

-- ---- As code has it

module _ (D K : Fragment → List ℕ → Type 0) (schema : Schema) (size budget : ℕ) (p : PlainProgram) (path : List ℕ) (o : Outcome) where
  -- there is a loop of which this is the outcome
  abbrev Comes : Type 0
  Comes = (w : Setting) × (setting_at schema (read_by schema) path p ≡ Some w) × IsOutcomeOf D K schema size (try_with size budget p path w) o

  pub code_outside : (b : Broken) (at : Span) → ((w : Setting) → setting_at schema (read_by schema) path p ≡ Some w → at ≡ place_of w.fragment.loop) → outside_at schema (read_by schema) path p ≡ Some b
      → o.verdict ≡ said_there at (says.Outside b.rule b.at) → o.dropped ≡ 0 → o.way ≡ None → Comes
  code_outside b at place e said none stands =
      let k = outside_there (setting_at schema (read_by schema) path p) b e in
      (k.0, k.1, outside_outcome D K schema size budget p path k.0 at (place k.0 k.1) o b k.2 said none stands)

  module _ (l : Lowered) (k : IsLowered schema (read_by schema) p path (lowering_in_code l) l.first l.kept) (at : Span) (place : at ≡ place_of k.setting.fragment.loop) (r : CodeFound) (exact : verdict_in r ≡ verdict (fragment_of l.frag) size budget)
      (counts : AreCounted (OfCandidate (fragment_of l.frag) size (D (fragment_of l.frag))) (OfCandidate (fragment_of l.frag) size (K (fragment_of l.frag))) 0 (before (verdict (fragment_of l.frag) size budget)) (dropped_in r)) where
    searches : verdict_in r ≡ verdict (lowering k.setting).fragment size budget
    searches = searched_there D K schema (read_by schema) p path l k size budget (verdict_in r) exact

    counted : (m : ℕ) → dropped_in r ≡ m → o.dropped ≡ m → IsPrunedBy D K size (Searched (lowering k.setting).fragment (verdict_in r)) o.dropped
    counted m is e =
        subst (IsPrunedBy D K size (Searched (lowering k.setting).fragment (verdict_in r))) (is ∙ sym e)
        (counted_there D K schema (read_by schema) p path l k size budget (verdict_in r) exact (dropped_in r) counts)

    pub code_none : (n m : ℕ) → r ≡ codes.NoneOf n m → o.verdict ≡ said_there at (says.NoneOf n) → o.dropped ≡ m → o.way ≡ None → Comes
    code_none n m is said count stands = (
      k.setting,
      k.there,
      none_outcome D K schema size budget p path k.setting at place o k.unbroken (verdict_in r) searches (counted m (ap dropped_in is) count) n (ap verdict_in is) said stands,
    )

    pub code_budget : (b n m : ℕ) → r ≡ codes.Budget b n m → o.verdict ≡ said_there at (says.Budget b n) → o.dropped ≡ m → o.way ≡ None → Comes
    code_budget b n m is said count stands = (
      k.setting,
      k.there,
      budget_outcome D K schema size budget p path k.setting at place o k.unbroken (verdict_in r) searches (counted m (ap dropped_in is) count) b n (ap verdict_in is) said stands,
    )

    pub code_found : (j : ℕ) (candidate : List ℕ) (ds : List Derivation) (m : ℕ) (way : GivesWay) → r ≡ codes.Found j candidate ds m → o.verdict ≡ said_there at (says.Found j) → o.dropped ≡ m → o.way ≡ Some way → way.k ≡ j → way.proofs ≡ ds
        → IsFoundOf (fragment_of l.frag) r → HasAsks schema (read_by schema) p path k.setting candidate → way.first ≤ last_of path
        → way.first ≡ l.first → statements way.others.items ≡ instead (record { program = p; path = path; setting = k.setting; candidate = candidate })
        → Comes
    code_found j candidate ds m way is said count gives number proofs found has begins first others =
        let accepted : IsAcceptedFor (fragment_of l.frag) candidate (proofs_in ds) = subst (IsFoundOf (fragment_of l.frag)) is found in (
          k.setting,
          k.there,
          found_outcome D K schema size budget p path k.setting at place o k.unbroken (verdict_in r) searches (counted m (ap dropped_in is) count)
              (record { k = j; candidate = candidate; proofs = proofs_in ds }) way (ap verdict_in is) said gives number (ap proofs_in proofs)
              (may_there D K schema (read_by schema) p path l k size budget (verdict_in r) exact candidate has accepted.ends) begins (first ∙ sym (ap number_of k.begins)) others,
        )

-- its number is small
pub found_few : (l : Lowered) (size budget : ℕ) (r : CodeFound) → verdict_in r ≡ verdict (fragment_of l.frag) size budget → (j : ℕ) (candidate : List ℕ) (ds : List Derivation) (m : ℕ) → r ≡ codes.Found j candidate ds m → budget ≤ 1000000 → j < 2 ^ 32
found_few l size budget r exact j candidate ds m is few = found_small (fragment_of l.frag) size budget (record { k = j; candidate = candidate; proofs = proofs_in ds }) (sym (ap verdict_in is) ∙ exact) few

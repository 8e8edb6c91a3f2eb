-- The bundle of what is tried is accepted, entry by entry, and makes the same program.
use Rattle.std.proofs.Common.{◌≡◌, ℕ, zero, suc, ◌+◌, ◌≤◌, ◌<◌, true, List, [], ◌∷◌, ◌++◌, length, slice_get, Option, Some, None, refl, sym, ap, ◌∙◌, subst, arith}
use Rattle.std.specs.Prelude.{if◌then◌else◌}
use Rattle.std.proofs.lemmas.Bool.{and_from}
use Rattle.std.proofs.lemmas.Option.{slice_get_within}
use Rattle.qbs_base.specs.Values.{Schema}
use Rattle.tor_axioms.specs.Accepts.{Claim, Proof, accepts}
use Rattle.deriv_accept.specs.Accepted.{are_accepted}
use Rattle.deriv_check.specs.Bundles.{Entry}
use Rattle.kernel_lang.specs.Plain.{Fragment}
use Rattle.templates.specs.Numbered.{candidates_of}
use Rattle.templates.proofs.Shorter.{shorter-each}
use Rattle.vc_gen.specs.Conditions.{conditions}
use Rattle.vc_gen.specs.Soundness.{AllAccepted}
use Rattle.query_search.specs.Firsts.{IsVerdict}
use Rattle.query_search.specs.Verdicts.{Hit, Found, NoneOf, Budget, verdict}
use Rattle.query_search.proofs.Firsts.{verdict-first}
use Rattle.query_search.proofs.Refuted.{IfAccepted, all_derived-accepted}
use Rattle.java_ast.specs.Tree.{PlainProgram}
use Rattle.java_types.specs.Texts.{read_by}
use Rattle.loop_text.specs.Statements.Loops.{loops_of}
use Rattle.java_loops.specs.Kernel.Kernel.{Broken, broken, lowering, setting_at}
use Rattle.java_loops.specs.Kernel.Setting.{Setting}
use Rattle.rewrite_core.specs.Asked.{Place, replaced}
use Rattle.rewrite_core.specs.Checking.{All, accepted_for, candidate_for, shown_with, shown_unless, shown_there, shown_at, shown, or_refused, checked_from, LoopsStandApart}
use Rattle.rewrite_core.specs.Rewriting.{loop_place, entry_by, bundle_of}
use Rattle.rewrite_core.specs.Trying.{Answer, Outside, Searched, answer_unless, Tried, tried_in, tried_at, program_by, program_after, standing_after, and_further, trying, all_tried, left_of, rewritten}
use Rattle.rewrite_core.proofs.LoopPlaces.{places_of, AreApart}
use Rattle.rewrite_core.proofs.LoopsApart.{places_apart, loop_found, replaced_apart}

-- ---- Candidates

accepted_all : (cs : List Claim) (ds : List Proof) → AllAccepted cs ds → are_accepted cs ds ≡ true
accepted_all [] [] h = refl
accepted_all [] (d ∷ ds) h = absurd h
accepted_all (c ∷ cs) [] h = absurd h
accepted_all (c ∷ cs) (d ∷ ds) h = and_from (accepts c d) (are_accepted cs ds) h.0 (accepted_all cs ds h.1)

-- the candidate of a hit is the one that its entry shows
hit_shown : (f : Fragment) (size budget : ℕ) (h : Hit) → size ≤ 8 → Found h ≡ verdict f size budget → candidate_for f h.k h.proofs ≡ Some h.candidate
hit_shown f size budget h few e =
    let is : IsVerdict f size budget (Found h) = subst (IsVerdict f size budget) (sym e) (verdict-first f size budget) in
    let within : h.k < length (candidates_of f size) = slice_get_within (candidates_of f size) h.k h.candidate is.1 in
    let there : slice_get (candidates_of f 8) h.k ≡ Some h.candidate = shorter-each f size h.k few within ∙ is.1 in
    let accepted : AllAccepted (conditions f h.candidate) h.proofs = subst (IfAccepted (conditions f h.candidate)) is.2 (all_derived-accepted (conditions f h.candidate)) in
    ap (accepted_for f h.proofs) there ∙ ap (λ b. if b then Some h.candidate else None) (accepted_all (conditions f h.candidate) h.proofs accepted)

-- ---- One try

-- a loop for which a candidate is found breaks no rule, and is searched for
pub record IsHit (size budget : ℕ) (w : Setting) (h : Hit) : Type 0 where
  pub unbroken : broken w ≡ None
  pub found : Found h ≡ verdict (lowering w).fragment size budget

pub hit_by : (size budget : ℕ) (w : Setting) (f : Fragment) (h : Hit) (b : Option Broken) → broken w ≡ b → Searched f (Found h) ≡ answer_unless size budget w b → IsHit size budget w h
hit_by size budget w f h (Some b) rules e = absurd cc
hit_by size budget w f h None rules e = record { unbroken = rules; found = (let same : Found h ≡ verdict (lowering w).fragment size budget = cc in same) }

module _ (schema : Schema) (size budget : ℕ) (few : size ≤ 8) where
  abbrev entry_at : Tried → Hit → Entry
  entry_at t h = record { line = (loop_place t).line; column = (loop_place t).column; k = h.k; proofs = h.proofs }

  abbrev place_at : Tried → Hit → Place
  place_at t h = record { program = t.program; path = t.path; setting = t.setting; candidate = h.candidate }

  hit_is_shown : (t : Tried) (h : Hit) (n : ℕ) → AreApart (places_of t.program) → slice_get (loops_of t.program) n ≡ Some t.path → setting_at schema (read_by schema) t.path t.program ≡ Some t.setting → IsHit size budget t.setting h
      → shown schema (entry_at t h) t.program ≡ Some (place_at t h)
  hit_is_shown t h n apart listed there is =
      ap (shown_at schema t.program h.k h.proofs) (loop_found schema t.program t.path n t.setting apart listed there)
      ∙ ap (shown_there t.program t.path h.k h.proofs) there
      ∙ ap (shown_unless t.program t.path t.setting h.k h.proofs) is.unbroken
      ∙ ap (shown_with t.program t.path t.setting) (hit_shown (lowering t.setting).fragment size budget h few is.found)

  -- so many entries, behind those that were accepted
  abbrev AllPass : ℕ → PlainProgram → List Entry → PlainProgram → Type 0
  AllPass m p es q = checked_from schema m es p ≡ All (m + length es) q

  none_pass : (m : ℕ) (p : PlainProgram) → AllPass m p [] p
  unfolding checked_from
  none_pass m p = let e : m ≡ m + 0 = omega arith in ap (λ (k : ℕ). All k p) e

  one_passes : (m : ℕ) (p q : PlainProgram) (e : Entry) (es : List Entry) (l : Place) → shown schema e p ≡ Some l → AllPass (suc m) (replaced l) es q → AllPass m p (e ∷ es) q
  unfolding checked_from
  one_passes m p q e es l is further =
      let sum : suc m + length es ≡ m + suc (length es) = omega arith in
      ap (λ (o : Option Place). or_refused m o (λ l. checked_from schema (suc m) es (replaced l))) is ∙ further ∙ ap (λ (k : ℕ). All k q) sum

  module _ (further : PlainProgram → ℕ → List Tried) (ih : (p : PlainProgram) (n m : ℕ) → AreApart (places_of p) → AllPass m p (bundle_of (further p n)) (left_of p (further p n))) where
    try_passes : (t : Tried) (a : Answer) (n m : ℕ) → AreApart (places_of t.program) → slice_get (loops_of t.program) n ≡ Some t.path → setting_at schema (read_by schema) t.path t.program ≡ Some t.setting
        → a ≡ answer_unless size budget t.setting (broken t.setting)
        → AllPass m t.program (entry_by (loop_place t) a ++ bundle_of (further (program_by t a) (standing_after n a))) (left_of (program_by t a) (further (program_by t a) (standing_after n a)))
    try_passes t (Searched f (Found h)) n m apart listed there is =
        let hit : IsHit size budget t.setting h = hit_by size budget t.setting f h (broken t.setting) refl is in
        one_passes m t.program (left_of (replaced (place_at t h)) (further (replaced (place_at t h)) n)) (entry_at t h) (bundle_of (further (replaced (place_at t h)) n)) (place_at t h)
        (hit_is_shown t h n apart listed there hit)
        (ih (replaced (place_at t h)) n (suc m) (replaced_apart schema (read_by schema) (place_at t h) there apart))
    try_passes t (Searched f (NoneOf k)) n m apart listed there is = ih t.program (suc n) m apart
    try_passes t (Searched f (Budget b k)) n m apart listed there is = ih t.program (suc n) m apart
    try_passes t (Outside b) n m apart listed there is = ih t.program (suc n) m apart

    module _ (p : PlainProgram) (n m : ℕ) (apart : AreApart (places_of p)) where
      abbrev tries : Option Tried → List Tried
      tries o = and_further o (λ t. further (program_after t) (standing_after n t.answer))

      by_setting : (path : List ℕ) (o : Option Setting) → slice_get (loops_of p) n ≡ Some path → setting_at schema (read_by schema) path p ≡ o
          → AllPass m p (bundle_of (tries (tried_in size budget p path o))) (left_of p (tries (tried_in size budget p path o)))
      by_setting path None e there = none_pass m p
      by_setting path (Some w) e there =
          let t : Tried = record { program = p; path = path; setting = w; answer = answer_unless size budget w (broken w) } in
          try_passes t t.answer n m apart e there refl

      by_path : (o : Option (List ℕ)) → slice_get (loops_of p) n ≡ o → AllPass m p (bundle_of (tries (tried_at schema size budget p o))) (left_of p (tries (tried_at schema size budget p o)))
      by_path None e = none_pass m p
      by_path (Some path) e = by_setting path (setting_at schema (read_by schema) path p) e refl

  -- ---- All tries

  all_pass : (left : ℕ) (p : PlainProgram) (n m : ℕ) → AreApart (places_of p) → AllPass m p (bundle_of (trying left schema size budget p n)) (left_of p (trying left schema size budget p n))
  unfolding trying
  all_pass zero p n m apart = none_pass m p
  all_pass (suc left) p n m apart = by_path (λ q k. trying left schema size budget q k) (λ q k i a. all_pass left q k i a) p n m apart (slice_get (loops_of p) n) refl

  tried_pass : (p : PlainProgram) → AreApart (places_of p) → AllPass 0 p (bundle_of (all_tried schema size budget p)) (rewritten schema size budget p)
  unfolding all_tried
  tried_pass p apart = all_pass (length (loops_of p)) p 0 0 apart

-- The bundle of all tries is accepted, with all its entries, and makes the rewritten program.
pub bundle_accepted : (schema : Schema) (size budget : ℕ) (p : PlainProgram) → size ≤ 8 → LoopsStandApart p
    → checked_from schema 0 (bundle_of (all_tried schema size budget p)) p ≡ All (length (bundle_of (all_tried schema size budget p))) (rewritten schema size budget p)
bundle_accepted schema size budget p few apart =
    let e : 0 + length (bundle_of (all_tried schema size budget p)) ≡ length (bundle_of (all_tried schema size budget p)) = omega arith in
    tried_pass schema size budget few p (places_apart p apart) ∙ ap (λ (k : ℕ). All k (rewritten schema size budget p)) e

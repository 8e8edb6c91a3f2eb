-- What comes of the spread of a loop, as code finds it, is the try of the loop.
use Rattle.std.proofs.Common.{◌≡◌, ℕ, suc, ◌≤◌, List, [], ◌∷◌, ◌++◌, length, take, slice_get, ◌-◌, Option, Some, None, Result, Ok, Err, IfOk, OnOk, refl, sym, ap, ap₂, ◌∙◌, subst, append-nil}
use Rattle.std.specs.Option.{option_map}
use Rattle.qbs_base.specs.Values.{Schema}
use Rattle.deriv_check.specs.Bundles.{Entry}
use Rattle.kernel_lang.specs.Plain.{Fragment}
use Rattle.query_search.specs.Verdicts.{Found, NoneOf, Budget}
use Rattle.java_ast.specs.Path.{last_of, replaced_at}
use Rattle.java_ast.specs.Reading.{program as plain_program}
use Rattle.java_ast.specs.Tree.{Statements, PlainProgram}
use Rattle.java_mean.specs.Numbers.{NumbersFit}
use Rattle.java_stretches.specs.Patches.{PlainPatch, plain_patches}
use Rattle.java_types.specs.Texts.{read_by}
use Rattle.java_loops.specs.Kernel.Kernel.{broken, setting_at}
use Rattle.java_loops.specs.Kernel.Setting.{Setting}
use Rattle.verdicts.specs.declared.verdict.LoopVerdict.{LoopVerdict}
use Rattle.rewrite_core.specs.declared.outcome.GivesWay.{GivesWay}
use Rattle.rewrite_core.specs.declared.outcome.Outcome.{Outcome}
use Rattle.rewrite_core.specs.declared.stage.Stage.{Stage}
use Rattle.rewrite_core.specs.declared.unnested.Unnested.{Unnested}
use Rattle.rewrite_core.specs.declared.unnesting.GaveWay.{GaveWay}
use Rattle.rewrite_core.specs.Outcome.{try_with, IsOutcomeOf, program_with, entries_with, standing_with, patches_with, BeginsBefore}
use Rattle.rewrite_core.specs.Rewriting.{verdict_of}
use Rattle.rewrite_core.specs.Stages.{next_of}
use Rattle.rewrite_core.specs.Trying.{Answer, Outside, Searched, answer_unless, Tried}
use Rattle.rewrite_core.specs.Unnesting.{PlainUnnested, if_found, unnested_by}
use Rattle.rewrite_core.specs.UnnestingSteps.{plain_unnested, unnested_with, IsUnnestedIn, program_behind, said_with, UnnestingProgress, unnesting_in, PassesLoop, PassesSpread}
use Rattle.rewrite_core.proofs.Turns.{one_follows}

abbrev first_number : List Entry → ℕ
first_number [] = 0
first_number (e ∷ es) = e.k

module _ (D K : Fragment → List ℕ → Type 0) (schema : Schema) (size : ℕ) (q : PlainProgram) (path : List ℕ) (w : Setting) (o : Outcome) where
  abbrev answered : Answer → Tried
  answered a = record { program = q; path = path; setting = w; answer = a }

  abbrev Comes : Answer → Type 0
  Comes a = IsOutcomeOf D K schema size (answered a) o

  stands_not : (a : Answer) (way : GivesWay) → o.way ≡ Some way → ((n : ℕ) → suc n ≡ standing_with n o.way) → ⊥
  stands_not a way e h = absurd (let no : suc 0 ≡ 0 = h 0 ∙ ap (standing_with 0) e in cc)

  gives_not : o.way ≡ None → ((n : ℕ) → n ≡ standing_with n o.way) → ⊥
  gives_not e h = absurd (let no : 0 ≡ suc 0 = h 0 ∙ ap (standing_with 0) e in cc)

  module _ (source : List ℕ) (p : PlainProgram) (old : Statements) (back : replaced_at path (last_of path) old q ≡ p) (before after : UnnestingProgress)
      (program : after.program ≡ program_behind old o.way path q) (standing : after.standing ≡ standing_with before.standing o.way) (verdicts : after.verdicts ≡ before.verdicts ++ said_with o.verdict o.way)
      (patches : after.patches ≡ patches_with source o.way path q before.patches) where
    -- where the loop stands
    stays_by : o.way ≡ None → PassesLoop schema source p None before after
    stays_by e =
        record {
          program = program ∙ ap (λ (x : Option GivesWay). program_behind old x path q) e ∙ back;
          standing = standing ∙ ap (standing_with before.standing) e;
          verdicts = verdicts ∙ ap (λ (x : Option GivesWay). before.verdicts ++ said_with o.verdict x) e;
          patches = patches ∙ ap (λ (x : Option GivesWay). patches_with source x path q before.patches) e;
          asked = tt;
        }

    passes_by : (a : Answer) (way : Option GivesWay) → o.way ≡ way → Comes a → PassesLoop schema source p (if_found (answered a) a) before after
    passes_by (Searched f (Found h)) (Some way) e k =
        record {
          program = program ∙ ap (λ (x : Option GivesWay). program_behind old x path q) e ∙ ap (λ (x : Option GivesWay). program_with x path q) (sym e) ∙ sym k.program;
          standing = standing ∙ sym (k.standing before.standing);
          verdicts = verdicts ∙ ap (λ (x : Option GivesWay). before.verdicts ++ said_with o.verdict x) e ∙ ap (λ (v : LoopVerdict). before.verdicts ++ v ∷ []) (sym k.verdict);
          patches = patches ∙ sym (k.patches source before.patches);
          asked = (k.asked, tt);
        }
    passes_by (Searched f (Found h)) None e k = absurd (gives_not e k.standing)
    passes_by (Searched f (NoneOf n)) None e k = stays_by e
    passes_by (Searched f (NoneOf n)) (Some way) e k = absurd (stands_not (Searched f (NoneOf n)) way e k.standing)
    passes_by (Searched f (Budget b n)) None e k = stays_by e
    passes_by (Searched f (Budget b n)) (Some way) e k = absurd (stands_not (Searched f (Budget b n)) way e k.standing)
    passes_by (Outside b) None e k = stays_by e
    passes_by (Outside b) (Some way) e k = absurd (stands_not (Outside b) way e k.standing)

  abbrev made : PlainProgram → ℕ → PlainUnnested
  made p k = record { program = p; k = k }

  unnested_is : (a : Answer) (way : Option GivesWay) → o.way ≡ way → Comes a → unnested_with o.way path q ≡ unnested_by (answered a) a
  unnested_is (Searched f (Found h)) (Some way) e k =
      let number : h.k ≡ way.k = ap first_number (k.entry ∙ ap (λ (x : Option GivesWay). entries_with o.verdict.at x) e) in
      ap (λ (x : Option GivesWay). unnested_with x path q) e
      ∙ ap (λ (n : ℕ). Some (made (program_with (Some way) path q) n)) (sym number)
      ∙ ap (λ (x : PlainProgram). Some (made x h.k)) (ap (λ (x : Option GivesWay). program_with x path q) (sym e) ∙ sym k.program)
  unnested_is (Searched f (Found h)) None e k = absurd (gives_not e k.standing)
  unnested_is (Searched f (NoneOf n)) None e k = ap (λ (x : Option GivesWay). unnested_with x path q) e
  unnested_is (Searched f (NoneOf n)) (Some way) e k = absurd (stands_not (Searched f (NoneOf n)) way e k.standing)
  unnested_is (Searched f (Budget b n)) None e k = ap (λ (x : Option GivesWay). unnested_with x path q) e
  unnested_is (Searched f (Budget b n)) (Some way) e k = absurd (stands_not (Searched f (Budget b n)) way e k.standing)
  unnested_is (Outside b) None e k = ap (λ (x : Option GivesWay). unnested_with x path q) e
  unnested_is (Outside b) (Some way) e k = absurd (stands_not (Outside b) way e k.standing)

-- ---- Of one loop

-- there is a loop of which this is the outcome
abbrev HasOutcome : (Fragment → List ℕ → Type 0) → (Fragment → List ℕ → Type 0) → Schema → ℕ → ℕ → PlainProgram → List ℕ → Outcome → Type 0
HasOutcome D K schema size budget q path o = (w : Setting) × (setting_at schema (read_by schema) path q ≡ Some w) × IsOutcomeOf D K schema size (try_with size budget q path w) o

module _ (D K : Fragment → List ℕ → Type 0) (schema : Schema) (size budget : ℕ) where
  -- it begins no later than the loop, and leaves literals of 64 bits
  pub begins_there : (q : PlainProgram) (path : List ℕ) (o : Outcome) → HasOutcome D K schema size budget q path o → BeginsBefore path o.way
  begins_there q path o h = h.2.begins

  pub fits_there : (q : PlainProgram) (path : List ℕ) (o : Outcome) → NumbersFit q → HasOutcome D K schema size budget q path o → NumbersFit (program_with o.way path q)
  fits_there q path o numbers h =
      let t : Tried = try_with size budget q path h.0 in
      subst NumbersFit h.2.program ((one_follows schema t t.answer h.2.asked).numbers numbers)

  pub unnested_there : (path : List ℕ) (q r : PlainProgram) (o : Outcome) {E : Type 0} (x : Result (Option Unnested) E) → q ≡ r → HasOutcome D K schema size budget q path o → IfOk x (λ u. option_map plain_unnested u ≡ unnested_with o.way path q) → IfOk x (IsUnnestedIn schema size budget path r)
  unnested_there path q r o (Ok u) same h e =
      let t : Tried = try_with size budget q path h.0 in
      subst (λ (z : PlainProgram). IsUnnestedIn schema size budget path z u) same
      (record {
        setting = h.0;
        there = h.1;
        exact = e ∙ unnested_is D K schema size q path h.0 o (answer_unless size budget h.0 (broken h.0)) o.way refl h.2;
        asked = h.2.asked;
      })
  unnested_there path q r o (Err e) same h k = tt

  pub spread_passes : (source path : List ℕ) (q : PlainProgram) (o : Outcome) (old : Statements) (before after : UnnestingProgress) → HasOutcome D K schema size budget q path o → after.program ≡ program_behind old o.way path q → after.standing ≡ standing_with before.standing o.way
      → after.verdicts ≡ before.verdicts ++ said_with o.verdict o.way → after.patches ≡ patches_with source o.way path q before.patches → PassesSpread schema size budget source path (replaced_at path (last_of path) old q) q before after
  spread_passes source path q o old before after h program standing verdicts patches =
      record {
        setting = h.0;
        there = h.1;
        passes = passes_by D K schema size q path h.0 o source (replaced_at path (last_of path) old q) old refl before after program standing verdicts patches (answer_unless size budget h.0 (broken h.0)) o.way refl h.2;
      }

-- ---- Of the next loop

same_path : (o : Option (List ℕ)) (p q : List ℕ) → o ≡ Some p → o ≡ Some q → p ≡ q
same_path o p q e h = cc

pub at_next : (P : List ℕ → Type 0) (o : Option (List ℕ)) (path q : List ℕ) → o ≡ Some path → o ≡ Some q → P path → P q
at_next P o path q e h k = subst P (same_path o path q e h) k

pub next_passes : (D K : Fragment → List ℕ → Type 0) (schema : Schema) (size budget : ℕ) (source : List ℕ) {A E : Type 0} (r : Result A E) (u : A → Stage) (d v : Stage) (before after : GaveWay) (path : List ℕ) (o : Outcome) (old : Statements)
    → d ≡ v → next_of v ≡ Some path
    → HasOutcome D K schema size budget (plain_program d.typed.program) path o
    → IfOk r (λ x. (q : List ℕ) → next_of v ≡ Some q → plain_program (u x).typed.program ≡ program_behind old o.way q (plain_program v.typed.program))
    → IfOk r (λ x. (u x).standing ≡ standing_with v.standing o.way)
    → OnOk r (after.verdicts ≡ before.verdicts ++ said_with o.verdict o.way)
    → OnOk r ((q : List ℕ) → next_of v ≡ Some q → plain_patches after.patches ≡ patches_with source o.way q (plain_program v.typed.program) (plain_patches before.patches))
    → IfOk r (λ x. (q : List ℕ) → next_of v ≡ Some q → PassesSpread schema size budget source q (replaced_at q (last_of q) old (plain_program v.typed.program)) (plain_program v.typed.program) (unnesting_in v before) (unnesting_in (u x) after))
next_passes D K schema size budget source (Ok x) u d v before after path o old same there outcome program standing verdicts patches =
    let k : HasOutcome D K schema size budget (plain_program v.typed.program) path o = subst (λ (s : Stage). HasOutcome D K schema size budget (plain_program s.typed.program) path o) same outcome in
    λ q next. at_next (λ (z : List ℕ). PassesSpread schema size budget source z (replaced_at z (last_of z) old (plain_program v.typed.program)) (plain_program v.typed.program) (unnesting_in v before) (unnesting_in (u x) after)) (next_of v) path q there next
    (spread_passes D K schema size budget source path (plain_program v.typed.program) o old (unnesting_in v before) (unnesting_in (u x) after) k (program path there) standing verdicts (patches path there))
next_passes D K schema size budget source (Err e) u d v before after path o old same there outcome program standing verdicts patches = tt

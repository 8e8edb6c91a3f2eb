-- The walks of a program one by one.
use Rattle.std.specs.Prelude.{ℕ, Bool, true, false, List, [], ◌∷◌, ◌++◌, Option, Some, None}
use Rattle.std.proofs.Common.{◌≡◌, ◌+◌, ◌<◌, ◌≤◌, length, get_or, drop, refl, sym, ap, ap₂, ◌∙◌, add-one, append_assoc, append-nil, nat_eq}
use Rattle.std.proofs.Math.Seq.{drop-cons}
use Rattle.std.proofs.lemmas.List.{drop_all}
use Rattle.std.specs.List.{list_any}
use Rattle.std.specs.Option.{option_map}
use Rattle.qbs_base.specs.declared.span.Span.{Span}
use Rattle.qbs_base.specs.Values.{Schema}
use Rattle.java_ast.specs.Path.{found_in, replaced_at, statement_at}
use Rattle.java_ast.specs.Tree.{Expression, PlainProgram}
use Rattle.text_patches.specs.declared.patch.TextPatch.{TextPatch}
use Rattle.narrowing.specs.declared.walk.Reason.TheVariants as reasons
use Rattle.narrowing.specs.declared.walk.Walk.{Walk}
use Rattle.narrowing.specs.Narrowing.{AllNarrowed, no_further, after_staying, is_covered, unless_covered, reason_for, narrowed_by, place_or_none, patch_of, asked_at, narrowing}
use Rattle.narrowing.specs.Reasons.{reason_at}
use Rattle.narrowing.specs.Replacing.{Replacement, replaced_for, said_at, OneNarrowed, one_from, one_narrowed, behind_others}
use Rattle.narrowing.proofs.Replaced.{put, its_patch, narrowed_is, patch_is}

abbrev all_of : PlainProgram → List Walk → List TextPatch → AllNarrowed
all_of p walks patches = record { program = p; walks = walks; patches = patches }

-- ---- One step

-- a step by what it finds, where the walks behind it are these
abbrev stepped : (PlainProgram → AllNarrowed) → Bool → Span → List ℕ → PlainProgram → Option Expression → Option PlainProgram → AllNarrowed
stepped rest covered at path p a w =
    elim (found_in (unless_covered covered) w) as (λ _. AllNarrowed) [
      | Some q ↦ narrowed_by at a (rest q)
      | None ↦ after_staying at (reason_for covered w path p) (rest p)
    ]

abbrev behind_one : (PlainProgram → AllNarrowed) → OneNarrowed → AllNarrowed
behind_one rest o = behind_others (o.walk ∷ []) o.patches (rest o.program)

step_is : (rest : PlainProgram → AllNarrowed) (covered : Bool) (at : Span) (path : List ℕ) (p : PlainProgram) (r : Option Replacement) (a : Option Expression) → option_map patch_of a ≡ option_map its_patch r → stepped rest covered at path p a (option_map (put path p) r) ≡ behind_one rest (one_from covered at path p r)
step_is rest true at path p None a e = refl
step_is rest false at path p None a e = refl
step_is rest true at path p (Some r) a e = refl
step_is rest false at path p (Some r) (Some q) e =
    let h : patch_of q ≡ r.patch = cc in
    let then : AllNarrowed = rest (put path p r) in
    ap (λ (t : TextPatch). all_of then.program (record { at = at; stays = None } ∷ then.walks) (t ∷ then.patches)) h
step_is rest false at path p (Some r) None e = absurd cc

pub narrowing_step : (schema : Schema) (covered : List ℕ) (path : List ℕ) (paths : List (List ℕ)) (p : PlainProgram) → narrowing schema covered (path ∷ paths) p ≡ behind_one (narrowing schema covered paths) (one_narrowed schema (is_covered covered (place_or_none (statement_at path p))) path p)
unfolding narrowing
narrowing_step schema covered path paths p =
    ap (stepped (narrowing schema covered paths) (is_covered covered (place_or_none (statement_at path p))) (place_or_none (statement_at path p)) path p (asked_at schema path p)) (narrowed_is schema path p)
    ∙ step_is (narrowing schema covered paths) (is_covered covered (place_or_none (statement_at path p))) (place_or_none (statement_at path p)) path p (replaced_for schema path p) (asked_at schema path p) (patch_is schema path p)

pub narrowing_none : (schema : Schema) (covered : List ℕ) (p : PlainProgram) → narrowing schema covered [] p ≡ no_further p
unfolding narrowing
narrowing_none schema covered p = refl

abbrev one : PlainProgram → Walk → List TextPatch → OneNarrowed
one p walk patches = record { program = p; walk = walk; patches = patches }

pub one_stays : (schema : Schema) (c : Bool) (path : List ℕ) (p : PlainProgram) (at : Span) → at ≡ place_or_none (statement_at path p) → None ≡ replaced_for schema path p → one p (said_at at (Some (reason_at path p))) [] ≡ one_narrowed schema c path p
one_stays schema true path p at is e =
    ap (λ (at : Span). one_from true at path p None) is ∙ ap (one_from true (place_or_none (statement_at path p)) path p) e
one_stays schema false path p at is e =
    ap (λ (at : Span). one_from false at path p None) is ∙ ap (one_from false (place_or_none (statement_at path p)) path p) e

pub one_covered : (schema : Schema) (c : Bool) (path : List ℕ) (p : PlainProgram) (at : Span) (r : Replacement) → c ≡ true → at ≡ place_or_none (statement_at path p) → Some r ≡ replaced_for schema path p → one p (said_at at (Some reasons.Covered)) [] ≡ one_narrowed schema c path p
one_covered schema c path p at r is_c is e =
    ap (λ (at : Span). one_from true at path p (Some r)) is
    ∙ ap (one_from true (place_or_none (statement_at path p)) path p) e
    ∙ ap (λ (c : Bool). one_narrowed schema c path p) (sym is_c)

pub one_replaced : (schema : Schema) (c : Bool) (path : List ℕ) (p : PlainProgram) (at : Span) (r : Replacement) → c ≡ false → at ≡ place_or_none (statement_at path p) → Some r ≡ replaced_for schema path p → one (replaced_at path r.first r.others p) (said_at at None) (r.patch ∷ []) ≡ one_narrowed schema c path p
one_replaced schema c path p at r is_c is e =
    ap (λ (at : Span). one_from false at path p (Some r)) is
    ∙ ap (one_from false (place_or_none (statement_at path p)) path p) e
    ∙ ap (λ (c : Bool). one_narrowed schema c path p) (sym is_c)

-- ---- All steps

nested : (walks more : List Walk) (patches others : List TextPatch) (n : AllNarrowed) → behind_others (walks ++ more) (patches ++ others) n ≡ behind_others walks patches (behind_others more others n)
nested walks more patches others n = ap₂ (all_of n.program) (append_assoc walks more n.walks) (append_assoc patches others n.patches)

-- what is narrowed and the walks that are left are all
abbrev pub leaves : Schema → List ℕ → List (List ℕ) → PlainProgram → List Walk → List TextPatch → AllNarrowed
leaves schema covered paths p walks patches = behind_others walks patches (narrowing schema covered paths p)

pub one_more : (schema : Schema) (covered : List ℕ) (paths : List (List ℕ)) (i : ℕ) (path d : List ℕ) (c : Bool) (p q : PlainProgram) (walks walks' : List Walk) (patches patches' : List TextPatch) (all : AllNarrowed)
    → i < length paths
    → path ≡ get_or paths i d
    → c ≡ is_covered covered (place_or_none (statement_at path p))
    → q ≡ (one_narrowed schema c path p).program
    → walks' ≡ walks ++ (one_narrowed schema c path p).walk ∷ []
    → patches' ≡ patches ++ (one_narrowed schema c path p).patches
    → leaves schema covered (drop i paths) p walks patches ≡ all
    → leaves schema covered (drop (i + 1) paths) q walks' patches' ≡ all
one_more schema covered paths i path d c p q walks walks' patches patches' all within is is_c is_q is_walks is_patches e =
    let one : OneNarrowed = one_narrowed schema c path p in
    let rest : List (List ℕ) = drop (i + 1) paths in
    let split : drop i paths ≡ path ∷ rest = drop-cons paths i d within ∙ ap₂ (λ (x : List ℕ) (m : ℕ). x ∷ drop m paths) (sym is) (sym (add-one i)) in
    ap (λ (q : PlainProgram). leaves schema covered rest q walks' patches') is_q
    ∙ ap₂ (leaves schema covered rest one.program) is_walks is_patches
    ∙ nested walks (one.walk ∷ []) patches one.patches (narrowing schema covered rest one.program)
    ∙ ap (λ (c : Bool). behind_others walks patches (behind_one (narrowing schema covered rest) (one_narrowed schema c path p))) is_c
    ∙ ap (behind_others walks patches) (sym (narrowing_step schema covered path rest p))
    ∙ ap (λ (l : List (List ℕ)). leaves schema covered l p walks patches) (sym split)
    ∙ e

pub begun : (schema : Schema) (covered : List ℕ) (paths : List (List ℕ)) (p : PlainProgram) (walks : List Walk) (patches : List TextPatch) → walks ≡ [] → patches ≡ [] → leaves schema covered (drop 0 paths) p walks patches ≡ narrowing schema covered paths p
begun schema covered paths p walks patches w t = ap₂ (leaves schema covered (drop 0 paths) p) w t

pub none_left : (schema : Schema) (covered : List ℕ) (paths : List (List ℕ)) (i : ℕ) (p : PlainProgram) (walks : List Walk) (patches : List TextPatch) (all : AllNarrowed)
    → length paths ≤ i
    → leaves schema covered (drop i paths) p walks patches ≡ all
    → all_of p walks patches ≡ all
none_left schema covered paths i p walks patches all end e =
    sym (ap₂ (all_of p) (append-nil walks) (append-nil patches))
    ∙ ap (behind_others walks patches) (sym (narrowing_none schema covered p))
    ∙ ap (λ (l : List (List ℕ)). leaves schema covered l p walks patches) (sym (drop_all i paths end))
    ∙ e

pub program_of : (p : PlainProgram) (walks : List Walk) (patches : List TextPatch) (all : AllNarrowed) → all_of p walks patches ≡ all → p ≡ all.program
program_of p walks patches all e = ap (λ (n : AllNarrowed). n.program) e

pub walks_of : (p : PlainProgram) (walks : List Walk) (patches : List TextPatch) (all : AllNarrowed) → all_of p walks patches ≡ all → walks ≡ all.walks
walks_of p walks patches all e = ap (λ (n : AllNarrowed). n.walks) e

pub patches_of : (p : PlainProgram) (walks : List Walk) (patches : List TextPatch) (all : AllNarrowed) → all_of p walks patches ≡ all → patches ≡ all.patches
patches_of p walks patches all e = ap (λ (n : AllNarrowed). n.patches) e

-- ---- Which bytes are covered

pub same_narrowed : (schema : Schema) (a b : List ℕ) → ((x : ℕ) → list_any (nat_eq x) a ≡ list_any (nat_eq x) b) → (paths : List (List ℕ)) (p : PlainProgram) → narrowing schema a paths p ≡ narrowing schema b paths p
same_narrowed schema a b same [] p = narrowing_none schema a p ∙ sym (narrowing_none schema b p)
same_narrowed schema a b same (path ∷ paths) p =
    let at : Span = place_or_none (statement_at path p) in
    narrowing_step schema a path paths p
    ∙ ap (λ (c : Bool). behind_one (narrowing schema a paths) (one_narrowed schema c path p)) (same at.start)
    ∙ ap (behind_others ((one_narrowed schema (is_covered b at) path p).walk ∷ []) (one_narrowed schema (is_covered b at) path p).patches)
    (same_narrowed schema a b same paths (one_narrowed schema (is_covered b at) path p).program)
    ∙ sym (narrowing_step schema b path paths p)

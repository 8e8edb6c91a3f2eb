-- The formulas of a lowered fragment are those of its conditions, where these break no rule.
use Rattle.std.proofs.Common.{◌≡◌, ℕ, Bool, true, false, List, [], ◌∷◌, Option, Some, None, refl, sym, ap, ◌∙◌, subst, slice_get}
use Rattle.std.specs.List.{filter, list_any, AllByRecursion}
use Rattle.std.proofs.lemmas.Bool.{or_parts, or_from}
use Rattle.java_ast.specs.Tree.{Expression}
use Rattle.java_mean.specs.Types.{Types}
use Rattle.java_mean.specs.Typing.{Frame, HasType, bool}
use Rattle.java_loops.specs.Walks.Forms.{IsBest}
use Rattle.java_loops.specs.Walks.Numbering.{with_loops, Flags}
use Rattle.tor_terms.specs.declared.term.Way.{Way}
use Rattle.loop_text.specs.Kernel.KernelConditions.{leaves, all_best_under, is_excepted, condition_of}
use Rattle.java_loops.specs.Kernel.KernelConditions.{broken_conditions}
use Rattle.loop_text.specs.Kernel.KernelForms.{Claim, claims, mentions, Found, found_at, mentioning, way_found}
use Rattle.java_loops.specs.Kernel.KernelForms.{broken_forms}
use Rattle.java_loops.specs.Lowering.Lowered.{found_form}
use Rattle.java_loops.specs.Lowering.Numbering.{loop_number, column_of, numbers_of, form_of_condition}
use Rattle.java_loops.specs.Kernel.Setting.{Setting}
use Rattle.loop_text.specs.Sites.Sites.{Site, RowColumn, is_under, is_update, sites_of}
use Rattle.java_loops.proofs.Formed.FormBest.{best_formed}
use Rattle.java_loops.proofs.Formed.FormConditions.{HasForm, condition_formed}
use Rattle.java_loops.proofs.Formed.FormPlain.{Own, AllKnown, none_excepted_round}
use Rattle.java_loops.proofs.Numbers.NumberKept.{condition_fits}
use Rattle.java_loops.proofs.Numbers.Numberings.{numbering, Sighted, FlagsSeen}
use Rattle.java_loops.proofs.Standing.StandingKnown.{Known, site_known}

-- ---- Leaves

-- no leaf of the condition of this `if` is the conjunct of a best value
abbrev pub ArePlain : List Site → ℕ → Expression → Type 0
ArePlain sites n e = AllByRecursion (λ (l : Expression). is_excepted sites n l ≡ false) (leaves e)

plain_any : (test : Expression → Bool) (es : List Expression) → AllByRecursion (λ (l : Expression). test l ≡ false) es → list_any test es ≡ false
plain_any test [] h = refl
plain_any test (e ∷ es) h = or_from (test e) (list_any test es) h.0 (plain_any test es h.1)

any_plain : (test : Expression → Bool) (es : List Expression) → list_any test es ≡ false → AllByRecursion (λ (l : Expression). test l ≡ false) es
any_plain test [] h = tt
any_plain test (e ∷ es) h = let two = or_parts (test e) (list_any test es) h in (two.0, any_plain test es two.1)

-- what is known of the sites of a loop
pub sites_known : (w : Setting) → w.sites ≡ sites_of w.fragment.loop → AllKnown w
sites_known w are = record { by = λ k s get. subst (λ z. Known z k s) (sym are) (site_known w.fragment.loop k s (subst (λ z. slice_get z k ≡ Some s) are get)) }

-- Round an update the condition of an `if` is plain, other than that with the conjunct of its best value.
pub plain_round : (w : Setting) → broken_forms w ≡ None → AllKnown w → (n : ℕ) (here : Site) (e : Expression) → slice_get w.sites n ≡ Some here → condition_of here.statement ≡ Some e → (i : ℕ) (s : Site) → slice_get w.sites i ≡ Some s → is_update s.statement ≡ true → is_under n s ≡ true → ((l : Expression) → Own w n i s l → ⊥) → ArePlain w.sites n e
plain_round w rule known n here e get is i s there updates under differs = any_plain (is_excepted w.sites n) (leaves e) (none_excepted_round w rule known n here e get is i s there updates under differs)

-- ---- Formulas

-- A plain condition that holds or fails has its formula.
pub plain_form : (w : Setting) (c : Frame) → c.schema ≡ w.schema → broken_conditions w ≡ None → (n : ℕ) (s : Site) (e : Expression) (holds : Bool) (g : Types) (loops : List ℕ → Option ℕ) (flags : Flags) → slice_get w.sites n ≡ Some s → condition_of s.statement ≡ Some e → HasType c g e bool → Sighted w n g loops → FlagsSeen w n g flags → ArePlain w.sites n e → HasForm w n (with_loops loops (numbering w)) flags holds e
plain_form w c same rule n s e holds g loops flags there is t sight f plain =
    condition_formed w c same n g loops sight flags f holds e t (plain_any (is_excepted w.sites n) (leaves e) plain) (condition_fits w rule n s e there is)

record OneClaim (n : ℕ) (cs : List Claim) (f : Found) : Type 0 where
  only : Claim
  is : cs ≡ only ∷ []
  found : record { number = n; claim = only } ≡ f

one_claim : (n : ℕ) (cs : List Claim) (f : Found) → found_at n cs ≡ f ∷ [] → OneClaim n cs f
one_claim n [] f h = absurd cc
one_claim n (c ∷ []) f h = record { only = c; is = refl; found = (cc) }
one_claim n (c ∷ d ∷ cs) f h = absurd cc

-- A condition of which one conjunct compares the variable of the only best value under its `if` with the column is that
-- comparison and the formula of the others.
pub best_form : (w : Setting) (c : Frame) → c.schema ≡ w.schema → broken_conditions w ≡ None → (n level : ℕ) (s : Site) (e : Expression) (holds : Bool) (g : Types) (loops : List ℕ → Option ℕ) (flags : Flags) (m : List ℕ) (d : RowColumn) (f : Found) (way : Way) → slice_get w.sites n ≡ Some s → condition_of s.statement ≡ Some e → HasType c g e bool → Sighted w n g loops → FlagsSeen w n g flags → all_best_under w.sites n 0 w.sites ≡ m ∷ [] → mentioning m (record { number = n; level = level; condition = e; holds = holds }) ≡ f ∷ [] → way_found w.sites m d f ≡ Some way → IsBest (numbers_of w).atoms (with_loops loops (numbering w)) flags m way (loop_number w.sites d.loop) (column_of w d) holds e (found_form (form_of_condition w (numbers_of w) n holds e))
best_form w c same rule n level s e holds g loops flags m d f way there is t sight seen best one ways =
    let o : OneClaim n (filter (mentions m) (claims holds e)) f = one_claim n (filter (mentions m) (claims holds e)) f one in
    best_formed w c same n g loops sight flags seen m d way best holds e o.only t o.is (ap (way_found w.sites m d) o.found ∙ ways) (condition_fits w rule n s e there is)

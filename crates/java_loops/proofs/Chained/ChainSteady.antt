-- The change of a variable that is updated alike in each turn stays the same on the way up from its update.
use Rattle.std.proofs.Common.{◌≡◌, ℕ, Bool, List, [], ◌∷◌, ◌++◌, Option, Some, refl, sym, ap, ◌∙◌, subst, slice_get}
use Rattle.java_ast.specs.Tree.{Expression, Statement, Statements}
use Rattle.java_mean.specs.Types.{Types}
use Rattle.java_mean.specs.Typing.{HasType, bool, TypedStatement}
use Rattle.kernel_lang.specs.declared.parts.Update.{Update}
use Rattle.java_loops.specs.Walks.Chains as chains
use Rattle.java_loops.specs.Walks.Chains.{Change, By, IsBranch, IsChain, AreChain}
use Rattle.java_loops.specs.Walks.Forms as forms
use Rattle.java_loops.specs.Walks.Numbering.{Flags}
use Rattle.loop_text.specs.Kernel.KernelConditions.{condition_of}
use Rattle.loop_text.specs.Kernel.KernelForms.{form_of}
use Rattle.loop_text.specs.Kernel.KernelForms as kernel_forms
use Rattle.java_loops.specs.Lowering.Lowered.{found_form, update_with, is_opposite}
use Rattle.loop_text.specs.Sites.Sites.{Round, Site, in_branch, target_of}
use Rattle.java_loops.proofs.Chained.ChainAims.{Aim, Aimed, numbering_at, Started, WayRules}
use Rattle.java_loops.proofs.Chained.ChainPremises.{FlagsRead, HasElements, HasForm, HasForms, IsPlain}
use Rattle.java_loops.proofs.Chained.ChainSight.{Sight, in_sight}
use Rattle.java_loops.proofs.Chained.ChainSteps.{Step, Into, round_down, fronts, layers_down}
use Rattle.java_loops.proofs.Chained.ChainUpdates.{IsSteady, steady_update}
use Rattle.java_loops.proofs.Standing.Standing.{site_of}
use Rattle.java_loops.proofs.Standing.StandingRules.{get_same}

-- the conditions on the way to the update are plain, but for those of these `if`s
pub record PlainBut (a : Aim) (but : ℕ → Type 0) : Type 0 where
  pub by : (r : Round) (previous : Option Statement) (n : ℕ) (s : Statement) (e : Expression) (holds : Bool) (ss : List Step) → slice_get a.setting.sites n ≡ Some (site_of r previous s) → condition_of s ≡ Some e → a.round ≡ round_down (in_branch r n e holds) ss → (but n → ⊥) → IsPlain a.setting.sites n e

-- The atoms of the fragment are those of the numbers, the conditions have their formulas, and columns are what they are.
pub record AimForms (a : Aim) : Type 0 where
  pub atoms : a.fragment.atoms ≡ a.numbers.atoms
  pub forms : HasForms a.setting a.frame a.numbering a.numbers
  pub elements : HasElements a.setting a.frame a.numbering

-- an `if` without the conjunct of a best value adds its formula
pub plain_branch : (a : Aim) → AimForms a → (r : Round) (previous : Option Statement) (n : ℕ) (g : Types) (loops : List ℕ → Option ℕ) (flags : Flags) (s : Statement) (e : Expression) (holds : Bool) (p : Statements) (ss : List Step) (change : Change) → slice_get a.setting.sites n ≡ Some (site_of r previous s) → condition_of s ≡ Some e → HasType a.frame g e bool → Sight a.setting r n g loops → FlagsRead a.setting n g flags → IsPlain a.setting.sites n e → IsBranch s a.name holds e p → AreChain a.fragment a.quiet (numbering_at a loops) flags [] p a.name (fronts a.setting a.numbers ss) (layers_down a.setting a.numbers ss) change → IsChain a.fragment a.quiet (numbering_at a loops) flags s a.name (fronts a.setting a.numbers (Into n e holds ∷ ss)) (layers_down a.setting a.numbers ss) change
plain_branch a known r previous n g loops flags s e holds p ss change get is t sight reads plain branch below =
    let f : HasForm a.setting a.numbers (numbering_at a loops) flags n holds e = known.forms.plain n (site_of r previous s) e holds g loops flags get is t (in_sight a.setting r n g loops sight) reads plain in
    subst (λ o. IsChain a.fragment a.quiet (numbering_at a loops) flags s a.name (found_form o ++ fronts a.setting a.numbers ss) (layers_down a.setting a.numbers ss) change) (sym f.is)
    (chains.under a.quiet (numbering_at a loops) flags s a.name holds e p (f.form ∷ []) (fronts a.setting a.numbers ss) (layers_down a.setting a.numbers ss) change branch
    (forms.one holds e f.form (subst (λ atoms. forms.IsForm atoms (numbering_at a loops) flags holds e f.form) (sym known.atoms) f.means))
    below)

abbrev pub Stays : Update → Bool → List Step → Change → Type 0
Stays u opposite ss change = change ≡ By u opposite

abbrev form_at : Aim → Statement → kernel_forms.Form
form_at a s = form_of a.setting.sites a.number s

abbrev pub update_aimed : (a : Aim) → Aimed a → Update
update_aimed a d = update_with a.setting a.name a.round (form_of a.setting.sites a.number d.update.site.statement)

abbrev pub opposite_aimed : (a : Aim) → Aimed a → Bool
opposite_aimed a d = is_opposite (form_of a.setting.sites a.number d.update.site.statement)

steady_start : (a : Aim) → (d : Aimed a) → AimForms a → IsSteady a.setting a.name (form_of a.setting.sites a.number d.update.site.statement) → (r : Round) (previous : Option Statement) (l : Option Types) (g h : Types) (loops : List ℕ → Option ℕ) (s : Statement) → slice_get a.setting.sites a.number ≡ Some (site_of r previous s) → Sight a.setting r a.number g loops → TypedStatement a.frame l g s h → Started a (Stays (update_aimed a d) (opposite_aimed a d)) s loops
steady_start a d known steady r previous l g h loops s get sight t =
    let same : d.update.site ≡ site_of r previous s = get_same a.setting.sites a.number d.update.site (site_of r previous s) d.update.there get in
    let same_statement : d.update.site.statement ≡ s = ap (λ (x : Site). x.statement) same in
    let steady_here : IsSteady a.setting a.name (form_at a s) = subst (λ z. IsSteady a.setting a.name (form_at a z)) same_statement steady in
    let target : target_of s ≡ Some a.name = ap target_of (sym same_statement) ∙ d.update.target in
    record {
      change = By (update_with a.setting a.name a.round (form_at a s)) (is_opposite (form_at a s));
      kept = ap (λ z. By (update_with a.setting a.name a.round (form_at a z)) (is_opposite (form_at a z))) (sym same_statement);
      update = steady_update a.setting a.frame a.numbering known.elements a.number (site_of r previous s) get g loops (in_sight a.setting r a.number g loops sight) a.round a.name l h s t target steady_here;
    }

-- The change of a variable that is updated alike in each turn.
pub steady_ways : (a : Aim) → (d : Aimed a) → AimForms a → PlainBut a (λ n. ⊥) → IsSteady a.setting a.name (form_of a.setting.sites a.number d.update.site.statement) → WayRules a (Stays (update_aimed a d) (opposite_aimed a d))
steady_ways a d known plain steady =
    record {
      start = λ r previous l g h loops s get sight t. steady_start a d known steady r previous l g h loops s get sight t;
      branch = λ r previous n g loops flags s e holds p ss change get is t sight reads leveled before way up fresh kept branch below.
          record {
            change = change;
            kept = kept;
            chain = plain_branch a known r previous n g loops flags s e holds p ss change get is t sight reads (plain.by r previous n s e holds ss get is way (λ z. z)) branch below;
          };
      loop = λ r n ss change leveled way kept. record { update = update_aimed a d; opposite = opposite_aimed a d; is = kept; kept = refl };
    }

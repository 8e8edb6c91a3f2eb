-- The formulas and operands of a lowered fragment, as its chains ask for them.
use Rattle.std.proofs.Common.{◌≡◌, ℕ, Bool, true, List, [], ◌∷◌, ◌++◌, Option, Some, sym, ap, ◌∙◌, subst, nat_eq, slice_get, ◌⊎◌, inl, inr, ⊎_elim}
use Rattle.std.specs.List.{filter, list_any, flat_map}
use Rattle.std.proofs.lemmas.Bool.{or_left, or_right, eq-eqb}
use Rattle.java_ast.specs.Tree.{Expression}
use Rattle.java_mean.specs.Types.{Types}
use Rattle.java_mean.specs.Typing.{Frame, HasType, bool}
use Rattle.java_loops.specs.Walks.Numbering.{Flags, with_loops}
use Rattle.loop_text.specs.Kernel.KernelConditions.{condition_of, all_best_under}
use Rattle.loop_text.specs.Kernel.KernelForms.{Claim, claims, Found, found_at, takes, form_of, mentioning, mentions, best_claims}
use Rattle.java_loops.specs.Lowering.Numbering.{numbers_of}
use Rattle.java_loops.specs.Kernel.Setting.{Setting}
use Rattle.loop_text.specs.Sites.Sites.{Test, Site, RowColumn, inner_tests, target_of}
use Rattle.java_loops.proofs.Chained.ChainPremises as premises
use Rattle.java_loops.proofs.Chained.ChainPremises.{InSight, FlagsRead, IsPlain, HasForms, HasElements}
use Rattle.java_loops.proofs.Formed.FormConditions.{HasForm}
use Rattle.java_loops.proofs.Formed.FormExcepted.{TakesBest, takes_best_at, OnlyFound, found_of, best_under_is}
use Rattle.java_loops.proofs.Formed.FormOperands.{column_operand, row_element}
use Rattle.java_loops.proofs.Formed.FormRules.{plain_form, best_form}
use Rattle.java_loops.proofs.Nested.NestRules.{Unbroken}
use Rattle.java_loops.proofs.Numbers.Numberings.{numbering, FlagsSeen}

-- ---- The conjunct of a best value

first_found : (n : ℕ) (cs : List Claim) (rest : List Found) (f : Found) → (found_at n cs ++ rest) ≡ f ∷ [] → (f.number ≡ n) ⊎ (rest ≡ f ∷ [])
first_found n [] rest f h = inr h
first_found n (c ∷ cs) rest f h =
    let first : Found = record { number = n; claim = c } in
    let same : first ≡ f = cc in
    inl (ap (λ (z : Found). z.number) (sym same))

-- the one conjunct stands in one of the tests
found_within : (m : List ℕ) (ts : List Test) (f : Found) → flat_map (mentioning m) ts ≡ f ∷ [] → list_any (λ (t : Test). nat_eq f.number t.number) ts ≡ true
found_within m [] f h = absurd cc
found_within m (t ∷ ts) f h =
    ⊎_elim
    (λ e. or_left (nat_eq f.number t.number) (list_any (λ (q : Test). nat_eq f.number q.number) ts) (eq-eqb f.number t.number e))
    (λ rest. or_right (nat_eq f.number t.number) (list_any (λ (q : Test). nat_eq f.number q.number) ts) (found_within m ts f rest))
    (first_found t.number (filter (mentions m) (claims t.holds t.condition)) (flat_map (mentioning m) ts) f h)

-- the best value is the only one under the `if` of its conjunct
only_best : (w : Setting) → Unbroken w → (n j : ℕ) (s : Site) (m : List ℕ) (column : RowColumn) (f : Found) → slice_get w.sites j ≡ Some s → target_of s.statement ≡ Some m → form_of w.sites j s.statement ≡ takes column → best_claims m s.round ≡ f ∷ [] → f.number ≡ n → all_best_under w.sites n 0 w.sites ≡ m ∷ []
only_best w u n j s m column f there target form one number =
    let best : TakesBest w j s m column = takes_best_at w u.forms j s m column there target form in
    let o : OnlyFound w.sites m column (best_claims m s.round) = found_of w j s m column best in
    let two : o.found ∷ [] ≡ f ∷ [] = sym o.is ∙ one in
    let same : o.found ≡ f = cc in
    best_under_is w j s m column n best (ap (λ (z : Found). z.number) same ∙ number) (subst (λ k. list_any (λ (t : Test). nat_eq k t.number) (inner_tests s.round) ≡ true) number (found_within m (inner_tests s.round) f one))

-- ---- Formulas and operands

module _ (w : Setting) (c : Frame) (same : c.schema ≡ w.schema) (u : Unbroken w) where
  plain_here : (n : ℕ) (s : Site) (e : Expression) (holds : Bool) (g : Types) (loops : List ℕ → Option ℕ) (flags : Flags) → slice_get w.sites n ≡ Some s → condition_of s.statement ≡ Some e → HasType c g e bool → InSight w n g loops → FlagsRead w n g flags → IsPlain w.sites n e → premises.HasForm w (numbers_of w) (with_loops loops (numbering w)) flags n holds e
  plain_here n s e holds g loops flags there is t sight reads plain =
      let seen : FlagsSeen w n g flags = record { by = reads.by } in
      let h : HasForm w n (with_loops loops (numbering w)) flags holds e = plain_form w c same u.conditions n s e holds g loops flags there is t sight.sighted seen plain in
      record { form = h.form; is = h.is; means = h.stands }

  -- Each condition has its formula, which is one of the lowered fragment.
  pub forms_here : HasForms w c (numbering w) (numbers_of w)
  forms_here =
      record {
        plain = plain_here;
        best = λ n level s e holds g loops flags m column f way j update there is t sight reads at target form one number conjunct ways.
            best_form w c same u.conditions n level s e holds g loops flags m column f way there is t sight.sighted (record { by = reads.by }) (only_best w u n j update m column f at target form one number) conjunct ways;
      }

  -- Each column and row of a loop is that of the numbering.
  pub elements_here : HasElements w c (numbering w)
  elements_here =
      record {
        column = λ n s e ty g loops k there t sight is. column_operand w c same n g loops sight.sighted e k ty is t;
        row = λ n s e k g loops j there t sight is. row_element w c same n g loops sight.sighted e k j is t;
      }

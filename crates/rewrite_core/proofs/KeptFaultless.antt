-- The kept statements of a run break no rule where the whole run breaks none.
use Rattle.std.proofs.Common.{◌≡◌, ℕ, Bool, true, false, not, ◌&&◌, List, [], ◌∷◌, ◌++◌, Option, refl, sym, ap, ◌∙◌, cond, bytes_eq, append-nil}
use Rattle.std.proofs.lemmas.Bool.{and_parts}
use Rattle.qbs_base.specs.Values.{Schema}
use Rattle.sql_ast.specs.Tree.{PlainQuery}
use Rattle.java_ast.specs.Tree as tree
use Rattle.java_ast.specs.Tree.{Spelled, Statement, Statements, Nothing, Then}
use Rattle.java_mean.specs.Fits.{in_first}
use Rattle.java_mean.specs.Mentions.{EachMentionedIn, EachDeclaredIn}
use Rattle.java_mean.specs.Places.{Around, step, is_nothing, in_parts}
use Rattle.java_mean.specs.Rules.{is_none}
use Rattle.java_mean.specs.Types.{Types, type_spelled, types_after}
use Rattle.java_mean.specs.Visible.{Visible, after}
use Rattle.java_mean.specs.WellTyped.{faults_at, faults_in}
use Rattle.java_mean.proofs.ByNames.{SameOn, first_same}
use Rattle.java_mean.proofs.Faultless.{Both, none_both, none_in, Sees}
use Rattle.java_mean.proofs.Fitting.{sees_after, visible_is_typed}
use Rattle.java_mean.proofs.Puts.{names_equal}
use Rattle.java_types.proofs.Kept.{faults_in-append}
use Rattle.java_loops.specs.Walks.Reads.{Set}
use Rattle.java_loops.specs.Walks.Runs.{kept, StepReads, KeptRead}
use Rattle.loop_text.specs.Statements.Fragment.{set_by, is_simple, are_simple}
use Rattle.rewrite_core.specs.Asking as asking
use Rattle.rewrite_core.specs.Asking.{AlikeOn}

-- ---- Names of a set

module _ (f : Set) where
  abbrev Named : List ℕ → Type 0
  Named x = f x ≡ true

  -- what a kept statement mentions and declares is of the set
  step_mentions : (a : Statement) → is_simple a ≡ true → f (set_by a) ≡ true → StepReads f a → EachMentionedIn Named a
  step_mentions (tree.Declare at ty x e) s k h = h
  step_mentions (tree.Assign at x e) s k h = (k, h)
  step_mentions (tree.Sort at x keys down) s k h = k
  step_mentions (tree.Add at x e) s k h = absurd cc
  step_mentions (tree.If at c a) s k h = absurd cc
  step_mentions (tree.IfElse at c a b) s k h = absurd cc
  step_mentions (tree.ForEach at ty x e b) s k h = absurd cc
  step_mentions (tree.While at c b) s k h = absurd cc
  step_mentions (tree.Print at e) s k h = absurd cc
  step_mentions (tree.Return at e) s k h = absurd cc
  step_mentions (tree.Break at) s k h = absurd cc

  step_declares : (a : Statement) → is_simple a ≡ true → f (set_by a) ≡ true → EachDeclaredIn Named a
  step_declares (tree.Declare at ty x e) s k = k
  step_declares (tree.Assign at x e) s k = tt
  step_declares (tree.Sort at x keys down) s k = tt
  step_declares (tree.Add at x e) s k = tt
  step_declares (tree.If at c a) s k = absurd cc
  step_declares (tree.IfElse at c a b) s k = absurd cc
  step_declares (tree.ForEach at ty x e b) s k = absurd cc
  step_declares (tree.While at c b) s k = absurd cc
  step_declares (tree.Print at e) s k = tt
  step_declares (tree.Return at e) s k = tt
  step_declares (tree.Break at) s k = tt

-- ---- What is visible

seen_alike : (f : Set) (vs us : Visible) (g h : Types) → Sees vs g → Sees us h → AlikeOn f g h → SameOn (λ x. f x ≡ true) vs us
seen_alike f vs us g h s t alike =
    record {
      alike = λ x m.
          record {
            visible = visible_is_typed vs g x s ∙ ap (λ o. not (is_none o)) (alike x m) ∙ sym (visible_is_typed us h x t);
            type = s.same x ∙ alike x m ∙ sym (t.same x);
          };
    }

pub alike_after : (schema : Schema) (f : Set) (g h : Types) (a : Statement) → AlikeOn f g h → AlikeOn f (types_after schema g a) (types_after schema h a)
alike_after schema f g h (tree.Declare at ty x e) alike = λ y m. ap (λ o. cond (bytes_eq x y) (type_spelled schema ty) o) (alike y m)
alike_after schema f g h (tree.Assign at x e) alike = alike
alike_after schema f g h (tree.Add at x e) alike = alike
alike_after schema f g h (tree.Sort at x keys down) alike = alike
alike_after schema f g h (tree.If at c a) alike = alike
alike_after schema f g h (tree.IfElse at c a b) alike = alike
alike_after schema f g h (tree.ForEach at ty x e b) alike = alike
alike_after schema f g h (tree.While at c b) alike = alike
alike_after schema f g h (tree.Print at e) alike = alike
alike_after schema f g h (tree.Return at e) alike = alike
alike_after schema f g h (tree.Break at) alike = alike

-- a name of the set is another than one that isn't
other_name : (f : Set) (x y : List ℕ) (b : Bool) → bytes_eq x y ≡ b → f x ≡ false → f y ≡ true → b ≡ false
other_name f x y true e out m = let same : f x ≡ f y = ap f (names_equal x y e) in absurd cc
other_name f x y false e out m = refl

-- a statement that sets no variable of the set gives none of them a type
pub type_kept : (schema : Schema) (g : Types) (a : Statement) (y : List ℕ) → bytes_eq (set_by a) y ≡ false → types_after schema g a y ≡ g y
type_kept schema g (tree.Declare at ty x e) y other = ap (λ b. cond b (type_spelled schema ty) (g y)) other
type_kept schema g (tree.Assign at x e) y other = refl
type_kept schema g (tree.Add at x e) y other = refl
type_kept schema g (tree.Sort at x keys down) y other = refl
type_kept schema g (tree.If at c a) y other = refl
type_kept schema g (tree.IfElse at c a b) y other = refl
type_kept schema g (tree.ForEach at ty x e b) y other = refl
type_kept schema g (tree.While at c b) y other = refl
type_kept schema g (tree.Print at e) y other = refl
type_kept schema g (tree.Return at e) y other = refl
type_kept schema g (tree.Break at) y other = refl

pub alike_dropped : (schema : Schema) (f : Set) (g h : Types) (a : Statement) → f (set_by a) ≡ false → AlikeOn f g h → AlikeOn f (types_after schema g a) h
alike_dropped schema f g h a out alike = λ y m. type_kept schema g a y (other_name f (set_by a) y (bytes_eq (set_by a) y) refl out m) ∙ alike y m

-- ---- The kept statements

module _ (schema : Schema) (read : List ℕ → Option PlainQuery) (r : Option Spelled) (w : Around) (f : Set) where
  -- a simple statement may be the last one or not
  last_or_not : (vs : Visible) (one other : Bool) (a : Statement) → is_simple a ≡ true → faults_at schema read r (step vs w one a) ≡ faults_at schema read r (step vs w other a)
  last_or_not vs one other (tree.Declare at ty x e) s = refl
  last_or_not vs one other (tree.Assign at x e) s = refl
  last_or_not vs one other (tree.Sort at x keys down) s = refl
  last_or_not vs one other (tree.Add at x e) s = refl
  last_or_not vs one other (tree.If at c a) s = refl
  last_or_not vs one other (tree.IfElse at c a b) s = refl
  last_or_not vs one other (tree.ForEach at ty x e b) s = refl
  last_or_not vs one other (tree.While at c b) s = refl
  last_or_not vs one other (tree.Print at e) s = refl
  last_or_not vs one other (tree.Return at e) s = absurd cc
  last_or_not vs one other (tree.Break at) s = absurd cc

  alone_any : (vs : Visible) (one other : Bool) (a : Statement) → is_simple a ≡ true → faults_at schema read r (step vs w one a) ++ faults_in schema read r (in_parts schema vs w a) ≡ faults_at schema read r (step vs w other a) ++ faults_in schema read r (in_parts schema vs w a)
  alone_any vs one other a s = ap (λ fs. fs ++ faults_in schema read r (in_parts schema vs w a)) (last_or_not vs one other a s)

  kept_alone : (a : Statement) (vs us : Visible) (one other : Bool) → SameOn (λ x. f x ≡ true) vs us → is_simple a ≡ true → f (set_by a) ≡ true → StepReads f a → faults_at schema read r (step vs w one a) ++ faults_in schema read r (in_parts schema vs w a) ≡ [] → faults_at schema read r (step us w other a) ++ faults_in schema read r (in_parts schema us w a) ≡ []
  kept_alone a vs us one other same s k reads h =
      alone_any us other false a s
      ∙ sym (ap (faults_in schema read r) (append-nil (step us w false a ∷ in_parts schema us w a)))
      ∙ sym (first_same schema read r (λ x. f x ≡ true) (Then a Nothing) vs us w false same (step_mentions f a s k reads, tt) (step_declares f a s k, tt))
      ∙ ap (faults_in schema read r) (append-nil (step vs w false a ∷ in_parts schema vs w a))
      ∙ alone_any vs false one a s
      ∙ h

  kept_step : (a : Statement) (p : Statements) (vs us : Visible) (g h : Types) (b : Bool) → f (set_by a) ≡ b → Sees vs g → Sees us h → AlikeOn f g h → is_simple a ≡ true → (f (set_by a) ≡ true → StepReads f a) → faults_at schema read r (step vs w (is_nothing p && false) a) ++ faults_in schema read r (in_parts schema vs w a) ≡ []
      → (Sees (after schema us a) (types_after schema h a) → AlikeOn f (types_after schema g a) (types_after schema h a) → faults_in schema read r (in_first schema (after schema us a) w false (kept f p)) ≡ [])
      → (AlikeOn f (types_after schema g a) h → faults_in schema read r (in_first schema us w false (kept f p)) ≡ [])
      → faults_in schema read r (in_first schema us w false (cond b (Then a (kept f p)) (kept f p))) ≡ []
  kept_step a p vs us g h true e s t alike simple reads none further skipped =
      let last : Bool = is_nothing (kept f p) && false in
      let one : faults_at schema read r (step us w last a) ++ faults_in schema read r (in_parts schema us w a) ≡ [] = kept_alone a vs us (is_nothing p && false) last (seen_alike f vs us g h s t alike) simple e (reads e) none in
      let seen : Sees (after schema us a) (types_after schema h a) = sees_after schema read r us h w last a t (none_both (faults_at schema read r (step us w last a)) (faults_in schema read r (in_parts schema us w a)) one).left in
      faults_in-append schema read r (step us w last a ∷ in_parts schema us w a) (in_first schema (after schema us a) w false (kept f p))
      ∙ ap (λ fs. fs ++ faults_in schema read r (in_first schema (after schema us a) w false (kept f p))) one
      ∙ further seen (alike_after schema f g h a alike)
  kept_step a p vs us g h false e s t alike simple reads none further skipped = skipped (alike_dropped schema f g h a e alike)

  -- Where a run breaks no rule, its kept statements break none where no more of it is visible.
  pub kept_fine : (p : Statements) (vs us : Visible) (g h : Types) → Sees vs g → Sees us h → AlikeOn f g h → are_simple p ≡ true → KeptRead f p → faults_in schema read r (in_first schema vs w false p) ≡ [] → faults_in schema read r (in_first schema us w false (kept f p)) ≡ []
  kept_fine Nothing vs us g h s t alike simple reads none = refl
  kept_fine (Then a p) vs us g h s t alike simple reads none =
      let two : Both (faults_in schema read r (step vs w (is_nothing p && false) a ∷ in_parts schema vs w a) ≡ []) (faults_in schema read r (in_first schema (after schema vs a) w false p) ≡ []) = none_in schema read r (step vs w (is_nothing p && false) a ∷ in_parts schema vs w a) (in_first schema (after schema vs a) w false p) none in
      let parts = and_parts (is_simple a) (are_simple p) simple in
      let seen : Sees (after schema vs a) (types_after schema g a) = sees_after schema read r vs g w (is_nothing p && false) a s (none_both (faults_at schema read r (step vs w (is_nothing p && false) a)) (faults_in schema read r (in_parts schema vs w a)) two.left).left in
      kept_step a p vs us g h (f (set_by a)) refl s t alike parts.0 reads.0 two.left
      (λ seen' alike'. kept_fine p (after schema vs a) (after schema us a) (types_after schema g a) (types_after schema h a) seen seen' alike' parts.1 reads.1 two.right)
      (λ alike'. kept_fine p (after schema vs a) us (types_after schema g a) h seen t alike' parts.1 reads.1 two.right)

-- both say the same of what is visible
pub seen_so : (vs : Visible) (g : Types) → asking.Sees vs g → Sees vs g
seen_so vs g s = record { same = s.same; known = λ x h. (let k = s.known x h in record { value = k.0; is = k.1 }) }

-- The kept statements of a run break no rule where the run breaks none.
pub kept_statements_fine : (schema : Schema) (read : List ℕ → Option PlainQuery) (r : Option Spelled) (w : Around) (f : Set) (p : Statements) (vs us : Visible) (g h : Types) → asking.Sees vs g → asking.Sees us h → AlikeOn f g h → are_simple p ≡ true → KeptRead f p → faults_in schema read r (in_first schema vs w false p) ≡ [] → faults_in schema read r (in_first schema us w false (kept f p)) ≡ []
kept_statements_fine schema read r w f p vs us g h s t = kept_fine schema read r w f p vs us g h (seen_so vs g s) (seen_so us h t)

-- At the loop each accumulator is what its update starts with.
use Rattle.std.proofs.Common.{◌≡◌, ℕ, pos, Bool, true, false, List, [], Option, Some, None, refl, sym, ap, ap₂, ◌∙◌, subst}
use Rattle.qbs_base.specs.declared.scalar.Scalar.{Scalar}
use Rattle.qbs_base.specs.declared.scalar.Scalar.TheVariants as scalars
use Rattle.qbs_base.specs.declared.scalar.Value.{Value}
use Rattle.qbs_base.specs.declared.scalar.Value.TheVariants.{One, Many}
use Rattle.qbs_base.specs.Named.{at_name}
use Rattle.qbs_base.specs.Values.{Schema}
use Rattle.java_mean.specs.declared.types.JavaType.{JavaType}
use Rattle.java_mean.specs.declared.types.JavaType.TheVariants.{Of, Listed, Distinct}
use Rattle.java_mean.specs.Statement.{State}
use Rattle.java_mean.specs.Store.{Variable}
use Rattle.java_mean.specs.Types as types
use Rattle.java_mean.specs.Types.{Types, IsOf, IsVariableOf, IsTyped}
use Rattle.tor_terms.specs.declared.term.Elem.{Elem}
use Rattle.tor_terms.specs.Plain.{Form}
use Rattle.kernel_lang.specs.declared.parts.Update.TheVariants as updates
use Rattle.kernel_lang.specs.Running.{started}
use Rattle.java_loops.specs.Walks.Carried.{variable_of}
use Rattle.java_loops.specs.Walks.ChainLaws.{start_of}
use Rattle.java_loops.specs.Walks.Chains.{By}
use Rattle.loop_text.specs.Kernel.KernelForms as forms
use Rattle.loop_text.specs.Kernel.KernelForms.{adds, counts, sums, takes, marks, other}
use Rattle.java_loops.specs.Kernel.KernelForms.{is_distinct}
use Rattle.loop_text.specs.Kernel.KernelStarts.{Numbered, update_of, form_found}
use Rattle.java_loops.specs.Lowering.Lowered.{element_of, added, start_with, literal_by, update_with, is_opposite, accumulator_with}
use Rattle.java_loops.specs.Lowering.Numbering.{Numbers}
use Rattle.java_loops.specs.Kernel.Setting.{Setting}
use Rattle.loop_text.specs.Statements.Setting.{first_touching}
use Rattle.loop_text.specs.Sites.Sites.{Round, is_some}
use Rattle.java_loops.proofs.Starts.Start.{StartsAs, HoldsStart, StartsRightly}

-- ---- Whether it is a set

-- a variable with a scalar is no set
scalar_type : (schema : Schema) (k : JavaType) (x : Scalar) (v : Value) → v ≡ One x → IsOf schema k v → types.is_distinct k ≡ false
scalar_type schema (Of a) x v e h = refl
scalar_type schema (Listed a) x v e h = absurd (subst (IsOf schema (Listed a)) e h)
scalar_type schema (Distinct a) x v e h = absurd (subst (IsOf schema (Distinct a)) e h)

same_held : (o : Option Variable) (a b : Variable) → o ≡ Some a → o ≡ Some b → a ≡ b
same_held o a b e h = cc

-- the variable that is visible, and what it holds
pub record Seen (w : Setting) (x : List ℕ) (v : Value) (t : State) : Type 0 where
  pub type : JavaType
  pub is : w.types x ≡ Some type
  pub held : Variable
  pub left : at_name t.store x ≡ Some held
  pub value : held.value ≡ v
  pub typed : IsVariableOf w.schema type held

pub seen_so : (w : Setting) (x : List ℕ) (v : Value) (t : State) (o : Option JavaType) → w.types x ≡ o → is_some o ≡ true → IsTyped w.schema w.types t.store → HoldsStart w.schema w.types x v t → Seen w x v t
seen_so w x v t None e there typed h = absurd cc
seen_so w x v t (Some k) e there typed h =
    let u : (u : Variable) × (at_name t.store x ≡ Some u) × IsVariableOf w.schema k u = typed.held x k e in
    let same : u.0 ≡ h.held = same_held (at_name t.store x) u.0 h.held u.1 h.left in
    record { type = k; is = e; held = h.held; left = h.left; value = h.value; typed = subst (IsVariableOf w.schema k) same u.2 }

scalar_held : (w : Setting) (x : List ℕ) (v : Value) (t : State) (y : Scalar) → v ≡ One y → Seen w x v t → at_name t.store x ≡ Some (record { value = One y; is_set = false })
scalar_held w x v t y e h =
    let value : h.held.value ≡ One y = h.value ∙ e in
    let set : h.held.is_set ≡ false = h.typed.set ∙ scalar_type w.schema h.type y h.held.value value h.typed.value in
    h.left ∙ ap₂ (λ u b. Some (record { value = u; is_set = b })) value set

distinct_by_type : (o : Option JavaType) (k : JavaType) → o ≡ Some k → types.is_distinct k ≡ is_distinct o
distinct_by_type o (Of a) e = sym (ap is_distinct e)
distinct_by_type o (Listed a) e = sym (ap is_distinct e)
distinct_by_type o (Distinct a) e = sym (ap is_distinct e)

list_held : (w : Setting) (x : List ℕ) (v : Value) (t : State) → v ≡ Many [] → Seen w x v t → at_name t.store x ≡ Some (record { value = Many []; is_set = is_distinct (w.types x) })
list_held w x v t e h =
    h.left ∙ ap₂ (λ u b. Some (record { value = u; is_set = b })) (h.value ∙ e) (h.typed.set ∙ distinct_by_type (w.types x) h.type h.is)

-- ---- By the form of the update

list_start : (b : Bool) (e : Elem) (opposite : Bool) → record { value = Many []; is_set = b } ≡ variable_of (By (added b e) opposite) []
list_start true e opposite = refl
list_start false e opposite = refl

-- what the variable is where the update has this form
by_form : (w : Setting) (x : List ℕ) (t : State) (r : Round) (form : forms.Form) (v : Value) → StartsAs form v → ((z : Scalar) → v ≡ One z → literal_by x (first_touching x w.fragment.run) ≡ Some z) → Seen w x v t → at_name t.store x ≡ Some (variable_of (By (update_with w x r form) (is_opposite form)) (started (start_with w x (update_with w x r form))))
by_form w x t r (adds c) v s kept h = list_held w x v t s h ∙ ap Some (list_start (is_distinct (w.types x)) (element_of w c) false) ∙ ap (λ o. Some (variable_of (By (added (is_distinct (w.types x)) (element_of w c)) false) (started o))) (sym (no_start (is_distinct (w.types x)) (element_of w c)))
  where
    no_start : (b : Bool) (e : Elem) → start_with w x (added b e) ≡ None
    no_start true e = refl
    no_start false e = refl
by_form w x t r counts v s kept h = scalar_held w x v t (scalars.Long (pos 0)) s h ∙ ap (λ o. Some (variable_of (By updates.Tick false) (started o))) (sym (kept (scalars.Long (pos 0)) s))
by_form w x t r (sums c) v s kept h = scalar_held w x v t (scalars.Long (pos 0)) s h ∙ ap (λ o. Some (variable_of (By (update_with w x r (sums c)) false) (started o))) (sym (kept (scalars.Long (pos 0)) s))
by_form w x t r (takes c) v s kept h = scalar_held w x v t (scalars.Long s.0) s.1 h ∙ ap (λ o. Some (variable_of (By (update_with w x r (takes c)) false) (started o))) (sym (kept (scalars.Long s.0) s.1))
by_form w x t r (marks true) v s kept h = scalar_held w x v t (scalars.Bool false) s h
by_form w x t r (marks false) v s kept h = scalar_held w x v t (scalars.Bool true) s h
by_form w x t r other v s kept h = absurd s

-- At the loop a variable that starts rightly is what its accumulator starts with.
pub start_held : (w : Setting) (n : Numbers) (conditions : List Form) (x : List ℕ) (t : State) (base : ℕ) (r : Round) → is_some (w.types x) ≡ true → IsTyped w.schema w.types t.store → StartsRightly w w.schema w.types x t → at_name t.store x ≡ Some (start_of (accumulator_with w n conditions x base r (form_found w.sites (update_of w.sites x))))
start_held w n conditions x t base r seen typed k =
    by_form w x t r (form_found w.sites (update_of w.sites x)) k.start.value k.start.starts k.literal (seen_so w x k.start.value t (w.types x) refl seen typed k.holds)

-- the accumulator's update stands in the loop
pub update_found : (w : Setting) (schema : Schema) (g : Types) (x : List ℕ) (t : State) → StartsRightly w schema g x t → (u : Numbered) × (update_of w.sites x ≡ Some u)
update_found w schema g x t k = some_update (update_of w.sites x) k.start.starts
  where
    some_update : (o : Option Numbered) → StartsAs (form_found w.sites o) k.start.value → (u : Numbered) × (o ≡ Some u)
    some_update None h = absurd h
    some_update (Some u) h = (u, refl)

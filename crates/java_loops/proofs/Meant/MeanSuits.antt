-- What an accumulator starts with is of the kind that its update keeps.
use Rattle.std.proofs.Common.{◌≡◌, ℕ, ℤ, pos, Bool, true, false, List, Option, Some, refl, sym, ap, ◌∙◌, subst}
use Rattle.qbs_base.specs.declared.scalar.Scalar.{Scalar}
use Rattle.qbs_base.specs.declared.scalar.Scalar.TheVariants as scalars
use Rattle.qbs_base.specs.declared.scalar.Ty.TheVariants as tys
use Rattle.qbs_base.specs.declared.scalar.Value.{Value}
use Rattle.qbs_base.specs.declared.scalar.Value.TheVariants.{One}
use Rattle.qbs_base.specs.Values.{Schema, fits_long}
use Rattle.java_mean.specs.declared.types.JavaType.{JavaType}
use Rattle.java_mean.specs.declared.types.JavaType.TheVariants.{Of, Listed, Distinct}
use Rattle.java_mean.specs.declared.types.Single.TheVariants.{ScalarOf, RowOf}
use Rattle.java_mean.specs.Statement.{State}
use Rattle.java_mean.specs.Types.{IsOf, IsTyped}
use Rattle.tor_terms.specs.declared.term.Elem.{Elem}
use Rattle.tor_terms.specs.Plain.{Form}
use Rattle.kernel_lang.specs.Plain.{Accumulator}
use Rattle.kernel_lang.specs.Running.{started}
use Rattle.java_loops.specs.Walks.Carried.{Suits, IsLong}
use Rattle.java_loops.specs.Walks.Chains.{By}
use Rattle.loop_text.specs.Kernel.KernelForms as forms
use Rattle.loop_text.specs.Kernel.KernelForms.{adds, counts, sums, takes, marks, other}
use Rattle.java_loops.specs.Kernel.KernelForms.{is_distinct}
use Rattle.loop_text.specs.Kernel.KernelStarts.{update_of, form_found}
use Rattle.java_loops.specs.Lowering.Lowered.{element_of, added, start_with, literal_by, update_with, is_opposite, accumulator_with}
use Rattle.java_loops.specs.Lowering.Numbering.{Numbers}
use Rattle.java_loops.specs.Kernel.Setting.{Setting}
use Rattle.loop_text.specs.Statements.Setting.{first_touching}
use Rattle.loop_text.specs.Sites.Sites.{Round, is_some}
use Rattle.java_loops.proofs.Meant.MeanStarts.{Seen, seen_so}
use Rattle.java_loops.proofs.Starts.Start.{StartsAs, StartsRightly}

typed_number : (schema : Schema) (k : JavaType) (n : ℤ) (v : Value) → v ≡ One (scalars.Long n) → IsOf schema k v → fits_long n ≡ true
typed_number schema (Of (ScalarOf tys.Long)) n v e h = subst (IsOf schema (Of (ScalarOf tys.Long))) e h
typed_number schema (Of (ScalarOf tys.Bool)) n v e h = absurd (subst (IsOf schema (Of (ScalarOf tys.Bool))) e h)
typed_number schema (Of (ScalarOf tys.Text)) n v e h = absurd (subst (IsOf schema (Of (ScalarOf tys.Text))) e h)
typed_number schema (Of (RowOf m)) n v e h = absurd (subst (IsOf schema (Of (RowOf m))) e h)
typed_number schema (Listed a) n v e h = absurd (subst (IsOf schema (Listed a)) e h)
typed_number schema (Distinct a) n v e h = absurd (subst (IsOf schema (Distinct a)) e h)

number_suits : (w : Setting) (x : List ℕ) (v : Value) (t : State) (n : ℤ) → v ≡ One (scalars.Long n) → Seen w x v t → fits_long n ≡ true
number_suits w x v t n e h = typed_number w.schema h.type n h.held.value (h.value ∙ e) h.typed.value

long_started : (o : Option Scalar) (n : ℤ) → o ≡ Some (scalars.Long n) → fits_long n ≡ true → IsLong (started o)
long_started o n e fits = record { number = n; is = ap started e; fits = fits }

suits_by_form : (w : Setting) (x : List ℕ) (t : State) (r : Round) (form : forms.Form) (v : Value) → StartsAs form v → ((z : Scalar) → v ≡ One z → literal_by x (first_touching x w.fragment.run) ≡ Some z) → Seen w x v t → Suits (By (update_with w x r form) (is_opposite form)) (started (start_with w x (update_with w x r form)))
suits_by_form w x t r (adds c) v s kept h = list_suits (is_distinct (w.types x)) (element_of w c)
  where
    list_suits : (b : Bool) (e : Elem) → Suits (By (added b e) false) (started (start_with w x (added b e)))
    list_suits true e = tt
    list_suits false e = tt
suits_by_form w x t r counts v s kept h = long_started (literal_by x (first_touching x w.fragment.run)) (pos 0) (kept (scalars.Long (pos 0)) s) refl
suits_by_form w x t r (sums c) v s kept h = long_started (literal_by x (first_touching x w.fragment.run)) (pos 0) (kept (scalars.Long (pos 0)) s) refl
suits_by_form w x t r (takes c) v s kept h = long_started (literal_by x (first_touching x w.fragment.run)) s.0 (kept (scalars.Long s.0) s.1) (number_suits w x v t s.0 s.1 h)
suits_by_form w x t r (marks b) v s kept h = record { truth = false; is = refl }
suits_by_form w x t r other v s kept h = absurd s

-- What a variable that starts rightly starts with is of the kind that its update keeps.
pub start_suits : (w : Setting) (n : Numbers) (conditions : List Form) (x : List ℕ) (t : State) (base : ℕ) (r : Round) → is_some (w.types x) ≡ true → IsTyped w.schema w.types t.store → (k : StartsRightly w w.schema w.types x t) → (acc : Accumulator) → acc ≡ accumulator_with w n conditions x base r (form_found w.sites (update_of w.sites x)) → Suits (By acc.update acc.opposite) (started acc.start)
start_suits w n conditions x t base r seen typed k acc e =
    subst (λ (a : Accumulator). Suits (By a.update a.opposite) (started a.start)) (sym e)
    (suits_by_form w x t r (form_found w.sites (update_of w.sites x)) k.start.value k.start.starts k.literal (seen_so w x k.start.value t (w.types x) refl seen typed k.holds))

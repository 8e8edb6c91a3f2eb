-- What the accumulators of a lowered fragment start with suits their updates.
use Rattle.std.proofs.Common.{◌≡◌, ℕ, pos, Bool, true, false, ◌&&◌, List, Some, refl, sym, ap, ◌∙◌}
use Rattle.qbs_base.specs.declared.scalar.Scalar.{Scalar}
use Rattle.qbs_base.specs.declared.scalar.Scalar.TheVariants as scalars
use Rattle.java_ast.specs.Tree as tree
use Rattle.java_ast.specs.Tree.{Expression, Statement, Statements}
use Rattle.kernel_lang.specs.Validity.{start_is_valid, starts_as, is_nought, is_number, starts_rightly, takes_a_column}
use Rattle.tor_terms.specs.declared.term.Elem.{Elem}
use Rattle.tor_terms.proofs.Scalars.{scalar_same-true}
use Rattle.loop_text.specs.Kernel.KernelForms.{Form, adds, counts, sums, takes, marks, other}
use Rattle.java_loops.specs.Kernel.KernelForms.{is_distinct}
use Rattle.loop_text.specs.Kernel.KernelStarts.{Numbered, update_of, form_found, may_start, is_integer, is_long}
use Rattle.java_loops.specs.Lowering.Lowered.{added, update_with, start_with, literal_by, literal_given}
use Rattle.java_loops.specs.Lowering.Lowered as lowered
use Rattle.java_loops.specs.Kernel.Setting.{Setting}
use Rattle.loop_text.specs.Statements.Setting.{first_touching, is_literal_number}
use Rattle.loop_text.specs.Sites.Sites.{Round}
use Rattle.java_loops.proofs.Valid.ValidAccumulators.{made}
use Rattle.java_loops.proofs.Valid.ValidStarts.{Started}

nought : (e : Expression) → is_literal_number 0 e ≡ true → starts_as is_nought (literal_given (Some e)) ≡ true
nought (tree.Lit at x) h = ap is_nought (scalar_same-true x (scalars.Long (pos 0)) h)
nought (tree.Var at x) h = absurd cc
nought (tree.Field at e f) h = absurd cc
nought (tree.Binary at op a b) h = absurd cc
nought (tree.Not at e) h = absurd cc
nought (tree.Equals at a b) h = absurd cc
nought (tree.Size at x) h = absurd cc
nought (tree.Get at x e) h = absurd cc
nought (tree.Contains at x e) h = absurd cc
nought (tree.Fetch at t) h = absurd cc
nought (tree.Query at ty text es) h = absurd cc
nought (tree.QueryLong at text es) h = absurd cc
nought (tree.QueryBoolean at text es) h = absurd cc
nought (tree.NewList at) h = absurd cc
nought (tree.NewSet at) h = absurd cc
nought (tree.NewSetOf at e) h = absurd cc

long_number : (x : Scalar) → is_long x ≡ true → is_number x ≡ true
long_number (scalars.Long n) h = refl
long_number (scalars.Bool b) h = absurd cc
long_number (scalars.Text t) h = absurd cc

integer : (e : Expression) → is_integer e ≡ true → starts_as is_number (literal_given (Some e)) ≡ true
integer (tree.Lit at x) h = long_number x h
integer (tree.Var at x) h = absurd cc
integer (tree.Field at e f) h = absurd cc
integer (tree.Binary at op a b) h = absurd cc
integer (tree.Not at e) h = absurd cc
integer (tree.Equals at a b) h = absurd cc
integer (tree.Size at x) h = absurd cc
integer (tree.Get at x e) h = absurd cc
integer (tree.Contains at x e) h = absurd cc
integer (tree.Fetch at t) h = absurd cc
integer (tree.Query at ty text es) h = absurd cc
integer (tree.QueryLong at text es) h = absurd cc
integer (tree.QueryBoolean at text es) h = absurd cc
integer (tree.NewList at) h = absurd cc
integer (tree.NewSet at) h = absurd cc
integer (tree.NewSetOf at e) h = absurd cc

-- the literal of the statement that starts a variable
given_literal : (w : Setting) (x : List ℕ) (s : Started w.sites x w.fragment.run) → literal_by x (first_touching x w.fragment.run) ≡ literal_given (Some s.value)
given_literal w x s = ap (literal_by x) s.first ∙ ap literal_given s.given

added_start : (w : Setting) (x : List ℕ) (b : Bool) (e : Elem) → start_is_valid (added b e) (start_with w x (added b e)) ≡ true
added_start w x true e = refl
added_start w x false e = refl

start_step : (w : Setting) (x : List ℕ) (r : Round) (f : Form) (s : Started w.sites x w.fragment.run) → may_start f s.value ≡ true → start_is_valid (update_with w x r f) (start_with w x (update_with w x r f)) ≡ true
start_step w x r (adds t) s h = added_start w x (is_distinct (w.types x)) (lowered.element_of w t)
start_step w x r counts s h = ap (starts_as is_nought) (given_literal w x s) ∙ nought s.value h
start_step w x r (sums q) s h = ap (starts_as is_nought) (given_literal w x s) ∙ nought s.value h
start_step w x r (takes q) s h = ap (starts_as is_number) (given_literal w x s) ∙ integer s.value h
start_step w x r (marks b) s h = refl
start_step w x r other s h = refl

-- a set takes no rows whole
abbrev pub TakesColumns : Setting → Numbered → List ℕ → Type 0
TakesColumns w u x = takes_a_column (update_with w x u.site.round (form_found w.sites (Some u))) ≡ true

pub start_of_needed : (w : Setting) (x : List ℕ) (u : Numbered) → Started w.sites x w.fragment.run → update_of w.sites x ≡ Some u → TakesColumns w u x → starts_rightly (made w x 0 u) ≡ true
unfolding starts_rightly
start_of_needed w x u s found columns =
    rw (start_step w x u.site.round (form_found w.sites (Some u)) s (ap (λ o. may_start (form_found w.sites o) s.value) (sym found) ∙ s.may), columns) refl

marks_start : (w : Setting) (x : List ℕ) (r : Round) (f : Form) (b : Bool) → f ≡ marks b → (start_is_valid (update_with w x r f) (start_with w x (update_with w x r f)) && takes_a_column (update_with w x r f)) ≡ true
marks_start w x r f b e = ap (λ z. start_is_valid (update_with w x r z) (start_with w x (update_with w x r z)) && takes_a_column (update_with w x r z)) e

pub start_of_flag : (w : Setting) (x : List ℕ) (base : ℕ) (u : Numbered) (b : Bool) → form_found w.sites (Some u) ≡ marks b → starts_rightly (made w x base u) ≡ true
unfolding starts_rightly
start_of_flag w x base u b e = marks_start w x u.site.round (form_found w.sites (Some u)) b e

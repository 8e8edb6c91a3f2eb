-- What mentions only variables of a set does the same where these are the same.
use Rattle.std.proofs.Common.{◌≡◌, ℕ, Bool, true, false, List, Ok, refl, sym, ap, ◌∙◌}
use Rattle.std.specs.Prelude.{bytes_eq}
use Rattle.qbs_base.specs.Named.{at_name}
use Rattle.java_ast.specs.Tree as tree
use Rattle.java_ast.specs.Tree.{Expression, Expressions, NoMore, And}
use Rattle.java_mean.specs.Endings.{◌>>=◌, found}
use Rattle.java_mean.specs.Expression.{value_of, scalars_of, as_scalar, as_bool}
use Rattle.java_mean.specs.Statement.{test_of}
use Rattle.java_mean.specs.Store.{Store, Variable, put}
use Rattle.java_mean.specs.World.{World}
use Rattle.java_mean.proofs.Alike.{put_at}
use Rattle.java_mean.proofs.Puts.{names_equal, put_other}
use Rattle.java_loops.specs.Walks.Reads.{Set, Reads, AllRead, SameOn}

pub same_self : (f : Set) (s : Store) → SameOn f s s
same_self f s = record { by = λ x e. refl }

pub same_back : (f : Set) (s t : Store) → SameOn f s t → SameOn f t s
same_back f s t a = record { by = λ x e. sym (a.by x e) }

pub same_through : (f : Set) (s t u : Store) → SameOn f s t → SameOn f t u → SameOn f s u
same_through f s t u a b = record { by = λ x e. a.by x e ∙ b.by x e }

mutual
  pub reads_same : (e : Expression) (f : Set) (w : World) (s t : Store) → Reads f e → SameOn f s t → value_of e w s ≡ value_of e w t
  reads_same (tree.Lit at x) f w s t h a = refl
  reads_same (tree.Var at x) f w s t h a = ap (λ o. found o >>= λ held. Ok held.value) (a.by x h)
  reads_same (tree.Field at e name) f w s t h a = simp (reads_same e f w s t h a)
  reads_same (tree.Binary at op l r) f w s t h a = simp (reads_same l f w s t h.0 a, reads_same r f w s t h.1 a)
  reads_same (tree.Not at e) f w s t h a = simp (reads_same e f w s t h a)
  reads_same (tree.Equals at l r) f w s t h a = simp (reads_same l f w s t h.0 a, reads_same r f w s t h.1 a)
  reads_same (tree.Size at x) f w s t h a = simp (a.by x h)
  reads_same (tree.Get at x e) f w s t h a = simp (a.by x h.0, reads_same e f w s t h.1 a)
  reads_same (tree.Contains at x e) f w s t h a = simp (a.by x h.0, reads_same e f w s t h.1 a)
  reads_same (tree.Fetch at n) f w s t h a = refl
  reads_same (tree.Query at ty text es) f w s t h a = simp (all_read_same es f w s t h a)
  reads_same (tree.QueryLong at text es) f w s t h a = simp (all_read_same es f w s t h a)
  reads_same (tree.QueryBoolean at text es) f w s t h a = simp (all_read_same es f w s t h a)
  reads_same (tree.NewList at) f w s t h a = refl
  reads_same (tree.NewSet at) f w s t h a = refl
  reads_same (tree.NewSetOf at e) f w s t h a = simp (reads_same e f w s t h a)

  all_read_same : (es : Expressions) (f : Set) (w : World) (s t : Store) → AllRead f es → SameOn f s t → scalars_of es w s ≡ scalars_of es w t
  all_read_same NoMore f w s t h a = refl
  all_read_same (And e es) f w s t h a = simp (reads_same e f w s t h.0 a, all_read_same es f w s t h.1 a)

pub test_reads_same : (e : Expression) (f : Set) (w : World) (s t : Store) → Reads f e → SameOn f s t → test_of e w s ≡ test_of e w t
test_reads_same e f w s t h a = ap (λ o. o >>= as_scalar >>= as_bool) (reads_same e f w s t h a)

-- ---- After a write

put_step : (f : Set) (s t : Store) (x y : List ℕ) (v : Variable) (p : Bool) → bytes_eq x y ≡ p → at_name s y ≡ at_name t y → at_name (put s x v) y ≡ at_name (put t x v) y
put_step f s t x y v true e h = put_at s x y v e ∙ sym (put_at t x y v e)
put_step f s t x y v false e h = put_other s x y v e ∙ h ∙ sym (put_other t x y v e)

-- both get the variable
pub same_put : (f : Set) (s t : Store) (x : List ℕ) (v : Variable) → SameOn f s t → SameOn f (put s x v) (put t x v)
same_put f s t x v a = record { by = λ y e. put_step f s t x y v (bytes_eq x y) refl (a.by y e) }

outside_step : (f : Set) (x y : List ℕ) (p : Bool) → bytes_eq x y ≡ p → f x ≡ false → f y ≡ true → bytes_eq x y ≡ false
outside_step f x y true e out inside = let q : f x ≡ f y = ap f (names_equal x y e) in absurd cc
outside_step f x y false e out inside = e

-- a name outside of the set is none of its names
pub outside : (f : Set) (x y : List ℕ) → f x ≡ false → f y ≡ true → bytes_eq x y ≡ false
outside f x y out inside = outside_step f x y (bytes_eq x y) refl out inside

-- one alone gets a variable that isn't of the set
pub put_outside : (f : Set) (s t : Store) (x : List ℕ) (v : Variable) → f x ≡ false → SameOn f s t → SameOn f (put s x v) t
put_outside f s t x v out a = record { by = λ y e. put_other s x y v (outside f x y out e) ∙ a.by y e }

-- The conditions round updates are guards of a nest.
use Rattle.std.proofs.Common.{◌≡◌, ℕ, suc, Bool, true, false, ◌||◌, List, Option, Some, None, refl, sym, ap, ◌∙◌, cond, slice_get, ⊎_elim}
use Rattle.std.proofs.lemmas.Bool.{cases_Bool, or_cases}
use Rattle.qbs_base.specs.declared.span.Span.{Span}
use Rattle.java_ast.specs.Tree as tree
use Rattle.java_ast.specs.Tree.{Expression, Statement, Statements}
use Rattle.java_mean.specs.declared.types.JavaType.{JavaType}
use Rattle.java_mean.specs.Types.{Types}
use Rattle.java_mean.specs.Typing.{Frame, HasType, bool, TypedStatements}
use Rattle.java_loops.specs.Walks.Effects.{all_set}
use Rattle.java_loops.specs.Walks.Nests.{with_name, Guards}
use Rattle.java_loops.specs.Walks.Reads.{Set, Reads}
use Rattle.java_loops.proofs.Walks.Names.{reads_with}
use Rattle.loop_text.specs.Kernel.KernelConditions.{condition_of, is_excepted, leaves}
use Rattle.java_loops.specs.Kernel.KernelConditions.{broken_leaf, broken_unless_excepted, broken_condition}
use Rattle.java_loops.specs.Kernel.Setting.{Setting}
use Rattle.loop_text.specs.Sites.Sites.{Site, Round, in_branch, depth, is_some}
use Rattle.java_loops.proofs.Nested.NestBest.{excepted_reads}
use Rattle.java_loops.proofs.Nested.NestConditions.{leaf_reads}
use Rattle.java_loops.proofs.Nested.NestLeaves.{Member, leaf_unbroken, condition_reads}
use Rattle.java_loops.proofs.Nested.NestMarks.{Sound}
use Rattle.java_loops.proofs.Nested.NestRules.{condition_at}
use Rattle.java_loops.proofs.Nested.NestSight.{Sight}
use Rattle.java_loops.proofs.Standing.Standing.{site_of, AllStand}
use Rattle.java_loops.proofs.Standing.StandingWithin.{SetAt, all_set_in}

-- a visible name has a type
pub record Typed (g : Types) (y : List ℕ) : Type 0 where
  pub type : JavaType
  pub is : g y ≡ Some type

has_type : (o : Option JavaType) → is_some o ≡ true → (k : JavaType) × (o ≡ Some k)
has_type (Some k) h = (k, refl)
has_type None h = absurd cc

pub type_of : (g : Types) (y : List ℕ) → is_some (g y) ≡ true → Typed g y
type_of g y h = let k = has_type (g y) h in record { type = k.0; is = k.1 }

-- the variable is set in a branch of the `if` with this number
pub record SetUnder (w : Setting) (r : Round) (n : ℕ) (c : Expression) (y : List ℕ) : Type 0 where
  pub holds : Bool
  pub from : ℕ
  pub set : SetAt w.sites (in_branch r n c holds) from y

module _ (w : Setting) (u : Sound w) (c : Frame) (n level : ℕ) (g : Types) (a f : Set) (s : Sight w n level g a f) (here : Site) (get : slice_get w.sites n ≡ Some here) (same : depth here ≡ level) (e : Expression) (is : condition_of here.statement ≡ Some e) where
  unexcepted : (l : Expression) → is_excepted w.sites n l ≡ false → broken_unless_excepted w n l ≡ None → broken_leaf w n l ≡ None
  unexcepted l fails h = ap (λ b. cond b None (broken_leaf w n l)) (sym fails) ∙ h

  leaf_read : (y : List ℕ) → SetUnder w here.round n e y → (l : Expression) (k : JavaType) → Member l (leaves e) → HasType c g l k → Reads (with_name y f) l
  leaf_read y under l k m t =
      ⊎_elim
      (λ passes. excepted_reads w u c n level g a f s here e get is l k t m passes y here.round e under.holds under.from under.set)
      (λ fails. reads_with l f y (leaf_reads w u.unbroken c n level g a f s here get same l k t (unexcepted l fails (leaf_unbroken w n l (leaves e) (ap (broken_condition w n) (sym is) ∙ condition_at w u.unbroken n here get) m))))
      (cases_Bool (is_excepted w.sites n l))

  -- a condition reads, for each variable that is set under it, that one and what is left as it is
  pub guards : (d : Set) → HasType c g e bool → ((y : List ℕ) (k : JavaType) → g y ≡ Some k → d y ≡ true → SetUnder w here.round n e y) → Guards d a f e
  guards d t under =
      record { by = λ y ay dy. let k : Typed g y = type_of g y (s.known y ay) in condition_reads c g (with_name y f) e bool t (record { by = λ l j m v. leaf_read y (under y k.type k.is dy) l j m v }) }

-- the condition of an `if`
pub if_guards : (w : Setting) → Sound w → (c : Frame) (r : Round) (previous : Option Statement) (at : Span) (e : Expression) (p : Statements) (n m : ℕ) (l : Option Types) (g z : Types) (a f : Set) → Sight w n (depth (site_of r previous (tree.If at e p))) g a f → slice_get w.sites n ≡ Some (site_of r previous (tree.If at e p)) → AllStand w.sites (in_branch r n e true) None p (suc n) m → HasType c g e bool → TypedStatements c l g p z → Guards (all_set p) a f e
if_guards w u c r previous at e p n m l g z a f s get all t typed =
    guards w u c n (depth (site_of r previous (tree.If at e p))) g a f s (site_of r previous (tree.If at e p)) get refl e refl (all_set p) t (λ y k i dy. record { holds = true; from = suc n; set = all_set_in c w.sites (in_branch r n e true) None p (suc n) m all l g z typed y k i dy })

-- the condition of an `if` with two branches
pub choice_guards : (w : Setting) → Sound w → (c : Frame) (r : Round) (previous : Option Statement) (at : Span) (e : Expression) (p q : Statements) (n m o : ℕ) (l : Option Types) (g z z' : Types) (a f : Set) → Sight w n (depth (site_of r previous (tree.IfElse at e p q))) g a f → slice_get w.sites n ≡ Some (site_of r previous (tree.IfElse at e p q)) → AllStand w.sites (in_branch r n e true) None p (suc n) m → AllStand w.sites (in_branch r n e false) None q m o → HasType c g e bool → TypedStatements c l g p z → TypedStatements c l g q z' → Guards (λ y. all_set p y || all_set q y) a f e
choice_guards w u c r previous at e p q n m o l g z z' a f s get all other t typed typed' =
    guards w u c n (depth (site_of r previous (tree.IfElse at e p q))) g a f s (site_of r previous (tree.IfElse at e p q)) get refl e refl (λ y. all_set p y || all_set q y) t
    (λ y k i dy. ⊎_elim
    (λ h. record { holds = true; from = suc n; set = all_set_in c w.sites (in_branch r n e true) None p (suc n) m all l g z typed y k i h })
    (λ h. record { holds = false; from = m; set = all_set_in c w.sites (in_branch r n e false) None q m o other l g z' typed' y k i h })
    (or_cases (all_set p y) (all_set q y) dy))

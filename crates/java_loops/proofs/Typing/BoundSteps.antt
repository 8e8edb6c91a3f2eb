-- What names are bound to at the sites of a typed loop: a declaration and a loop bind a name behind their site, and
-- what is declared further in leaves the visible names as they were.
use Rattle.std.proofs.Common.{◌≡◌, ℕ, zero, suc, ◌+◌, Bool, true, false, List, [], ◌∷◌, Option, Some, None, refl, ap, ◌∙◌, cond, take, bytes_eq, slice_get, arith}
use Rattle.std.proofs.lemmas.Bool.{cond-false}
use Rattle.qbs_base.specs.declared.span.Span.{Span}
use Rattle.java_ast.specs.Tree as tree
use Rattle.java_ast.specs.Tree.{Spelled, Expression, Statement, Statements, Nothing, Then}
use Rattle.java_mean.specs.declared.types.JavaType.{JavaType}
use Rattle.java_mean.specs.declared.types.JavaType.TheVariants.{Of}
use Rattle.java_mean.specs.Types.{Types, with_type}
use Rattle.java_mean.specs.Typing.{Frame, TypedStatement, declare, assign, add, sort, when as when_typed, choose as choose_typed, for_each, for_each_new, while_true, print, return_none, return_value, leave, TypedStatements}
use Rattle.java_mean.proofs.TypedRuns.{extends_statement}
use Rattle.loop_text.specs.Statements.Fragment.{is_name}
use Rattle.loop_text.specs.declared.sites.bindings.Binding.{Binding}
use Rattle.loop_text.specs.declared.sites.bindings.Binding.TheVariants.{Row, Local, Outer}
use Rattle.loop_text.specs.Sites.Sites.{Site, Round, bound_by, bound_after, binding_at, counted_row, in_branch}
use Rattle.java_loops.proofs.Typing.BoundTyping.{swapped, typed_next, typed_if, typed_choice, TypedEach, over, over_new, typed_each, typed_while, new_other, seen_with, row_new}
use Rattle.java_loops.proofs.Standing.Standing.{is_single, site_of, Stands, single, when, choose, walks, repeats, AllStand, nothing, next, Sees}

-- ---- One site further

here_bound : (x : List ℕ) (k m : ℕ) (y s : Site) (b : Binding) → k ≡ m → y ≡ s → bound_by x k y.statement b ≡ bound_by x m s.statement b
here_bound x k m y s b e q = ap (λ i. bound_by x i y.statement b) e ∙ ap (λ (z : Site). bound_by x m z.statement b) q

bound_from : (x : List ℕ) (k n m : ℕ) (sites : List Site) (s : Site) (b : Binding) → k + n ≡ m → slice_get sites n ≡ Some s → bound_after x k b (take (suc n) sites) ≡ bound_by x m s.statement (bound_after x k b (take n sites))
bound_from x k n m [] s b e q = absurd cc
bound_from x k zero m (y ∷ ys) s b e q = here_bound x k m y s b (omega arith) cc
bound_from x k (suc n) m (y ∷ ys) s b e q = bound_from x (suc k) n m ys s (bound_by x k y.statement b) (omega arith) q

pub bound_next : (sites : List Site) (n : ℕ) (s : Site) (x : List ℕ) → slice_get sites n ≡ Some s → binding_at sites (suc n) x ≡ bound_by x n s.statement (binding_at sites n x)
bound_next sites n s x q = bound_from x 0 n n sites s Outer (omega arith) q

-- ---- What is visible is bound as before

single_bound : (c : Frame) (l : Option Types) (g h : Types) (s : Statement) → TypedStatement c l g s h → is_single s ≡ true → (x : List ℕ) (k : JavaType) → g x ≡ Some k → (n : ℕ) (b : Binding) → bound_by x n s b ≡ b
single_bound c _ _ _ _ (declare l g at ty y e j new q t) one x k s n b = cond-false (bytes_eq y x) (Local n) b (new_other g x y k new s)
single_bound c _ _ _ _ (assign l g at y e j i t) one x k s n b = refl
single_bound c _ _ _ _ (add l g at y e j a i has t) one x k s n b = refl
single_bound c _ _ _ _ (sort l g at y keys down a i) one x k s n b = refl
single_bound c _ _ _ _ (when_typed l g h at e p t u) one x k s n b = refl
single_bound c _ _ _ _ (choose_typed l g h h' at e p q t u v) one x k s n b = refl
single_bound c _ _ _ _ (for_each l g h at ty y e p j a new t has u) one x k s n b = absurd cc
single_bound c _ _ _ _ (for_each_new l g h at ty y e p j new q isnew u) one x k s n b = absurd cc
single_bound c _ _ _ _ (while_true l g h at e p t u) one x k s n b = absurd cc
single_bound c _ _ _ _ (print l g at e ty t) one x k s n b = refl
single_bound c _ _ _ _ (return_none l g at i) one x k s n b = refl
single_bound c _ _ _ _ (return_value l g at e j i t) one x k s n b = refl
single_bound c _ _ _ _ (leave j g at ex) one x k s n b = refl

-- the name of a loop's row is new
pub new_row : (g : Types) (x y : List ℕ) (k : JavaType) (n : ℕ) (b : Binding) → g y ≡ None → g x ≡ Some k → cond (bytes_eq y x) (Row n) b ≡ b
new_row g x y k n b new s = cond-false (bytes_eq y x) (Row n) b (new_other g x y k new s)

each_new : (c : Frame) (g : Types) (y : List ℕ) (e : Expression) (p : Statements) → TypedEach c g y e p → g y ≡ None
each_new c g y e p (over h k a new t has u) = new
each_new c g y e p (over_new h k new isnew u) = new

mutual
  pub bound_past : (c : Frame) (sites : List Site) (r : Round) (previous : Option Statement) (s : Statement) (n m : ℕ) → Stands sites r previous s n m → (l : Option Types) (g h : Types) → TypedStatement c l g s h → (x : List ℕ) (k : JavaType) → g x ≡ Some k → binding_at sites m x ≡ binding_at sites n x
  bound_past c sites _ _ _ _ _ (single r previous s n one get) l g h t x k i =
      bound_next sites n (site_of r previous s) x get ∙ single_bound c l g h s t one x k i n (binding_at sites n x)
  bound_past c sites _ _ _ _ _ (when r previous at e p n m get all) l g h t x k i =
      let u = typed_if c l g h at e p t in
      all_bound_past c sites _ _ p (suc n) m all l g u.branch.last u.branch.body x k i ∙ bound_next sites n (site_of r previous (tree.If at e p)) x get
  bound_past c sites _ _ _ _ _ (choose r previous at e p q n m o get all other) l g h t x k i =
      let u = typed_choice c l g h at e p q t in
      all_bound_past c sites _ _ q m o other l g u.other.last u.other.body x k i ∙ all_bound_past c sites _ _ p (suc n) m all l g u.branch.last u.branch.body x k i ∙ bound_next sites n (site_of r previous (tree.IfElse at e p q)) x get
  bound_past c sites _ _ _ _ _ (walks r previous at ty y e p n m get all) l g h t x k i =
      elim (typed_each c l g h at ty y e p t) [
        | over z j a new v has u ↦ all_bound_past c sites _ _ p (suc n) m all (Some (with_type y (Some (Of a)) g)) (with_type y (Some (Of a)) g) z u x k (seen_with g x y (Some (Of a)) k new i) ∙ bound_next sites n (site_of r previous (tree.ForEach at ty y e p)) x get ∙ new_row g x y k n (binding_at sites n x) new i
        | over_new z j new isnew u ↦ all_bound_past c sites _ _ p (suc n) m all (Some (with_type y (Some j) g)) (with_type y (Some j) g) z u x k (seen_with g x y (Some j) k new i) ∙ bound_next sites n (site_of r previous (tree.ForEach at ty y e p)) x get ∙ new_row g x y k n (binding_at sites n x) new i
      ]
  bound_past c sites _ _ _ _ _ (repeats r previous at e p n m get all) l g h t x k i =
      let u = typed_while c l g h at e p t in
      all_bound_past c sites _ _ p (suc n) m all (Some g) g u.branch.last u.branch.body x k i ∙ bound_next sites n (site_of r previous (tree.While at e p)) x get ∙ cond-false (is_name (counted_row p) x) (Row n) (binding_at sites n x) (row_new c (Some g) g u.branch.last p u.branch.body x k i)

  pub all_bound_past : (c : Frame) (sites : List Site) (r : Round) (previous : Option Statement) (p : Statements) (n m : ℕ) → AllStand sites r previous p n m → (l : Option Types) (g h : Types) → TypedStatements c l g p h → (x : List ℕ) (k : JavaType) → g x ≡ Some k → binding_at sites m x ≡ binding_at sites n x
  all_bound_past c sites _ _ _ _ _ (nothing r previous n) l g h t x k i = refl
  all_bound_past c sites _ _ _ _ _ (next r previous s p n m o first rest) l g h t x k i =
      let u = typed_next c l g h s p t in
      all_bound_past c sites _ _ p m o rest l u.middle u.last u.rest x k (extends_statement c l g u.middle s u.first x k i) ∙ bound_past c sites _ _ s n m first l g u.middle u.first x k i

-- what is visible is bound before the other branch as before the `if`
pub bound_other : (c : Frame) (sites : List Site) (r : Round) (previous : Option Statement) (at : Span) (e : Expression) (p q : Statements) (n m : ℕ) → slice_get sites n ≡ Some (site_of r previous (tree.IfElse at e p q)) → AllStand sites (in_branch r n e true) None p (suc n) m → (l : Option Types) (g h : Types) → TypedStatements c l g p h → (x : List ℕ) (k : JavaType) → g x ≡ Some k → binding_at sites m x ≡ binding_at sites n x
bound_other c sites r previous at e p q n m get all l g h t x k i =
    all_bound_past c sites (in_branch r n e true) None p (suc n) m all l g h t x k i ∙ bound_next sites n (site_of r previous (tree.IfElse at e p q)) x get

-- ---- The visible names

-- with this name bound so
abbrev pub with_bound : List ℕ → Binding → (List ℕ → Binding) → List ℕ → Binding
with_bound y b bound = λ x. cond (bytes_eq y x) b (bound x)

-- behind a statement what was visible before is bound as before
pub sees_past : (c : Frame) (sites : List Site) (r : Round) (previous : Option Statement) (s : Statement) (n m : ℕ) (l : Option Types) (g h : Types) (bound : List ℕ → Binding) → Stands sites r previous s n m → TypedStatement c l g s h → Sees sites n g bound → Sees sites m g bound
sees_past c sites r previous s n m l g h bound stands t sees = record { by = λ x k i. bound_past c sites r previous s n m stands l g h t x k i ∙ sees.by x k i }

with_step : (bound : List ℕ → Binding) (b now : Binding) (q : Bool) (o : Option JavaType) (g : Types) (x : List ℕ) (k : JavaType) → cond q o (g x) ≡ Some k → (g x ≡ Some k → now ≡ bound x) → cond q b now ≡ cond q b (bound x)
with_step bound b now true o g x k e h = refl
with_step bound b now false o g x k e h = h e

-- behind a declaration its name is bound to that
pub sees_declared : (sites : List Site) (r : Round) (previous : Option Statement) (at : Span) (ty : Spelled) (y : List ℕ) (e : Expression) (n : ℕ) (g : Types) (o : Option JavaType) (bound : List ℕ → Binding) → slice_get sites n ≡ Some (site_of r previous (tree.Declare at ty y e)) → Sees sites n g bound → Sees sites (suc n) (with_type y o g) (with_bound y (Local n) bound)
sees_declared sites r previous at ty y e n g o bound get sees =
    record { by = λ x k i. bound_next sites n (site_of r previous (tree.Declare at ty y e)) x get ∙ with_step bound (Local n) (binding_at sites n x) (bytes_eq y x) o g x k i (sees.by x k) }

-- in a for-each its variable is bound to the row
pub sees_row : (sites : List Site) (r : Round) (previous : Option Statement) (at : Span) (ty : Spelled) (y : List ℕ) (e : Expression) (p : Statements) (n : ℕ) (g : Types) (o : Option JavaType) (bound : List ℕ → Binding) → slice_get sites n ≡ Some (site_of r previous (tree.ForEach at ty y e p)) → Sees sites n g bound → Sees sites (suc n) (with_type y o g) (with_bound y (Row n) bound)
sees_row sites r previous at ty y e p n g o bound get sees =
    record { by = λ x k i. bound_next sites n (site_of r previous (tree.ForEach at ty y e p)) x get ∙ with_step bound (Row n) (binding_at sites n x) (bytes_eq y x) o g x k i (sees.by x k) }

-- in a loop that counts the variable that its body declares first is bound to the row
pub sees_counted : (sites : List Site) (r : Round) (previous : Option Statement) (at at' : Span) (c : Expression) (ty : Spelled) (y : List ℕ) (e : Expression) (p : Statements) (n : ℕ) (g : Types) (o : Option JavaType) (bound : List ℕ → Binding) → slice_get sites n ≡ Some (site_of r previous (tree.While at c (Then (tree.Declare at' ty y e) p))) → Sees sites n g bound → Sees sites (suc n) (with_type y o g) (with_bound y (Row n) bound)
sees_counted sites r previous at at' c ty y e p n g o bound get sees =
    record { by = λ x k i. bound_next sites n (site_of r previous (tree.While at c (Then (tree.Declare at' ty y e) p))) x get ∙ ap (λ q. cond q (Row n) (binding_at sites n x)) (swapped y x (bytes_eq y x) refl) ∙ with_step bound (Row n) (binding_at sites n x) (bytes_eq y x) o g x k i (sees.by x k) }

-- an `if` binds nothing
pub sees_branch : (sites : List Site) (s : Site) (n : ℕ) (g : Types) (bound : List ℕ → Binding) → ((x : List ℕ) (b : Binding) → bound_by x n s.statement b ≡ b) → slice_get sites n ≡ Some s → Sees sites n g bound → Sees sites (suc n) g bound
sees_branch sites s n g bound same get sees = record { by = λ x k i. bound_next sites n s x get ∙ same x (binding_at sites n x) ∙ sees.by x k i }

-- before a loop all names are bound outside of it
pub sees_outer : (sites : List Site) (g : Types) → Sees sites 0 g (λ x. Outer)
sees_outer sites g = record { by = λ x k i. refl }

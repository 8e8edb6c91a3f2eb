-- Each local flag of a loop of the kernel form has one update, and its accumulator stands at its number.
use Rattle.std.proofs.Common.{◌≡◌, ℕ, zero, suc, ◌+◌, ◌<◌, Bool, true, false, List, [], ◌∷◌, take, Some, refl, sym, ap, ◌∙◌, cond, slice_get, bytes_eq, arith, ◌⊎◌, inl, inr, ⊎_elim}
use Rattle.java_ast.specs.Tree as tree
use Rattle.java_ast.specs.Tree.{Statement}
use Rattle.loop_text.proofs.Trees.SameNames.{names_equal}
use Rattle.loop_text.specs.Statements.Fragment.{is_name}
use Rattle.loop_text.specs.Sites.Sites.{Site, Binding, Row, Local, Outer, bound_by, bound_after, binding_at, counted_row, declared_name}

-- ---- Names of local variables

-- the site that declares a name
pub record DeclaredAt (sites : List Site) (d n : ℕ) (x : List ℕ) : Type 0 where
  pub site : Site
  pub there : slice_get sites d ≡ Some site
  pub name : declared_name site.statement ≡ Some x
  pub before : d < n

record DeclaredBy (x : List ℕ) (d n : ℕ) (s : Statement) : Type 0 where
  number : n ≡ d
  name : declared_name s ≡ Some x

declare_step : (x y : List ℕ) (n d : ℕ) (b : Binding) (q : Bool) → bytes_eq y x ≡ q → cond q (Local n) b ≡ Local d → (b ≡ Local d) ⊎ ((n ≡ d) × (y ≡ x))
declare_step x y n d b true e h = inr (cc, names_equal y x e)
declare_step x y n d b false e h = inl h

row_step : (n d : ℕ) (b : Binding) (q : Bool) → cond q (Row n) b ≡ Local d → b ≡ Local d
row_step n d b true h = absurd cc
row_step n d b false h = h

local_by : (x : List ℕ) (n d : ℕ) (s : Statement) (b : Binding) → bound_by x n s b ≡ Local d → (b ≡ Local d) ⊎ DeclaredBy x d n s
local_by x n d (tree.Declare at ty y e) b h = ⊎_elim (λ k. inl k) (λ k. inr (record { number = k.0; name = ap Some k.1 })) (declare_step x y n d b (bytes_eq y x) refl h)
local_by x n d (tree.ForEach at ty y e p) b h = inl (row_step n d b (bytes_eq y x) h)
local_by x n d (tree.While at e p) b h = inl (row_step n d b (is_name (counted_row p) x) h)
local_by x n d (tree.Assign at y e) b h = inl h
local_by x n d (tree.Add at y e) b h = inl h
local_by x n d (tree.Sort at y keys downs) b h = inl h
local_by x n d (tree.If at e p) b h = inl h
local_by x n d (tree.IfElse at e p q) b h = inl h
local_by x n d (tree.Print at e) b h = inl h
local_by x n d (tree.Return at e) b h = inl h
local_by x n d (tree.Break at) b h = inl h

record Among (sites : List Site) (k d n : ℕ) (x : List ℕ) : Type 0 where
  index : ℕ
  site : Site
  there : slice_get sites index ≡ Some site
  name : declared_name site.statement ≡ Some x
  number : k + index ≡ d
  before : index < n

local_among : (x : List ℕ) (k d n : ℕ) (sites : List Site) (b : Binding) → bound_after x k b (take n sites) ≡ Local d → (b ≡ Local d) ⊎ Among sites k d n x
local_among x k d zero sites b h = inl h
local_among x k d (suc n) [] b h = inl h
local_among x k d (suc n) (s ∷ ss) b h =
    ⊎_elim
    (λ e. ⊎_elim (λ f. inl f) (λ f. inr (record { index = 0; site = s; there = refl; name = f.name; number = let g = f.number in omega (arith, g); before = omega arith })) (local_by x k d s.statement b e))
    (λ e. inr (record { index = suc e.index; site = e.site; there = e.there; name = e.name; number = let g = e.number in omega (arith, g); before = let g = e.before in omega (arith, g) }))
    (local_among x (suc k) d n ss (bound_by x k s.statement b) h)

-- a local variable is declared at its number, before the place
pub local_declared : (sites : List Site) (n d : ℕ) (x : List ℕ) → binding_at sites n x ≡ Local d → DeclaredAt sites d n x
local_declared sites n d x h =
    ⊎_elim (λ e. absurd cc) (λ (e : Among sites 0 d n x). let same : e.index ≡ d = let g = e.number in omega (arith, g) in record { site = e.site; there = ap (slice_get sites) (sym same) ∙ e.there; name = e.name; before = let g = e.before in omega (arith, g, same) }) (local_among x 0 d n sites Outer h)

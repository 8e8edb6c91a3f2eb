-- What the updates of a nest read.
use Rattle.std.proofs.Common.{◌≡◌, ℕ, Bool, true, false, List, Option, Some, None, refl, cond, slice_get, ◌⊎◌, inl, inr, ⊎_elim}
use Rattle.qbs_base.specs.declared.span.Span.{Span}
use Rattle.java_ast.specs.declared.tree.Op.{Op}
use Rattle.java_ast.specs.Tree as tree
use Rattle.java_ast.specs.Tree.{Expression, Statement}
use Rattle.java_mean.specs.declared.types.JavaType.{JavaType}
use Rattle.java_mean.specs.declared.types.Single.{Single}
use Rattle.java_mean.specs.Types.{Types}
use Rattle.java_mean.specs.Typing.{Frame, Has, HasType}
use Rattle.java_loops.specs.Walks.Nests.{with_name}
use Rattle.java_loops.specs.Walks.Reads.{Set, Reads}
use Rattle.java_loops.proofs.Walks.Names.{reads_with}
use Rattle.loop_text.specs.Kernel.KernelForms.{Form, adds, counts, sums, takes, marks, other, adds_row, adds_taken, sums_column, takes_column, sum_form, assigned_form, form_of, fits_local}
use Rattle.java_loops.specs.Kernel.KernelForms.{fits, fits_outer}
use Rattle.loop_text.specs.Kernel.KernelLists.{source_of}
use Rattle.java_loops.specs.Kernel.Setting.{Setting}
use Rattle.loop_text.specs.Statements.Setting.{is_add, is_found, is_variable, is_literal_number}
use Rattle.loop_text.specs.declared.sites.bindings.Binding.{Binding}
use Rattle.loop_text.specs.declared.sites.bindings.Binding.TheVariants.{Row, Local, Outer}
use Rattle.loop_text.specs.Sites.Sites.{Site, Round, RowColumn, binding_at, row_at, row_column_at}
use Rattle.java_loops.proofs.Nested.NestBest.{variable_reads}
use Rattle.java_loops.proofs.Nested.NestConditions.{typed_var, typed_binary, row_at_reads, column_reads}
use Rattle.java_loops.proofs.Nested.NestCounter.{source_outside}
use Rattle.java_loops.proofs.Nested.NestRules.{Unbroken, formed_at, listed_at}
use Rattle.java_loops.proofs.Nested.NestSight.{Sight}
use Rattle.java_loops.proofs.Standing.Standing.{site_of}

-- ---- Forms

abbrev is_other : Form → Bool
is_other other = true
is_other _ = false

local_known : (sites : List Site) (s : Site) (d : ℕ) (form : Form) → fits_local sites s d form ≡ true → is_other form ≡ false
local_known sites s d (adds t) h = refl
local_known sites s d counts h = refl
local_known sites s d (sums c) h = refl
local_known sites s d (takes c) h = refl
local_known sites s d (marks b) h = refl
local_known sites s d other h = absurd cc

outer_known : (w : Setting) (n : ℕ) (s : Site) (x : List ℕ) (form : Form) → fits_outer w n s x form ≡ true → is_other form ≡ false
outer_known w n s x (adds t) h = refl
outer_known w n s x counts h = refl
outer_known w n s x (sums c) h = refl
outer_known w n s x (takes c) h = refl
outer_known w n s x (marks b) h = refl
outer_known w n s x other h = absurd cc

-- an update that fits has one of the forms
form_known : (w : Setting) (n : ℕ) (s : Site) (x : List ℕ) (b : Binding) → fits w n s x b ≡ true → is_other (form_of w.sites n s.statement) ≡ false
form_known w n s x (Row j) h = absurd cc
form_known w n s x (Local d) h = local_known w.sites s d (form_of w.sites n s.statement) h
form_known w n s x Outer h = outer_known w n s x (form_of w.sites n s.statement) h

sums_found : (o : Option RowColumn) → is_other (sums_column o) ≡ false → is_found o ≡ true
sums_found (Some c) h = refl
sums_found None h = absurd cc

takes_found : (o : Option RowColumn) → is_other (takes_column o) ≡ false → is_found o ≡ true
takes_found (Some c) h = refl
takes_found None h = absurd cc

row_found : (o : Option ℕ) → is_other (adds_row o) ≡ false → is_found o ≡ true
row_found (Some j) h = refl
row_found None h = absurd cc

taken_found : (row : Option ℕ) (o : Option RowColumn) → is_other (adds_taken row o) ≡ false → (is_found row ≡ true) ⊎ (is_found o ≡ true)
taken_found row (Some c) h = inr refl
taken_found row None h = inl (row_found row h)

number_reads : (f : Set) (n : ℕ) (e : Expression) → is_literal_number n e ≡ true → Reads f e
number_reads f n (tree.Lit at x) h = tt
number_reads f n (tree.Var at x) h = absurd cc
number_reads f n (tree.Field at e name) h = absurd cc
number_reads f n (tree.Binary at op p q) h = absurd cc
number_reads f n (tree.Not at e) h = absurd cc
number_reads f n (tree.Equals at p q) h = absurd cc
number_reads f n (tree.Size at x) h = absurd cc
number_reads f n (tree.Get at x e) h = absurd cc
number_reads f n (tree.Contains at x e) h = absurd cc
number_reads f n (tree.Fetch at table) h = absurd cc
number_reads f n (tree.Query at ty text es) h = absurd cc
number_reads f n (tree.QueryLong at text es) h = absurd cc
number_reads f n (tree.QueryBoolean at text es) h = absurd cc
number_reads f n (tree.NewList at) h = absurd cc
number_reads f n (tree.NewSet at) h = absurd cc
number_reads f n (tree.NewSetOf at e) h = absurd cc

module _ (w : Setting) (u : Unbroken w) (c : Frame) (n level : ℕ) (g : Types) (a f : Set) (s : Sight w n level g a f) where
  side_reads : (e : Expression) (k : JavaType) → HasType c g e k → (q : Bool) → is_literal_number 1 e ≡ q → is_other (cond q counts (sums_column (row_column_at w.sites n e))) ≡ false → Reads f e
  side_reads e k t true i h = number_reads f 1 e i
  side_reads e k t false i h = column_reads w u c n level g a f s e k t (sums_found (row_column_at w.sites n e) h)

  right_reads : (x : List ℕ) (p q : Expression) (k : JavaType) → HasType c g p k → (b : Bool) → is_variable x q ≡ b → is_other (cond b (cond (is_literal_number 1 p) counts (sums_column (row_column_at w.sites n p))) other) ≡ false → Reads (with_name x f) p × Reads (with_name x f) q
  right_reads x p q k t true i h = (reads_with p f x (side_reads p k t (is_literal_number 1 p) refl h), variable_reads f x q i)
  right_reads x p q k t false i h = absurd cc

  sum_reads : (x : List ℕ) (p q : Expression) (k : JavaType) → HasType c g p k → HasType c g q k → (b : Bool) → is_variable x p ≡ b → is_other (cond b (cond (is_literal_number 1 q) counts (sums_column (row_column_at w.sites n q))) (cond (is_variable x q) (cond (is_literal_number 1 p) counts (sums_column (row_column_at w.sites n p))) other)) ≡ false → Reads (with_name x f) p × Reads (with_name x f) q
  sum_reads x p q k t v true i h = (variable_reads f x p i, reads_with q f x (side_reads q k v (is_literal_number 1 q) refl h))
  sum_reads x p q k t v false i h = right_reads x p q k t (is_variable x q) refl h

  binary_reads : (x : List ℕ) (at : Span) (op : Op) (p q : Expression) (k : JavaType) → HasType c g (tree.Binary at op p q) k → (b : Bool) → is_other (cond b (sum_form w.sites n x p q) other) ≡ false → Reads (with_name x f) p × Reads (with_name x f) q
  binary_reads x at op p q k t true h = let two = typed_binary c g at op p q k t in sum_reads x p q two.type two.left two.right (is_variable x p) refl h
  binary_reads x at op p q k t false h = absurd cc

  assigned_reads : (x : List ℕ) (e : Expression) (k : JavaType) → HasType c g e k → is_other (assigned_form w.sites n x e) ≡ false → Reads (with_name x f) e
  assigned_reads x (tree.Lit at y) k t h = tt
  assigned_reads x (tree.Var at y) k t h = absurd cc
  assigned_reads x (tree.Field at e name) k t h = reads_with (tree.Field at e name) f x (column_reads w u c n level g a f s (tree.Field at e name) k t (takes_found (row_column_at w.sites n (tree.Field at e name)) h))
  assigned_reads x (tree.Binary at op p q) k t h = binary_reads x at op p q k t (is_add op) h
  assigned_reads x (tree.Not at e) k t h = absurd cc
  assigned_reads x (tree.Equals at p q) k t h = absurd cc
  assigned_reads x (tree.Size at y) k t h = absurd cc
  assigned_reads x (tree.Get at y e) k t h = absurd cc
  assigned_reads x (tree.Contains at y e) k t h = absurd cc
  assigned_reads x (tree.Fetch at table) k t h = absurd cc
  assigned_reads x (tree.Query at ty text es) k t h = absurd cc
  assigned_reads x (tree.QueryLong at text es) k t h = absurd cc
  assigned_reads x (tree.QueryBoolean at text es) k t h = absurd cc
  assigned_reads x (tree.NewList at) k t h = absurd cc
  assigned_reads x (tree.NewSet at) k t h = absurd cc
  assigned_reads x (tree.NewSetOf at e) k t h = absurd cc

  -- an assignment reads its variable and what is left as it is
  pub assign_reads : (r : Round) (previous : Option Statement) (at : Span) (x : List ℕ) (e : Expression) (k : JavaType) → slice_get w.sites n ≡ Some (site_of r previous (tree.Assign at x e)) → HasType c g e k → Reads (with_name x f) e
  assign_reads r previous at x e k get t =
      let here : Site = site_of r previous (tree.Assign at x e) in
      assigned_reads x e k t (form_known w n here x (binding_at w.sites n x) (formed_at w u n here get))

  -- an `add` adds a row or a column
  pub add_reads : (r : Round) (previous : Option Statement) (at : Span) (x : List ℕ) (e : Expression) (k : JavaType) → slice_get w.sites n ≡ Some (site_of r previous (tree.Add at x e)) → HasType c g e k → Reads (with_name x f) e
  add_reads r previous at x e k get t =
      let here : Site = site_of r previous (tree.Add at x e) in
      reads_with e f x (⊎_elim (λ row. row_at_reads w u c n level g a f s e k t row) (λ column. column_reads w u c n level g a f s e k t column) (taken_found (row_at w.sites n e) (row_column_at w.sites n e) (form_known w n here x (binding_at w.sites n x) (formed_at w u n here get))))

  -- ---- Lists

  source_reads : (e : Expression) (k : JavaType) (j : Single) → HasType c g e k → Has k j → is_found (source_of w.fragment.run e) ≡ true → Reads f e
  source_reads (tree.Lit at x) k j t has h = absurd cc
  source_reads (tree.Var at x) k j t has h = s.outer x k (typed_var c g at x k t) (s.lists x k j (typed_var c g at x k t) has) (source_outside w u at x h)
  source_reads (tree.Field at e name) k j t has h = absurd cc
  source_reads (tree.Binary at op p q) k j t has h = absurd cc
  source_reads (tree.Not at e) k j t has h = absurd cc
  source_reads (tree.Equals at p q) k j t has h = absurd cc
  source_reads (tree.Size at x) k j t has h = absurd cc
  source_reads (tree.Get at x e) k j t has h = absurd cc
  source_reads (tree.Contains at x e) k j t has h = absurd cc
  source_reads (tree.Fetch at table) k j t has h = tt
  source_reads (tree.Query at ty text es) k j t has h = absurd cc
  source_reads (tree.QueryLong at text es) k j t has h = absurd cc
  source_reads (tree.QueryBoolean at text es) k j t has h = absurd cc
  source_reads (tree.NewList at) k j t has h = absurd cc
  source_reads (tree.NewSet at) k j t has h = absurd cc
  source_reads (tree.NewSetOf at e) k j t has h = absurd cc

  -- the list of a for-each is left as it is
  pub list_reads : (r : Round) (previous : Option Statement) (at : Span) (ty : tree.Spelled) (x : List ℕ) (e : Expression) (b : tree.Statements) (k : JavaType) (j : Single) → slice_get w.sites n ≡ Some (site_of r previous (tree.ForEach at ty x e b)) → HasType c g e k → Has k j → Reads f e
  list_reads r previous at ty x e b k j get t has = source_reads e k j t has (listed_at w u n (site_of r previous (tree.ForEach at ty x e b)) get refl)

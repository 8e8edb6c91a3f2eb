-- What is visible at a site, on the way down from the loop.
use Rattle.std.proofs.Common.{◌≡◌, ℕ, suc, Bool, true, false, List, Option, Some, refl, sym, ap, ◌∙◌, subst, cond, bytes_eq, slice_get}
use Rattle.std.specs.Prelude.{if◌then◌else◌}
use Rattle.qbs_base.specs.declared.span.Span.{Span}
use Rattle.java_ast.specs.Tree as tree
use Rattle.java_ast.specs.Tree.{Spelled, Expression, Statement, Statements, Then}
use Rattle.java_mean.specs.declared.types.JavaType.{JavaType}
use Rattle.java_mean.specs.declared.types.JavaType.TheVariants.{Of}
use Rattle.java_mean.specs.declared.types.Single.TheVariants.{RowOf}
use Rattle.java_mean.specs.Types.{Types, with_type}
use Rattle.java_mean.specs.Typing.{bool}
use Rattle.java_mean.proofs.Puts.{names_equal, name_same}
use Rattle.loop_text.specs.Statements.Loops.{is_loop}
use Rattle.java_loops.specs.Lowering.Numbering.{loop_number, table_of_loop}
use Rattle.java_loops.specs.Kernel.Setting.{Setting}
use Rattle.loop_text.specs.declared.sites.bindings.Binding.{Binding}
use Rattle.loop_text.specs.declared.sites.bindings.Binding.TheVariants.{Row, Local, Outer}
use Rattle.loop_text.specs.Sites.Sites.{Round, Site, binding_at}
use Rattle.java_loops.proofs.Typing.BoundSteps.{bound_next}
use Rattle.java_loops.proofs.Numbers.Numberings.{RowSeen, Sighted}
use Rattle.java_loops.proofs.Standing.Standing.{site_of}

-- before the loop all names are those from outside
pub sighted_first : (w : Setting) (loops : List ℕ → Option ℕ) → Sighted w 0 w.types loops
sighted_first w loops = record { rows = λ x k j i b. absurd (outer_row j b); outer = λ x k i b. i; locals = λ x k d i b. absurd (outer_local d b) }
  where
    outer_row : (j : ℕ) → Outer ≡ Row j → ⊥
    outer_row j e = absurd cc

    outer_local : (d : ℕ) → Outer ≡ Local d → ⊥
    outer_local d e = absurd cc

-- where the visible names are bound as before, as behind a statement that declares nothing and in a branch
pub sighted_kept : (w : Setting) (n m : ℕ) (g : Types) (loops : List ℕ → Option ℕ) → ((x : List ℕ) (k : JavaType) → g x ≡ Some k → binding_at w.sites m x ≡ binding_at w.sites n x) → Sighted w n g loops → Sighted w m g loops
sighted_kept w n m g loops kept s =
    record {
      rows = λ x k j i b. s.rows x k j i (sym (kept x k i) ∙ b);
      outer = λ x k i b. s.outer x k i (sym (kept x k i) ∙ b);
      locals = λ x k d i b. s.locals x k d i (sym (kept x k i) ∙ b);
    }

-- behind this site the name is bound so, and all else as before
abbrev Binds : Setting → ℕ → ℕ → List ℕ → Binding → Type 0
Binds w n m x b = (y : List ℕ) → binding_at w.sites m y ≡ cond (bytes_eq x y) b (binding_at w.sites n y)

-- ---- Into a loop

-- with the number of one more loop in sight
abbrev pub with_row : List ℕ → ℕ → (List ℕ → Option ℕ) → List ℕ → Option ℕ
with_row x j loops = λ y. if bytes_eq x y then Some j else loops y

row_rows : (w : Setting) (n m : ℕ) (g : Types) (loops : List ℕ → Option ℕ) (x y : List ℕ) (t : Site) (k : JavaType) (j : ℕ) (q : Bool) → slice_get w.sites n ≡ Some t → is_loop t.statement ≡ true → Sighted w n g loops → bytes_eq x y ≡ q → cond q (Some (Of (RowOf (table_of_loop w.schema t.statement)))) (g y) ≡ Some k → cond q (Row n) (binding_at w.sites n y) ≡ Row j → RowSeen w (with_row x (loop_number w.sites n) loops) y k j
row_rows w n m g loops x y t k j true there loop s e i b =
    let same : n ≡ j = cc in
    record { number = ap (λ z. cond z (Some (loop_number w.sites n)) (loops y)) e ∙ ap (λ z. Some (loop_number w.sites z)) same; site = t; there = ap (slice_get w.sites) (sym same) ∙ there; is_loop = loop; type = (let l : Some (Of (RowOf (table_of_loop w.schema t.statement))) ≡ Some k = i in cc) }
row_rows w n m g loops x y t k j false there loop s e i b =
    let r : RowSeen w loops y k j = s.rows y k j i b in
    record { number = ap (λ z. cond z (Some (loop_number w.sites n)) (loops y)) e ∙ r.number; site = r.site; there = r.there; is_loop = r.is_loop; type = r.type }

row_outer : (w : Setting) (n : ℕ) (g : Types) (loops : List ℕ → Option ℕ) (y : List ℕ) (o : Option JavaType) (k : JavaType) (q : Bool) → Sighted w n g loops → cond q o (g y) ≡ Some k → cond q (Row n) (binding_at w.sites n y) ≡ Outer → w.types y ≡ Some k
row_outer w n g loops y o k true s i b = absurd cc
row_outer w n g loops y o k false s i b = s.outer y k i b

row_locals : (w : Setting) (n : ℕ) (g : Types) (loops : List ℕ → Option ℕ) (y : List ℕ) (o : Option JavaType) (k : JavaType) (d : ℕ) (q : Bool) → Sighted w n g loops → cond q o (g y) ≡ Some k → cond q (Row n) (binding_at w.sites n y) ≡ Local d → k ≡ bool
row_locals w n g loops y o k d true s i b = absurd cc
row_locals w n g loops y o k d false s i b = s.locals y k d i b

row_sighted : (w : Setting) (n m : ℕ) (g : Types) (loops : List ℕ → Option ℕ) (x : List ℕ) (t : Site) → slice_get w.sites n ≡ Some t → is_loop t.statement ≡ true → Binds w n m x (Row n) → Sighted w n g loops → Sighted w m (with_type x (Some (Of (RowOf (table_of_loop w.schema t.statement)))) g) (with_row x (loop_number w.sites n) loops)
row_sighted w n m g loops x t there loop binds s =
    record {
      rows = λ y k j i b. row_rows w n m g loops x y t k j (bytes_eq x y) there loop s refl i (sym (binds y) ∙ b);
      outer = λ y k i b. row_outer w n g loops y (Some (Of (RowOf (table_of_loop w.schema t.statement)))) k (bytes_eq x y) s i (sym (binds y) ∙ b);
      locals = λ y k d i b. row_locals w n g loops y (Some (Of (RowOf (table_of_loop w.schema t.statement)))) k d (bytes_eq x y) s i (sym (binds y) ∙ b);
    }

-- In a for-each its variable is a row of the loop, where its type is the one that the loop spells.
pub sighted_each : (w : Setting) (n : ℕ) (g : Types) (loops : List ℕ → Option ℕ) (r : Round) (previous : Option Statement) (at : Span) (ty : Spelled) (x : List ℕ) (e : Expression) (p : Statements) (k : JavaType) → slice_get w.sites n ≡ Some (site_of r previous (tree.ForEach at ty x e p)) → k ≡ Of (RowOf (table_of_loop w.schema (tree.ForEach at ty x e p))) → Sighted w n g loops → Sighted w (suc n) (with_type x (Some k) g) (with_row x (loop_number w.sites n) loops)
sighted_each w n g loops r previous at ty x e p k there type s =
    subst (λ z. Sighted w (suc n) (with_type x (Some z) g) (with_row x (loop_number w.sites n) loops)) (sym type) (row_sighted w n (suc n) g loops x (site_of r previous (tree.ForEach at ty x e p)) there refl (λ y. bound_next w.sites n (site_of r previous (tree.ForEach at ty x e p)) y there) s)

name_turned : (x y : List ℕ) (p q : Bool) → bytes_eq x y ≡ p → bytes_eq y x ≡ q → q ≡ p
name_turned x y true true e f = refl
name_turned x y true false e f = let same : bytes_eq y x ≡ true = subst (λ z. bytes_eq z x ≡ true) (names_equal x y e) (name_same x) in absurd cc
name_turned x y false true e f = let same : bytes_eq x y ≡ true = subst (λ z. bytes_eq z y ≡ true) (names_equal y x f) (name_same y) in absurd cc
name_turned x y false false e f = refl

-- In a loop that counts the row that it takes first is a row of the loop.
pub sighted_counted : (w : Setting) (n : ℕ) (g : Types) (loops : List ℕ → Option ℕ) (r : Round) (previous : Option Statement) (at at' : Span) (ty : Spelled) (x : List ℕ) (c e : Expression) (p : Statements) (k : JavaType) → slice_get w.sites n ≡ Some (site_of r previous (tree.While at c (Then (tree.Declare at' ty x e) p))) → k ≡ Of (RowOf (table_of_loop w.schema (tree.While at c (Then (tree.Declare at' ty x e) p)))) → Sighted w n g loops → Sighted w (suc n) (with_type x (Some k) g) (with_row x (loop_number w.sites n) loops)
sighted_counted w n g loops r previous at at' ty x c e p k there type s =
    subst (λ z. Sighted w (suc n) (with_type x (Some z) g) (with_row x (loop_number w.sites n) loops)) (sym type) (row_sighted w n (suc n) g loops x (site_of r previous (tree.While at c (Then (tree.Declare at' ty x e) p))) there refl (λ y. bound_next w.sites n (site_of r previous (tree.While at c (Then (tree.Declare at' ty x e) p))) y there ∙ ap (λ q. cond q (Row n) (binding_at w.sites n y)) (name_turned x y (bytes_eq x y) (bytes_eq y x) refl refl)) s)

-- ---- Behind a declaration

declared_rows : (w : Setting) (n : ℕ) (g : Types) (loops : List ℕ → Option ℕ) (y : List ℕ) (k : JavaType) (j : ℕ) (q : Bool) → Sighted w n g loops → cond q (Some bool) (g y) ≡ Some k → cond q (Local n) (binding_at w.sites n y) ≡ Row j → RowSeen w loops y k j
declared_rows w n g loops y k j true s i b = absurd cc
declared_rows w n g loops y k j false s i b = s.rows y k j i b

declared_outer : (w : Setting) (n : ℕ) (g : Types) (loops : List ℕ → Option ℕ) (y : List ℕ) (k : JavaType) (q : Bool) → Sighted w n g loops → cond q (Some bool) (g y) ≡ Some k → cond q (Local n) (binding_at w.sites n y) ≡ Outer → w.types y ≡ Some k
declared_outer w n g loops y k true s i b = absurd cc
declared_outer w n g loops y k false s i b = s.outer y k i b

declared_locals : (w : Setting) (n : ℕ) (g : Types) (loops : List ℕ → Option ℕ) (y : List ℕ) (k : JavaType) (d : ℕ) (q : Bool) → Sighted w n g loops → cond q (Some bool) (g y) ≡ Some k → cond q (Local n) (binding_at w.sites n y) ≡ Local d → k ≡ bool
declared_locals w n g loops y k d true s i b = let l : Some bool ≡ Some k = i in cc
declared_locals w n g loops y k d false s i b = s.locals y k d i b

-- Behind the declaration of a flag its name is local, and a truth value.
pub sighted_declared : (w : Setting) (n : ℕ) (g : Types) (loops : List ℕ → Option ℕ) (r : Round) (previous : Option Statement) (at : Span) (ty : Spelled) (x : List ℕ) (e : Expression) → slice_get w.sites n ≡ Some (site_of r previous (tree.Declare at ty x e)) → Sighted w n g loops → Sighted w (suc n) (with_type x (Some bool) g) loops
sighted_declared w n g loops r previous at ty x e there s =
    let binds : Binds w n (suc n) x (Local n) = (λ y. bound_next w.sites n (site_of r previous (tree.Declare at ty x e)) y there) in
    record {
      rows = λ y k j i b. declared_rows w n g loops y k j (bytes_eq x y) s i (sym (binds y) ∙ b);
      outer = λ y k i b. declared_outer w n g loops y k (bytes_eq x y) s i (sym (binds y) ∙ b);
      locals = λ y k d i b. declared_locals w n g loops y k d (bytes_eq x y) s i (sym (binds y) ∙ b);
    }

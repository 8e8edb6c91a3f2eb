-- Where the statements of a loop stand among its sites, and what names are bound to there.
use Rattle.std.specs.Prelude.{◌≡◌, ℕ, suc, Bool, true, false, List, Option, Some, None, slice_get}
use Rattle.qbs_base.specs.declared.span.Span.{Span}
use Rattle.java_ast.specs.Tree as tree
use Rattle.java_ast.specs.Tree.{Spelled, Expression, Statement, Statements, Nothing, Then}
use Rattle.java_mean.specs.declared.types.JavaType.{JavaType}
use Rattle.java_mean.specs.Types.{Types}
use Rattle.loop_text.specs.declared.sites.bindings.Binding.{Binding}
use Rattle.loop_text.specs.Sites.Sites.{Site, Round, binding_at, in_loop, in_branch}

-- a statement without statements in it
abbrev pub is_single : Statement → Bool
is_single (tree.If at c p) = false
is_single (tree.IfElse at c p q) = false
is_single (tree.ForEach at ty x e b) = false
is_single (tree.While at c b) = false
is_single _ = true

abbrev pub site_of : Round → Option Statement → Statement → Site
site_of r previous s = record { statement = s; round = r; previous = previous }

-- The sites from the first number up to before the second are those of the statement, which stands in this
-- round behind the previous one, and those of the statements of a block.
mutual
  pub data Stands (sites : List Site) : Round → Option Statement → Statement → ℕ → ℕ → Type 0 where
    single : (r : Round) (previous : Option Statement) (s : Statement) (n : ℕ) → is_single s ≡ true → slice_get sites n ≡ Some (site_of r previous s) → Stands sites r previous s n (suc n)
    when : (r : Round) (previous : Option Statement) (at : Span) (c : Expression) (p : Statements) (n m : ℕ) → slice_get sites n ≡ Some (site_of r previous (tree.If at c p)) → AllStand sites (in_branch r n c true) None p (suc n) m → Stands sites r previous (tree.If at c p) n m
    choose : (r : Round) (previous : Option Statement) (at : Span) (c : Expression) (p q : Statements) (n m l : ℕ) → slice_get sites n ≡ Some (site_of r previous (tree.IfElse at c p q)) → AllStand sites (in_branch r n c true) None p (suc n) m → AllStand sites (in_branch r n c false) None q m l → Stands sites r previous (tree.IfElse at c p q) n l
    walks : (r : Round) (previous : Option Statement) (at : Span) (ty : Spelled) (x : List ℕ) (e : Expression) (b : Statements) (n m : ℕ) → slice_get sites n ≡ Some (site_of r previous (tree.ForEach at ty x e b)) → AllStand sites (in_loop r n) None b (suc n) m → Stands sites r previous (tree.ForEach at ty x e b) n m
    repeats : (r : Round) (previous : Option Statement) (at : Span) (c : Expression) (b : Statements) (n m : ℕ) → slice_get sites n ≡ Some (site_of r previous (tree.While at c b)) → AllStand sites (in_loop r n) None b (suc n) m → Stands sites r previous (tree.While at c b) n m

  pub data AllStand (sites : List Site) : Round → Option Statement → Statements → ℕ → ℕ → Type 0 where
    nothing : (r : Round) (previous : Option Statement) (n : ℕ) → AllStand sites r previous Nothing n n
    next : (r : Round) (previous : Option Statement) (s : Statement) (p : Statements) (n m l : ℕ) → Stands sites r previous s n m → AllStand sites r (Some s) p m l → AllStand sites r previous (Then s p) n l

-- each visible variable is bound so at the site with this number
pub record Sees (sites : List Site) (n : ℕ) (g : Types) (bound : List ℕ → Binding) : Type 0 where
  pub by : (x : List ℕ) (k : JavaType) → g x ≡ Some k → binding_at sites n x ≡ bound x

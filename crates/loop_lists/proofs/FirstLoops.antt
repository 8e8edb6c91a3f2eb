-- The first loop at a line and column is the first of the listed paths that leads to a statement there.
use Rattle.std.specs.Prelude.{if◌then◌else◌, Vec}
use Rattle.std.specs.Option.{option_map}
use Rattle.std.specs.List.{AllByRecursion}
use Rattle.std.specs.declared.alloc.Global.{Global}
use Rattle.std.proofs.Common.{◌≡◌, ℕ, suc, Bool, true, false, List, [], ◌∷◌, ◌++◌, Option, Some, None, refl, sym, ap, ap₂, ◌∙◌, append_assoc, append-nil}
use Rattle.qbs_base.specs.declared.span.Span.{Span}
use Rattle.java_ast.specs.declared.tree.JTy.{JTy}
use Rattle.java_ast.specs.declared.tree.Expr.{Expr}
use Rattle.java_ast.specs.declared.tree.Stmt.{Stmt, out-Stmt}
use Rattle.java_ast.specs.declared.tree.StmtNode.{If, ForEach, While}
use Rattle.java_ast.specs.Path.{statement_at}
use Rattle.java_ast.specs.Reading.{statement, statements}
use Rattle.java_ast.specs.Tree as tree
use Rattle.java_ast.specs.Tree.{Statement, Statements, Nothing, Then, PlainMethod, PlainProgram}
use Rattle.java_ast.proofs.Nodes.{if_is, if_else_is, for_each_is, while_is}
use Rattle.loop_text.specs.Statements.Loops.{loops_of}
use Rattle.loop_lists.specs.Places.{is_at, path_to}
use Rattle.loop_lists.specs.Finding.{begins_at, led_by, or_other, first_in_loop, first_in, first_among, first_of_methods}
use Rattle.loop_lists.proofs.LoopSites.{Site, sites_in, sites_among, sites_of_methods, sites_of, paths_of, paths_are, StandsAt, all_stand_at}

-- ---- Sites

-- what a site's path leads to stands at the site's place
pub is_there : (p : PlainProgram) (s : Site) (line column : ℕ) → StandsAt p s → is_at line column (statement_at s.path p) ≡ begins_at line column s.at
is_there p s line column k = ap (is_at line column) k.1 ∙ ap (begins_at line column) k.2

-- a path to a statement, and from there on
abbrev from : List ℕ → Option (List ℕ) → Option (List ℕ)
from path o = option_map (λ (q : List ℕ). path ++ q) o

from_led : (path : List ℕ) (n : ℕ) (o : Option (List ℕ)) → from (path ++ n ∷ []) o ≡ from path (led_by n o)
from_led path n None = refl
from_led path n (Some q) = ap (λ (r : List ℕ). Some r) (append_assoc path (n ∷ []) q)

from_method : (n : ℕ) (o : Option (List ℕ)) → from (n ∷ []) o ≡ led_by n o
from_method n None = refl
from_method n (Some q) = refl

from_other : (path : List ℕ) (o r : Option (List ℕ)) → or_other (from path o) (from path r) ≡ from path (or_other o r)
from_other path None r = refl
from_other path (Some q) r = refl

from_itself : (b : Bool) (path : List ℕ) (o inside : Option (List ℕ)) → o ≡ from path inside → (if b then Some path else o) ≡ from path (if b then Some [] else inside)
from_itself true path o inside e = ap (λ (r : List ℕ). Some r) (sym (append-nil path))
from_itself false path o inside e = e

module _ (line column : ℕ) where
  abbrev first_site : List Site → Option (List ℕ)
  first_site [] = None
  first_site (s ∷ ss) = if begins_at line column s.at then Some s.path else first_site ss

  path_first : (p : PlainProgram) (ss : List Site) → AllByRecursion (StandsAt p) ss → path_to line column p (paths_of ss) ≡ first_site ss
  path_first p [] stand = refl
  path_first p (s ∷ ss) stand =
      ap (λ b. if b then Some s.path else path_to line column p (paths_of ss)) (is_there p s line column stand.0)
      ∙ ap (λ o. if begins_at line column s.at then Some s.path else o) (path_first p ss stand.1)

  chosen : (b : Bool) (q : List ℕ) (o r : Option (List ℕ)) → (if b then Some q else or_other o r) ≡ or_other (if b then Some q else o) r
  chosen true q o r = refl
  chosen false q o r = refl

  first_joined : (xs ys : List Site) → first_site (xs ++ ys) ≡ or_other (first_site xs) (first_site ys)
  first_joined [] ys = refl
  first_joined (x ∷ xs) ys =
      ap (λ o. if begins_at line column x.at then Some x.path else o) (first_joined xs ys)
      ∙ chosen (begins_at line column x.at) x.path (first_site xs) (first_site ys)

  -- so it is in a branch, where it is so in the block
  in_branch : (block : Statements) (path : List ℕ) (branch : ℕ) → first_site (sites_among (path ++ branch ∷ []) 0 block) ≡ from (path ++ branch ∷ []) (first_among line column 0 block)
      → first_site (sites_among (path ++ branch ∷ []) 0 block) ≡ from path (led_by branch (first_among line column 0 block))
  in_branch block path branch inside = inside ∙ from_led path branch (first_among line column 0 block)

  in_loop : (at : Span) (body : Statements) (path : List ℕ) → first_site (sites_among (path ++ 0 ∷ []) 0 body) ≡ from (path ++ 0 ∷ []) (first_among line column 0 body)
      → (if begins_at line column at then Some path else first_site (sites_among (path ++ 0 ∷ []) 0 body)) ≡ from path (first_in_loop line column at (first_among line column 0 body))
  in_loop at body path inside =
      from_itself (begins_at line column at) path (first_site (sites_among (path ++ 0 ∷ []) 0 body)) (led_by 0 (first_among line column 0 body)) (in_branch body path 0 inside)

  mutual
    first_down : (s : Statement) (path : List ℕ) → first_site (sites_in path s) ≡ from path (first_in line column s)
    first_down (tree.Declare at ty x e) path = refl
    first_down (tree.Assign at x e) path = refl
    first_down (tree.Add at x e) path = refl
    first_down (tree.Sort at x keys downs) path = refl
    first_down (tree.If at c a) path = in_branch a path 0 (first_inside a (path ++ 0 ∷ []) 0)
    first_down (tree.IfElse at c a b) path =
        first_joined (sites_among (path ++ 0 ∷ []) 0 a) (sites_among (path ++ 1 ∷ []) 0 b)
        ∙ ap₂ or_other (in_branch a path 0 (first_inside a (path ++ 0 ∷ []) 0)) (in_branch b path 1 (first_inside b (path ++ 1 ∷ []) 0))
        ∙ from_other path (led_by 0 (first_among line column 0 a)) (led_by 1 (first_among line column 0 b))
    first_down (tree.ForEach at ty x e b) path = in_loop at b path (first_inside b (path ++ 0 ∷ []) 0)
    first_down (tree.While at c b) path = in_loop at b path (first_inside b (path ++ 0 ∷ []) 0)
    first_down (tree.Print at e) path = refl
    first_down (tree.Return at e) path = refl
    first_down (tree.Break at) path = refl

    first_inside : (block : Statements) (path : List ℕ) (n : ℕ) → first_site (sites_among path n block) ≡ from path (first_among line column n block)
    first_inside Nothing path n = refl
    first_inside (Then s ss) path n =
        first_joined (sites_in (path ++ n ∷ []) s) (sites_among path (suc n) ss)
        ∙ ap₂ or_other (first_down s (path ++ n ∷ []) ∙ from_led path n (first_in line column s)) (first_inside ss path (suc n))
        ∙ from_other path (led_by n (first_in line column s)) (first_among line column (suc n) ss)

  first_methods : (ms : List PlainMethod) (n : ℕ) → first_site (sites_of_methods n ms) ≡ first_of_methods line column n ms
  first_methods [] n = refl
  first_methods (m ∷ ms) n =
      first_joined (sites_among (n ∷ []) 0 m.body) (sites_of_methods (suc n) ms)
      ∙ ap₂ or_other (first_inside m.body (n ∷ []) 0 ∙ from_method n (first_among line column 0 m.body)) (first_methods ms (suc n))

  -- The first loop of a program there is the first that is listed.
  pub first_is_listed : (p : PlainProgram) → first_of_methods line column 0 p.methods ≡ path_to line column p (loops_of p)
  first_is_listed p = sym (ap (path_to line column p) (sym (paths_are p)) ∙ path_first p (sites_of p) (all_stand_at p) ∙ first_methods p.methods 0)

  -- ---- Statements of the code, where each branch is what was lent

  lent_first : (branch : ℕ) (ss items : List Stmt) (r : Option (List ℕ)) → ss ≡ items → r ≡ led_by branch (first_among line column 0 (statements ss)) → r ≡ led_by branch (first_among line column 0 (statements items))
  lent_first branch ss items r lent found = found ∙ ap (λ (ts : List Stmt). led_by branch (first_among line column 0 (statements ts))) lent

  pub in_if : (s : Stmt) (cond : Expr) (v : Vec Stmt Global) (o : Option (Vec Stmt Global)) (ss : List Stmt) (r : Option (List ℕ)) → (out-Stmt s).node ≡ If cond v o → o ≡ None → ss ≡ v.items
      → r ≡ led_by 0 (first_among line column 0 (statements ss))
      → r ≡ first_in line column (statement s)
  in_if s cond v o ss r is none lent found = lent_first 0 ss v.items r lent found ∙ ap (first_in line column) (sym (if_is s cond v o is none))

  either : (s : Stmt) (cond : Expr) (v w : Vec Stmt Global) (o : Option (Vec Stmt Global)) (first other : Option (List ℕ)) → (out-Stmt s).node ≡ If cond v o → o ≡ Some w
      → first ≡ led_by 0 (first_among line column 0 (statements v.items))
      → other ≡ led_by 1 (first_among line column 0 (statements w.items))
      → or_other first other ≡ first_in line column (statement s)
  either s cond v w o first other is some found found' = ap₂ or_other found found' ∙ ap (first_in line column) (sym (if_else_is s cond v w o is some))

  pub in_first : (s : Stmt) (cond : Expr) (v w : Vec Stmt Global) (o : Option (Vec Stmt Global)) (ss : List Stmt) (q : List ℕ) → (out-Stmt s).node ≡ If cond v o → o ≡ Some w → ss ≡ v.items
      → Some q ≡ led_by 0 (first_among line column 0 (statements ss))
      → Some q ≡ first_in line column (statement s)
  in_first s cond v w o ss q is some lent found =
      either s cond v w o (Some q) (led_by 1 (first_among line column 0 (statements w.items))) is some (lent_first 0 ss v.items (Some q) lent found) refl

  pub in_other : (s : Stmt) (cond : Expr) (v w : Vec Stmt Global) (o : Option (Vec Stmt Global)) (ss ts : List Stmt) (r : Option (List ℕ)) → (out-Stmt s).node ≡ If cond v o → o ≡ Some w → ss ≡ v.items → ts ≡ w.items
      → None ≡ led_by 0 (first_among line column 0 (statements ss))
      → r ≡ led_by 1 (first_among line column 0 (statements ts))
      → r ≡ first_in line column (statement s)
  in_other s cond v w o ss ts r is some lent lent' found found' =
      either s cond v w o None r is some (lent_first 0 ss v.items None lent found) (lent_first 1 ts w.items r lent' found')

  lent_loop : (at : Span) (ss items : List Stmt) (r : Option (List ℕ)) → ss ≡ items → r ≡ first_in_loop line column at (first_among line column 0 (statements ss)) → r ≡ first_in_loop line column at (first_among line column 0 (statements items))
  lent_loop at ss items r lent found = found ∙ ap (λ (ts : List Stmt). first_in_loop line column at (first_among line column 0 (statements ts))) lent

  pub in_for_each : (s : Stmt) (ty : JTy) (name : List ℕ) (list : Expr) (v : Vec Stmt Global) (ss : List Stmt) (r : Option (List ℕ)) → (out-Stmt s).node ≡ ForEach ty name list v → ss ≡ v.items
      → r ≡ first_in_loop line column (out-Stmt s).span (first_among line column 0 (statements ss))
      → r ≡ first_in line column (statement s)
  in_for_each s ty name list v ss r is lent found = lent_loop (out-Stmt s).span ss v.items r lent found ∙ ap (first_in line column) (sym (for_each_is s ty name list v is))

  pub in_while : (s : Stmt) (cond : Expr) (v : Vec Stmt Global) (ss : List Stmt) (r : Option (List ℕ)) → (out-Stmt s).node ≡ While cond v → ss ≡ v.items
      → r ≡ first_in_loop line column (out-Stmt s).span (first_among line column 0 (statements ss))
      → r ≡ first_in line column (statement s)
  in_while s cond v ss r is lent found = lent_loop (out-Stmt s).span ss v.items r lent found ∙ ap (first_in line column) (sym (while_is s cond v is))

-- The statements of a loop stand among its sites as they stand in the loop.
use Rattle.std.proofs.Common.{◌≡◌, ℕ, suc, true, false, List, [], ◌∷◌, ◌++◌, length, Option, Some, None, refl, sym, ap, ◌∙◌, subst, append_assoc, slice_get}
use Rattle.java_ast.specs.Tree as tree
use Rattle.java_ast.specs.Tree.{Statement, Statements, Nothing, Then}
use Rattle.loop_text.specs.Sites.Sites.{Site, Round, in_loop, in_branch, with_site, walk, walk_all, kernel_body, outside, sites_of}
use Rattle.java_loops.proofs.Standing.Standing.{is_single, site_of, Stands, single, when, choose, walks, repeats, AllStand, nothing, next}

-- the second list begins with the first
record Begins (met sites : List Site) : Type 0 where
  rest : List Site
  is : sites ≡ met ++ rest

begins_one : (met sites : List Site) (x : Site) → Begins (met ++ x ∷ []) sites → Begins met sites
begins_one met sites x b = record { rest = x ∷ b.rest; is = b.is ∙ append_assoc met (x ∷ []) b.rest }

length_one : (met : List Site) (x : Site) → length (met ++ x ∷ []) ≡ suc (length met)
length_one [] x = refl
length_one (y ∷ met) x = ap suc (length_one met x)

at_length : (met rest : List Site) (x : Site) → slice_get ((met ++ x ∷ []) ++ rest) (length met) ≡ Some x
at_length [] rest x = refl
at_length (y ∷ met) rest x = at_length met rest x

site_at : (met sites : List Site) (x : Site) → Begins (met ++ x ∷ []) sites → slice_get sites (length met) ≡ Some x
site_at met sites x b = ap (λ xs. slice_get xs (length met)) b.is ∙ at_length met b.rest x

-- ---- What was met before a walk is met behind it

mutual
  begins : (s : Statement) (r : Round) (previous : Option Statement) (met sites : List Site) → Begins (walk r previous s met) sites → Begins met sites
  begins (tree.Declare at ty x e) r previous met sites b = begins_one met sites (site_of r previous (tree.Declare at ty x e)) b
  begins (tree.Assign at x e) r previous met sites b = begins_one met sites (site_of r previous (tree.Assign at x e)) b
  begins (tree.Add at x e) r previous met sites b = begins_one met sites (site_of r previous (tree.Add at x e)) b
  begins (tree.Sort at x keys downs) r previous met sites b = begins_one met sites (site_of r previous (tree.Sort at x keys downs)) b
  begins (tree.If at c p) r previous met sites b =
      begins_one met sites (site_of r previous (tree.If at c p)) (all_begin p (in_branch r (length met) c true) None (with_site met r previous (tree.If at c p)) sites b)
  begins (tree.IfElse at c p q) r previous met sites b =
      begins_one met sites (site_of r previous (tree.IfElse at c p q)) (all_begin p (in_branch r (length met) c true) None (with_site met r previous (tree.IfElse at c p q)) sites (all_begin q (in_branch r (length met) c false) None (walk_all (in_branch r (length met) c true) None p (with_site met r previous (tree.IfElse at c p q))) sites b))
  begins (tree.ForEach at ty x e p) r previous met sites b =
      begins_one met sites (site_of r previous (tree.ForEach at ty x e p)) (all_begin p (in_loop r (length met)) None (with_site met r previous (tree.ForEach at ty x e p)) sites b)
  begins (tree.While at c p) r previous met sites b =
      begins_one met sites (site_of r previous (tree.While at c p)) (all_begin p (in_loop r (length met)) None (with_site met r previous (tree.While at c p)) sites b)
  begins (tree.Print at e) r previous met sites b = begins_one met sites (site_of r previous (tree.Print at e)) b
  begins (tree.Return at e) r previous met sites b = begins_one met sites (site_of r previous (tree.Return at e)) b
  begins (tree.Break at) r previous met sites b = begins_one met sites (site_of r previous (tree.Break at)) b

  all_begin : (p : Statements) (r : Round) (previous : Option Statement) (met sites : List Site) → Begins (walk_all r previous p met) sites → Begins met sites
  all_begin Nothing r previous met sites b = b
  all_begin (Then s p) r previous met sites b = begins s r previous met sites (all_begin p r (Some s) (walk r previous s met) sites b)

-- ---- What a walk meets stands in the list

-- a statement without statements in it
single_stands : (s : Statement) (r : Round) (previous : Option Statement) (met sites : List Site) → is_single s ≡ true → Begins (with_site met r previous s) sites → Stands sites r previous s (length met) (length (with_site met r previous s))
single_stands s r previous met sites one b =
    subst (λ m. Stands sites r previous s (length met) m) (sym (length_one met (site_of r previous s))) (single r previous s (length met) one (site_at met sites (site_of r previous s) b))

-- what stands behind a site
behind_site : (s : Statement) (r r' : Round) (previous : Option Statement) (met sites : List Site) (p : Statements) (m : ℕ) → AllStand sites r' None p (length (with_site met r previous s)) m → AllStand sites r' None p (suc (length met)) m
behind_site s r r' previous met sites p m h = subst (λ n. AllStand sites r' None p n m) (length_one met (site_of r previous s)) h

mutual
  stands : (s : Statement) (r : Round) (previous : Option Statement) (met sites : List Site) → Begins (walk r previous s met) sites → Stands sites r previous s (length met) (length (walk r previous s met))
  stands (tree.Declare at ty x e) r previous met sites b = single_stands (tree.Declare at ty x e) r previous met sites refl b
  stands (tree.Assign at x e) r previous met sites b = single_stands (tree.Assign at x e) r previous met sites refl b
  stands (tree.Add at x e) r previous met sites b = single_stands (tree.Add at x e) r previous met sites refl b
  stands (tree.Sort at x keys downs) r previous met sites b = single_stands (tree.Sort at x keys downs) r previous met sites refl b
  stands (tree.If at c p) r previous met sites b =
      let s : Statement = tree.If at c p in
      let k : Round = in_branch r (length met) c true in
      let first : List Site = with_site met r previous s in
      when r previous at c p (length met) (length (walk_all k None p first)) (site_at met sites (site_of r previous s) (all_begin p k None first sites b)) (behind_site s r k previous met sites p (length (walk_all k None p first)) (all_stand p k None first sites b))
  stands (tree.IfElse at c p q) r previous met sites b =
      let s : Statement = tree.IfElse at c p q in
      let k : Round = in_branch r (length met) c true in
      let l : Round = in_branch r (length met) c false in
      let first : List Site = with_site met r previous s in
      let second : List Site = walk_all k None p first in
      let h : Begins second sites = all_begin q l None second sites b in
      choose r previous at c p q (length met) (length second) (length (walk_all l None q second)) (site_at met sites (site_of r previous s) (all_begin p k None first sites h)) (behind_site s r k previous met sites p (length second) (all_stand p k None first sites h)) (all_stand q l None second sites b)
  stands (tree.ForEach at ty x e p) r previous met sites b =
      let s : Statement = tree.ForEach at ty x e p in
      let k : Round = in_loop r (length met) in
      let first : List Site = with_site met r previous s in
      walks r previous at ty x e p (length met) (length (walk_all k None p first)) (site_at met sites (site_of r previous s) (all_begin p k None first sites b)) (behind_site s r k previous met sites p (length (walk_all k None p first)) (all_stand p k None first sites b))
  stands (tree.While at c p) r previous met sites b =
      let s : Statement = tree.While at c p in
      let k : Round = in_loop r (length met) in
      let first : List Site = with_site met r previous s in
      repeats r previous at c p (length met) (length (walk_all k None p first)) (site_at met sites (site_of r previous s) (all_begin p k None first sites b)) (behind_site s r k previous met sites p (length (walk_all k None p first)) (all_stand p k None first sites b))
  stands (tree.Print at e) r previous met sites b = single_stands (tree.Print at e) r previous met sites refl b
  stands (tree.Return at e) r previous met sites b = single_stands (tree.Return at e) r previous met sites refl b
  stands (tree.Break at) r previous met sites b = single_stands (tree.Break at) r previous met sites refl b

  all_stand : (p : Statements) (r : Round) (previous : Option Statement) (met sites : List Site) → Begins (walk_all r previous p met) sites → AllStand sites r previous p (length met) (length (walk_all r previous p met))
  all_stand Nothing r previous met sites b = nothing r previous (length met)
  all_stand (Then s p) r previous met sites b =
      next r previous s p (length met) (length (walk r previous s met)) (length (walk_all r (Some s) p (walk r previous s met))) (stands s r previous met sites (all_begin p r (Some s) (walk r previous s met) sites b)) (all_stand p r (Some s) (walk r previous s met) sites b)

-- ---- The sites of a loop

whole : (sites : List Site) → Begins sites sites
whole sites = record { rest = []; is = sym (append_nil sites) }
  where
    append_nil : (xs : List Site) → xs ++ [] ≡ xs
    append_nil [] = refl
    append_nil (x ∷ xs) = ap (λ ys. x ∷ ys) (append_nil xs)

-- the statements of the body stand behind the loop
pub body_stands : (loop : Statement) → AllStand (sites_of loop) (in_loop outside 0) None (kernel_body loop) 1 (length (sites_of loop))
body_stands loop = all_stand (kernel_body loop) (in_loop outside 0) None (with_site [] outside None loop) (sites_of loop) (whole (sites_of loop))

-- the loop is the first site
pub loop_first : (loop : Statement) → slice_get (sites_of loop) 0 ≡ Some (site_of outside None loop)
loop_first loop = site_at [] (sites_of loop) (site_of outside None loop) (all_begin (kernel_body loop) (in_loop outside 0) None (with_site [] outside None loop) (sites_of loop) (whole (sites_of loop)))

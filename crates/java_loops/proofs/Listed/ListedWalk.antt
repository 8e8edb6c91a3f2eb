-- The sites of a loop of a well-typed program, each where no rule of types is broken.
use Rattle.std.proofs.Common.{◌≡◌, ℕ, Bool, true, false, List, [], ◌∷◌, ◌++◌, length, Option, Some, None, sym, subst}
use Rattle.std.specs.List.{AllByRecursion}
use Rattle.qbs_base.specs.declared.span.Span.{Span}
use Rattle.qbs_base.specs.Values.{Schema}
use Rattle.sql_ast.specs.Tree.{PlainQuery}
use Rattle.sql_ast.proofs.Combinations.{all_append}
use Rattle.java_ast.specs.Tree as tree
use Rattle.java_ast.specs.Tree.{Spelled, Expression, Statement, Statements, Nothing, Then}
use Rattle.java_mean.specs.declared.types.JavaType.{JavaType}
use Rattle.java_mean.specs.Places as places
use Rattle.java_mean.specs.Places.{step, in_expression, in_statements, in_branch, in_while, in_for_each, is_nothing}
use Rattle.java_mean.specs.Rules.{taken}
use Rattle.java_mean.specs.Types.{Types, with_type, type_spelled, types_after}
use Rattle.java_mean.specs.Typing.{Extends}
use Rattle.java_mean.specs.Visible.{Visible, is_visible, declared_in, after}
use Rattle.java_mean.proofs.Alike.{extends_new}
use Rattle.java_mean.proofs.Faultless.{Got, none_at, only_none, neither, got_some, Sees, unseen}
use Rattle.loop_text.specs.Sites.Sites.{Site, Round, with_site, walk, walk_all, before_last, without_first, without_last, in_loop, in_branch as in_branch_of, outside, sites_of}
use Rattle.java_loops.proofs.Listed.ListedSeen.{IsClean, AreClean, first_clean, sees_after, sees_walked, branch_clean, branches_clean, turn_clean}

module _ (schema : Schema) (read : List ℕ → Option PlainQuery) (r : Option Spelled) (start : Types) where
  extends_typed : (g : Types) (x : List ℕ) (o : Option JavaType) → Got o → g x ≡ None → Extends (with_type x o g) g
  extends_typed g x o k n = subst (λ z. Extends (with_type x z g) g) (sym k.is) (extends_new g x k.value n)

  pub extends_both : (k h g : Types) → Extends k h → Extends h g → Extends k g
  extends_both k h g e f x y i = e x y (f x y i)

  -- what is visible before a statement is visible behind it
  pub extends_after : (vs : Visible) (g : Types) (w : places.Around) (last : Bool) (a : Statement) → Sees vs g → IsClean schema read r vs w last a → Extends (types_after schema g a) g
  extends_after vs g w last (tree.Declare at ty x e) s h =
      let n = none_at schema read r (step vs w last (tree.Declare at ty x e)) (in_expression vs e) h in
      let new = neither (is_visible vs x) _ (only_none (taken vs x) at n.left.single) in
      extends_typed g x (type_spelled schema ty) (got_some (type_spelled schema ty) at n.left.known) (unseen vs g x s new.left)
  extends_after vs g w last (tree.Assign at x e) s h = λ y k i. i
  extends_after vs g w last (tree.Add at x e) s h = λ y k i. i
  extends_after vs g w last (tree.Sort at x keys down) s h = λ y k i. i
  extends_after vs g w last (tree.If at c p) s h = λ y k i. i
  extends_after vs g w last (tree.IfElse at c p q) s h = λ y k i. i
  extends_after vs g w last (tree.ForEach at ty x e p) s h = λ y k i. i
  extends_after vs g w last (tree.While at c p) s h = λ y k i. i
  extends_after vs g w last (tree.Print at e) s h = λ y k i. i
  extends_after vs g w last (tree.Return at e) s h = λ y k i. i
  extends_after vs g w last (tree.Break at) s h = λ y k i. i

  extends_walked : (vs : Visible) (g : Types) (w : places.Around) (last : Bool) (at : Span) (ty : Spelled) (x : List ℕ) (e : Expression) (p : Statements) → Sees vs g → IsClean schema read r vs w last (tree.ForEach at ty x e p) → Extends (with_type x (type_spelled schema ty) g) g
  extends_walked vs g w last at ty x e p s h =
      let n = none_at schema read r (step vs w last (tree.ForEach at ty x e p)) (in_expression vs e ++ in_statements schema (declared_in vs x (type_spelled schema ty)) (in_for_each e w) p) h in
      extends_typed g x (type_spelled schema ty) (got_some (type_spelled schema ty) at n.left.known) (sees_walked schema read r vs g w last at ty x e p s h).1

  -- A statement breaks no rule of types where it stands, and what was visible at the start has its types there.
  pub record SeenStatement (a : Statement) : Type 0 where
    pub visible : Visible
    pub types : Types
    pub around : places.Around
    pub last : Bool
    pub sees : Sees visible types
    pub extends : Extends types start
    pub clean : IsClean schema read r visible around last a

  abbrev pub SeenSite : Site → Type 0
  SeenSite s = SeenStatement s.statement

  abbrev pub AllSeen : List Site → Type 0
  AllSeen sites = AllByRecursion SeenSite sites

  with_seen : (met : List Site) (round : Round) (previous : Option Statement) (a : Statement) (vs : Visible) (g : Types) (w : places.Around) (last : Bool) → Sees vs g → Extends g start → IsClean schema read r vs w last a → AllSeen met → AllSeen (with_site met round previous a)
  with_seen met round previous a vs g w last s i h all = all_append SeenSite met (record { statement = a; round = round; previous = previous } ∷ []) all (record { visible = vs; types = g; around = w; last = last; sees = s; extends = i; clean = h }, tt)

  mutual
    walk_seen : (a : Statement) (round : Round) (previous : Option Statement) (met : List Site) (vs : Visible) (g : Types) (w : places.Around) (last : Bool) → Sees vs g → Extends g start → IsClean schema read r vs w last a → AllSeen met → AllSeen (walk round previous a met)
    walk_seen (tree.Declare at ty x e) round previous met vs g w last s i h all = with_seen met round previous (tree.Declare at ty x e) vs g w last s i h all
    walk_seen (tree.Assign at x e) round previous met vs g w last s i h all = with_seen met round previous (tree.Assign at x e) vs g w last s i h all
    walk_seen (tree.Add at x e) round previous met vs g w last s i h all = with_seen met round previous (tree.Add at x e) vs g w last s i h all
    walk_seen (tree.Sort at x keys downs) round previous met vs g w last s i h all = with_seen met round previous (tree.Sort at x keys downs) vs g w last s i h all
    walk_seen (tree.If at c p) round previous met vs g w last s i h all =
        walk_all_seen p (in_branch_of round (length met) c true) None (with_site met round previous (tree.If at c p)) vs g (in_branch w) s i (branch_clean schema read r vs w last at c p h) (with_seen met round previous (tree.If at c p) vs g w last s i h all)
    walk_seen (tree.IfElse at c p q) round previous met vs g w last s i h all =
        let two = branches_clean schema read r vs w last at c p q h in
        walk_all_seen q (in_branch_of round (length met) c false) None (walk_all (in_branch_of round (length met) c true) None p (with_site met round previous (tree.IfElse at c p q))) vs g (in_branch w) s i two.1
        (walk_all_seen p (in_branch_of round (length met) c true) None (with_site met round previous (tree.IfElse at c p q)) vs g (in_branch w) s i two.0 (with_seen met round previous (tree.IfElse at c p q) vs g w last s i h all))
    walk_seen (tree.ForEach at ty x e p) round previous met vs g w last s i h all =
        let n = sees_walked schema read r vs g w last at ty x e p s h in
        walk_all_seen p (in_loop round (length met)) None (with_site met round previous (tree.ForEach at ty x e p)) (declared_in vs x (type_spelled schema ty)) (with_type x (type_spelled schema ty) g) (in_for_each e w) n.0
        (extends_both (with_type x (type_spelled schema ty) g) g start (extends_walked vs g w last at ty x e p s h) i) n.2
        (with_seen met round previous (tree.ForEach at ty x e p) vs g w last s i h all)
    walk_seen (tree.While at c p) round previous met vs g w last s i h all =
        walk_all_seen p (in_loop round (length met)) None (with_site met round previous (tree.While at c p)) vs g (in_while w) s i (turn_clean schema read r vs w last at c p h) (with_seen met round previous (tree.While at c p) vs g w last s i h all)
    walk_seen (tree.Print at e) round previous met vs g w last s i h all = with_seen met round previous (tree.Print at e) vs g w last s i h all
    walk_seen (tree.Return at e) round previous met vs g w last s i h all = with_seen met round previous (tree.Return at e) vs g w last s i h all
    walk_seen (tree.Break at) round previous met vs g w last s i h all = with_seen met round previous (tree.Break at) vs g w last s i h all

    walk_all_seen : (p : Statements) (round : Round) (previous : Option Statement) (met : List Site) (vs : Visible) (g : Types) (w : places.Around) → Sees vs g → Extends g start → AreClean schema read r vs w p → AllSeen met → AllSeen (walk_all round previous p met)
    walk_all_seen Nothing round previous met vs g w s i h all = all
    walk_all_seen (Then a p) round previous met vs g w s i h all =
        let two = first_clean schema read r vs w a p h in
        walk_all_seen p round (Some a) (walk round previous a met) (after schema vs a) (types_after schema g a) w (sees_after schema read r vs g w (is_nothing p) a s two.0) (extends_both (types_after schema g a) g start (extends_after vs g w (is_nothing p) a s two.0) i) two.1
        (walk_seen a round previous met vs g w (is_nothing p) s i two.0 all)

  -- of statements without the last
  front_seen : (p : Statements) (a : Statement) (round : Round) (previous : Option Statement) (met : List Site) (vs : Visible) (g : Types) (w : places.Around) → Sees vs g → Extends g start → AreClean schema read r vs w (Then a p) → AllSeen met → AllSeen (walk_all round previous (before_last a p) met)
  front_seen Nothing a round previous met vs g w s i h all = all
  front_seen (Then b p) a round previous met vs g w s i h all =
      let two = first_clean schema read r vs w a (Then b p) h in
      front_seen p b round (Some a) (walk round previous a met) (after schema vs a) (types_after schema g a) w (sees_after schema read r vs g w false a s two.0) (extends_both (types_after schema g a) g start (extends_after vs g w false a s two.0) i) two.1
      (walk_seen a round previous met vs g w false s i two.0 all)

  body_seen : (p : Statements) (round : Round) (met : List Site) (vs : Visible) (g : Types) (w : places.Around) → Sees vs g → Extends g start → AreClean schema read r vs w p → AllSeen met → AllSeen (walk_all round None (without_last (without_first p)) met)
  body_seen Nothing round met vs g w s i h all = all
  body_seen (Then a Nothing) round met vs g w s i h all = all
  body_seen (Then a (Then b p)) round met vs g w s i h all =
      let two = first_clean schema read r vs w a (Then b p) h in
      front_seen p b round None met (after schema vs a) (types_after schema g a) w (sees_after schema read r vs g w false a s two.0) (extends_both (types_after schema g a) g start (extends_after vs g w false a s two.0) i) two.1 all

  -- each site of a loop that breaks no rule of types breaks none
  pub sites_seen : (loop : Statement) (vs : Visible) (w : places.Around) (last : Bool) → Sees vs start → IsClean schema read r vs w last loop → AllSeen (sites_of loop)
  sites_seen (tree.ForEach at ty x e p) vs w last s h =
      let n = sees_walked schema read r vs start w last at ty x e p s h in
      walk_all_seen p (in_loop outside 0) None (with_site [] outside None (tree.ForEach at ty x e p)) (declared_in vs x (type_spelled schema ty)) (with_type x (type_spelled schema ty) start) (in_for_each e w) n.0 (extends_walked vs start w last at ty x e p s h) n.2 (with_seen [] outside None (tree.ForEach at ty x e p) vs start w last s (λ y k i. i) h tt)
  sites_seen (tree.While at c p) vs w last s h = body_seen p (in_loop outside 0) (with_site [] outside None (tree.While at c p)) vs start (in_while w) s (λ y k i. i) (turn_clean schema read r vs w last at c p h) (with_seen [] outside None (tree.While at c p) vs start w last s (λ y k i. i) h tt)
  sites_seen (tree.Declare at ty x e) vs w last s h = with_seen [] outside None (tree.Declare at ty x e) vs start w last s (λ y k i. i) h tt
  sites_seen (tree.Assign at x e) vs w last s h = with_seen [] outside None (tree.Assign at x e) vs start w last s (λ y k i. i) h tt
  sites_seen (tree.Add at x e) vs w last s h = with_seen [] outside None (tree.Add at x e) vs start w last s (λ y k i. i) h tt
  sites_seen (tree.Sort at x keys downs) vs w last s h = with_seen [] outside None (tree.Sort at x keys downs) vs start w last s (λ y k i. i) h tt
  sites_seen (tree.If at c p) vs w last s h = with_seen [] outside None (tree.If at c p) vs start w last s (λ y k i. i) h tt
  sites_seen (tree.IfElse at c p q) vs w last s h = with_seen [] outside None (tree.IfElse at c p q) vs start w last s (λ y k i. i) h tt
  sites_seen (tree.Print at e) vs w last s h = with_seen [] outside None (tree.Print at e) vs start w last s (λ y k i. i) h tt
  sites_seen (tree.Return at e) vs w last s h = with_seen [] outside None (tree.Return at e) vs start w last s (λ y k i. i) h tt
  sites_seen (tree.Break at) vs w last s h = with_seen [] outside None (tree.Break at) vs start w last s (λ y k i. i) h tt

-- A name that statements have once, in a list that they walk.
use Rattle.std.proofs.Common.{◌≡◌, ℕ, Bool, true, false, cond, List, [], ◌∷◌, ◌++◌, length, Some, None, refl, arith}
use Rattle.std.specs.Prelude.{bytes_eq, nat_eq}
use Rattle.std.specs.List.{filter, AllByRecursion}
use Rattle.std.proofs.lemmas.Bool.Decides.{nat_tests}
use Rattle.qbs_base.specs.declared.span.Span.{Span}
use Rattle.java_ast.specs.Names.{Names, names_in, names_among, mentioned_in, mentioned_among}
use Rattle.java_ast.specs.Tree as tree
use Rattle.java_ast.specs.Tree.{Spelled, Expression, Expressions, Statement, Statements, Nothing, Then}
use Rattle.java_mean.specs.Mentions.{EachIn, EachAmong, EachMentionedIn, EachMentioned, EachDeclaredIn, EachDeclared}
use Rattle.java_mean.proofs.Puts.{name_same}
use Rattle.sql_ast.proofs.Tools.{all_parts}
use Rattle.spreads.specs.Alone.{declared_within, all_declared_within, times_named}

module _ (P : List ℕ → Type 0) where
  mutual
    each_in : (e : Expression) → AllByRecursion P (names_in e) → EachIn P e
    each_in (tree.Lit at value) h = tt
    each_in (tree.Var at x) h = h.0
    each_in (tree.Field at e f) h = each_in e h
    each_in (tree.Binary at op a b) h = (let p = all_parts P (names_in a) (names_in b) h in (each_in a p.0, each_in b p.1))
    each_in (tree.Not at e) h = each_in e h
    each_in (tree.Equals at a b) h = (let p = all_parts P (names_in a) (names_in b) h in (each_in a p.0, each_in b p.1))
    each_in (tree.Size at x) h = h.0
    each_in (tree.Get at x e) h = (h.0, each_in e h.1)
    each_in (tree.Contains at x e) h = (h.0, each_in e h.1)
    each_in (tree.Fetch at t) h = tt
    each_in (tree.Query at ty text es) h = each_among es h
    each_in (tree.QueryLong at text es) h = each_among es h
    each_in (tree.QueryBoolean at text es) h = each_among es h
    each_in (tree.NewList at) h = tt
    each_in (tree.NewSet at) h = tt
    each_in (tree.NewSetOf at e) h = each_in e h

    each_among : (es : Expressions) → AllByRecursion P (names_among es) → EachAmong P es
    each_among tree.NoMore h = tt
    each_among (tree.And e es) h = (let p = all_parts P (names_in e) (names_among es) h in (each_in e p.0, each_among es p.1))

  mutual
    each_mentioned_in : (a : Statement) → AllByRecursion P (mentioned_in a) → EachMentionedIn P a
    each_mentioned_in (tree.Declare at ty x e) h = each_in e h
    each_mentioned_in (tree.Assign at x e) h = (h.0, each_in e h.1)
    each_mentioned_in (tree.Add at x e) h = (h.0, each_in e h.1)
    each_mentioned_in (tree.Sort at x keys down) h = h.0
    each_mentioned_in (tree.If at c a) h = (let p = all_parts P (names_in c) (mentioned_among a) h in (each_in c p.0, each_mentioned a p.1))
    each_mentioned_in (tree.IfElse at c a b) h =
        let p = all_parts P (names_in c) (mentioned_among a ++ mentioned_among b) h in
        let q = all_parts P (mentioned_among a) (mentioned_among b) p.1 in
        (each_in c p.0, (each_mentioned a q.0, each_mentioned b q.1))
    each_mentioned_in (tree.ForEach at ty x e body) h = (let p = all_parts P (names_in e) (mentioned_among body) h in (each_in e p.0, each_mentioned body p.1))
    each_mentioned_in (tree.While at c body) h = (let p = all_parts P (names_in c) (mentioned_among body) h in (each_in c p.0, each_mentioned body p.1))
    each_mentioned_in (tree.Print at e) h = each_in e h
    each_mentioned_in (tree.Return at None) h = tt
    each_mentioned_in (tree.Return at (Some e)) h = each_in e h
    each_mentioned_in (tree.Break at) h = tt

    pub each_mentioned : (p : Statements) → AllByRecursion P (mentioned_among p) → EachMentioned P p
    each_mentioned Nothing h = tt
    each_mentioned (Then a p) h = (let q = all_parts P (mentioned_in a) (mentioned_among p) h in (each_mentioned_in a q.0, each_mentioned p q.1))

  mutual
    each_declared_in : (a : Statement) → AllByRecursion P (declared_within a) → EachDeclaredIn P a
    each_declared_in (tree.Declare at ty x e) h = h.0
    each_declared_in (tree.If at c a) h = each_declared a h
    each_declared_in (tree.IfElse at c a b) h = (let p = all_parts P (all_declared_within a) (all_declared_within b) h in (each_declared a p.0, each_declared b p.1))
    each_declared_in (tree.ForEach at ty x e body) h = (h.0, each_declared body h.1)
    each_declared_in (tree.While at c body) h = each_declared body h
    each_declared_in (tree.Assign at x e) h = tt
    each_declared_in (tree.Add at x e) h = tt
    each_declared_in (tree.Sort at x keys down) h = tt
    each_declared_in (tree.Print at e) h = tt
    each_declared_in (tree.Return at e) h = tt
    each_declared_in (tree.Break at) h = tt

    pub each_declared : (p : Statements) → AllByRecursion P (all_declared_within p) → EachDeclared P p
    each_declared Nothing h = tt
    each_declared (Then a p) h = (let q = all_parts P (declared_within a) (all_declared_within p) h in (each_declared_in a q.0, each_declared p q.1))

abbrev pub Other : List ℕ → List ℕ → Type 0
Other x z = bytes_eq x z ≡ false

none_left : (x : List ℕ) (names : Names) → length (filter (bytes_eq x) names) ≡ 0 → AllByRecursion (Other x) names
none_left x [] e = tt
none_left x (n ∷ names) e = by_test (bytes_eq x n) refl e (λ h. none_left x names h)
  where
    by_test : (b : Bool) → bytes_eq x n ≡ b → length (cond b (n ∷ filter (bytes_eq x) names) (filter (bytes_eq x) names)) ≡ 0 → (length (filter (bytes_eq x) names) ≡ 0 → AllByRecursion (Other x) names) → AllByRecursion (Other x) (n ∷ names)
    by_test true q e rest = absurd (omega (arith, e))
    by_test false q e rest = (q, rest e)

once_first : (x : List ℕ) (names : Names) → length (filter (bytes_eq x) (x ∷ names)) ≡ 1 → AllByRecursion (Other x) names
once_first x names e = none_left x names (by_test (bytes_eq x x) (name_same x) e)
  where
    by_test : (b : Bool) → b ≡ true → length (cond b (x ∷ filter (bytes_eq x) names) (filter (bytes_eq x) names)) ≡ 1 → length (filter (bytes_eq x) names) ≡ 0
    by_test true q e = omega (arith, e)
    by_test false q e = absurd cc

pub record AreOthers (x y : List ℕ) (body p : Statements) : Type 0 where
  pub row : Other x y
  pub inside : EachMentioned (Other x) body
  pub behind : EachMentioned (Other x) p
  pub declared_inside : EachDeclared (Other x) body
  pub declared_behind : EachDeclared (Other x) p

-- nothing else in the walk and behind it has the name
pub others : (x : List ℕ) (at at' : Span) (ty : Spelled) (y : List ℕ) (body p : Statements) → times_named x (Then (tree.ForEach at ty y (tree.Var at' x) body) p) ≡ 1 → AreOthers x y body p
others x at at' ty y body p e =
    let rest = once_first x ((mentioned_among body ++ mentioned_among p) ++ ((y ∷ all_declared_within body) ++ all_declared_within p)) e in
    let a = all_parts (Other x) (mentioned_among body ++ mentioned_among p) ((y ∷ all_declared_within body) ++ all_declared_within p) rest in
    let b = all_parts (Other x) (mentioned_among body) (mentioned_among p) a.0 in
    let d = all_parts (Other x) (all_declared_within body) (all_declared_within p) a.1.1 in
    record { row = a.1.0; inside = each_mentioned (Other x) body b.0; behind = each_mentioned (Other x) p b.1; declared_inside = each_declared (Other x) body d.0; declared_behind = each_declared (Other x) p d.1 }

pub once : (n : ℕ) → nat_eq n 1 ≡ true → n ≡ 1
once n e = grind (arith, nat_tests)

-- The spread of a loop may stand in its place: a well-typed program stays well typed, and its literals have 64 bits.
use Rattle.std.proofs.Common.{◌≡◌, ℕ, zero, suc, Bool, true, false, ◌||◌, ◌&&◌, cond, List, [], ◌∷◌, ◌++◌, Option, Some, None, refl, sym, ap, ◌∙◌, subst, arith}
use Rattle.std.specs.Prelude.{nat_eq, slice_get}
use Rattle.qbs_base.specs.declared.span.Span.{Span}
use Rattle.qbs_base.specs.Values.{Schema}
use Rattle.java_ast.specs.Names.{Names}
use Rattle.java_ast.specs.Path.{found_in, numbered, branch_of, statement_in, statement_at, first_of, behind_of, last_of, with_body, with_methods, replaced_in, replaced_at}
use Rattle.java_ast.specs.Tree as tree
use Rattle.java_ast.specs.Tree.{Spelled, Expression, Statement, Statements, Nothing, Then, PlainMethod, PlainProgram}
use Rattle.java_mean.specs.Fits.{visible_before, around_place, in_first}
use Rattle.java_mean.specs.Numbers.{statement_fits, NumbersFit}
use Rattle.java_mean.specs.Places.{is_nothing, in_body, in_statement, in_statements}
use Rattle.java_mean.specs.Queries.{Reader}
use Rattle.java_mean.specs.Refines.{Hole, fill, behind, types_at}
use Rattle.java_mean.specs.Types.{types_of_params}
use Rattle.java_mean.specs.Visible.{Visible, with_params}
use Rattle.java_mean.specs.WellTyped.{faults_in, IsWellTyped}
use Rattle.java_mean.proofs.Faultless.{none_in}
use Rattle.java_mean.proofs.Fitting.{refilled, place_seen}
use Rattle.java_loops.specs.Walks.Places.{place_in, run_in, of_branch, branch_there}
use Rattle.java_loops.specs.Walks.Replacing.{run_and_loop}
use Rattle.java_loops.proofs.Walks.Placed.{replaced_fills, whole_fills}
use Rattle.java_loops.proofs.Walks.PlacedPrograms.{MethodAt, method_at}
use Rattle.spreads.specs.Alone.{times_named, walks_alone}
use Rattle.spreads.specs.Spread.{Select, select_of, is_there, value_declared, walked_or, spread_in, spread_among, selects_among, spread_of}
use Rattle.spreads.specs.Staying.{assigned_among}
use Rattle.spreads.proofs.Chosen.{both_so}
use Rattle.spreads.proofs.Fares.{Fares, FaresOne, fares_nothing, fares_then, fares_itself, fares_if, fares_choice, fares_while, fares_each, fares_walk, fares_pair}
use Rattle.spreads.proofs.FineConditions.{again}
use Rattle.spreads.proofs.FineWalks.{select_known}
use Rattle.spreads.proofs.Literals.{both_true, fill_fits, methods_still_fit}
use Rattle.spreads.proofs.Named.{others}
use Rattle.spreads.proofs.Pairs.{IsPair, pair_if}
use Rattle.spreads.proofs.FewerWalked.{joined}

-- ---- Statements

module _ (schema : Schema) (reader : Reader schema) (r : Option Spelled) (assigned : Names) where
  abbrev spread_block : Statements → Statements
  spread_block p = spread_among schema reader.read assigned None p

  abbrev One : Statement → Statement → Type 0
  One = FaresOne schema reader.read r

  abbrev All : Statements → Statements → Type 0
  All = Fares schema reader.read r

  by_select : (at : Span) (ty : Spelled) (x : List ℕ) (e : Expression) (p : Statements) → All p (spread_block p) → (o : Option Select) → select_of schema reader.read assigned e ≡ o → One (tree.ForEach at ty x e p) (walked_or schema at ty x e o (spread_block p))
  by_select at ty x e p k (Some s) h = fares_walk schema reader.read r assigned e s (select_known schema reader assigned e s h) at ty x p (spread_block p) k
  by_select at ty x e p k None h = fares_each schema reader.read r at ty x e p (spread_block p) k

  abbrev declared_spread : Option Expression → Span → Spelled → List ℕ → Expression → Span → Spelled → List ℕ → Expression → Statements → Statements → Statements
  declared_spread o at ty x e at2 ty2 y e2 body p =
      elim o as (λ _. Statements) [
        | Some value ↦ spread_among schema reader.read assigned (Some value) (Then (tree.ForEach at2 ty2 y e2 body) p)
        | None ↦ Then (spread_in schema reader.read assigned None (tree.Declare at ty x e)) (spread_among schema reader.read assigned None (Then (tree.ForEach at2 ty2 y e2 body) p))
      ]

  as_pair : (at : Span) (ty : Spelled) (x : List ℕ) (e : Expression) (at2 : Span) (ty2 : Spelled) (y : List ℕ) (e2 : Expression) (body p : Statements) (v : Expression) → IsPair schema reader assigned x e at2 ty2 y e2 body p v → All body (spread_block body) → All p (spread_block p) → All (Then (tree.Declare at ty x e) (Then (tree.ForEach at2 ty2 y e2 body) p)) (Then (walked_or schema at2 ty2 y e2 (select_of schema reader.read assigned v) (spread_block body)) (spread_block p))
  as_pair at ty x e at2 ty2 y e2 body p v pair k j =
      let named : times_named x (Then (tree.ForEach at2 ty2 y (tree.Var pair.place x) body) p) ≡ 1 = subst (λ z. times_named x (Then (tree.ForEach at2 ty2 y z body) p) ≡ 1) pair.walks pair.once in
      let there : select_of schema reader.read assigned v ≡ Some pair.select = ap (select_of schema reader.read assigned) (sym pair.value) ∙ pair.selects in
      let fares = fares_pair schema reader.read r assigned e pair.select (select_known schema reader assigned e pair.select pair.selects) at ty x at2 ty2 y pair.place body (spread_block body) p (spread_block p) (others x at2 pair.place ty2 y body p named) k j in
      subst (λ z. All (Then (tree.Declare at ty x e) (Then (tree.ForEach at2 ty2 y z body) p)) (Then (walked_or schema at2 ty2 y z (select_of schema reader.read assigned v) (spread_block body)) (spread_block p))) (sym pair.walks)
      (subst (λ o. All (Then (tree.Declare at ty x e) (Then (tree.ForEach at2 ty2 y (tree.Var pair.place x) body) p)) (Then (walked_or schema at2 ty2 y (tree.Var pair.place x) o (spread_block body)) (spread_block p))) (sym there) fares)

  by_declared : (at : Span) (ty : Spelled) (x : List ℕ) (e : Expression) (at2 : Span) (ty2 : Spelled) (y : List ℕ) (e2 : Expression) (body p : Statements) → All body (spread_block body) → All p (spread_block p) → All (Then (tree.ForEach at2 ty2 y e2 body) p) (spread_block (Then (tree.ForEach at2 ty2 y e2 body) p)) → (o : Option Expression) → value_declared schema reader.read assigned (tree.Declare at ty x e) (Then (tree.ForEach at2 ty2 y e2 body) p) ≡ o → All (Then (tree.Declare at ty x e) (Then (tree.ForEach at2 ty2 y e2 body) p)) (declared_spread o at ty x e at2 ty2 y e2 body p)
  by_declared at ty x e at2 ty2 y e2 body p k j later (Some v) h = as_pair at ty x e at2 ty2 y e2 body p v (pair_if schema reader assigned x e at2 ty2 y e2 body p v (walks_alone x (Then (tree.ForEach at2 ty2 y e2 body) p) && is_there (select_of schema reader.read assigned e)) refl h) k j
  by_declared at ty x e at2 ty2 y e2 body p k j later None h = fares_then schema reader.read r (tree.Declare at ty x e) (tree.Declare at ty x e) (Then (tree.ForEach at2 ty2 y e2 body) p) (spread_block (Then (tree.ForEach at2 ty2 y e2 body) p)) (fares_itself schema reader.read r (tree.Declare at ty x e)) later

  mutual
    in_fares : (a : Statement) → One a (spread_in schema reader.read assigned None a)
    in_fares (tree.If at c p) = fares_if schema reader.read r at c p (spread_block p) (among_fares p)
    in_fares (tree.IfElse at c p q) = fares_choice schema reader.read r at c p (spread_block p) q (spread_block q) (among_fares p) (among_fares q)
    in_fares (tree.ForEach at ty x e p) = by_select at ty x e p (among_fares p) (select_of schema reader.read assigned e) refl
    in_fares (tree.While at c p) = fares_while schema reader.read r at c p (spread_block p) (among_fares p)
    in_fares a = fares_itself schema reader.read r a

    pub among_fares : (p : Statements) → All p (spread_block p)
    among_fares Nothing = fares_nothing schema reader.read r
    among_fares (Then (tree.Declare at ty x e) (Then (tree.ForEach at2 ty2 y e2 body) p)) =
        by_declared at ty x e at2 ty2 y e2 body p (among_fares body) (among_fares p) (among_fares (Then (tree.ForEach at2 ty2 y e2 body) p)) (value_declared schema reader.read assigned (tree.Declare at ty x e) (Then (tree.ForEach at2 ty2 y e2 body) p)) refl
    among_fares (Then a p) = fares_then schema reader.read r a (spread_in schema reader.read assigned None a) p (spread_block p) (in_fares a) (among_fares p)

-- ---- The loop

module _ (schema : Schema) (reader : Reader schema) (r : Option Spelled) where
  by_count : (at : Span) (ty : Spelled) (x : List ℕ) (e : Expression) (p : Statements) (z : Statement) (b : Bool) → cond b None (let o : Option Statement = Some (tree.ForEach at ty x e (spread_among schema reader.read (assigned_among p) None p)) in o) ≡ Some z → FaresOne schema reader.read r (tree.ForEach at ty x e p) z
  by_count at ty x e p z true i = absurd cc
  by_count at ty x e p z false i = subst (FaresOne schema reader.read r (tree.ForEach at ty x e p)) (some_statement (tree.ForEach at ty x e (spread_among schema reader.read (assigned_among p) None p)) z i) (fares_each schema reader.read r at ty x e p (spread_among schema reader.read (assigned_among p) None p) (among_fares schema reader r (assigned_among p) p))
    where
      some_statement : (a b : Statement) → (let o : Option Statement = Some a in o) ≡ Some b → a ≡ b
      some_statement a b e = ap (λ (o : Option Statement). elim o as (λ _. Statement) [ Some z ↦ z | None ↦ a ]) e

  pub spread_fares : (s z : Statement) → spread_of schema reader.read s ≡ Some z → FaresOne schema reader.read r s z
  spread_fares (tree.ForEach at ty x e p) z i = by_count at ty x e p z (nat_eq (selects_among schema reader.read (assigned_among p) None p) 0) i
  spread_fares s z i = absurd cc

-- ---- The program

none_run : (n : ℕ) (block : Statements) → behind_of n (first_of n block) ≡ Nothing
none_run zero block = refl
none_run (suc n) Nothing = refl
none_run (suc n) (Then a p) = none_run n p

run_branch : (path : List ℕ) (m first b : ℕ) (o : Option Statement) → ((p : Statements) → run_in path m first p ≡ Nothing) → of_branch (run_in path m first) (branch_there b o) ≡ Nothing
run_branch path m first b None h = refl
run_branch path m first b (Some s) h = by_branch (branch_of b s)
  where
    by_branch : (q : Option Statements) → of_branch (run_in path m first) q ≡ Nothing
    by_branch (Some p) = h p
    by_branch None = refl

-- nothing stands from the last statement to itself
run_nothing : (path : List ℕ) (n : ℕ) (block : Statements) → run_in path n (last_of (n ∷ path)) block ≡ Nothing
run_nothing [] n block = none_run n block
run_nothing (b ∷ []) n block = refl
run_nothing (b ∷ m ∷ path) n block = run_branch path m (last_of (m ∷ path)) b (numbered n block) (λ p. run_nothing path m p)

module _ (schema : Schema) (reader : Reader schema) (p : PlainProgram) (i n : ℕ) (path : List ℕ) (m : PlainMethod) (found : slice_get p.methods i ≡ Some m) (s z : Statement) (there : statement_in path n m.body ≡ Some s) (is : spread_of schema reader.read s ≡ Some z) where
  abbrev last : ℕ
  last = last_of (n ∷ path)

  abbrev hole : Hole
  hole = place_in path n last m.body

  abbrev old : Statements
  old = Then s Nothing

  abbrev new : Statements
  new = Then z Nothing

  fares : FaresOne schema reader.read m.result s z
  fares = spread_fares schema reader m.result s z is

  method : MethodAt i p.methods m
  method = method_at i p.methods m found

  abbrev with_new : Statements → PlainProgram
  with_new body = with_methods p (method.before ++ with_body m body ∷ method.after)

  old_is : p ≡ with_new (fill hole old)
  old_is =
      let whole : m.body ≡ fill hole (run_and_loop (run_in path n last m.body) s) = whole_fills path n last m.body s (omega arith) there in
      ap (with_methods p) method.is ∙ ap with_new (whole ∙ ap (λ q. fill hole (run_and_loop q s)) (run_nothing path n m.body))

  new_is : replaced_at (i ∷ n ∷ path) last new p ≡ with_new (fill hole new)
  new_is = ap (with_methods p) (method.changed (λ q. with_body q (replaced_in path n last new q.body))) ∙ ap with_new (replaced_fills path n last new m.body s there)

  pub spread_typed : IsWellTyped schema reader.read p → IsWellTyped schema reader.read (replaced_at (i ∷ n ∷ path) last new p)
  spread_typed well =
      let old_well : IsWellTyped schema reader.read (with_new (fill hole old)) = subst (IsWellTyped schema reader.read) old_is well in
      let seen = place_seen schema reader.read p method.before method.after m hole old old_well in
      let vs : Visible = visible_before schema (with_params schema [] m.params) hole in
      let known = again vs (types_at schema (types_of_params schema m.params) hole) seen.sees in
      let ends : Bool = is_nothing (behind hole) in
      let one = none_in schema reader.read m.result (in_statement schema vs (around_place in_body hole) ends s) [] seen.part in
      let part : faults_in schema reader.read m.result (in_first schema vs (around_place in_body hole) ends new) ≡ [] = joined schema reader.read m.result (in_statement schema vs (around_place in_body hole) ends z) [] (fares.fine vs (around_place in_body hole) ends known one.left) refl in
      let rest = subst (λ us. faults_in schema reader.read m.result (in_statements schema us (around_place in_body hole) (behind hole)) ≡ []) (fares.left vs) seen.behind in
      let new_well : IsWellTyped schema reader.read (with_new (fill hole new)) = refilled schema reader.read p method.before method.after m hole old new old_well refl (λ h. ap (λ b. b || false) (sym fares.returned) ∙ h) part rest in
      subst (IsWellTyped schema reader.read) (sym new_is) new_well

  pub spread_numbers : NumbersFit p → NumbersFit (replaced_at (i ∷ n ∷ path) last new p)
  spread_numbers fits =
      let new_fits : NumbersFit (with_new (fill hole new)) = methods_still_fit method.before method.after m (fill hole old) (fill hole new) (fill_fits hole old new (λ h. (let both = both_so (statement_fits s) true h in both_true (statement_fits z) true (fares.numbers both.0) refl))) (subst NumbersFit old_is fits) in
      subst NumbersFit (sym new_is) new_fits

-- the statement at a path stands in a method
record Stands (path : List ℕ) (p : PlainProgram) (s : Statement) : Type 0 where
  number : ℕ
  block : ℕ
  inner : List ℕ
  is : path ≡ number ∷ block ∷ inner
  method : PlainMethod
  found : slice_get p.methods number ≡ Some method
  there : statement_in inner block method.body ≡ Some s

stands_by : (i n : ℕ) (path : List ℕ) (p : PlainProgram) (s : Statement) (o : Option PlainMethod) → slice_get p.methods i ≡ o → found_in (λ (method : PlainMethod). statement_in path n method.body) o ≡ Some s → Stands (i ∷ n ∷ path) p s
stands_by i n path p s (Some m) e h = record { number = i; block = n; inner = path; is = refl; method = m; found = e; there = h }
stands_by i n path p s None e h = absurd cc

stands : (path : List ℕ) (p : PlainProgram) (s : Statement) → statement_at path p ≡ Some s → Stands path p s
stands [] p s h = absurd cc
stands (i ∷ []) p s h = absurd cc
stands (i ∷ n ∷ path) p s h = stands_by i n path p s (slice_get p.methods i) refl h

pub typed : (schema : Schema) (reader : Reader schema) (p : PlainProgram) (path : List ℕ) (s z : Statement) → IsWellTyped schema reader.read p → statement_at path p ≡ Some s → spread_of schema reader.read s ≡ Some z → IsWellTyped schema reader.read (replaced_at path (last_of path) (Then z Nothing) p)
typed schema reader p path s z well there is =
    let k = stands path p s there in
    subst (λ q. IsWellTyped schema reader.read (replaced_at q (last_of q) (Then z Nothing) p)) (sym k.is) (spread_typed schema reader p k.number k.block k.inner k.method k.found s z k.there is well)

pub numbers : (schema : Schema) (reader : Reader schema) (p : PlainProgram) (path : List ℕ) (s z : Statement) → NumbersFit p → statement_at path p ≡ Some s → spread_of schema reader.read s ≡ Some z → NumbersFit (replaced_at path (last_of path) (Then z Nothing) p)
numbers schema reader p path s z fits there is =
    let k = stands path p s there in
    subst (λ q. NumbersFit (replaced_at q (last_of q) (Then z Nothing) p)) (sym k.is) (spread_numbers schema reader p k.number k.block k.inner k.method k.found s z k.there is fits)

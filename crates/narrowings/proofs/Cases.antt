-- What is narrowed: a for-each over a fetch, or over a list that is fetched before it.
use Rattle.std.proofs.Common.{◌≡◌, ℕ, zero, suc, Bool, true, false, cond, List, ◌∷◌, Option, Some, None, refl, subst}
use Rattle.std.specs.Option.{option_map}
use Rattle.qbs_base.specs.declared.span.Span.{Span}
use Rattle.qbs_base.specs.Values.{Schema}
use Rattle.java_ast.specs.Path.{behind_of, last_of, replaced_at}
use Rattle.java_ast.specs.Tree as tree
use Rattle.java_ast.specs.Tree.{Spelled, Expression, Statements, Nothing, Then, PlainProgram}
use Rattle.spreads.specs.Alone.{walks_alone}
use Rattle.spreads.specs.Narrowed.{query_of_body, narrowed_each, narrowed_pair, narrowed_before}
use Rattle.narrowings.proofs.Parts.{some_is, mapped}

-- what holds of the program with a query in place of such a fetch
abbrev pub EachSo : Schema → PlainProgram → List ℕ → ℕ → Statements → (PlainProgram → Type 0) → Type 0
EachSo schema p path last block Result =
    (at2 : Span) (ty : Spelled) (x : List ℕ) (e : Expression) (body rest : Statements) (q : Expression) → behind_of last block ≡ Then (tree.ForEach at2 ty x e body) rest → query_of_body schema e x body ≡ Some q
    → Result (replaced_at path last (Then (tree.ForEach at2 ty x q body) Nothing) p)

abbrev pub PairSo : Schema → PlainProgram → List ℕ → ℕ → Statements → (PlainProgram → Type 0) → Type 0
PairSo schema p path last block Result =
    (k : ℕ) → last ≡ suc k → (at3 : Span) (ty3 : Spelled) (v : List ℕ) (value : Expression) (at2 : Span) (ty : Spelled) (x : List ℕ) (e : Expression) (body rest : Statements) (q : Expression)
    → behind_of k block ≡ Then (tree.Declare at3 ty3 v value) (Then (tree.ForEach at2 ty x e body) rest) → walks_alone v (Then (tree.ForEach at2 ty x e body) rest) ≡ true → query_of_body schema value x body ≡ Some q
    → Result (replaced_at path k (Then (tree.Declare at3 ty3 v q) (Then (tree.ForEach at2 ty x e body) Nothing)) p)

module _ (schema : Schema) (p : PlainProgram) (i n : ℕ) (path : List ℕ) (block : Statements) (Result : PlainProgram → Type 0) (each_so : EachSo schema p (i ∷ n ∷ path) (last_of (n ∷ path)) block Result) (pair_so : PairSo schema p (i ∷ n ∷ path) (last_of (n ∷ path)) block Result) where
  abbrev last : ℕ
  last = last_of (n ∷ path)

  each_some : (s : Statements) → behind_of last block ≡ s → (new : Statements) → narrowed_each schema s ≡ Some new → Result (replaced_at (i ∷ n ∷ path) last new p)
  each_some (Then (tree.ForEach at2 ty x e body) rest) there new h =
      let r = mapped (λ (q : Expression). Then (tree.ForEach at2 ty x q body) Nothing) (query_of_body schema e x body) new h in
      subst (λ z. Result (replaced_at (i ∷ n ∷ path) last z p)) r.2 (each_so at2 ty x e body rest r.0 there r.1)
  each_some s there new h = absurd cc

  by_alone : (k : ℕ) → last ≡ suc k → (at3 : Span) (ty3 : Spelled) (v : List ℕ) (value : Expression) (at2 : Span) (ty : Spelled) (x : List ℕ) (e : Expression) (body rest : Statements) → behind_of k block ≡ Then (tree.Declare at3 ty3 v value) (Then (tree.ForEach at2 ty x e body) rest) → (b : Bool) → walks_alone v (Then (tree.ForEach at2 ty x e body) rest) ≡ b → (new : Statements) → cond b (option_map (λ (q : Expression). Then (tree.Declare at3 ty3 v q) (Then (tree.ForEach at2 ty x e body) Nothing)) (query_of_body schema value x body)) None ≡ Some new → Result (replaced_at (i ∷ n ∷ path) k new p)
  by_alone k is at3 ty3 v value at2 ty x e body rest there true alone new h =
      let r = mapped (λ (q : Expression). Then (tree.Declare at3 ty3 v q) (Then (tree.ForEach at2 ty x e body) Nothing)) (query_of_body schema value x body) new h in
      subst (λ z. Result (replaced_at (i ∷ n ∷ path) k z p)) r.2 (pair_so k is at3 ty3 v value at2 ty x e body rest r.0 there alone r.1)
  by_alone k is at3 ty3 v value at2 ty x e body rest there false alone new h = absurd cc

  pair_some : (k : ℕ) → last ≡ suc k → (s : Statements) → behind_of k block ≡ s → (new : Statements) → narrowed_pair schema s ≡ Some new → Result (replaced_at (i ∷ n ∷ path) k new p)
  pair_some k is (Then (tree.Declare at3 ty3 v value) (Then (tree.ForEach at2 ty x e body) rest)) there new h = by_alone k is at3 ty3 v value at2 ty x e body rest there (walks_alone v (Then (tree.ForEach at2 ty x e body) rest)) refl new h
  pair_some k is s there new h = absurd cc

  before_some : (l : ℕ) → last ≡ l → (q : PlainProgram) → narrowed_before schema (i ∷ n ∷ path) l block p ≡ Some q → Result q
  before_some zero is q h = absurd cc
  before_some (suc k) is q h =
      let r = mapped (λ (s : Statements). replaced_at (i ∷ n ∷ path) k s p) (narrowed_pair schema (behind_of k block)) q h in
      subst Result r.2 (pair_some k is (behind_of k block) refl r.0 r.1)

  pub by_each : (o : Option Statements) → narrowed_each schema (behind_of last block) ≡ o → (q : PlainProgram) → elim o as (λ _. Option PlainProgram) [ Some s ↦ Some (replaced_at (i ∷ n ∷ path) last s p) | None ↦ narrowed_before schema (i ∷ n ∷ path) last block p ] ≡ Some q → Result q
  by_each (Some s) e q h = subst Result (some_is (replaced_at (i ∷ n ∷ path) last s p) q h) (each_some (behind_of last block) refl s e)
  by_each None e q h = before_some last refl q h

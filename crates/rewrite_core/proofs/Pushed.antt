-- The statements that ask, as code adds them one after the other.
use Rattle.std.proofs.Common.{◌≡◌, ℕ, suc, ◌+◌, List, [], ◌∷◌, ◌++◌, length, slice_get, Option, Some, None, refl, sym, ap, ap₂, ◌∙◌, subst, arith}
use Rattle.kernel_lang.specs.Plain.{Accumulator}
use Rattle.sql_parts.specs.Numbered.{Emission}
use Rattle.sql_ast.specs.Valid.{IsQueryOf}
use Rattle.java_ast.specs.declared.tree.Stmt.{Stmt}
use Rattle.java_ast.specs.Path.{and_then}
use Rattle.java_ast.specs.Reading.{statement, statements}
use Rattle.java_ast.specs.Tree.{Statement, Statements, Nothing, Then}
use Rattle.java_ast.specs.Names.{Names}
use Rattle.rewrite_core.specs.LoopWithCandidate.{LoopWithCandidate, outermost, statement_for, emitted_in, asked_with, asked_at, asked_from, IsValidAt, AreValidFrom}
use Rattle.rewrite_core.proofs.Giving.{and_nothing, and_then_joined}

one_pushed : (all : List Stmt) (s : Stmt) → statements (all ++ s ∷ []) ≡ and_then (statements all) (Then (statement s) Nothing)
one_pushed [] s = refl
one_pushed (x ∷ all) s = ap (Then (statement x)) (one_pushed all s)

module _ (g : LoopWithCandidate) where
  pub push_none : (k : ℕ) (x : List ℕ) (all : Statements) → None ≡ outermost (slice_get g.fragment.accs k) → all ≡ and_then all (asked_at g k x)
  push_none k x all none = sym (ap (λ (o : Option Accumulator). and_then all (asked_with g x o (emitted_in g k))) (sym none) ∙ and_nothing all)

  pub push_some : (k : ℕ) (x : List ℕ) (a : Accumulator) (e : Emission) (all new : List Stmt) (s : Stmt) → Some a ≡ outermost (slice_get g.fragment.accs k) → Some e ≡ emitted_in g k → statement s ≡ statement_for g x a.update e → new ≡ all ++ s ∷ [] → statements new ≡ and_then (statements all) (asked_at g k x)
  push_some k x a e all new s found emits is pushed =
      ap statements pushed
      ∙ one_pushed all s
      ∙ ap (λ (t : Statement). and_then (statements all) (Then t Nothing)) is
      ∙ ap₂ (λ (o : Option Accumulator) (q : Option Emission). and_then (statements all) (asked_with g x o q)) found emits

  pub push_end : (k : ℕ) (names : Names) (all : Statements) → length names ≡ 0 → all ≡ and_then all (asked_from g k names)
  push_end k [] all is = sym (and_nothing all)
  push_end k (x ∷ xs) all is = absurd (omega (arith, is))

  pub push_all : (k next : ℕ) (x : List ℕ) (names rest : Names) (old mid new : Statements) → names ≡ x ∷ rest → next ≡ k + 1 → mid ≡ and_then old (asked_at g k x) → new ≡ and_then mid (asked_from g next rest) → new ≡ and_then old (asked_from g k names)
  push_all k next x names rest old mid new is more one others =
      let after : next ≡ suc k = omega (arith, more) in
      others
      ∙ ap (λ (n : ℕ). and_then mid (asked_from g n rest)) after
      ∙ ap (λ (ss : Statements). and_then ss (asked_from g (suc k) rest)) one
      ∙ and_then_joined old (asked_at g k x) (asked_from g (suc k) rest)
      ∙ ap (λ (xs : Names). and_then old (asked_from g k xs)) (sym is)

  -- behind what stays
  pub behind_kept : (kept stays all : Statements) (names : Names) → all ≡ and_then kept (asked_from g 0 names) → kept ≡ stays → all ≡ and_then stays (asked_from g 0 names)
  behind_kept kept stays all names e is = e ∙ ap (λ (ss : Statements). and_then ss (asked_from g 0 names)) is

  -- ---- Their queries

  pub none_valid : (k : ℕ) → None ≡ outermost (slice_get g.fragment.accs k) → IsValidAt g k
  none_valid k none a e found emits = let no : None ≡ Some a = none ∙ found in absurd cc

  pub some_valid : (k : ℕ) (q : Emission) → Some q ≡ emitted_in g k → IsQueryOf g.schema q.query → IsValidAt g k
  some_valid k q emits valid a e found is =
      let both : Some q ≡ Some e = emits ∙ is in
      let same : q ≡ e = cc in
      subst (λ (z : Emission). IsQueryOf g.schema z.query) same valid

  pub end_valid : (k : ℕ) (names : Names) → length names ≡ 0 → AreValidFrom g k names
  end_valid k [] is = tt
  end_valid k (x ∷ xs) is = absurd (omega (arith, is))

  pub all_valid : (k next : ℕ) (x : List ℕ) (names rest : Names) → names ≡ x ∷ rest → next ≡ k + 1 → IsValidAt g k → AreValidFrom g next rest → AreValidFrom g k names
  all_valid k next x names rest is more one others =
      let after : next ≡ suc k = omega (arith, more) in
      subst (AreValidFrom g k) (sym is) (one, subst (λ (n : ℕ). AreValidFrom g n rest) after others)

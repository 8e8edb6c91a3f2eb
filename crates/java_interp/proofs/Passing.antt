-- Statements one by one, and turns of loops.
use Rattle.std.proofs.Common.{◌≡◌, ℕ, zero, suc, ◌+◌, ◌<◌, ◌≤◌, true, List, [], ◌∷◌, subst, add-one, length, drop, get_or, slice_get, option_map, Some, Option, Ok, Err, refl, sym, ap, ◌∙◌, arith}
use Rattle.qbs_base.specs.declared.scalar.Row.{Row}
use Rattle.qbs_base.specs.declared.scalar.Value.{Value}
use Rattle.java_ast.specs.declared.tree.Stmt.{Stmt}
use Rattle.java_ast.specs.Reading.{statement, statements}
use Rattle.java_ast.specs.Tree.{Statements}
use Rattle.java_mean.specs.declared.ending.Ending.{Ending}
use Rattle.java_mean.specs.Expression.{element}
use Rattle.java_mean.specs.Statement.{State, GoesOn, Leaves, Returns, Does, Test, turn, then_do, then_turn, each, repeat, meaning, meanings}
use Rattle.java_mean.specs.Store.{Store, plainly, put}
use Rattle.java_mean.specs.World.{World}
use Rattle.java_steps.proofs.Columns.{next_item}
use Rattle.java_interp.proofs.Turns.{Within, turn_one, meanings_keeps, repeat_unrolled}

-- ---- Statements one by one

module _ (block : List Stmt) (i : ℕ) (s : Stmt) (w : World) (m : State) (lt : i < length block) (at : s ≡ get_or block i s) where
  begun : meanings (statements (drop i block)) w m ≡ then_do (meaning (statement s) w m) (meanings (statements (drop (i + 1) block)) w)
  begun = ap (λ (l : List Stmt). meanings (statements l) w m) (next_item block i s lt at)

  pub statement_on : (t : State) → meaning (statement s) w m ≡ Ok (GoesOn t) → meanings (statements (drop i block)) w m ≡ meanings (statements (drop (i + 1) block)) w t
  statement_on t e = begun ∙ ap (λ r. then_do r (meanings (statements (drop (i + 1) block)) w)) e

  pub statement_leaves : (t : State) → meaning (statement s) w m ≡ Ok (Leaves t) → meanings (statements (drop i block)) w m ≡ Ok (Leaves t)
  statement_leaves t e = begun ∙ ap (λ r. then_do r (meanings (statements (drop (i + 1) block)) w)) e

  pub statement_returns : (t : State) (v : Option Value) → meaning (statement s) w m ≡ Ok (Returns t v) → meanings (statements (drop i block)) w m ≡ Ok (Returns t v)
  statement_returns t v e = begun ∙ ap (λ r. then_do r (meanings (statements (drop (i + 1) block)) w)) e

  pub statement_stops : (e : Ending) → meaning (statement s) w m ≡ Err e → meanings (statements (drop i block)) w m ≡ Err e
  statement_stops e h = begun ∙ ap (λ r. then_do r (meanings (statements (drop (i + 1) block)) w)) h

-- ---- Turns over a list

-- a member of a list stands in front of what is left of it
record IsNext (rows : List Row) (i : ℕ) (v : Value) : Type 0 where
  row : Row
  rest : drop i rows ≡ row ∷ drop (suc i) rows
  is : v ≡ element row

next : (rows : List Row) (i : ℕ) (v : Value) → i < length rows → Some v ≡ option_map element (slice_get rows i) → IsNext rows i v
next [] i v lt e = absurd (omega arith)
next (row ∷ rows) zero v lt e = record { row = row; rest = refl; is = cc }
next (row ∷ rows) (suc i) v lt e = let h = next rows i v (omega arith) e in record { row = h.row; rest = h.rest; is = h.is }

module _ (rows : List Row) (i : ℕ) (x : List ℕ) (p : Statements) (w : World) (s : State) (v : Value) (lt : i < length rows) (at : Some v ≡ option_map element (slice_get rows i)) where
  pub each_out : (e : Ending) → turn s ≡ Err e → each (drop i rows) x (meanings p w) s ≡ Err e
  each_out e q = let h = next rows i v lt at in ap (λ (l : List Row). each l x (meanings p w) s) h.rest ∙ rw q refl

  module _ (t : State) (store : Store) (q : turn s ≡ Ok t) (put_is : store ≡ put t.store x (plainly v)) where
    each_begun : each (drop i rows) x (meanings p w) s ≡ then_turn (meanings p w (record { store = store; lines = t.lines; turns = t.turns })) (each (drop (i + 1) rows) x (meanings p w))
    each_begun =
        let h = next rows i v lt at in
        ap (λ (l : List Row). each l x (meanings p w) s) h.rest
        ∙ rw q (ap (λ (u : Store). then_turn (meanings p w (record { store = u; lines = t.lines; turns = t.turns })) (each (drop (suc i) rows) x (meanings p w))) (sym (put_is ∙ ap (λ (u : Value). put t.store x (plainly u)) h.is)))
        ∙ ap (λ (n : ℕ). then_turn (meanings p w (record { store = store; lines = t.lines; turns = t.turns })) (each (drop n rows) x (meanings p w))) (sym (add-one i))

    pub each_on : (u : State) → meanings p w (record { store = store; lines = t.lines; turns = t.turns }) ≡ Ok (GoesOn u) → each (drop i rows) x (meanings p w) s ≡ each (drop (i + 1) rows) x (meanings p w) u
    each_on u e = each_begun ∙ ap (λ r. then_turn r (each (drop (i + 1) rows) x (meanings p w))) e

    pub each_left : (u : State) → meanings p w (record { store = store; lines = t.lines; turns = t.turns }) ≡ Ok (Leaves u) → each (drop i rows) x (meanings p w) s ≡ Ok (GoesOn u)
    each_left u e = each_begun ∙ ap (λ r. then_turn r (each (drop (i + 1) rows) x (meanings p w))) e

    pub each_returned : (u : State) (r : Option Value) → meanings p w (record { store = store; lines = t.lines; turns = t.turns }) ≡ Ok (Returns u r) → each (drop i rows) x (meanings p w) s ≡ Ok (Returns u r)
    each_returned u r e = each_begun ∙ ap (λ q. then_turn q (each (drop (i + 1) rows) x (meanings p w))) e

    pub each_stops : (e : Ending) → meanings p w (record { store = store; lines = t.lines; turns = t.turns }) ≡ Err e → each (drop i rows) x (meanings p w) s ≡ Err e
    each_stops e h = each_begun ∙ ap (λ r. then_turn r (each (drop (i + 1) rows) x (meanings p w))) h

pub each_over : (rows : List Row) (i : ℕ) (x : List ℕ) (body : Does) (s : State) → length rows ≤ i → each (drop i rows) x body s ≡ Ok (GoesOn s)
each_over [] zero x body s le = refl
each_over [] (suc i) x body s le = refl
each_over (row ∷ rows) zero x body s le = absurd (omega arith)
each_over (row ∷ rows) (suc i) x body s le = each_over rows i x body s (omega arith)

-- ---- Turns with a test

module _ (test : Test) (p : Statements) (w : World) (s t : State) (yes : test s.store ≡ Ok true) (q : turn s ≡ Ok t) where
  repeat_begun : repeat s.turns test (meanings p w) s ≡ then_turn (meanings p w t) (λ u. repeat u.turns test (meanings p w) u)
  repeat_begun = repeat_unrolled test p w s t yes q

  pub repeat_on : (u : State) → meanings p w t ≡ Ok (GoesOn u) → repeat s.turns test (meanings p w) s ≡ repeat u.turns test (meanings p w) u
  repeat_on u e = repeat_begun ∙ ap (λ r. then_turn r (λ u. repeat u.turns test (meanings p w) u)) e

  pub repeat_left : (u : State) → meanings p w t ≡ Ok (Leaves u) → repeat s.turns test (meanings p w) s ≡ Ok (GoesOn u)
  repeat_left u e = repeat_begun ∙ ap (λ r. then_turn r (λ u. repeat u.turns test (meanings p w) u)) e

  pub repeat_returned : (u : State) (r : Option Value) → meanings p w t ≡ Ok (Returns u r) → repeat s.turns test (meanings p w) s ≡ Ok (Returns u r)
  repeat_returned u r e = repeat_begun ∙ ap (λ q. then_turn q (λ u. repeat u.turns test (meanings p w) u)) e

  pub repeat_fails : (e : Ending) → meanings p w t ≡ Err e → repeat s.turns test (meanings p w) s ≡ Err e
  repeat_fails e h = repeat_begun ∙ ap (λ r. then_turn r (λ u. repeat u.turns test (meanings p w) u)) h

  -- a turn is gone
  pub turns_fall : (u : State) → meanings p w t ≡ Ok (GoesOn u) → u.turns < s.turns
  turns_fall u e =
      let one = turn_one s t q in
      let h : Within t.turns (Ok (GoesOn u)) = subst (Within t.turns) e (meanings_keeps p w t) in
      omega (arith, one, h)

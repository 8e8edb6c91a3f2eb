-- Where a statement that is narrowed stands: in which block, and behind which path.
use Rattle.std.proofs.Common.{◌≡◌, ℕ, zero, suc, Bool, true, false, List, [], ◌∷◌, Option, Some, None, refl, ap, ◌∙◌, cond, subst}
use Rattle.std.specs.Prelude.{◌==◌}
use Rattle.java_ast.specs.Path.{found_in, numbered, branch_of, statement_in, first_of, behind_of, last_of}
use Rattle.java_ast.specs.Tree as tree
use Rattle.java_ast.specs.Tree.{Expression, Statement, Statements, Nothing, Then}
use Rattle.qbs_base.specs.declared.span.Span.{Span}
use Rattle.java_mean.specs.Refines.{Hole, Here, InThen, InElse, behind}
use Rattle.java_loops.specs.Walks.Places.{past, inside, place_in, of_branch, branch_there, run_in}
use Rattle.spreads.specs.Narrowed.{is_no_loop, outer_block}
use Rattle.narrowings.proofs.Parts.{some_is}

behind_past : (p : Statements) (h : Hole) → behind (past p h) ≡ behind h
behind_past Nothing h = refl
behind_past (Then a p) h = behind_past p h

-- ---- A branch

first_same : (t : Bool) (a p : Statements) (f : Statements → Hole) → cond t (Some a) None ≡ Some p → behind (f a) ≡ behind (f p)
first_same true a p f e = ap (λ z. behind (f z)) (some_is a p e)
first_same false a p f e = absurd cc

either_same : (t u : Bool) (at : Span) (c : Expression) (a o p : Statements) (f : Statements → Hole) (rest : Statements) → cond t (Some a) (cond u (Some o) None) ≡ Some p → behind (cond t (InThen at c (f a) o rest) (InElse at c a (f o) rest)) ≡ behind (f p)
either_same true u at c a o p f rest e = ap (λ z. behind (f z)) (some_is a p e)
either_same false true at c a o p f rest e = ap (λ z. behind (f z)) (some_is o p e)
either_same false false at c a o p f rest e = absurd cc

inside_behind : (b : ℕ) (s : Statement) (p : Statements) (f : Statements → Hole) (rest : Statements) → branch_of b s ≡ Some p → behind (inside b (Some s) f rest) ≡ behind (f p)
inside_behind b (tree.If at c a) p f rest e = first_same (b == 0) a p f e
inside_behind b (tree.IfElse at c a o) p f rest e = either_same (b == 0) (b == 1) at c a o p f rest e
inside_behind b (tree.ForEach at ty x l a) p f rest e = first_same (b == 0) a p f e
inside_behind b (tree.While at c a) p f rest e = first_same (b == 0) a p f e
inside_behind b s p f rest e = absurd cc

-- ---- The block

-- a path into this body leads into this block
pub record Leads (path : List ℕ) (n : ℕ) (body block : Statements) : Type 0 where
  pub leads : (s : Statement) → numbered (last_of (n ∷ path)) block ≡ Some s → statement_in path n body ≡ Some s
  pub run : (first : ℕ) → run_in path n first body ≡ behind_of first (first_of (last_of (n ∷ path)) block)
  pub rest : (first : ℕ) → behind (place_in path n first body) ≡ behind_of (suc (last_of (n ∷ path))) block

record Below (b m : ℕ) (path : List ℕ) (s : Statement) (block : Statements) : Type 0 where
  branch : Statements
  is : branch_of b s ≡ Some branch
  leads : outer_block path m branch ≡ Some block

below : (b m : ℕ) (path : List ℕ) (s : Statement) (block : Statements) (o : Option Statements) → branch_of b s ≡ o → found_in (outer_block path m) o ≡ Some block → Below b m path s block
below b m path s block (Some p) e h = record { branch = p; is = e; leads = h }
below b m path s block None e h = absurd cc

no_loop : (b m : ℕ) (path : List ℕ) (s : Statement) (block : Statements) (c : Bool) → cond c (found_in (outer_block path m) (branch_of b s)) None ≡ Some block → Below b m path s block
no_loop b m path s block true h = below b m path s block (branch_of b s) refl h
no_loop b m path s block false h = absurd cc

record Around (b m n : ℕ) (path : List ℕ) (body block : Statements) : Type 0 where
  statement : Statement
  there : numbered n body ≡ Some statement
  below_ : Below b m path statement block

around : (b m n : ℕ) (path : List ℕ) (body block : Statements) (o : Option Statement) → numbered n body ≡ o → found_in (λ s. cond (is_no_loop s) (found_in (outer_block path m) (branch_of b s)) None) o ≡ Some block → Around b m n path body block
around b m n path body block (Some s) e h = record { statement = s; there = e; below_ = no_loop b m path s block (is_no_loop s) h }
around b m n path body block None e h = absurd cc

pub leads_to : (path : List ℕ) (n : ℕ) (body block : Statements) → outer_block path n body ≡ Some block → Leads path n body block
leads_to [] n body block e = subst (Leads [] n body) (some_is body block e) (record { leads = λ s h. h; run = λ first. refl; rest = λ first. behind_past (first_of first body) (Here (behind_of (suc n) body)) })
leads_to (b ∷ []) n body block e = absurd cc
leads_to (b ∷ m ∷ path) n body block e =
    let k : Around b m n path body block = around b m n path body block (numbered n body) refl e in
    let i = leads_to path m k.below_.branch block k.below_.leads in
    let rest : Statements = behind_of (suc n) body in
    record {
      leads = λ s h. ap (found_in (λ s. found_in (statement_in path m) (branch_of b s))) k.there ∙ ap (found_in (statement_in path m)) k.below_.is ∙ i.leads s h;
      run = λ first. ap (λ o. of_branch (run_in path m first) (branch_there b o)) k.there ∙ ap (of_branch (run_in path m first)) k.below_.is ∙ i.run first;
      rest = λ first. behind_past (first_of n body) (inside b (numbered n body) (place_in path m first) rest) ∙ ap (λ o. behind (inside b o (place_in path m first) rest)) k.there ∙ inside_behind b k.statement k.below_.branch (place_in path m first) rest k.below_.is ∙ i.rest first;
    }

-- ---- Statements of the block

first_statement : Statement → Statements → Statement
first_statement a Nothing = a
first_statement a (Then s p) = s

behind_first : Statements → Statements
behind_first Nothing = Nothing
behind_first (Then s p) = p

same_first : (s a : Statement) (p q : Statements) → Then s p ≡ Then a q → s ≡ a
unfolding first_statement
same_first s a p q e = ap (first_statement s) e

same_behind : (s a : Statement) (p q : Statements) → Then s p ≡ Then a q → p ≡ q
unfolding behind_first
same_behind s a p q e = ap behind_first e

pub numbered_behind : (n : ℕ) (block : Statements) (a : Statement) (rest : Statements) → behind_of n block ≡ Then a rest → numbered n block ≡ Some a
numbered_behind zero Nothing a rest e = absurd cc
numbered_behind zero (Then s p) a rest e = ap (λ z. let o : Option Statement = Some z in o) (same_first s a p rest e)
numbered_behind (suc n) Nothing a rest e = absurd cc
numbered_behind (suc n) (Then s p) a rest e = numbered_behind n p a rest e

pub rest_behind : (n : ℕ) (block : Statements) (a : Statement) (rest : Statements) → behind_of n block ≡ Then a rest → behind_of (suc n) block ≡ rest
rest_behind zero Nothing a rest e = absurd cc
rest_behind zero (Then s p) a rest e = same_behind s a p rest e
rest_behind (suc n) Nothing a rest e = absurd cc
rest_behind (suc n) (Then s p) a rest e = rest_behind n p a rest e

pub none_first : (n : ℕ) (block : Statements) → behind_of n (first_of n block) ≡ Nothing
none_first zero block = refl
none_first (suc n) Nothing = refl
none_first (suc n) (Then s p) = none_first n p

pub one_first : (n : ℕ) (block : Statements) (a : Statement) (rest : Statements) → behind_of n block ≡ Then a rest → behind_of n (first_of (suc n) block) ≡ Then a Nothing
one_first zero Nothing a rest e = absurd cc
one_first zero (Then s p) a rest e = ap (λ z. Then z Nothing) (same_first s a p rest e)
one_first (suc n) Nothing a rest e = absurd cc
one_first (suc n) (Then s p) a rest e = one_first n p a rest e

-- Statements that others replace, with places left aside.
use Rattle.std.proofs.Common.{◌≡◌, ℕ, zero, suc, Bool, true, false, cond, List, [], ◌∷◌, refl, sym, ap, ◌∙◌}
use Rattle.std.specs.Prelude.{◌==◌}
use Rattle.java_ast.specs.Path.{and_then, first_of, behind_of, with_range, with_numbered, with_branch, replaced_in, with_body, with_method, replaced_at}
use Rattle.java_ast.specs.Tree.{Statement, Declare, Assign, Add, Sort, If, IfElse, ForEach, While, Print, Return, Break, Statements, Nothing, Then, PlainMethod, PlainProgram}
use Rattle.java_ast.specs.Unplaced.{nowhere, unplaced, unplaced_statement, unplaced_block, unplaced_method, unplaced_methods, unplaced_program}

unplaced_joined : (xs ys : Statements) → unplaced_block (and_then xs ys) ≡ and_then (unplaced_block xs) (unplaced_block ys)
unplaced_joined Nothing ys = refl
unplaced_joined (Then x xs) ys = ap (Then (unplaced_statement x)) (unplaced_joined xs ys)

unplaced_first : (n : ℕ) (xs : Statements) → unplaced_block (first_of n xs) ≡ first_of n (unplaced_block xs)
unplaced_first zero xs = refl
unplaced_first (suc n) Nothing = refl
unplaced_first (suc n) (Then x xs) = ap (Then (unplaced_statement x)) (unplaced_first n xs)

unplaced_behind : (n : ℕ) (xs : Statements) → unplaced_block (behind_of n xs) ≡ behind_of n (unplaced_block xs)
unplaced_behind zero xs = refl
unplaced_behind (suc n) Nothing = refl
unplaced_behind (suc n) (Then x xs) = unplaced_behind n xs

unplaced_range : (first last : ℕ) (others xs : Statements) → unplaced_block (with_range first last others xs) ≡ with_range first last (unplaced_block others) (unplaced_block xs)
unplaced_range first last others xs =
    unplaced_joined (first_of first xs) (and_then others (behind_of (suc last) xs))
    ∙ (ap (λ (ys : Statements). and_then ys (unplaced_block (and_then others (behind_of (suc last) xs)))) (unplaced_first first xs)
    ∙ ap (and_then (first_of first (unplaced_block xs))) (unplaced_joined others (behind_of (suc last) xs) ∙ ap (and_then (unplaced_block others)) (unplaced_behind (suc last) xs)))

unplaced_numbered : (n : ℕ) (f g : Statement → Statement) (xs : Statements) → ((x : Statement) → unplaced_statement (f x) ≡ g (unplaced_statement x)) → unplaced_block (with_numbered n f xs) ≡ with_numbered n g (unplaced_block xs)
unplaced_numbered n f g Nothing e = refl
unplaced_numbered zero f g (Then x xs) e = ap (λ (y : Statement). Then y (unplaced_block xs)) (e x)
unplaced_numbered (suc n) f g (Then x xs) e = ap (Then (unplaced_statement x)) (unplaced_numbered n f g xs e)

-- a branch that is changed, or stays
unplaced_if : (v : Bool) (xs ys : Statements) → unplaced_block (cond v xs ys) ≡ cond v (unplaced_block xs) (unplaced_block ys)
unplaced_if true xs ys = refl
unplaced_if false xs ys = refl

module _ (b : ℕ) (f g : Statements → Statements) (e : (xs : Statements) → unplaced_block (f xs) ≡ g (unplaced_block xs)) where
  changed_if : (v : Bool) (xs : Statements) → unplaced_block (cond v (f xs) xs) ≡ cond v (g (unplaced_block xs)) (unplaced_block xs)
  changed_if v xs = unplaced_if v (f xs) xs ∙ ap (λ (ys : Statements). cond v ys (unplaced_block xs)) (e xs)

  unplaced_branch : (x : Statement) → unplaced_statement (with_branch b f x) ≡ with_branch b g (unplaced_statement x)
  unplaced_branch (Declare at ty w value) = refl
  unplaced_branch (Assign at w value) = refl
  unplaced_branch (Add at w value) = refl
  unplaced_branch (Sort at w keys downs) = refl
  unplaced_branch (If at test first) = ap (If nowhere (unplaced test)) (changed_if (b == 0) first)
  unplaced_branch (IfElse at test first other) =
      ap (λ (ys : Statements). IfElse nowhere (unplaced test) ys (unplaced_block (cond (b == 1) (f other) other))) (changed_if (b == 0) first)
      ∙ ap (IfElse nowhere (unplaced test) (cond (b == 0) (g (unplaced_block first)) (unplaced_block first))) (changed_if (b == 1) other)
  unplaced_branch (ForEach at ty w list body) = ap (ForEach nowhere ty w (unplaced list)) (changed_if (b == 0) body)
  unplaced_branch (While at test body) = ap (While nowhere (unplaced test)) (changed_if (b == 0) body)
  unplaced_branch (Print at value) = refl
  unplaced_branch (Return at value) = refl
  unplaced_branch (Break at) = refl

unplaced_replaced : (path : List ℕ) (n first : ℕ) (others xs : Statements) → unplaced_block (replaced_in path n first others xs) ≡ replaced_in path n first (unplaced_block others) (unplaced_block xs)
unplaced_replaced [] n first others xs = unplaced_range first n others xs
unplaced_replaced (b ∷ []) n first others xs = refl
unplaced_replaced (b ∷ m ∷ path) n first others xs =
    unplaced_numbered n (with_branch b (replaced_in path m first others)) (with_branch b (replaced_in path m first (unplaced_block others))) xs
    (unplaced_branch b (replaced_in path m first others) (replaced_in path m first (unplaced_block others)) (λ ys. unplaced_replaced path m first others ys))

module _ (path : List ℕ) (n first : ℕ) (others : Statements) where
  abbrev changed : Statements → PlainMethod → PlainMethod
  changed ss m = with_body m (replaced_in path n first ss m.body)

  unplaced_changed : (k : ℕ) (ms : List PlainMethod) → unplaced_methods (with_method k (changed others) ms) ≡ with_method k (changed (unplaced_block others)) (unplaced_methods ms)
  unplaced_changed k [] = refl
  unplaced_changed zero (m ∷ ms) = ap (λ (body : Statements). (record m { body = body; span = nowhere }) ∷ unplaced_methods ms) (unplaced_replaced path n first others m.body)
  unplaced_changed (suc k) (m ∷ ms) = ap (λ (ns : List PlainMethod). unplaced_method m ∷ ns) (unplaced_changed k ms)

-- what replaces statements stands in their place with places left aside
pub unplaced_program_replaced : (path : List ℕ) (first : ℕ) (others : Statements) (p : PlainProgram) → unplaced_program (replaced_at path first others p) ≡ replaced_at path first (unplaced_block others) (unplaced_program p)
unplaced_program_replaced [] first others p = refl
unplaced_program_replaced (k ∷ []) first others p = refl
unplaced_program_replaced (k ∷ n ∷ path) first others p = ap (λ (ms : List PlainMethod). record p { methods = ms }) (unplaced_changed path n first others k p.methods)

pub same_replaced : (path : List ℕ) (first : ℕ) (others block : Statements) (p q : PlainProgram) → unplaced_block others ≡ unplaced_block block → unplaced_program p ≡ unplaced_program q
    → unplaced_program (replaced_at path first others p) ≡ unplaced_program (replaced_at path first block q)
same_replaced path first others block p q e f =
    unplaced_program_replaced path first others p ∙ (ap (λ (ss : Statements). replaced_at path first ss (unplaced_program p)) e
    ∙ (ap (replaced_at path first (unplaced_block block)) f ∙ sym (unplaced_program_replaced path first block q)))

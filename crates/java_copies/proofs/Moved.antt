-- Statements, methods and programs in which some parts are replaced where they stand.
use Rattle.std.specs.Prelude.{ℕ, zero, suc, List, [], ◌∷◌, ◌++◌, map, Result, Ok, Err, OnOk}
use Rattle.std.proofs.Common.{◌≡◌, ◌<◌, ◌≤◌, refl, sym, ap, ◌∙◌, length, get_or, set, take, drop, arith, append_assoc}
use Rattle.java_ast.specs.declared.tree.Stmt.{Stmt}
use Rattle.java_ast.specs.declared.tree.Method.{Method}
use Rattle.java_ast.specs.Reading.{statement, statements, method}
use Rattle.java_ast.specs.Tree.{Statement, Statements, Then, PlainMethod}
use Rattle.java_ast.specs.Path.{with_range, with_numbered, with_branch, with_method, first_of, and_then, replaced_in}
use Rattle.java_ast.proofs.Joined.{appended}
use Rattle.java_copies.proofs.Ranges.{front_is, back_is}

-- what follows where a call gave no error, of two things that it ensures there
pub both_ok : {T E P Q S : Type 0} (r : Result T E) → (P → Q → S) → OnOk r P → OnOk r Q → OnOk r S
both_ok (Ok x) f p q = f p q
both_ok (Err e) f p q = tt

-- ---- ranges

pub range_put : (first last : ℕ) (block others new : List Stmt) → new ≡ (take first block ++ others) ++ drop (suc last) block → statements new ≡ with_range first last (statements others) (statements block)
range_put first last block others new is =
    ap statements (is ∙ append_assoc (take first block) others (drop (suc last) block))
    ∙ appended (take first block) (others ++ drop (suc last) block)
    ∙ ap (and_then (statements (take first block))) (appended others (drop (suc last) block))
    ∙ ap (λ (ss : Statements). and_then ss (and_then (statements others) (statements (drop (suc last) block)))) (front_is first block)
    ∙ ap (λ (ss : Statements). and_then (first_of first (statements block)) (and_then (statements others) ss)) (back_is (suc last) block)

-- ---- one item changed

pub statement_set : (n : ℕ) (change : Statement → Statement) (block : List Stmt) (s t d : Stmt) → n < length block → s ≡ get_or block n d → statement t ≡ change (statement s) → statements (set block n t) ≡ with_numbered n change (statements block)
statement_set n change [] s t d below is e = absurd (omega arith)
statement_set zero change (u ∷ block) s t d below is e = ap (λ (x : Statement). Then x (statements block)) (e ∙ ap (λ (s : Stmt). change (statement s)) is)
statement_set (suc n) change (u ∷ block) s t d below is e = ap (Then (statement u)) (statement_set n change block s t d (omega arith) is e)

pub step_put : (path below rest : List ℕ) (at further n first : ℕ) (others : Statements) (block : List Stmt) (s t d : Stmt) → path ≡ at ∷ below → below ≡ further ∷ rest → n < length block → s ≡ get_or block n d → statement t ≡ with_branch at (replaced_in rest further first others) (statement s) → statements (set block n t) ≡ replaced_in path n first others (statements block)
step_put path below rest at further n first others block s t d is is_below there found e =
    statement_set n (with_branch at (replaced_in rest further first others)) block s t d there found e
    ∙ ap (λ (p : List ℕ). replaced_in p n first others (statements block)) (sym (is ∙ ap (λ (p : List ℕ). at ∷ p) is_below))

pub method_set : (n : ℕ) (change : PlainMethod → PlainMethod) (methods : List Method) (m k d : Method) → n < length methods → m ≡ get_or methods n d → method k ≡ change (method m) → map method (set methods n k) ≡ with_method n change (map method methods)
method_set n change [] m k d below is e = absurd (omega arith)
method_set zero change (u ∷ methods) m k d below is e = ap (λ (x : PlainMethod). x ∷ map method methods) (e ∙ ap (λ (m : Method). change (method m)) is)
method_set (suc n) change (u ∷ methods) m k d below is e = ap (λ (ms : List PlainMethod). method u ∷ ms) (method_set n change methods m k d (omega arith) is e)

pub no_method_set : (n : ℕ) (change : PlainMethod → PlainMethod) (methods : List Method) → length methods ≤ n → map method methods ≡ with_method n change (map method methods)
no_method_set n change [] above = refl
no_method_set zero change (u ∷ methods) above = absurd (omega arith)
no_method_set (suc n) change (u ∷ methods) above = ap (λ (ms : List PlainMethod). method u ∷ ms) (no_method_set n change methods (omega arith))

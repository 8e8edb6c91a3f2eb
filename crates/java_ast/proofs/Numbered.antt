-- What stands at a number in a list of the code, and in its plain tree.
use Rattle.std.specs.Prelude.{ℕ, zero, suc, List, [], ◌∷◌, Option, Some, None, slice_get, map}
use Rattle.std.proofs.Common.{◌≡◌, ◌<◌, ◌≤◌, length, get_or, refl, sym, ap, ◌∙◌, arith}
use Rattle.java_ast.specs.declared.tree.Stmt.{Stmt}
use Rattle.java_ast.specs.declared.tree.Method.{Method}
use Rattle.java_ast.specs.Reading.{statement, statements, method}
use Rattle.java_ast.specs.Tree.{Statement, Statements, PlainMethod, PlainProgram}
use Rattle.java_ast.specs.Path.{found_in, numbered, branch_of, statement_in, statement_at}

pub statement_some : (block : List Stmt) (n : ℕ) (s d : Stmt) → n < length block → s ≡ get_or block n d → Some (statement s) ≡ numbered n (statements block)
statement_some [] n s d below e = absurd (omega arith)
statement_some (t ∷ ss) zero s d below e = ap (λ (s : Stmt). Some (statement s)) e
statement_some (t ∷ ss) (suc n) s d below e = statement_some ss n s d (omega arith) e

pub statement_none : (block : List Stmt) (n : ℕ) → length block ≤ n → None ≡ numbered n (statements block)
statement_none [] n above = refl
statement_none (s ∷ ss) zero above = absurd (omega arith)
statement_none (s ∷ ss) (suc n) above = statement_none ss n (omega arith)

pub method_some : (methods : List Method) (n : ℕ) (m d : Method) → n < length methods → m ≡ get_or methods n d → Some (method m) ≡ slice_get (map method methods) n
method_some [] n m d below e = absurd (omega arith)
method_some (k ∷ ms) zero m d below e = ap (λ (m : Method). Some (method m)) e
method_some (k ∷ ms) (suc n) m d below e = method_some ms n m d (omega arith) e

pub method_none : (methods : List Method) (n : ℕ) → length methods ≤ n → None ≡ slice_get (map method methods) n
method_none [] n above = refl
method_none (m ∷ ms) zero above = absurd (omega arith)
method_none (m ∷ ms) (suc n) above = method_none ms n (omega arith)

-- a step down along a path
pub below_is : (path below rest : List ℕ) (b m n : ℕ) (block inner : Statements) (s : Statement) (r : Option Statement) → path ≡ b ∷ below → below ≡ m ∷ rest → Some s ≡ numbered n block → Some inner ≡ branch_of b s → r ≡ statement_in rest m inner → r ≡ statement_in path n block
below_is path below rest b m n block inner s r is is_below found branched e =
    e
    ∙ ap (found_in (statement_in rest m)) branched
    ∙ ap (found_in (λ (s : Statement). found_in (statement_in rest m) (branch_of b s))) found
    ∙ ap (λ (p : List ℕ). statement_in p n block) (sym (is ∙ ap (λ (p : List ℕ). b ∷ p) is_below))

pub at_is : (path below rest : List ℕ) (n m : ℕ) (p : PlainProgram) (k : PlainMethod) (r : Option Statement) → path ≡ n ∷ below → below ≡ m ∷ rest → Some k ≡ slice_get p.methods n → r ≡ statement_in rest m k.body → r ≡ statement_at path p
at_is path below rest n m p k r is is_below found e =
    e
    ∙ ap (found_in (λ (k : PlainMethod). statement_in rest m k.body)) found
    ∙ ap (λ (q : List ℕ). statement_at q p) (sym (is ∙ ap (λ (q : List ℕ). n ∷ q) is_below))

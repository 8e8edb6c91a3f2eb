-- Statements at numbers of a run, one after the other.
use Rattle.std.proofs.Common.{◌≡◌, ℕ, ◌-◌, List, [], ◌∷◌, ◌++◌, Option, Some, None, refl, sym, ap, ◌∙◌}
use Rattle.java_ast.specs.declared.tree.Stmt.{Stmt}
use Rattle.java_ast.specs.Path.{and_then, numbered}
use Rattle.java_ast.specs.Reading.{statement, statements}
use Rattle.java_ast.specs.Tree.{Statement, Statements, Nothing, Then}
use Rattle.java_ast.proofs.Joined.{appended}
use Rattle.loop_places.specs.AtNumbers.{alone, at_numbers}

and_then_assoc : (a b c : Statements) → and_then (and_then a b) c ≡ and_then a (and_then b c)
and_then_assoc Nothing b c = refl
and_then_assoc (Then s a) b c = ap (Then s) (and_then_assoc a b c)

pub and_then_nothing : (a : Statements) → and_then a Nothing ≡ a
and_then_nothing Nothing = refl
and_then_nothing (Then s a) = ap (Then s) (and_then_nothing a)

-- a statement that is found is pushed
pub pushed_one : (all after run : List Stmt) (c s : Stmt) (n : ℕ) → after ≡ all ++ c ∷ [] → statement c ≡ statement s → Some (statement s) ≡ numbered n (statements run) → statements after ≡ and_then (statements all) (alone (numbered n (statements run)))
pushed_one all after run c s n is same there =
    ap statements is
    ∙ appended all (c ∷ [])
    ∙ ap (λ (x : Statement). and_then (statements all) (Then x Nothing)) same
    ∙ ap (λ (o : Option Statement). and_then (statements all) (alone o)) there

pub pushed_none : (all run : List Stmt) (n : ℕ) → None ≡ numbered n (statements run) → statements all ≡ and_then (statements all) (alone (numbered n (statements run)))
pushed_none all run n there = sym (and_then_nothing (statements all)) ∙ ap (λ (o : Option Statement). and_then (statements all) (alone o)) there

-- what has been found, followed by the rest, where one more is found
pub one_further : (first : ℕ) (run before after whole : Statements) (n : ℕ) (numbers rest : List ℕ) → and_then before (at_numbers first run numbers) ≡ whole → numbers ≡ n ∷ rest → after ≡ and_then before (alone (numbered (n - first) run)) → and_then after (at_numbers first run rest) ≡ whole
one_further first run before after whole n numbers rest h cut found =
    ap (λ (ss : Statements). and_then ss (at_numbers first run rest)) found
    ∙ and_then_assoc before (alone (numbered (n - first) run)) (at_numbers first run rest)
    ∙ sym (ap (λ (ns : List ℕ). and_then before (at_numbers first run ns)) cut)
    ∙ h

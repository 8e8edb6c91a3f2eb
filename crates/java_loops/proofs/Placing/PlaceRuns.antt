-- Runs of fragments as the laws of runs speak of them.
use Rattle.std.proofs.Common.{◌≡◌, ℕ, Bool, true, false, ◌||◌, List, Some, None, refl, ap, ◌∙◌, subst, cond}
use Rattle.std.specs.Prelude.{bytes_eq}
use Rattle.java_ast.specs.Tree as tree
use Rattle.java_ast.specs.Tree.{Expression, Statement, Statements, Nothing, Then}
use Rattle.java_mean.proofs.Puts.{names_equal}
use Rattle.java_loops.specs.Walks.Runs.{is_set_in, Gives, declares, assigns}
use Rattle.std.proofs.lemmas.Bool.{or_parts}
use Rattle.loop_text.specs.Statements.Fragment.{set_by}
use Rattle.java_ast.specs.Names.{is_among, mentioned_in}
use Rattle.loop_text.specs.Statements.Setting.{touches, first_touching, given_by}

-- ---- Statements that mention a variable

untouched_step : (x : List ℕ) (s : Statement) (p : Statements) (t : Bool) → touches x s ≡ t → cond t (Some s) (first_touching x p) ≡ None → (first_touching x p ≡ None → is_set_in p x ≡ false) → is_set_in (Then s p) x ≡ false
untouched_step x s p true e h ih = absurd cc
untouched_step x s p false e h ih =
    let n = or_parts (bytes_eq (set_by s) x) (is_among (mentioned_in s) x) e in
    ap (λ b. b || is_set_in p x) n.0 ∙ ih h

-- what no statement mentions none sets
pub untouched_unset : (x : List ℕ) (p : Statements) → first_touching x p ≡ None → is_set_in p x ≡ false
untouched_unset x Nothing h = refl
untouched_unset x (Then s p) h = untouched_step x s p (touches x s) refl h (untouched_unset x p)

-- ---- What a statement gives

gives_where : (x y : List ℕ) (e d : Expression) (a : Statement) (b : Bool) → bytes_eq y x ≡ b → ((z : List ℕ) → y ≡ z → Gives a z e) → cond b (Some e) None ≡ Some d → Gives a x d
gives_where x y e d a true q g h =
    let same : e ≡ d = (let l : Some e ≡ Some d = h in cc) in
    subst (λ z. Gives a x z) same (g x (names_equal y x q))
gives_where x y e d a false q g h = absurd cc

pub gives : (x : List ℕ) (s : Statement) (e : Expression) → given_by x s ≡ Some e → Gives s x e
gives x (tree.Declare at ty y d) e h = gives_where x y d e (tree.Declare at ty y d) (bytes_eq y x) refl (λ z q. subst (λ n. Gives (tree.Declare at ty y d) n d) q (declares at ty y d)) h
gives x (tree.Assign at y d) e h = gives_where x y d e (tree.Assign at y d) (bytes_eq y x) refl (λ z q. subst (λ n. Gives (tree.Assign at y d) n d) q (assigns at y d)) h
gives x (tree.Sort at y keys downs) e h = absurd cc
gives x (tree.Add at y d) e h = absurd cc
gives x (tree.If at c p) e h = absurd cc
gives x (tree.IfElse at c p q) e h = absurd cc
gives x (tree.ForEach at ty y d b) e h = absurd cc
gives x (tree.While at c b) e h = absurd cc
gives x (tree.Print at d) e h = absurd cc
gives x (tree.Return at d) e h = absurd cc
gives x (tree.Break at) e h = absurd cc

-- Conditions of parts that are joined one after the other.
use Rattle.std.specs.Prelude.{ℕ, ◌+◌, ◌<◌, List, length, drop}
use Rattle.std.specs.Borrow.{Bor}
use Rattle.std.specs.declared.option.Option.{Option}
use Rattle.std.proofs.Common.{◌≡◌, get_or, sym, ap, ◌∙◌}
use Rattle.qbs_base.specs.declared.columns.Column.{Column}
use Rattle.java_ast.specs.declared.tree.Expr.{Expr}
use Rattle.java_ast.specs.Reading.{expression}
use Rattle.sql_ast.specs.Tree.{Condition, Both}
use Rattle.spreads.specs.Narrowed.{Arguments, both_there, condition_of, conditions_of}
use Rattle.narrowing.specs.Lent.{expressions_lent}
use Rattle.spreads.proofs.Items.{drop_item}

pub one_more : (held : List Column) (x : List ℕ) (args : Arguments) (xs : List (Bor Expr)) (i : ℕ) (y : Bor Expr) (c next both whole : Option Condition) → i < length xs → y ≡ get_or xs i y
    → next ≡ condition_of held x args (expression y.now) → both ≡ both_there Both c next
    → conditions_of held x args c (expressions_lent (drop i xs)) ≡ whole → conditions_of held x args both (expressions_lent (drop (i + 1) xs)) ≡ whole
one_more held x args xs i y c next both whole lt at e h k =
    ap (λ (d : Option Condition). conditions_of held x args d (expressions_lent (drop (i + 1) xs))) (h ∙ ap (both_there Both c) e)
    ∙ sym (ap (λ (l : List (Bor Expr)). conditions_of held x args c (expressions_lent l)) (drop_item xs i y lt at))
    ∙ k

-- The condition of a select in the source language, where its row is a variable.
use Rattle.std.specs.Prelude.{ℕ, zero, suc, List, Bool, true}
use Rattle.std.specs.declared.option.Option.{Option}
use Rattle.std.specs.declared.option.Option.TheVariants.{Some, None}
use Rattle.qbs_base.specs.declared.span.Span.{Span}
use Rattle.qbs_base.specs.Values.{Schema}
use Rattle.sql_ast.specs.declared.tree.Cmp.{Cmp}
use Rattle.sql_ast.specs.declared.tree.Cmp.TheVariants as tests
use Rattle.sql_ast.specs.declared.tree.SqlCol.{SqlCol}
use Rattle.sql_ast.specs.declared.tree.SqlOpnd.{SqlOpnd}
use Rattle.sql_ast.specs.declared.tree.SqlOpnd.TheVariants as opnds
use Rattle.sql_ast.specs.Canonical.{column_text}
use Rattle.sql_ast.specs.Tree.{Condition, Both, Either, Not, Compare, Bare, Exists, Within, PlainListing}
use Rattle.java_ast.specs.declared.tree.Op.{Op}
use Rattle.java_ast.specs.declared.tree.Op.TheVariants as ops
use Rattle.java_ast.specs.Placed.{placed}
use Rattle.java_ast.specs.Tree as tree
use Rattle.java_ast.specs.Tree.{Expression, Expressions, NoMore, And}
use Rattle.select_parts.specs.Selects.{is_text_operand}

-- the argument of a number, counted from 1
abbrev pub argument : Expressions → ℕ → Option Expression
argument NoMore n = None
argument (And e es) zero = None
argument (And e es) (suc zero) = Some e
argument (And e es) (suc (suc n)) = argument es (suc n)

-- no parameter has a number that isn't there
abbrev pub argument_at : Span → Option Expression → Expression
argument_at at (Some e) = placed at e
argument_at at None = tree.NewList at

abbrev pub column_in : Span → List ℕ → SqlCol → Expression
column_in at row col = tree.Field at (tree.Var at row) (column_text col.column)

abbrev pub operand_in : Span → List ℕ → Expressions → SqlOpnd → Expression
operand_in at row args (opnds.Column col) = column_in at row col
operand_in at row args (opnds.Lit scalar) = tree.Lit at scalar
operand_in at row args (opnds.Param n) = argument_at at (argument args n)

abbrev pub op_of : Cmp → Op
op_of tests.Eq = ops.Eq
op_of tests.Ne = ops.Ne
op_of tests.Lt = ops.Lt
op_of tests.Le = ops.Le
op_of tests.Gt = ops.Gt
op_of tests.Ge = ops.Ge

-- texts by `equals`
abbrev pub compared_in : Bool → Span → Cmp → Expression → Expression → Expression
compared_in true at tests.Eq a b = tree.Equals at a b
compared_in true at tests.Ne a b = tree.Not at (tree.Equals at a b)
compared_in text at cmp a b = tree.Binary at (op_of cmp) a b

-- of a plain condition; others have none, and are no condition of a select
abbrev pub condition_in : Schema → PlainListing → Span → List ℕ → Expressions → Condition → Expression
condition_in schema q at row args (Both a b) = tree.Binary at ops.And (condition_in schema q at row args a) (condition_in schema q at row args b)
condition_in schema q at row args (Either a b) = tree.Binary at ops.Or (condition_in schema q at row args a) (condition_in schema q at row args b)
condition_in schema q at row args (Not a) = tree.Not at (condition_in schema q at row args a)
condition_in schema q at row args (Compare cmp a b) = compared_in (is_text_operand schema q a) at cmp (operand_in at row args a) (operand_in at row args b)
condition_in schema q at row args (Bare col) = column_in at row col
condition_in schema q at row args (Exists from filter_) = tree.NewList at
condition_in schema q at row args (Within opnd negated col from filter_) = tree.NewList at

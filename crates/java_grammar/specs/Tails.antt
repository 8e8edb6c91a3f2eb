-- What the code keeps of a statement behind its name, and of a body.
use Rattle.std.specs.Prelude.{ℕ, pos, List, Bool}
use Rattle.qbs_base.specs.declared.span.Span.{Span}
use Rattle.qbs_base.specs.declared.scalar.Scalar.TheVariants as scalars
use Rattle.java_ast.specs.declared.tree.Op.TheVariants as ops
use Rattle.java_ast.specs.Tree.{Statement, Statements, Assign, Binary, Var, Lit}
use Rattle.java_ast.specs.Reading.{expression, node_statement, statements}
use Rattle.java_grammar.specs.declared.bodies.Branch.{Branch}
use Rattle.java_grammar.specs.declared.plain.Tail.{Tail}
use Rattle.java_grammar.specs.declared.plain.Tail.TheVariants as tails

abbrev pub tail_of : List ℕ → Tail → Span → Statement
tail_of w (tails.Node node) at = node_statement node at
tail_of w (tails.Plus value) at = Assign at w (Binary at ops.Add (Var at w) (expression value))
tail_of w tails.Increment at = Assign at w (Binary at ops.Add (Var at w) (Lit at (scalars.Long (pos 1))))

-- whether it ends in an `if` without an `else`, and its statements
abbrev pub body_of : Branch → Bool × Statements
body_of b = (b.open_if, statements b.statements.items)

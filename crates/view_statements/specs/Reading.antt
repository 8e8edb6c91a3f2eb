-- The plain tree of each tree of the code.
use Rattle.std.specs.Prelude.{ℕ, List, [], ◌∷◌}
use Rattle.view_rules.specs.Reading.{expression}
use Rattle.view_statements.specs.declared.statement.Statement.{Statement, Row_of-Statement, end_of-Statement, more_of-Statement}
use Rattle.view_statements.specs.declared.statement.Statement as stmts
use Rattle.view_statements.specs.Tree.{PlainStatement, PlainStatements, Nothing, Then}
use Rattle.view_statements.specs.Tree as plain

abbrev mutual
  pub statement : Statement → PlainStatement
  statement (stmts.Declaration at name java value end) = plain.Declaration at name java (expression value.value) end
  statement (stmts.Inferred at name java value end) = plain.Inferred at name java (expression value.value) end
  statement (stmts.FirstSet name java value end) = plain.FirstSet name java (expression value.value) end
  statement (stmts.Assignment name value end) = plain.Assignment name (expression value.value) end
  statement (stmts.Added name value end) = plain.Added name (expression value.value) end
  statement (stmts.Lessened name value end) = plain.Lessened name (expression value.value) end
  statement (stmts.Stepped at step name sign end) = plain.Stepped at step name sign end
  statement (stmts.Extreme name greatest variable_first value end) = plain.Extreme name greatest variable_first (expression value.value) end
  statement (stmts.Add name value close end) = plain.Add name (expression value.value) close end
  statement (stmts.Sort at by_class list parts end) = plain.Sort at by_class list parts end
  statement (stmts.If' at condition close braces _ body end) = plain.If at (expression condition.value) close braces (row body) end
  statement (stmts.IfElse' at condition close braces _ body other_at other_braces _ other end) =
      plain.IfElse at (expression condition.value) close braces (row body) other_at other_braces (row other) end
  statement (stmts.ForEach' at by_var name java walked close braces _ body end) =
      plain.ForEach at by_var name java (expression walked.value) close braces (row body) end
  statement (stmts.ForIndex' at list first name java _ body close end) = plain.ForIndex at list first name java (row body) close end
  statement (stmts.ForIterator' at list name java _ body close end) = plain.ForIterator at list name java (row body) close end
  statement (stmts.Named at name java value end) = plain.Named at name java (expression value.value) end
  statement (stmts.While' at condition close braces _ body end) = plain.While at (expression condition.value) close braces (row body) end
  statement (stmts.Break at end) = plain.Break at end
  statement (stmts.Skip' at condition close braces _ rest end) = plain.Skip at (expression condition.value) close braces (row rest) end
  statement (stmts.Found at literal end) = plain.Found at literal end

  pub row : {n : _} → Row_of-Statement n → PlainStatements
  row end_of-Statement = Nothing
  row (more_of-Statement st rest) = Then (statement st) (row rest)

abbrev pub statements : List Statement → PlainStatements
statements [] = Nothing
statements (st ∷ sts) = Then (statement st) (statements sts)

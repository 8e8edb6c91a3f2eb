-- Statements with bodies, as the plain trees that they are.
use Rattle.std.specs.Prelude.{ℕ, Bool, Vec, List}
use Rattle.std.proofs.Common.{◌≡◌, refl, ap, ◌∙◌}
use Rattle.std.specs.declared.alloc.Global.{Global}
use Rattle.std.specs.Prelude.{Box}
use Rattle.view_rules.specs.declared.java_type.JavaType.{JavaType}
use Rattle.view_rules.specs.declared.expression.Expression.{Expression}
use Rattle.view_rules.specs.Reading.{expression}
use Rattle.view_statements.specs.declared.statement.Statement.{Statement, Row_of-Statement, end_of-Statement, more_of-Statement, items-the_row-Statement, items_hidden-the_row-Statement-0}
use Rattle.view_statements.specs.declared.statement.Statement.TheBlock.{hidden-the_row-Statement-0}
use Rattle.view_statements.specs.declared.statement.Statement as stmts
use Rattle.view_statements.specs.Reading.{statement, statements, row}
use Rattle.view_statements.specs.Tree.{PlainStatements, Nothing, Then}
use Rattle.view_statements.specs.Tree as plain

row_is : {n : _} (r : Row_of-Statement n) → row r ≡ statements (items-the_row-Statement n r)
row_is end_of-Statement = refl
row_is (more_of-Statement st rest) = ap (Then (statement st)) (row_is rest)

pub hidden_is : (v : Vec Statement Global) → row (hidden-the_row-Statement-0 v) ≡ statements v.items
hidden_is v = row_is (hidden-the_row-Statement-0 v) ∙ ap statements (items_hidden-the_row-Statement-0 v)

pub if_is : (st : Statement) (at : ℕ) (c : Box Expression Global) (close : ℕ) (braces : Bool) (v : Vec Statement Global) (end : ℕ) → st ≡ stmts.If at c close braces v end
    → statement st ≡ plain.If at (expression c.value) close braces (statements v.items) end
if_is st at c close braces v end is = ap statement is ∙ ap (λ (sts : PlainStatements). plain.If at (expression c.value) close braces sts end) (hidden_is v)

pub if_else_is : (st : Statement) (at : ℕ) (c : Box Expression Global) (close : ℕ) (braces : Bool) (v : Vec Statement Global) (other_at : ℕ) (other_braces : Bool) (u : Vec Statement Global) (end : ℕ)
    → st ≡ stmts.IfElse at c close braces v other_at other_braces u end
    → statement st ≡ plain.IfElse at (expression c.value) close braces (statements v.items) other_at other_braces (statements u.items) end
if_else_is st at c close braces v other_at other_braces u end is =
    ap statement is
    ∙ ap (λ (sts : PlainStatements). plain.IfElse at (expression c.value) close braces sts other_at other_braces (row (hidden-the_row-Statement-0 u)) end) (hidden_is v)
    ∙ ap (λ (sts : PlainStatements). plain.IfElse at (expression c.value) close braces (statements v.items) other_at other_braces sts end) (hidden_is u)

pub for_each_is : (st : Statement) (at : ℕ) (inferred : Bool) (name : ℕ) (java : JavaType) (e : Box Expression Global) (close : ℕ) (braces : Bool) (v : Vec Statement Global) (end : ℕ)
    → st ≡ stmts.ForEach at inferred name java e close braces v end
    → statement st ≡ plain.ForEach at inferred name java (expression e.value) close braces (statements v.items) end
for_each_is st at inferred name java e close braces v end is =
    ap statement is ∙ ap (λ (sts : PlainStatements). plain.ForEach at inferred name java (expression e.value) close braces sts end) (hidden_is v)

pub for_index_is : (st : Statement) (at list : ℕ) (first : Bool) (name : ℕ) (java : JavaType) (v : Vec Statement Global) (close end : ℕ)
    → st ≡ stmts.ForIndex at list first name java v close end → statement st ≡ plain.ForIndex at list first name java (statements v.items) close end
for_index_is st at list first name java v close end is =
    ap statement is ∙ ap (λ (sts : PlainStatements). plain.ForIndex at list first name java sts close end) (hidden_is v)

pub for_iterator_is : (st : Statement) (at list name : ℕ) (java : JavaType) (v : Vec Statement Global) (close end : ℕ)
    → st ≡ stmts.ForIterator at list name java v close end → statement st ≡ plain.ForIterator at list name java (statements v.items) close end
for_iterator_is st at list name java v close end is =
    ap statement is ∙ ap (λ (sts : PlainStatements). plain.ForIterator at list name java sts close end) (hidden_is v)

pub while_is : (st : Statement) (at : ℕ) (c : Box Expression Global) (close : ℕ) (braces : Bool) (v : Vec Statement Global) (end : ℕ) → st ≡ stmts.While at c close braces v end
    → statement st ≡ plain.While at (expression c.value) close braces (statements v.items) end
while_is st at c close braces v end is = ap statement is ∙ ap (λ (sts : PlainStatements). plain.While at (expression c.value) close braces sts end) (hidden_is v)

pub skip_is : (st : Statement) (at : ℕ) (c : Box Expression Global) (close : ℕ) (braces : Bool) (v : Vec Statement Global) (end : ℕ) → st ≡ stmts.Skip at c close braces v end
    → statement st ≡ plain.Skip at (expression c.value) close braces (statements v.items) end
skip_is st at c close braces v end is = ap statement is ∙ ap (λ (sts : PlainStatements). plain.Skip at (expression c.value) close braces sts end) (hidden_is v)

pub ruleset nodes = (if_is, if_else_is, for_each_is, for_index_is, for_iterator_is, while_is, skip_is)

-- Where statements stand.
use Rattle.qbs_base.specs.declared.span.Span.{Span}
use Rattle.java_ast.specs.Tree.{Statement, Declare, Assign, Add, Sort, If, IfElse, ForEach, While, Print, Return, Break}

-- the stretch of the text that is a statement
abbrev pub place_of : Statement → Span
place_of (Declare at ty name value) = at
place_of (Assign at name value) = at
place_of (Add at name value) = at
place_of (Sort at name keys downs) = at
place_of (If at cond first) = at
place_of (IfElse at cond first other) = at
place_of (ForEach at ty name list body) = at
place_of (While at cond body) = at
place_of (Print at value) = at
place_of (Return at value) = at
place_of (Break at) = at

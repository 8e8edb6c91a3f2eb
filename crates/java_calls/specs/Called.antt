-- Calls of methods, which are kept as number queries whose text is a single name. No query has such a text.
use Rattle.std.specs.Prelude.{ℕ, List, if◌then◌else◌, slice_get, position}
use Rattle.std.specs.declared.option.Option.{Option}
use Rattle.std.specs.declared.option.Option.TheVariants.{Some, None}
use Rattle.std.specs.Str.{bytes_eq}
use Rattle.call_parts.specs.Called.{is_single_name}
use Rattle.java_ast.specs.Tree.{Expression, QueryLong, Expressions, Statement, Declare, Assign, PlainMethod}

-- a call by the method's name, with its arguments
pub record Call : Type 0 where
  pub name : List ℕ
  pub arguments : Expressions

-- the call that an expression is, if it is one
abbrev pub call_of : Expression → Option Call
call_of (QueryLong at text es) = if is_single_name text then Some (record { name = text; arguments = es }) else None
call_of _ = None

-- the value that a declaration or an assignment gives
abbrev pub given_by : Statement → Option Expression
given_by (Declare at ty x e) = Some e
given_by (Assign at x e) = Some e
given_by _ = None

abbrev pub call_in : Option Expression → Option Call
call_in (Some e) = call_of e
call_in None = None

-- the call that is the whole value of a declaration or an assignment
abbrev pub call_at : Statement → Option Call
call_at s = call_in (given_by s)

abbrev pub method_at : List PlainMethod → Option ℕ → Option PlainMethod
method_at ms (Some n) = slice_get ms n
method_at ms None = None

-- the first method of this name
abbrev pub method_named : List ℕ → List PlainMethod → Option PlainMethod
method_named name ms = method_at ms (position (λ m. bytes_eq m.name name) ms)

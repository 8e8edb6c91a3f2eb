-- The tokens of a program: those of its canonical text.
use Rattle.std.specs.Prelude.{ℕ, pos, negsuc, suc, ◌-◌, ◌^◌, ◌==◌, List, [], ◌∷◌, ◌++◌, Bool, true, false, not, nat_lt, nat_le, codes, if◌then◌else◌}
use Rattle.std.specs.List.{flat_map}
use Rattle.std.specs.declared.option.Option.{Option}
use Rattle.std.specs.declared.option.Option.TheVariants.{Some, None}
use Rattle.qbs_base.specs.declared.scalar.Scalar.{Scalar}
use Rattle.qbs_base.specs.declared.scalar.Scalar.TheVariants as scalars
use Rattle.java_ast.specs.declared.tree.Access.{Access}
use Rattle.java_ast.specs.declared.tree.Access.TheVariants as accesses
use Rattle.java_ast.specs.declared.tree.Op.{Op}
use Rattle.java_ast.specs.declared.tree.Op.TheVariants as ops
use Rattle.java_ast.specs.Tree as plain
use Rattle.java_ast.specs.Tree.{Spelled, Expression, Expressions, Statement, Statements, PlainParam, PlainMethod, PlainProgram}
use Rattle.java_text.specs.Canonical.{rank_of, first_or_false}
use Rattle.java_lex.specs.declared.token.TokenNode.{TokenNode}
use Rattle.java_lex.specs.declared.token.TokenNode.TheVariants.{Word, Integer, Text, Sign}
use Rattle.java_grammar.specs.Written.{parts_of, is_star}

abbrev pub word : List ℕ → List TokenNode
word name = Word name ∷ []

abbrev pub sign : List ℕ → List TokenNode
sign bytes = Sign bytes ∷ []

-- the tokens of some things, with something between
abbrev pub parted : {A : Type 0} → List TokenNode → (A → List TokenNode) → List A → List TokenNode
parted between tokens [] = []
parted between tokens (x ∷ xs) = tokens x ++ flat_map (λ y. between ++ tokens y) xs

abbrev pub type_tokens : Spelled → List TokenNode
type_tokens plain.Int = word (codes "int")
type_tokens plain.Long = word (codes "long")
type_tokens plain.Boolean = word (codes "boolean")
type_tokens plain.String = word (codes "String")
type_tokens plain.BoxedInteger = word (codes "Integer")
type_tokens plain.BoxedLong = word (codes "Long")
type_tokens plain.BoxedBoolean = word (codes "Boolean")
type_tokens (plain.Table name) = word name
type_tokens (plain.ListOf element) = word (codes "List") ++ sign (codes "<") ++ type_tokens element ++ sign (codes ">")
type_tokens (plain.SetOf element) = word (codes "Set") ++ sign (codes "<") ++ type_tokens element ++ sign (codes ">")

-- ---- expressions

-- outside of 32 bits an integer ends in L
abbrev pub integer : ℕ → ℕ → List TokenNode
integer n m = Integer (pos n) (not (nat_lt m (2 ^ 31))) ∷ []

abbrev pub literal_tokens : Scalar → List TokenNode
literal_tokens (scalars.Long (pos n)) = integer n n
literal_tokens (scalars.Long (negsuc n)) = if n == 2 ^ 63 - 1 then word (codes "Long") ++ sign (codes ".") ++ word (codes "MIN_VALUE") else sign (codes "-") ++ integer (suc n) n
literal_tokens (scalars.Bool true) = word (codes "true")
literal_tokens (scalars.Bool false) = word (codes "false")
literal_tokens (scalars.Text text) = Text text ∷ []

abbrev pub operator_tokens : Op → List TokenNode
operator_tokens ops.Mul = sign (codes "*")
operator_tokens ops.Add = sign (codes "+")
operator_tokens ops.Sub = sign (codes "-")
operator_tokens ops.Lt = sign (codes "<")
operator_tokens ops.Le = sign (codes "<=")
operator_tokens ops.Gt = sign (codes ">")
operator_tokens ops.Ge = sign (codes ">=")
operator_tokens ops.Eq = sign (codes "==")
operator_tokens ops.Ne = sign (codes "!=")
operator_tokens ops.And = sign (codes "&&")
operator_tokens ops.Or = sign (codes "||")

-- in parentheses, unless it binds tightly enough
abbrev pub open_unless : Bool → List TokenNode
open_unless true = []
open_unless false = sign (codes "(")

abbrev pub close_unless : Bool → List TokenNode
close_unless true = []
close_unless false = sign (codes ")")

-- . name (
abbrev pub call : List ℕ → List TokenNode
call name = sign (codes ".") ++ word name ++ sign (codes "(")

abbrev pub dot_class : List TokenNode
dot_class = sign (codes ".") ++ word (codes "class")

-- new name < > (
abbrev pub creation : List ℕ → List TokenNode
creation name = word (codes "new") ++ word name ++ sign (codes "<") ++ sign (codes ">") ++ sign (codes "(")

-- where expressions up to a rank stand without parentheses
abbrev mutual
  pub expression_tokens : ℕ → Expression → List TokenNode
  expression_tokens most (plain.Lit at value) = literal_tokens value
  expression_tokens most (plain.Var at name) = word name
  expression_tokens most (plain.Field at row name) = expression_tokens 1 row ++ sign (codes ".") ++ word name
  expression_tokens most (plain.Binary at op a b) = open_unless (nat_le (rank_of op) most) ++ (expression_tokens (rank_of op) a ++ operator_tokens op ++ expression_tokens (rank_of op - 1) b) ++ close_unless (nat_le (rank_of op) most)
  expression_tokens most (plain.Not at e) = open_unless (nat_le 2 most) ++ (sign (codes "!") ++ expression_tokens 2 e) ++ close_unless (nat_le 2 most)
  expression_tokens most (plain.Equals at a b) = expression_tokens 1 a ++ call (codes "equals") ++ expression_tokens 8 b ++ sign (codes ")")
  expression_tokens most (plain.Size at name) = word name ++ (call (codes "size") ++ sign (codes ")"))
  expression_tokens most (plain.Get at name e) = word name ++ call (codes "get") ++ expression_tokens 8 e ++ sign (codes ")")
  expression_tokens most (plain.Contains at name e) = word name ++ call (codes "contains") ++ expression_tokens 8 e ++ sign (codes ")")
  expression_tokens most (plain.Fetch at table) = (word (codes "db") ++ call (codes "fetch")) ++ word table ++ (dot_class ++ sign (codes ")"))
  expression_tokens most (plain.Query at element text arguments) = (word (codes "db") ++ call (codes "query")) ++ type_tokens element ++ (dot_class ++ sign (codes ",")) ++ (Text text ∷ []) ++ argument_tokens arguments ++ sign (codes ")")
  expression_tokens most (plain.QueryLong at text arguments) = (word (codes "db") ++ call (codes "queryLong")) ++ (Text text ∷ []) ++ argument_tokens arguments ++ sign (codes ")")
  expression_tokens most (plain.QueryBoolean at text arguments) = (word (codes "db") ++ call (codes "queryBoolean")) ++ (Text text ∷ []) ++ argument_tokens arguments ++ sign (codes ")")
  expression_tokens most (plain.NewList at) = creation (codes "ArrayList") ++ sign (codes ")")
  expression_tokens most (plain.NewSet at) = creation (codes "LinkedHashSet") ++ sign (codes ")")
  expression_tokens most (plain.NewSetOf at query) = creation (codes "LinkedHashSet") ++ expression_tokens 8 query ++ sign (codes ")")

  pub argument_tokens : Expressions → List TokenNode
  argument_tokens plain.NoMore = []
  argument_tokens (plain.And e es) = sign (codes ",") ++ expression_tokens 8 e ++ argument_tokens es

-- ---- statements

-- `.reversed()` stands where a key's direction isn't that of the next one
abbrev pub reversed_tokens : Bool → Bool → List TokenNode
reversed_tokens true true = []
reversed_tokens false false = []
reversed_tokens true false = call (codes "reversed") ++ sign (codes ")")
reversed_tokens false true = call (codes "reversed") ++ sign (codes ")")

abbrev pub comparing_tokens : Bool → List TokenNode
comparing_tokens false = word (codes "Comparator") ++ sign (codes ".") ++ word (codes "comparing")
comparing_tokens true = sign (codes ".") ++ word (codes "thenComparing")

-- the variable of a comparator is written x
abbrev pub key_tokens : Bool → List ℕ → List TokenNode
key_tokens further key = comparing_tokens further ++ (sign (codes "(") ++ word (codes "x") ++ sign (codes "->") ++ word (codes "x") ++ sign (codes ".")) ++ word key ++ sign (codes ")")

abbrev pub keys_tokens : Bool → List (List ℕ) → List Bool → List TokenNode
keys_tokens further [] downs = []
keys_tokens further (key ∷ keys) [] = []
keys_tokens further (key ∷ keys) (down ∷ downs) = key_tokens further key ++ reversed_tokens down (first_or_false downs) ++ keys_tokens true keys downs

abbrev pub braced_tokens : List TokenNode → List TokenNode
braced_tokens body = sign (codes "{") ++ body ++ sign (codes "}")

abbrev pub returned_tokens : Option Expression → List TokenNode
returned_tokens None = word (codes "return")
returned_tokens (Some e) = word (codes "return") ++ expression_tokens 8 e

abbrev pub declared_tokens : Spelled → List ℕ → Expression → List TokenNode
declared_tokens ty name value = type_tokens ty ++ word name ++ sign (codes "=") ++ expression_tokens 8 value

abbrev pub walked_tokens : Spelled → List ℕ → Expression → List TokenNode
walked_tokens ty name list = (word (codes "for") ++ sign (codes "(")) ++ type_tokens ty ++ word name ++ sign (codes ":") ++ expression_tokens 8 list ++ sign (codes ")")

abbrev pub tested_tokens : List TokenNode → Expression → List TokenNode
tested_tokens head cond = head ++ expression_tokens 8 cond ++ sign (codes ")")

-- System . out . println (
abbrev pub print_head : List TokenNode
print_head = word (codes "System") ++ sign (codes ".") ++ word (codes "out") ++ sign (codes ".") ++ word (codes "println") ++ sign (codes "(")

abbrev mutual
  pub statement_tokens : Statement → List TokenNode
  statement_tokens (plain.Declare at ty name value) = declared_tokens ty name value ++ sign (codes ";")
  statement_tokens (plain.Assign at name value) = (word name ++ sign (codes "=") ++ expression_tokens 8 value) ++ sign (codes ";")
  statement_tokens (plain.Add at name value) = (word name ++ call (codes "add") ++ expression_tokens 8 value ++ sign (codes ")")) ++ sign (codes ";")
  statement_tokens (plain.Sort at name keys downs) = (word name ++ call (codes "sort") ++ keys_tokens false keys downs ++ sign (codes ")")) ++ sign (codes ";")
  statement_tokens (plain.If at cond first) = tested_tokens (word (codes "if") ++ sign (codes "(")) cond ++ braced_tokens (statements_tokens first)
  statement_tokens (plain.IfElse at cond first other) = tested_tokens (word (codes "if") ++ sign (codes "(")) cond ++ braced_tokens (statements_tokens first) ++ word (codes "else") ++ braced_tokens (statements_tokens other)
  statement_tokens (plain.ForEach at ty name list body) = walked_tokens ty name list ++ braced_tokens (statements_tokens body)
  statement_tokens (plain.While at cond body) = tested_tokens (word (codes "while") ++ sign (codes "(")) cond ++ braced_tokens (statements_tokens body)
  statement_tokens (plain.Print at value) = tested_tokens print_head value ++ sign (codes ";")
  statement_tokens (plain.Return at value) = returned_tokens value ++ sign (codes ";")
  statement_tokens (plain.Break at) = word (codes "break") ++ sign (codes ";")

  pub statements_tokens : Statements → List TokenNode
  statements_tokens plain.Nothing = []
  statements_tokens (plain.Then s ss) = statement_tokens s ++ statements_tokens ss

-- ---- methods and the program

abbrev pub access_tokens : Access → List TokenNode
access_tokens accesses.Plain = []
access_tokens accesses.Public = word (codes "public")
access_tokens accesses.Private = word (codes "private")

abbrev pub word_tokens_if : Bool → List ℕ → List TokenNode
word_tokens_if true name = word name
word_tokens_if false name = []

abbrev pub result_tokens : Option Spelled → List TokenNode
result_tokens None = word (codes "void")
result_tokens (Some ty) = type_tokens ty

abbrev pub param_tokens : PlainParam → List TokenNode
param_tokens p = type_tokens p.ty ++ word p.name

abbrev pub head_tokens : PlainMethod → List TokenNode
head_tokens m = (access_tokens m.access ++ word_tokens_if m.fixed (codes "static")) ++ (result_tokens m.result ++ word m.name) ++ sign (codes "(") ++ parted (sign (codes ",")) param_tokens m.params ++ sign (codes ")")

abbrev pub method_tokens : PlainMethod → List TokenNode
method_tokens m = head_tokens m ++ braced_tokens (statements_tokens m.body)

abbrev pub part_tokens : List ℕ → List TokenNode
part_tokens part = if is_star part then sign part else word part

abbrev pub parts_tokens : List (List ℕ) → List TokenNode
parts_tokens [] = []
parts_tokens (part ∷ []) = part_tokens part
parts_tokens (part ∷ further ∷ parts) = part_tokens part ++ (sign (codes ".") ++ parts_tokens (further ∷ parts))

-- the parts of a dotted name, with the dots between them
abbrev pub dotted_tokens : List ℕ → List TokenNode
dotted_tokens name = parts_tokens (parts_of name)

abbrev pub package_tokens : Option (List ℕ) → List TokenNode
package_tokens None = []
package_tokens (Some name) = word (codes "package") ++ dotted_tokens name ++ sign (codes ";")

abbrev pub import_tokens : List ℕ → List TokenNode
import_tokens name = word (codes "import") ++ dotted_tokens name ++ sign (codes ";")

abbrev pub class_tokens : Bool → List ℕ → List TokenNode
class_tokens public name = word_tokens_if public (codes "public") ++ word (codes "class") ++ word name ++ sign (codes "{")

abbrev pub tokens_of : PlainProgram → List TokenNode
tokens_of p = package_tokens p.«package» ++ flat_map import_tokens p.imports ++ class_tokens p.public p.name ++ flat_map method_tokens p.methods ++ sign (codes "}")

-- The canonical text of a program: a statement a line, four spaces a level, braces round every
-- body, and parentheses only where precedence asks for them.
use Rattle.std.specs.Prelude.{ℕ, ℤ, pos, negsuc, suc, ◌-◌, ◌^◌, ◌==◌, List, [], ◌∷◌, ◌++◌, Bool, true, false, nat_lt, nat_le, codes, if◌then◌else◌}
use Rattle.std.specs.List.{flat_map}
use Rattle.std.specs.Fmt.{decimal}
use Rattle.std.specs.declared.option.Option.{Option}
use Rattle.std.specs.declared.option.Option.TheVariants.{Some, None}
use Rattle.qbs_base.specs.declared.scalar.Scalar.{Scalar}
use Rattle.qbs_base.specs.declared.scalar.Scalar.TheVariants as scalars
use Rattle.qbs_base.specs.Literal.{text_literal, truth_text}
use Rattle.java_ast.specs.declared.tree.Access.{Access}
use Rattle.java_ast.specs.declared.tree.Access.TheVariants as accesses
use Rattle.java_ast.specs.declared.tree.Op.{Op}
use Rattle.java_ast.specs.declared.tree.Op.TheVariants as ops
use Rattle.java_ast.specs.Tree.{Spelled, Expression, Expressions, Statement, Statements, PlainParam, PlainMethod, PlainProgram}
use Rattle.java_ast.specs.Tree as plain

abbrev pub line_end : List ℕ
line_end = 10 ∷ []

-- one level more
abbrev pub indent : List ℕ
indent = codes "    "

-- the texts of some things, with something between
abbrev pub separated : {A : Type 0} → List ℕ → (A → List ℕ) → List A → List ℕ
separated between text [] = []
separated between text (x ∷ xs) = text x ++ flat_map (λ y. between ++ text y) xs

abbrev pub canonical_type : Spelled → List ℕ
canonical_type plain.Int = codes "int"
canonical_type plain.Long = codes "long"
canonical_type plain.Boolean = codes "boolean"
canonical_type plain.String = codes "String"
canonical_type plain.BoxedInteger = codes "Integer"
canonical_type plain.BoxedLong = codes "Long"
canonical_type plain.BoxedBoolean = codes "Boolean"
canonical_type (plain.Table name) = name
canonical_type (plain.ListOf element) = codes "List<" ++ canonical_type element ++ codes ">"
canonical_type (plain.SetOf element) = codes "Set<" ++ canonical_type element ++ codes ">"

-- ---- literals

-- outside of 32 bits an integer ends in L
abbrev pub suffix : ℕ → List ℕ
suffix n = if nat_lt n (2 ^ 31) then [] else codes "L"

-- the digits of the least integer of 64 bits alone would be too large
abbrev pub canonical_integer : ℤ → List ℕ
canonical_integer (pos n) = decimal n ++ suffix n
canonical_integer (negsuc n) = if n == 2 ^ 63 - 1 then codes "Long.MIN_VALUE" else codes "-" ++ decimal (suc n) ++ suffix n

abbrev pub literal_text : Scalar → List ℕ
literal_text (scalars.Long n) = canonical_integer n
literal_text (scalars.Bool b) = truth_text b
literal_text (scalars.Text text) = text_literal text

-- ---- expressions

-- How loosely an expression binds: 0 stands alone, 1 ends in a `.` part, 2 begins with `!`, and
-- then come the binary operators.
abbrev pub rank_of : Op → ℕ
rank_of ops.Mul = 3
rank_of ops.Add = 4
rank_of ops.Sub = 4
rank_of ops.Lt = 5
rank_of ops.Le = 5
rank_of ops.Gt = 5
rank_of ops.Ge = 5
rank_of ops.Eq = 6
rank_of ops.Ne = 6
rank_of ops.And = 7
rank_of ops.Or = 8

abbrev pub operator_text : Op → List ℕ
operator_text ops.Mul = codes " * "
operator_text ops.Add = codes " + "
operator_text ops.Sub = codes " - "
operator_text ops.Lt = codes " < "
operator_text ops.Le = codes " <= "
operator_text ops.Gt = codes " > "
operator_text ops.Ge = codes " >= "
operator_text ops.Eq = codes " == "
operator_text ops.Ne = codes " != "
operator_text ops.And = codes " && "
operator_text ops.Or = codes " || "

-- in parentheses, unless it binds tightly enough
abbrev pub opening : Bool → List ℕ
opening true = []
opening false = codes "("

abbrev pub closing : Bool → List ℕ
closing true = []
closing false = codes ")"

-- Where expressions up to a rank stand without parentheses. Operators associate to the left, so
-- the right operand binds more tightly.
abbrev mutual
  pub canonical_expression : ℕ → Expression → List ℕ
  canonical_expression most (plain.Lit at value) = literal_text value
  canonical_expression most (plain.Var at name) = name
  canonical_expression most (plain.Field at row name) = canonical_expression 1 row ++ codes "." ++ name
  canonical_expression most (plain.Binary at op a b) = opening (nat_le (rank_of op) most) ++ (canonical_expression (rank_of op) a ++ operator_text op ++ canonical_expression (rank_of op - 1) b) ++ closing (nat_le (rank_of op) most)
  canonical_expression most (plain.Not at e) = opening (nat_le 2 most) ++ (codes "!" ++ canonical_expression 2 e) ++ closing (nat_le 2 most)
  canonical_expression most (plain.Equals at a b) = canonical_expression 1 a ++ codes ".equals(" ++ canonical_expression 8 b ++ codes ")"
  canonical_expression most (plain.Size at name) = name ++ codes ".size()"
  canonical_expression most (plain.Get at name e) = name ++ codes ".get(" ++ canonical_expression 8 e ++ codes ")"
  canonical_expression most (plain.Contains at name e) = name ++ codes ".contains(" ++ canonical_expression 8 e ++ codes ")"
  canonical_expression most (plain.Fetch at table) = codes "db.fetch(" ++ table ++ codes ".class)"
  canonical_expression most (plain.Query at element text arguments) = codes "db.query(" ++ canonical_type element ++ codes ".class, " ++ text_literal text ++ canonical_arguments arguments ++ codes ")"
  canonical_expression most (plain.QueryLong at text arguments) = codes "db.queryLong(" ++ text_literal text ++ canonical_arguments arguments ++ codes ")"
  canonical_expression most (plain.QueryBoolean at text arguments) = codes "db.queryBoolean(" ++ text_literal text ++ canonical_arguments arguments ++ codes ")"
  canonical_expression most (plain.NewList at) = codes "new ArrayList<>()"
  canonical_expression most (plain.NewSet at) = codes "new LinkedHashSet<>()"
  canonical_expression most (plain.NewSetOf at query) = codes "new LinkedHashSet<>(" ++ canonical_expression 8 query ++ codes ")"

  pub canonical_arguments : Expressions → List ℕ
  canonical_arguments plain.NoMore = []
  canonical_arguments (plain.And e es) = codes ", " ++ canonical_expression 8 e ++ canonical_arguments es

-- ---- statements

-- `.reversed()` turns round all keys before it: it stands where a key's direction isn't that of the next one
abbrev pub first_or_false : List Bool → Bool
first_or_false [] = false
first_or_false (b ∷ bs) = b

abbrev pub reversed_text : Bool → Bool → List ℕ
reversed_text true true = []
reversed_text false false = []
reversed_text true false = codes ".reversed()"
reversed_text false true = codes ".reversed()"

-- what takes the first key, and what a further one
abbrev pub comparing_text : Bool → List ℕ
comparing_text false = codes "Comparator.comparing"
comparing_text true = codes ".thenComparing"

abbrev pub canonical_key : Bool → List ℕ → List ℕ
canonical_key further key = comparing_text further ++ codes "(x -> x." ++ key ++ codes ")"

abbrev pub canonical_keys : Bool → List (List ℕ) → List Bool → List ℕ
canonical_keys further [] downs = []
canonical_keys further (key ∷ keys) [] = []
canonical_keys further (key ∷ keys) (down ∷ downs) = canonical_key further key ++ reversed_text down (first_or_false downs) ++ canonical_keys true keys downs

-- a body, whose statements have their text already, from behind what it is the body of
abbrev pub braced : List ℕ → List ℕ → List ℕ
braced margin statements = codes " {" ++ line_end ++ statements ++ margin ++ codes "}"

abbrev pub returned_text : Option Expression → List ℕ
returned_text None = codes "return"
returned_text (Some e) = codes "return " ++ canonical_expression 8 e

abbrev pub declared_text : Spelled → List ℕ → Expression → List ℕ
declared_text ty name value = canonical_type ty ++ codes " " ++ name ++ codes " = " ++ canonical_expression 8 value

abbrev pub walked_text : Spelled → List ℕ → Expression → List ℕ
walked_text ty name list = codes "for (" ++ canonical_type ty ++ codes " " ++ name ++ codes " : " ++ canonical_expression 8 list ++ codes ")"

abbrev pub tested_text : List ℕ → Expression → List ℕ
tested_text word cond = word ++ canonical_expression 8 cond ++ codes ")"

-- The lines of a statement behind a margin.
abbrev mutual
  pub canonical_statement : List ℕ → Statement → List ℕ
  canonical_statement margin (plain.Declare at ty name value) = margin ++ declared_text ty name value ++ (codes ";" ++ line_end)
  canonical_statement margin (plain.Assign at name value) = margin ++ (name ++ codes " = " ++ canonical_expression 8 value) ++ (codes ";" ++ line_end)
  canonical_statement margin (plain.Add at name value) = margin ++ (name ++ codes ".add(" ++ canonical_expression 8 value ++ codes ")") ++ (codes ";" ++ line_end)
  canonical_statement margin (plain.Sort at name keys downs) = margin ++ (name ++ codes ".sort(" ++ canonical_keys false keys downs ++ codes ")") ++ (codes ";" ++ line_end)
  canonical_statement margin (plain.If at cond first) = margin ++ tested_text (codes "if (") cond ++ braced margin (canonical_statements (margin ++ indent) first) ++ line_end
  canonical_statement margin (plain.IfElse at cond first other) = margin ++ tested_text (codes "if (") cond ++ braced margin (canonical_statements (margin ++ indent) first) ++ codes " else" ++ braced margin (canonical_statements (margin ++ indent) other) ++ line_end
  canonical_statement margin (plain.ForEach at ty name list body) = margin ++ walked_text ty name list ++ braced margin (canonical_statements (margin ++ indent) body) ++ line_end
  canonical_statement margin (plain.While at cond body) = margin ++ tested_text (codes "while (") cond ++ braced margin (canonical_statements (margin ++ indent) body) ++ line_end
  canonical_statement margin (plain.Print at value) = margin ++ tested_text (codes "System.out.println(") value ++ (codes ";" ++ line_end)
  canonical_statement margin (plain.Return at value) = margin ++ returned_text value ++ (codes ";" ++ line_end)
  canonical_statement margin (plain.Break at) = margin ++ codes "break" ++ (codes ";" ++ line_end)

  pub canonical_statements : List ℕ → Statements → List ℕ
  canonical_statements margin plain.Nothing = []
  canonical_statements margin (plain.Then s ss) = canonical_statement margin s ++ canonical_statements margin ss

-- ---- methods and the program

abbrev pub access_text : Access → List ℕ
access_text accesses.Plain = []
access_text accesses.Public = codes "public "
access_text accesses.Private = codes "private "

abbrev pub word_if : Bool → List ℕ → List ℕ
word_if true word = word
word_if false word = []

abbrev pub result_text : Option Spelled → List ℕ
result_text None = codes "void"
result_text (Some ty) = canonical_type ty

abbrev pub canonical_param : PlainParam → List ℕ
canonical_param p = canonical_type p.ty ++ codes " " ++ p.name

abbrev pub modifiers_text : Access → Bool → List ℕ
modifiers_text access fixed = access_text access ++ word_if fixed (codes "static ")

abbrev pub named_text : Option Spelled → List ℕ → List ℕ
named_text result name = result_text result ++ codes " " ++ name

-- a method up to the closing parenthesis of its parameters
abbrev pub head_text : PlainMethod → List ℕ
head_text m = indent ++ modifiers_text m.access m.fixed ++ named_text m.result m.name ++ codes "(" ++ separated (codes ", ") canonical_param m.params ++ codes ")"

abbrev pub canonical_method : PlainMethod → List ℕ
canonical_method m = head_text m ++ braced indent (canonical_statements (indent ++ indent) m.body) ++ line_end

abbrev pub package_text : Option (List ℕ) → List ℕ
package_text None = []
package_text (Some name) = codes "package " ++ name ++ codes ";" ++ line_end ++ line_end

abbrev pub import_text : List ℕ → List ℕ
import_text name = codes "import " ++ name ++ codes ";" ++ line_end

-- an empty line stands behind the last import
abbrev pub imports_text : List (List ℕ) → List ℕ
imports_text [] = []
imports_text (name ∷ names) = flat_map import_text (name ∷ names) ++ line_end

abbrev pub class_text : Bool → List ℕ → List ℕ
class_text public name = word_if public (codes "public ") ++ codes "class " ++ name ++ codes " {" ++ line_end

abbrev pub canonical : PlainProgram → List ℕ
canonical p = package_text p.«package» ++ imports_text p.imports ++ class_text p.public p.name ++ separated line_end canonical_method p.methods ++ (codes "}" ++ line_end)

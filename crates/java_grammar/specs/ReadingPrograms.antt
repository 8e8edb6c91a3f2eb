-- Reading methods and programs from left to right.
use Rattle.std.specs.Prelude.{ℕ, suc, pred, List, [], ◌∷◌, ◌++◌, length, Bool, true, false, not, is_some, Option, Some, None, Ok, Err, codes, if◌then◌else◌}
use Rattle.java_lex.specs.declared.token.TokenNode.{TokenNode}
use Rattle.readers.specs.declared.fault.Fault.TheVariants.{Unexpected}
use Rattle.readers.specs.Reading.{◌>>=◌, option_cases, made}
use Rattle.java_ast.specs.declared.tree.Access.{Access}
use Rattle.java_ast.specs.declared.tree.Access.TheVariants as accesses
use Rattle.java_ast.specs.Tree.{Spelled, PlainParam, PlainMethod, PlainProgram}
use Rattle.java_grammar.specs.Marks.{Tok}
use Rattle.java_grammar.specs.Words.{by_word, name_in, scalar_type}
use Rattle.java_limits.specs.Limits.{deepest}
use Rattle.java_grammar.specs.Reading.{Reader, seq_at, empty_at, one_at, placed_at, or_at, is_word, is_sign, word_at, sign_at, opening_at, many_at}
use Rattle.java_grammar.specs.ReadingTypes.{spelling_at}
use Rattle.java_grammar.specs.ReadingExpressions.{is_no_comma}
use Rattle.java_grammar.specs.ReadingBodies.{is_close, block_at}

-- ---- methods

unfoldable pub public_at : Reader Access
public_at ts = made (λ x. accesses.Public) (word_at (codes "public")) ts

unfoldable pub private_at : Reader Access
private_at ts = made (λ x. accesses.Private) (word_at (codes "private")) ts

unfoldable pub reached_at : Reader Access
reached_at ts = or_at (is_word (codes "public")) public_at (or_at (is_word (codes "private")) private_at (empty_at accesses.Plain)) ts

-- whether a word stands here
unfoldable pub whether_at : List ℕ → Reader Bool
whether_at text ts = or_at (is_word text) (made (λ x. true) (word_at text)) (empty_at false) ts

unfoldable pub result_at : Reader (Option Spelled)
result_at ts = or_at (is_word (codes "void")) (made (λ x. None) (word_at (codes "void"))) (made (λ x. Some x) spelling_at) ts

abbrev pub param_of : Spelled → List ℕ → PlainParam
param_of ty name = record { ty = ty; name = name }

unfoldable pub parameter_at : Reader PlainParam
parameter_at ts = made (λ x. param_of x.0 x.1) (seq_at (one_at (by_word scalar_type)) (one_at name_in)) ts

unfoldable pub next_parameter_at : Reader PlainParam
next_parameter_at ts = made (λ x. x.1) (seq_at (sign_at (codes ",")) parameter_at) ts

abbrev pub is_scalar_type : TokenNode → Bool
is_scalar_type n = is_some (by_word scalar_type n)

unfoldable pub some_parameters_at : Reader (List PlainParam)
some_parameters_at ts = made (λ x. x.0 ∷ x.1) (seq_at parameter_at (many_at is_no_comma next_parameter_at)) ts

unfoldable pub parameters_at : Reader (List PlainParam)
parameters_at ts = or_at is_scalar_type some_parameters_at (empty_at []) ts

-- ( parameters )
unfoldable pub parameter_part_at : ℕ → Reader (List PlainParam)
parameter_part_at room ts = made (λ x. x.1.0) (seq_at (opening_at room (codes "(")) (seq_at parameters_at (sign_at (codes ")")))) ts

unfoldable pub method_at : ℕ → Reader PlainMethod
method_at room ts =
    placed_at (λ at x. record { access = x.0; fixed = x.1.0; result = x.1.1.0; name = x.1.1.1.0; params = x.1.1.1.1.0; body = x.1.1.1.1.1; span = at })
    (seq_at reached_at (seq_at (whether_at (codes "static")) (seq_at result_at (seq_at (one_at name_in) (seq_at (parameter_part_at room) (block_at room)))))) ts

-- ---- programs

abbrev pub is_dot : Tok → Bool
is_dot t = is_sign (codes ".") t.token.node

-- whether a star stands here, and may
abbrev pub star_here : Bool → Tok → Bool
star_here star t = if star then is_sign (codes "*") t.token.node else false

-- names with dots between, as they are written, behind the first one; a `*` may be the last where it is an import
unfoldable mutual
  pub dotted_at : Bool → Reader (List ℕ)
  dotted_at star [] = Ok ([], [])
  dotted_at star (t ∷ ts) = if is_dot t then behind_dot star ts else Ok ([], t ∷ ts)

  pub behind_dot : Bool → Reader (List ℕ)
  behind_dot star [] = Err (Unexpected 0)
  behind_dot star (t ∷ ts) = if star_here star t then Ok (codes ".*", ts) else option_cases (name_in t.token.node) (Err (Unexpected (suc (length ts)))) (λ w. dotted_at star ts >>= λ rest. Ok (codes "." ++ (w ++ rest.0), rest.1))

-- word a . b . c ;
unfoldable pub dotted_name_at : List ℕ → Bool → Reader (List ℕ)
dotted_name_at word star ts = made (λ x. x.1.0 ++ x.1.1.0) (seq_at (word_at word) (seq_at (one_at name_in) (seq_at (dotted_at star) (sign_at (codes ";"))))) ts

unfoldable pub package_at : Reader (Option (List ℕ))
package_at ts = or_at (is_word (codes "package")) (made (λ x. Some x) (dotted_name_at (codes "package") false)) (empty_at None) ts

abbrev pub is_no_import : TokenNode → Bool
is_no_import n = not (is_word (codes "import") n)

unfoldable pub imports_at : Reader (List (List ℕ))
imports_at ts = many_at is_no_import (dotted_name_at (codes "import") true) ts

-- { methods }
unfoldable pub methods_at : ℕ → Reader (List PlainMethod)
methods_at room ts = made (λ x. x.1.0) (seq_at (opening_at room (codes "{")) (seq_at (many_at is_close (method_at (pred room))) (sign_at (codes "}")))) ts

-- class name { methods }
unfoldable pub class_at : ℕ → Reader (List ℕ × List PlainMethod)
class_at room ts = made (λ x. x.1) (seq_at (word_at (codes "class")) (seq_at (one_at name_in) (methods_at room))) ts

unfoldable pub program_in : ℕ → Reader PlainProgram
program_in room ts =
    made (λ x. record { «package» = x.0; imports = x.1.0; public = x.1.1.0; name = x.1.1.1.0; methods = x.1.1.1.1 })
    (seq_at package_at (seq_at imports_at (seq_at (whether_at (codes "public")) (class_at room)))) ts

abbrev pub program_at : Reader PlainProgram
program_at ts = program_in deepest ts

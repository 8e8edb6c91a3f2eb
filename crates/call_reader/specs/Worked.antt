-- A class whose method calls another one, as tokens and as a program.
use Rattle.std.specs.Prelude.{ℕ, pos, ◌+◌, List, [], ◌∷◌, ◌++◌, length, false, map, codes}
use Rattle.std.specs.declared.option.Option.TheVariants.{Some, None}
use Rattle.qbs_base.specs.declared.scalar.Scalar.TheVariants as scalars
use Rattle.qbs_base.specs.declared.span.Span.{Span}
use Rattle.java_lex.specs.declared.token.Token.{Token}
use Rattle.java_lex.specs.declared.token.Tokens.{Tokens}
use Rattle.java_lex.specs.declared.token.TokenNode.{TokenNode}
use Rattle.java_lex.specs.declared.token.TokenNode.TheVariants.{Word, Integer, Text, Sign}
use Rattle.java_ast.specs.declared.tree.Access.TheVariants as access
use Rattle.java_ast.specs.Tree.{Long, Lit, Var, QueryLong, NoMore, And, Declare, Return, Statements, Nothing, Then, PlainMethod, PlainProgram}
use Rattle.java_grammar.specs.Marks.{nowhere}
use Rattle.java_grammar.specs.Printed.{word, sign, integer}
use Rattle.call_reader.specs.SpelledOut.{token_at}

abbrev pub tokens_of : List TokenNode → List Token
tokens_of nodes = map (λ node. token_at nowhere node) nodes

-- x = g(2);
abbrev pub call : List TokenNode
call = word (codes "x") ++ sign (codes "=") ++ word (codes "g") ++ sign (codes "(") ++ integer 2 2 ++ sign (codes ")") ++ sign (codes ";")

-- x = db.queryLong("g", 2);
abbrev pub query : List TokenNode
query =
    word (codes "x") ++ sign (codes "=") ++ word (codes "db") ++ sign (codes ".") ++ word (codes "queryLong") ++ sign (codes "(") ++ Text (codes "g") ∷ sign (codes ",") ++ integer 2 2
    ++ sign (codes ")") ++ sign (codes ";")

-- x = g() + 1;
abbrev pub sum : List TokenNode
sum = word (codes "x") ++ sign (codes "=") ++ word (codes "g") ++ sign (codes "(") ++ sign (codes ")") ++ sign (codes "+") ++ integer 1 1 ++ sign (codes ";")

-- x = db.queryLong("g") { 1;
abbrev pub no_value : List TokenNode
no_value =
    word (codes "x") ++ sign (codes "=") ++ word (codes "db") ++ sign (codes ".") ++ word (codes "queryLong") ++ sign (codes "(") ++ Text (codes "g") ∷ sign (codes ")") ++ sign (codes "{")
    ++ integer 1 1 ++ sign (codes ";")

-- class T { long g() { return 1; } long f() { long x = g(2); return x; } }
abbrev pub method_with : List ℕ → List TokenNode → List TokenNode
method_with name body = word (codes "long") ++ word name ++ sign (codes "(") ++ sign (codes ")") ++ sign (codes "{") ++ body ++ sign (codes "}")

abbrev pub class_tokens : List TokenNode
class_tokens =
    word (codes "class") ++ word (codes "T") ++ sign (codes "{")
    ++ method_with (codes "g") (word (codes "return") ++ integer 1 1 ++ sign (codes ";"))
    ++ method_with (codes "f") (word (codes "long") ++ call ++ word (codes "return") ++ word (codes "x") ++ sign (codes ";"))
    ++ sign (codes "}")

abbrev pub method_of : List ℕ → Statements → PlainMethod
method_of name body = record { access = access.Plain; fixed = false; result = Some Long; name = name; params = []; body = body; span = nowhere }

abbrev pub first_body : Statements
first_body = Then (Return nowhere (Some (Lit nowhere (scalars.Long (pos 1))))) Nothing

abbrev pub second_body : Statements
second_body =
    Then (Declare nowhere Long (codes "x") (QueryLong nowhere (codes "g") (And (Lit nowhere (scalars.Long (pos 2))) NoMore)))
    (Then (Return nowhere (Some (Var nowhere (codes "x")))) Nothing)

abbrev pub class : PlainProgram
class = record { «package» = None; imports = []; public = false; name = codes "T"; methods = method_of (codes "g") first_body ∷ method_of (codes "f") second_body ∷ [] }

-- ---- as a text of one line

abbrev pub text : List ℕ
text = codes "class T { long g() { return 1; } long f() { long x = g(2); return x; } }"

-- from this byte on
abbrev at : ℕ → ℕ → Span
at start width = record { line = 1; column = start + 1; start = start; end = start + width }

abbrev word_at : ℕ → List ℕ → Token
word_at start name = token_at (at start (length name)) (Word name)

abbrev sign_at : ℕ → List ℕ → Token
sign_at start mark = token_at (at start (length mark)) (Sign mark)

abbrev digit_at : ℕ → ℕ → Token
digit_at start value = token_at (at start 1) (Integer (pos value) false)

abbrev pub text_tokens : Tokens
text_tokens = record {
  list =
      word_at 0 (codes "class") ∷ word_at 6 (codes "T") ∷ sign_at 8 (codes "{") ∷ word_at 10 (codes "long") ∷ word_at 15 (codes "g") ∷ sign_at 16 (codes "(") ∷ sign_at 17 (codes ")") ∷ sign_at 19 (codes "{") ∷
      word_at 21 (codes "return") ∷ digit_at 28 1 ∷ sign_at 29 (codes ";") ∷ sign_at 31 (codes "}") ∷ word_at 33 (codes "long") ∷ word_at 38 (codes "f") ∷ sign_at 39 (codes "(") ∷ sign_at 40 (codes ")") ∷
      sign_at 42 (codes "{") ∷ word_at 44 (codes "long") ∷ word_at 49 (codes "x") ∷ sign_at 51 (codes "=") ∷ word_at 53 (codes "g") ∷ sign_at 54 (codes "(") ∷ digit_at 55 2 ∷ sign_at 56 (codes ")") ∷
      sign_at 57 (codes ";") ∷ word_at 59 (codes "return") ∷ word_at 66 (codes "x") ∷ sign_at 67 (codes ";") ∷ sign_at 69 (codes "}") ∷ sign_at 71 (codes "}") ∷ [];
  end = at 72 0;
}

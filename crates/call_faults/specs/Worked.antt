-- Classes whose tokens stop being those of a program with calls behind a call, and within one.
use Rattle.std.specs.Prelude.{ℕ, List, ◌++◌, codes}
use Rattle.java_lex.specs.declared.token.TokenNode.{TokenNode}
use Rattle.java_lex.specs.declared.token.Tokens.{Tokens}
use Rattle.java_grammar.specs.Marks.{nowhere}
use Rattle.java_grammar.specs.Printed.{word, sign}
use Rattle.java_parser.specs.declared.fault.ParseFault.{ParseFault}
use Rattle.java_parser.specs.declared.fault.ParseRule.TheVariants.{Unexpected}
use Rattle.call_reader.specs.Worked.{tokens_of, method_with, sum}

-- class T { long f() { long .. } }
abbrev pub class_with : List TokenNode → Tokens
class_with value = record {
  list = tokens_of (word (codes "class") ++ word (codes "T") ++ sign (codes "{") ++ method_with (codes "f") (word (codes "long") ++ value) ++ sign (codes "}"));
  end = nowhere;
}

-- x = g() + 1;
abbrev pub behind_a_call : Tokens
behind_a_call = class_with sum

-- x = g(,);
abbrev pub in_a_call : Tokens
in_a_call = class_with (word (codes "x") ++ sign (codes "=") ++ word (codes "g") ++ sign (codes "(") ++ sign (codes ",") ++ sign (codes ")") ++ sign (codes ";"))

abbrev pub unexpected_at : ℕ → ParseFault
unexpected_at n = record { rule = Unexpected; at = nowhere; token = n }

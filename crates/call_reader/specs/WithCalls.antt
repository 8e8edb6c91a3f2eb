-- Which tokens have a program with calls of its own methods, and the fault that is kept where they have none.
use Rattle.std.specs.Prelude.{◌≡◌, ℕ, List, Result, Ok, Err}
use Rattle.qbs_base.specs.declared.memory.Fail.{Fail}
use Rattle.qbs_base.specs.declared.memory.Fail.TheVariants as fails
use Rattle.java_lex.specs.declared.token.Token.{Token}
use Rattle.java_lex.specs.declared.token.Tokens.{Tokens}
use Rattle.java_ast.specs.Tree.{PlainProgram}
use Rattle.java_grammar.specs.Grammar.{HasProgram, IsReadable}
use Rattle.java_parser.specs.declared.fault.ParseFault.{ParseFault}
use Rattle.java_parser.specs.Kept.{place_of, IsBroken}
use Rattle.java_parser.specs.Parsed.{parsed}
use Rattle.call_reader.specs.SpelledOut.{spelled_out, number_of}

-- The tokens have this program, in which a call is a number query whose text is the method's name, and none of them is too deep. The
-- grammar is that of programs, with one form more: a call as the whole value of a declaration or an assignment.
abbrev pub IsReadableWithCalls : List Token → PlainProgram → Type 0
IsReadableWithCalls ts p = IsReadable (spelled_out ts) p

abbrev pub tokens_spelled_out : Tokens → Tokens
tokens_spelled_out tokens = record { list = spelled_out tokens.list; end = tokens.end }

-- The fault stands at a token or at the end, and its rule is broken where that token stands among those that are spelled out.
pub record IsFaultWithCalls (tokens : Tokens) (f : ParseFault) : Type 0 where
  pub place : f.at ≡ place_of tokens f.token
  pub spelled : ℕ
  pub number : f.token ≡ number_of tokens.list spelled
  pub broken : IsBroken HasProgram (spelled_out tokens.list) f.rule spelled

abbrev pub IsKeptWithCalls : Tokens → Fail ParseFault → Type 0
IsKeptWithCalls tokens (fails.Fault f) = IsFaultWithCalls tokens f
IsKeptWithCalls tokens fails.NoMemory = Unit {0}

-- the fault at the token that the text has
abbrev pub numbered : List Token → ParseFault → ParseFault
numbered ts f = record { rule = f.rule; at = f.at; token = number_of ts f.token }

abbrev pub with_number : List Token → Result PlainProgram ParseFault → Result PlainProgram ParseFault
with_number ts (Ok p) = Ok p
with_number ts (Err f) = Err (numbered ts f)

-- the program with calls that the tokens have, or the fault that is kept, as reading from left to right finds them
abbrev pub parsed_with_calls : Tokens → Result PlainProgram ParseFault
parsed_with_calls tokens = with_number tokens.list (parsed (tokens_spelled_out tokens))

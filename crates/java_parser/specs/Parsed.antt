-- The program of tokens, or the fault that is kept, as reading from left to right finds them.
use Rattle.std.specs.Prelude.{Result, Ok, Err}
use Rattle.readers.specs.declared.fault.Fault.{Fault}
use Rattle.readers.specs.declared.fault.Fault.TheVariants as faults
use Rattle.readers.specs.Reading.{whole}
use Rattle.java_ast.specs.Tree.{PlainProgram}
use Rattle.java_lex.specs.declared.token.Tokens.{Tokens}
use Rattle.java_parser.specs.declared.fault.ParseFault.{ParseFault}
use Rattle.java_parser.specs.declared.fault.ParseRule.TheVariants as rules
use Rattle.java_parser.specs.Kept.{fault_at}
use Rattle.java_grammar.specs.Marks.{all_strict}
use Rattle.java_grammar.specs.ReadingPrograms.{program_at}

abbrev pub with_place : Tokens → Result PlainProgram Fault → Result PlainProgram ParseFault
with_place tokens (Ok p) = Ok p
with_place tokens (Err (faults.Unexpected left)) = Err (fault_at tokens rules.Unexpected left)
with_place tokens (Err (faults.TooDeep left)) = Err (fault_at tokens rules.TooDeep left)

-- the program that the tokens have, or the fault that is kept
unfoldable pub parsed : Tokens → Result PlainProgram ParseFault
parsed tokens = with_place tokens (whole program_at (all_strict tokens.list))

use Rattle.std.proofs.Common.{◌≡◌, string_bytes, length}
use denote.Text.{Utf8}
use denote.Shadow.{shadow}
use Rattle.sql_ast.specs.Lexer.{quoted_at}
use Rattle.sql_parse.proofs.Lexed.{text_behind}
use Rattle.sql_parse.proofs.lexing.quoted.Given as goal

abbrev pub invariant-loop-before : goal.invariant-loop-before
invariant-loop-before l = shadow (Utf8 l.rest) × (text_behind (string_bytes l.out) (quoted_at l.rest) ≡ quoted_at l.fn.text)

abbrev pub decreases-loop-before : goal.decreases-loop-before
decreases-loop-before l = length l.rest

use Rattle.std.proofs.Common.{◌≡◌, ◌-◌, length}
use denote.Text.{Utf8}
use denote.Shadow.{shadow}
use Rattle.sql_ast.specs.Lexer.{tokens_in}
use Rattle.sql_parse.specs.Seen.{tokens_of}
use Rattle.sql_parse.proofs.Lexed.{tokens_behind}
use Rattle.sql_parse.proofs.lexing.lex.Given as goal

abbrev pub invariant-loop : goal.invariant-loop
invariant-loop l = shadow (Utf8 l.rest) × (tokens_behind (tokens_of l.tokens.items) (tokens_in (length l.fn.text - l.counter) l.rest) ≡ tokens_in (length l.fn.text) l.fn.text)

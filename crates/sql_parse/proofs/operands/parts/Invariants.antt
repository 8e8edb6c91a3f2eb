use Rattle.std.proofs.Common.{◌≡◌, ◌-◌, length}
use Rattle.sql_ast.specs.Reader.{listed_at, part_at, parts_at}
use Rattle.sql_parse.specs.Said.{parts_of}
use Rattle.sql_parse.specs.Seen.{tokens_of}
use Rattle.sql_parse.proofs.Loops.{with_front}
use Rattle.sql_parse.proofs.operands.parts.Given as goal

abbrev pub invariant-loop : goal.invariant-loop
invariant-loop l = with_front (parts_of l.parts) (listed_at part_at (length l.tokens - l.counter) (tokens_of l.rest)) ≡ parts_at (tokens_of l.tokens)

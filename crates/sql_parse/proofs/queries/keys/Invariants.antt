use Rattle.std.proofs.Common.{◌≡◌, ◌-◌, length}
use Rattle.sql_ast.specs.Reader.{listed_at, key_at}
use Rattle.sql_parse.specs.Said.{keys_of}
use Rattle.sql_parse.specs.Seen.{tokens_of}
use Rattle.sql_parse.proofs.Loops.{with_front}
use Rattle.sql_parse.proofs.queries.keys.Given as goal

abbrev pub invariant-loop : goal.invariant-loop
invariant-loop l = with_front (keys_of l.keys) (listed_at key_at (length l.tokens - l.counter) (tokens_of l.rest)) ≡ listed_at key_at (length (tokens_of l.tokens)) (tokens_of l.tokens)

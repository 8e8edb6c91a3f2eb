use Rattle.std.proofs.Common.{arith}
use Rattle.std.proofs.lemmas.List.{length-map}
use Rattle.sql_parse.specs.Said.{query_of}
use Rattle.sql_parse.specs.Seen.{token_of, tokens_of}
use Rattle.sql_parse.proofs.Items.{left_over}
use Rattle.sql_parse.proofs.queries.whole.Goals as goal

pub returns-in-len1-up : goal.returns-in-len1-up
returns-in-len1-up c = left_over (query_of c.args.query.value) (tokens_of c.args.rest.now) (omega (arith, c.in-len1-up.len_at_least, length-map c.args.rest.now token_of))

use Rattle.sql_parts.proofs.Queries.{grammatical}
use Rattle.sql_parts.proofs.laws.emitted_queries_are_of_the_grammar.Goals as goal

pub returns : goal.returns
returns c schema f cand known args acc m is named unbroken typed are counted held there base = grammatical schema f cand known args acc m is named unbroken typed are counted held there base

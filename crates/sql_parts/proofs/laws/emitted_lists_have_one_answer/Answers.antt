use Rattle.sql_parts.proofs.Complete.{complete}
use Rattle.sql_parts.proofs.laws.emitted_lists_have_one_answer.Goals as goal

pub returns : goal.returns
returns c schema f cand known args acc m unbroken there = complete schema f cand known args acc m unbroken there

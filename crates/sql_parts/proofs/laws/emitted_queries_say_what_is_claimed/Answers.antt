use Rattle.sql_parts.proofs.Claims.{says}
use Rattle.sql_parts.proofs.laws.emitted_queries_say_what_is_claimed.Goals as goal

pub returns : goal.returns
returns c schema f cand known args acc m unbroken typed are there base = says schema f cand known args acc m unbroken typed are there base

use Rattle.std.proofs.Common.{List, ap}
use Rattle.tor_terms.specs.declared.term.Formula.{Formula}
use Rattle.tor_terms.specs.Plain.{forms_of}
use Rattle.kernel_lang.specs.Plain.{accumulator}
use Rattle.kernel_lang.specs.Pools.{chosen}
use Rattle.sql_parts.specs.Reading.{ground_of}
use Rattle.sql_emit.proofs.Existing.{where_from}
use Rattle.sql_emit.proofs.filter.accumulator_filter.Goals as goal

pub returns : goal.returns
returns c =
    where_from (ground_of c.args.g) (accumulator c.args.acc.now, chosen c.args.g.cand.now c.args.first (forms_of c.args.acc.now.pool)) c.as_slice.result.now _ _ _ c.better.result c.as_slice.ensures
    (ap (λ (fs : List Formula). chosen c.args.g.cand.now c.args.first (forms_of fs)) c.as_slice-2.ensures) c.in_ok-limited.ensures c.in_ok-selected.ensures c.better.ensures

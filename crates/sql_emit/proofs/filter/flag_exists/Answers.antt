use Rattle.std.proofs.Common.{rules}
use Rattle.tor_terms.specs.Plain.{forms_of}
use Rattle.kernel_lang.specs.Plain.{accumulator}
use Rattle.kernel_lang.specs.Pools.{chosen}
use Rattle.sql_parts.specs.Reading.{ground_of}
use Rattle.sql_emit.proofs.Existing.{exists_ok}
use Rattle.sql_emit.proofs.filter.flag_exists.Goals as goal

pub returns : goal.returns
returns c =
    exists_ok (ground_of c.args.g) c.flag_loops-own.result.now c.args.s.own.now c.args.s.outer.now (accumulator c.args.acc.now, chosen c.args.g.cand.now c.args.first (forms_of c.args.acc.now.pool)) _ c.in_ok-from.from _ c.exists.result
    c.requires.outermost c.requires.some c.flag_loops-own.ensures (search rules) (rw (c.inside-inner.ensures.own, c.inside-inner.ensures.outer) at c.in_ok-filter.ensures) c.in_ok-from.ensures c.exists.ensures

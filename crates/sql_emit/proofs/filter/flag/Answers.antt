use Rattle.sql_parts.specs.Reading.{scope_of}
use Rattle.sql_emit.proofs.Flagged.{flag_none, flag_ok, got_some, got_none}
use Rattle.sql_emit.proofs.filter.flag.Goals as goal

pub returns-in-None : goal.returns-in-None
returns-in-None c = flag_none c.args.g (scope_of c.args.s) c.args.k c.fixed.result (got_none c.args.g.accs.now c.args.k c.in-None.ensures.lookup.3) c.fixed.ensures

pub returns-in_ok-first-in-Some : goal.returns-in_ok-first-in-Some
returns-in_ok-first-in-Some c =
    flag_ok c.args.g (scope_of c.args.s) c.args.k c.in-Some.acc.now c.in_ok-first-in-Some.first c.flag_exists.result
    (got_some c.args.g.accs.now c.args.k c.in-Some.acc.now c.in-Some.acc.now c.in-Some.ensures.lookup.3.0 c.in-Some.ensures.lookup.1) c.in_ok-first-in-Some.ensures c.flag_exists.ensures

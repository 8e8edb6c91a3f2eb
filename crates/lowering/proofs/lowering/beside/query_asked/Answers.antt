use Rattle.lowering.proofs.Known.KnownHeld.{read_valid}
use Rattle.lowering.proofs.lowering.beside.query_asked.Goals as goal

pub returns-clause-valid : goal.returns-clause-valid
returns-clause-valid c =
    read_valid c.args.w.now.schema.now c.in-Some.a.text.now c.in_ok-read_query-in-Some.field-0 c.in-Some-2.q c.in_ok-read_query-in-Some.ensures c.in-Some-2.is c.read_length.ensures

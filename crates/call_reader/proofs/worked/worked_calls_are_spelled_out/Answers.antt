use Rattle.call_reader.proofs.Computed.{call_spelled, sum_spelled, query_has_none}
use Rattle.call_reader.proofs.worked.worked_calls_are_spelled_out.Goals as goal

pub returns : goal.returns
returns c = record { call = call_spelled; sum = sum_spelled; query = query_has_none }

use Rattle.call_rules.proofs.Found.{is_found_from}
use Rattle.call_rules.proofs.faults.first_fault.Goals as goal

pub returns : goal.returns
returns c =
    is_found_from c.args.program.now c.in_ok-helpers.helpers c.as_slice-methods.result.now c.in_ok-calls.calls c.as_slice-listed.result.now c.as_slice.result.now c.in_ok-found.found c.fault_from.result
    c.as_slice-methods.ensures c.in_ok-helpers.ensures c.in_ok-calls.ensures c.as_slice-listed.ensures c.in_ok-found.ensures c.fault_from.ensures

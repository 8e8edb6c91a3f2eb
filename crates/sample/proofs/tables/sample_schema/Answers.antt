use Rattle.sample.proofs.Schema.{no_fault, is_schema}
use Rattle.sample.proofs.tables.sample_schema.Goals as goal

pub unreachable-requires : goal.unreachable-requires
unreachable-requires c = no_fault c.as_bytes.result.now c.in-Err-Fault.field-0-0 c.as_bytes.ensures.value (rw c.in-Err-Fault.field-0-is at c.in-Err-Fault.ensures.value)

pub returns-in-Ok : goal.returns-in-Ok
returns-in-Ok c = is_schema c.as_bytes.result.now c.in-Ok.schema c.as_bytes.ensures.value c.in-Ok.ensures.value

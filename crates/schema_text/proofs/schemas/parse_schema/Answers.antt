use Rattle.std.proofs.Common.{Ok, Err}
use Rattle.schema_text.proofs.Judged.{has_schema, is_schema, named, only, right_fault}
use Rattle.schema_text.proofs.schemas.parse_schema.Goals as goal

pub from_tables-requires-clause-sound : goal.from_tables-requires-clause-sound
from_tables-requires-clause-sound c = is_schema c.args.bytes.now c.in-Ok.tables c.in-Ok.ensures

pub from_tables-requires-clause-named : goal.from_tables-requires-clause-named
from_tables-requires-clause-named c = named c.args.bytes.now c.in-Ok.tables c.in-Ok.ensures

pub returns-in-Ok-clause-found : goal.returns-in-Ok-clause-found
returns-in-Ok-clause-found c = rw c.from_tables.ensures (has_schema c.args.bytes.now c.in-Ok.tables c.in-Ok.ensures)

pub returns-in-Ok-clause-sound : goal.returns-in-Ok-clause-sound
returns-in-Ok-clause-sound c = rw c.from_tables.ensures (is_schema c.args.bytes.now c.in-Ok.tables c.in-Ok.ensures)

pub returns-in-Ok-clause-named : goal.returns-in-Ok-clause-named
returns-in-Ok-clause-named c = rw c.from_tables.ensures (named c.args.bytes.now c.in-Ok.tables c.in-Ok.ensures)

pub returns-in-Ok-clause-only : goal.returns-in-Ok-clause-only
returns-in-Ok-clause-only c tables h s = rw c.from_tables.ensures (only (Ok c.in-Ok.tables) c.args.bytes.now tables c.in-Ok.ensures h s)

pub returns-in-Err-clause-only : goal.returns-in-Err-clause-only
returns-in-Err-clause-only c tables h s = only (Err c.in-Err.fail) c.args.bytes.now tables c.in-Err.ensures h s

pub returns-in-Err-clause-fault : goal.returns-in-Err-clause-fault
returns-in-Err-clause-fault c = right_fault c.in-Err.fail c.args.bytes.now c.in-Err.ensures

use Rattle.std.proofs.Common.{rules, ◌-◌, vec_len}
use Rattle.files_sinks.proofs.sinks.MemSinkSink.write_all.Goals as goal

-- the bytes that the room still took
pub returns-clause-wrote : goal.returns-clause-wrote
returns-clause-wrote c = (c.self.inside.room - vec_len c.self.inside.bytes, search rules)

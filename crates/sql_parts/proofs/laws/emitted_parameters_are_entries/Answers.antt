use Rattle.sql_parts.proofs.Entries.{entries_are}
use Rattle.sql_parts.proofs.laws.emitted_parameters_are_entries.Goals as goal

pub returns : goal.returns
returns c schema f known args unbroken are = entries_are schema f known args unbroken are

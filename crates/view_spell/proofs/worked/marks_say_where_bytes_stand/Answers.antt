use Rattle.view_spell.proofs.Marked.{written_apart, written_length}
use Rattle.view_spell.proofs.worked.marks_say_where_bytes_stand.Goals as goal

pub returns-clause-apart : goal.returns-clause-apart
returns-clause-apart c = written_apart

pub returns-clause-length : goal.returns-clause-length
returns-clause-length c = written_length

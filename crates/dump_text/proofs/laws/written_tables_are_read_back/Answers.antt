use Rattle.schema_text.proofs.Judged.{schema_is}
use Rattle.dump_text.specs.Entries.{tables_of}
use Rattle.dump_text.specs.Text.{text_of}
use Rattle.dump_text.proofs.Declared.{declared}
use Rattle.dump_text.proofs.laws.written_tables_are_read_back.Goals as goal

pub returns : goal.returns
returns c entries sound = schema_is (text_of entries) (tables_of entries) (declared entries sound) sound.schema

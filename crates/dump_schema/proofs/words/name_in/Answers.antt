use Rattle.dump_schema.proofs.Texts.{named_text}
use Rattle.dump_schema.proofs.words.name_in.Goals as goal

pub returns-then-is_name : goal.returns-then-is_name
returns-then-is_name c = named_text c.args.bytes.now c.as_text.result c.if-is_name.ensures c.as_text.ensures.value c.as_text.ensures.some

use Rattle.sql_parts.proofs.Utf8.{queries_are_utf8}
use Rattle.sql_parts.proofs.laws.emitted_texts_are_utf8.Goals as goal

pub returns : goal.returns
returns c schema f known args unbroken texts = queries_are_utf8 schema f known args unbroken texts

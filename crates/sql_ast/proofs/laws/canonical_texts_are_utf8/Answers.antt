use Rattle.sql_ast.proofs.Utf8.{canonical_is_utf8}
use Rattle.sql_ast.proofs.laws.canonical_texts_are_utf8.Goals as goal

pub returns : goal.returns
returns c schema q is literals = canonical_is_utf8 schema q is literals

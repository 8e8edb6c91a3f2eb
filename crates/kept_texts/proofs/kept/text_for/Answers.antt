use Rattle.java_ast.specs.Reading.{program}
use Rattle.std.proofs.Common.{◌∙◌}
use Rattle.kept_texts.proofs.Readings.{canonical_for}
use Rattle.kept_texts.proofs.kept.text_for.Goals as goal

pub returns-else-branch : goal.returns-else-branch
returns-else-branch c =
    canonical_for c.args.text c.as_slice-2.result.now c.in_ok-canonical.canonical c.as_slice.result.now c.from_vec.result (program c.args.program.now) c.in_ok-is_read_as.field-0
    c.requires.grammar c.requires.written c.in_ok-is_read_as.ensures c.as_slice.ensures c.as_slice-2.ensures c.in_ok-canonical.ensures c.if-branch.false (c.from_vec.ensures ∙ c.into_vec.ensures)

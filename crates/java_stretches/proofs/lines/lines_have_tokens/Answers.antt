use Rattle.java_stretches.proofs.Margins.{margin_of, whole_lines, joined_stands}
use Rattle.java_stretches.proofs.lines.lines_have_tokens.Goals as goal

pub returns-clause-margin : goal.returns-clause-margin
returns-clause-margin c = margin_of

pub returns-clause-lines : goal.returns-clause-lines
returns-clause-lines c = whole_lines

pub returns-clause-joined : goal.returns-clause-joined
returns-clause-joined c = joined_stands

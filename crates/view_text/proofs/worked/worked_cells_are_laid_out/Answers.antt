use Rattle.view_text.proofs.WorkedText.{cells_are_tokens, text_has_cells}
use Rattle.view_text.proofs.worked.worked_cells_are_laid_out.Goals as goal

pub returns-clause-tokens : goal.returns-clause-tokens
returns-clause-tokens c = cells_are_tokens

pub returns-clause-read : goal.returns-clause-read
returns-clause-read c = text_has_cells

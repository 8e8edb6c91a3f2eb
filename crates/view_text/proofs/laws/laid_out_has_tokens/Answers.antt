use Rattle.view_text.proofs.TokensRead.{has_cells}
use Rattle.view_text.proofs.laws.laid_out_has_tokens.Goals as goal

pub returns : goal.returns
returns c = has_cells

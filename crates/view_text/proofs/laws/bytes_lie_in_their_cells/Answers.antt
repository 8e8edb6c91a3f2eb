use Rattle.view_text.proofs.Holding.{cell_holds}
use Rattle.view_text.proofs.TokenCells.{token_lies}
use Rattle.view_text.proofs.laws.bytes_lie_in_their_cells.Goals as goal

pub returns : goal.returns
returns c = record { stretches = cell_holds; tokens = token_lies }

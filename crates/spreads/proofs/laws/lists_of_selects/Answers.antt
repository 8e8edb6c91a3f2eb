use Rattle.spreads.proofs.Stated.{list_of_select, list_of_table}
use Rattle.spreads.proofs.laws.lists_of_selects.Goals as goal

pub returns : goal.returns
returns c = record { select = list_of_select; table = list_of_table }

use Rattle.std.proofs.Common.{length}
use Rattle.sql_parts.proofs.sort_keys.+add_list_keys.Given as goal

abbrev pub decreases-add_list_keys : goal.decreases-add_list_keys
decreases-add_list_keys l = length l.cols.now

use Rattle.std.proofs.Common.{◌+◌, ◌*◌, length}
use Rattle.java_copies.proofs.put.+put.Given as goal

abbrev pub decreases-put_in_block : goal.decreases-put_in_block
decreases-put_in_block l = length l.path.now * 4

abbrev pub decreases-put_in_branch : goal.decreases-put_in_branch
decreases-put_in_branch l = length l.path.now * 4 + 1

abbrev pub decreases-put_in_either : goal.decreases-put_in_either
decreases-put_in_either l = length l.path.now * 4 + 2

abbrev pub decreases-put_in_statement : goal.decreases-put_in_statement
decreases-put_in_statement l = length l.path.now * 4 + 3

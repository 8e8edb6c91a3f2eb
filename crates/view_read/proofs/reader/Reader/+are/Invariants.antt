use Rattle.std.proofs.Common.{length}
use Rattle.view_read.proofs.reader.Reader.+are.Given as goal

abbrev pub decreases-are : goal.decreases-are
decreases-are l = length l.words.now

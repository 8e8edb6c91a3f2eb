use Rattle.std.proofs.Common.{length}
use Rattle.text_readers.proofs.bytes.+digits.Given as goal

abbrev pub decreases-digits : goal.decreases-digits
decreases-digits l = length l.bytes.now

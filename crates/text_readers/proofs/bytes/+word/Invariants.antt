use Rattle.std.proofs.Common.{length}
use Rattle.text_readers.proofs.bytes.+word.Given as goal

abbrev pub decreases-word : goal.decreases-word
decreases-word l = length l.expected.now

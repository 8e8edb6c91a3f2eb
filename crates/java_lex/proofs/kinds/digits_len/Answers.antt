use Rattle.std.proofs.lemmas.List.Sums.{prefix_len-le-length}
use Rattle.qbs_base.specs.Bytes.{is_digit}
use Rattle.java_lex.proofs.Ascii.{digits_are_ascii}
use Rattle.java_lex.proofs.Numerals.{front_digits}
use Rattle.java_lex.proofs.kinds.digits_len.Goals as goal

pub returns-else-begins_with-clause-within : goal.returns-else-begins_with-clause-within
returns-else-begins_with-clause-within c = rw c.digit_run_len.ensures (prefix_len-le-length is_digit c.args.bytes.now)

pub returns-else-begins_with-clause-ascii : goal.returns-else-begins_with-clause-ascii
returns-else-begins_with-clause-ascii c = rw c.digit_run_len.ensures (digits_are_ascii c.args.bytes.now)

pub returns-else-begins_with-clause-digits : goal.returns-else-begins_with-clause-digits
returns-else-begins_with-clause-digits c = rw c.digit_run_len.ensures (front_digits c.args.bytes.now)

use Rattle.std.proofs.Common.{◌≡◌, ◌+◌, drop}
use Rattle.std.specs.Option.{option_map}
use Rattle.java_lex.specs.Pieces.{comment_len}
use Rattle.java_lex.proofs.comments.comment_len.Given as goal

abbrev pub invariant-loop-i : goal.invariant-loop-i
invariant-loop-i l = option_map (λ n. l.i + n) (comment_len (drop l.i l.bytes)) ≡ comment_len l.bytes

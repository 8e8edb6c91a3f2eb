use Rattle.std.proofs.Common.{◌+◌, ◌≤◌, ℕ, Option, length, sym, subst, arith}
use Rattle.java_lex.proofs.Lengths.{EndsWithin, comment_len_within, length_taken}
use Rattle.java_lex.proofs.comments.block_comment.Goals as goal

pub slice_bounds-checked-end : goal.slice_bounds-checked-end
slice_bounds-checked-end c =
    let within : c.in-Some.len + 2 ≤ length c.args.bytes.now =
    subst (λ (end : Option ℕ). EndsWithin (length c.args.bytes.now) end) (sym c.in-Some.ensures) (comment_len_within c.args.bytes.now) in
    sym (length_taken c.in-Some.len c.args.bytes.now (omega (arith, within)))

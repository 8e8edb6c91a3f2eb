use Rattle.std.proofs.Common.{◌<◌, length, get_or, subst, arith}
use Rattle.std.specs.Str.{IsUtf8}
use Rattle.std.proofs.lemmas.Str.{IsCharBoundary-after_ascii}
use Rattle.sql_parse.proofs.bytes.split_ascii.Goals as goal

pub split_at-requires : goal.split_at-requires
split_at-requires c =
    let text : IsUtf8 c.args.text.now = subst IsUtf8 c.as_bytes.ensures.value c.as_bytes.ensures.utf8 in
    let some : 0 < length c.args.text.now = omega (arith, c.as_bytes.ensures.len, c.in-len1-up.len_at_least) in
    let first : get_or c.args.text.now 0 0 < 128 = rw (← c.as_bytes.ensures.value) c.if-first-lt128.true in
    IsCharBoundary-after_ascii c.args.text.now 0 text some first

use Rattle.std.proofs.Common.{subst}
use Rattle.std.specs.Str.{IsUtf8}
use Rattle.sql_parse.proofs.Ascii.{name_boundary}
use Rattle.sql_parse.proofs.bytes.name_len.Goals as goal

pub returns-clause-boundary : goal.returns-clause-boundary
returns-clause-boundary c =
    let text : IsUtf8 c.args.text.now = subst IsUtf8 c.as_bytes.ensures.value c.as_bytes.ensures.utf8 in
    rw (c.name_run.ensures, c.as_bytes.ensures.value) (name_boundary c.args.text.now text)

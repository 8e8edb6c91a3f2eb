use Rattle.std.proofs.Common.{sym, subst}
use Rattle.std.specs.Prelude.{IsUtf8}
use Rattle.std.proofs.lemmas.Str.{is_utf8-from_IsUtf8}
use Rattle.store_parts.proofs.limits.is_text.Goals as goal

pub returns : goal.returns
returns c = sym (is_utf8-from_IsUtf8 c.args.text.now (subst IsUtf8 c.as_str.ensures c.as_str.utf8))

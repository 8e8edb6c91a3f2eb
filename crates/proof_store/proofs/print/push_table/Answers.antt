use Rattle.std.proofs.Common.{sym, ap, ◌∙◌, append-nil}
use Rattle.std.specs.Option.{option_copied}
use Rattle.proof_store.specs.Printing.{text_of}
use Rattle.proof_store.proofs.print.push_table.Goals as goal

pub returns-in-Some : goal.returns-in-Some
returns-in-Some c = rw (ap text_of (sym c.rows.ensures ∙ ap option_copied c.in-Some.is)) c.push_rows.ensures

pub returns-in-None : goal.returns-in-None
returns-in-None c = rw (ap text_of (sym c.rows.ensures ∙ ap option_copied c.in-None.is)) (sym (append-nil _))

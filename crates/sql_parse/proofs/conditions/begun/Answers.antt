use Rattle.std.proofs.Common.{Option, sym, subst}
use Rattle.sql_parse.specs.Begins.{Begun, begun_of}
use Rattle.sql_parse.specs.ReadNames.{read_opnd_of}
use Rattle.sql_parse.specs.Seen.{Gives, tokens_of}
use Rattle.sql_parse.proofs.Beginning.{opnd_begins}
use Rattle.sql_parse.proofs.conditions.begun.Goals as goal

pub returns-in_ok-first-in-len1-up : goal.returns-in_ok-first-in-len1-up
returns-in_ok-first-in-len1-up c =
    subst (λ (r : Option Begun). Gives begun_of c.begun_from.result r)
    (sym (opnd_begins c.args.tokens.now c.first-item.result (tokens_of c.in_ok-first-in-len1-up.rest.now) (read_opnd_of c.in_ok-first-in-len1-up.first) c.is_word.result c.in-len1-up.len_at_least c.first-item.is c.is_word.ensures c.if-is_word.false c.in_ok-first-in-len1-up.ensures))
    c.begun_from.ensures

use Rattle.view_items.proofs.Kept.{noted}
use Rattle.view_items.proofs.known.opened_len.Goals as goal

pub returns-in-None-clause-known : goal.returns-in-None-clause-known
returns-in-None-clause-known c = noted _ _ _ _ _ _ _ c.requires.known c.opening_mark-front.ensures c.in-None.ensures.value c.reach.ensures.value c.with.ensures

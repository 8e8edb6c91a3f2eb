use Rattle.qbs.proofs.stored.rewrite_past_store.Goals as goal

pub returns-in-None : goal.returns-in-None
returns-in-None g c = rw c.in-None.is c.rewrite.ensures

pub returns-in-Some : goal.returns-in-Some
returns-in-Some g c = rw c.in-Some.is c.rewrite_by_bank.ensures

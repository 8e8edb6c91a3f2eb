use Rattle.qbs.proofs.stored.rewrite_past_store.Given as goal

abbrev pub ghosts-rewrite_by_bank : goal.ghosts-rewrite_by_bank
ghosts-rewrite_by_bank g a = record { items = a.bank.now }

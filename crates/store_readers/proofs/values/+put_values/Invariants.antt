use Rattle.store_readers.proofs.values.+put_values.Given as goal

abbrev pub decreases-put_values : goal.decreases-put_values
decreases-put_values l = l.count

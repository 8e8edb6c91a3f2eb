use Rattle.store_readers.proofs.rows.+put_so_many.Given as goal

abbrev pub decreases-put_so_many : goal.decreases-put_so_many
decreases-put_so_many l = l.count

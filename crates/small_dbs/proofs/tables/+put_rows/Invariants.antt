use Rattle.small_dbs.proofs.tables.+put_rows.Given as goal

abbrev pub decreases-put_rows : goal.decreases-put_rows
decreases-put_rows l = l.count

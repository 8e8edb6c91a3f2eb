use Rattle.kernel_lang.specs.Whole.{fragment_of}
use Rattle.term_cases.proofs.Summed.{fits_from}
use Rattle.term_cases.proofs.totals.run_sum.Goals as goal

pub run_fragment-requires : goal.run_fragment-requires
run_fragment-requires c =
    fits_from (fragment_of c.args.frag.now) c.in_ok-db.db c.nothing_given-entry.result c.args.ns.now c.requires c.in_ok-db.ensures c.nothing_given-entry.ensures

use Rattle.term_cases.proofs.Summed.{sum_found}
use Rattle.term_cases.proofs.totals.sum.Goals as goal

pub run_sum-requires : goal.run_sum-requires
run_sum-requires c = sum_found c.in_ok-frag.field-0 c.in-Some.frag c.in-Some.is c.in_ok-frag.ensures

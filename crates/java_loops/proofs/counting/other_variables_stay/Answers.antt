-- What statements leave, and what doesn't matter to them.
use Rattle.java_loops.proofs.Walks.Apart.{all_within_same}
use Rattle.java_loops.proofs.Walks.Untouched.{untouched, all_untouched}
use Rattle.java_loops.proofs.counting.other_variables_stay.Goals as goal

pub returns-clause-untouched : goal.returns-clause-untouched
returns-clause-untouched c = untouched

pub returns-clause-all_untouched : goal.returns-clause-all_untouched
returns-clause-all_untouched c = all_untouched

pub returns-clause-unmentioned : goal.returns-clause-unmentioned
returns-clause-unmentioned c = all_within_same

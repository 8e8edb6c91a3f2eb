-- The examples.
use Rattle.std.proofs.Common.{refl}
use Rattle.java_loops.proofs.Walks.Exampled.{counts_two, flag_gives_way}
use Rattle.java_loops.proofs.examples.examples_count_and_give_way.Goals as goal

pub returns-clause-counts : goal.returns-clause-counts
returns-clause-counts c = counts_two

pub returns-clause-may : goal.returns-clause-may
returns-clause-may c = flag_gives_way

pub returns-clause-to : goal.returns-clause-to
returns-clause-to c = λ at. refl

pub returns-clause-moved : goal.returns-clause-moved
returns-clause-moved c = λ at. refl

-- Statements, blocks, loops and accumulators.
use Rattle.java_loops.specs.Walks.ChainLaws.{StatementsAreRuns, BlocksAreRuns}
use Rattle.java_loops.proofs.Walks.ChainEnds.{turns_carried, accumulator_carried, accumulator_ends, turns_end, fragment_ends}
use Rattle.java_loops.proofs.Walks.ChainRuns.{chain_carried, chains_carried}
use Rattle.java_loops.proofs.chains.chains_are_runs.Goals as goal

statements_run : StatementsAreRuns
statements_run f quiet n flags s a fs ys ch w k env rows d h apart none m suits = chain_carried f w k quiet n flags s a fs ys ch h env rows d apart none m suits

blocks_run : BlocksAreRuns
blocks_run f quiet n flags bs p a fs ys ch w k env rows d h apart none m suits = chains_carried f w k quiet n flags bs p a fs ys ch h env rows d apart none m suits

pub returns-clause-statements : goal.returns-clause-statements
returns-clause-statements c = statements_run

pub returns-clause-blocks : goal.returns-clause-blocks
returns-clause-blocks c = blocks_run

pub returns-clause-loops : goal.returns-clause-loops
returns-clause-loops c = turns_carried

pub returns-clause-accumulators : goal.returns-clause-accumulators
returns-clause-accumulators c = accumulator_carried

pub returns-clause-ends : goal.returns-clause-ends
returns-clause-ends c = accumulator_ends

pub returns-clause-turns_end : goal.returns-clause-turns_end
returns-clause-turns_end c = turns_end

pub returns-clause-fragments : goal.returns-clause-fragments
returns-clause-fragments c = fragment_ends

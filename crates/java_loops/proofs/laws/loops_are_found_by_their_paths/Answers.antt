use Rattle.java_loops.proofs.Placing.PathsLead.{loop_has_fragment, loop_has_first}
use Rattle.java_loops.proofs.laws.loops_are_found_by_their_paths.Goals as goal

pub returns-clause-fragment : goal.returns-clause-fragment
returns-clause-fragment c = loop_has_fragment

pub returns-clause-first : goal.returns-clause-first
returns-clause-first c = loop_has_first

-- Known lists matter by membership alone.
use Rattle.java_loops.proofs.Meant.MembersLists.{firsts_members, set_members}
use Rattle.java_loops.proofs.Meant.MembersWorlds.{members_decide, members_fit}
use Rattle.java_loops.proofs.laws.known_lists_matter_by_membership.Goals as goal

pub returns-clause-ends : goal.returns-clause-ends
returns-clause-ends c = members_decide

pub returns-clause-fits : goal.returns-clause-fits
returns-clause-fits c = members_fit

pub returns-clause-firsts : goal.returns-clause-firsts
returns-clause-firsts c = firsts_members

pub returns-clause-sets : goal.returns-clause-sets
returns-clause-sets c = set_members

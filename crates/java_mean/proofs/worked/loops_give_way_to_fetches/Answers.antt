-- The example of statements that give way to others.
use Rattle.java_mean.proofs.Copying.{mentioned_in_copied, old_typed, new_typed, copy_gives_way, copy_kept}
use Rattle.java_mean.proofs.worked.loops_give_way_to_fetches.Goals as goal

pub returns-clause-mentioned : goal.returns-clause-mentioned
returns-clause-mentioned c = mentioned_in_copied

pub returns-clause-old_typed : goal.returns-clause-old_typed
returns-clause-old_typed c = old_typed

pub returns-clause-new_typed : goal.returns-clause-new_typed
returns-clause-new_typed c = new_typed

pub returns-clause-gives_way : goal.returns-clause-gives_way
returns-clause-gives_way c = copy_gives_way

pub returns-clause-kept : goal.returns-clause-kept
returns-clause-kept c = copy_kept

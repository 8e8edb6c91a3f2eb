use Rattle.java_loops.proofs.Kept.KeptMeant.{fragment_is_meant}
use Rattle.java_loops.proofs.meaning.kept_statements_leave_the_rest.Goals as goal

pub returns : goal.returns
returns c = fragment_is_meant

use Rattle.kernel_lang.proofs.EndSets.{set-distinct}
use Rattle.kernel_lang.proofs.laws.sets_have_distinct_members.Goals as goal

pub returns : goal.returns
returns c = set-distinct

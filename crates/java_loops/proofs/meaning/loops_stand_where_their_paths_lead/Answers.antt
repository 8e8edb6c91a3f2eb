use Rattle.java_loops.proofs.Kept.KeptPath.{setting_stands}
use Rattle.java_loops.proofs.meaning.loops_stand_where_their_paths_lead.Goals as goal

pub returns : goal.returns
returns c = setting_stands

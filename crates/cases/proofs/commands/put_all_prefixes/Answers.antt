use Rattle.cases.proofs.Answers.{extends_itself, extends_by}
use Rattle.cases.proofs.commands.put_all_prefixes.Goals as goal

pub loop-command-init : goal.loop-command-init
loop-command-init c = extends_itself _ _ c.in_ok-push_str.ensures.bytes

pub loop-command-preserved : goal.loop-command-preserved
loop-command-preserved c = extends_by _ _ _ _ c.loop-command.invariant c.in_ok-put_prefixes.ensures.2

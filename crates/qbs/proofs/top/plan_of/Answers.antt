use Rattle.std.proofs.Common.{sym, ◌∙◌}
use Rattle.deliveries.specs.Reads.{looks}
use Rattle.qbs.proofs.Worded.{command_due, words_read, words_read_so, no_words_read_so, none_in_order, stays}
use Rattle.qbs.proofs.top.plan_of.Goals as goal

pub returns-in-Some-clause-unread : goal.returns-in-Some-clause-unread
returns-in-Some-clause-unread g c = words_read _ _ c.args.words.now c.in-Some.command (sym c.in-Some.is ∙ c.in_ok-command.ensures.read)

pub returns-in-Some-clause-reads : goal.returns-in-Some-clause-reads
returns-in-Some-clause-reads g c = words_read_so _ c.args.words.now c.in-Some.command _ _ (sym c.in-Some.is ∙ c.in_ok-command.ensures.read) c.plan_command.ensures.reads

pub returns-in-Some-clause-same : goal.returns-in-Some-clause-same
returns-in-Some-clause-same g c = (stays _ c.in-Some.command _ _ c.plan_command.ensures.reads).0

pub returns-in-Some-clause-later : goal.returns-in-Some-clause-later
returns-in-Some-clause-later g c = (stays _ c.in-Some.command _ _ c.plan_command.ensures.reads).1

pub returns-in-None-clause-reads : goal.returns-in-None-clause-reads
returns-in-None-clause-reads g c = no_words_read_so _ c.args.words.now _ (sym c.in-None.is ∙ c.in_ok-command.ensures.read)

pub returns-in_err-command-clause-reads : goal.returns-in_err-command-clause-reads
returns-in_err-command-clause-reads g c other has = none_in_order (looks g.F.Files.told g.F.Files.faults g.F.Files.may_fail g.F.Files.by_read) other c.args.files.now

pub returns-in-Some-clause-due : goal.returns-in-Some-clause-due
returns-in-Some-clause-due g c = command_due _ _ c.args.words.now c.in-Some.command c.plan_command.result (sym c.in-Some.is ∙ c.in_ok-command.ensures.read) c.plan_command.ensures.due

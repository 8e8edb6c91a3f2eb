use Rattle.std.proofs.Common.{◌∙◌, sym}
use Rattle.java_mean.proofs.Sets.{names_more}
use Rattle.loop_setting.proofs.kept.name_list.NameList.put.Goals as goal

pub returns-clause-names : goal.returns-clause-names
returns-clause-names c = names_more c.args.self.now.seen c.args.self.now.names c.push.new.self c.args.name c.requires (sym c.has.ensures ∙ c.if-has.false) c.in_ok-push.ensures.ok

use Rattle.std.proofs.Common.{◌∙◌}
use Rattle.method_texts.proofs.Enclosed.{behind}
use Rattle.method_texts.proofs.texts.behind_opening.Goals as goal

pub returns-in-None : goal.returns-in-None
returns-in-None c rest e = absurd (c.in-None.ensures.cases rest e)

pub returns-in-Some : goal.returns-in-Some
returns-in-Some c rest e = let w = c.in-Some.ensures.cases in w.2 ∙ behind c.args.text.now rest w.0 e w.1.0

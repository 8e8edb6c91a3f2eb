use Rattle.std.proofs.Common.{◌∙◌}
use Rattle.method_texts.proofs.Enclosed.{ahead}
use Rattle.method_texts.proofs.texts.before_closing.Goals as goal

pub returns-in-None : goal.returns-in-None
returns-in-None c front e = absurd (c.in-None.ensures.cases front e)

pub returns-in-Some : goal.returns-in-Some
returns-in-Some c front e = let w = c.in-Some.ensures.cases in w.2 ∙ ahead c.args.text.now front w.0 e w.1.0

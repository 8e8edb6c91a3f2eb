use Rattle.std.proofs.Common.{◌∙◌, lit<}
use Rattle.std.proofs.lemmas.Iterator.Splits.{YieldsList-from_str_split}
use Rattle.std.proofs.lemmas.Iterator.Consumers.{YieldsList-end}
use Rattle.cases.proofs.split.words_between.Goals as goal

pub returns : goal.returns
returns c =
    let words = YieldsList-from_str_split 32 c.args.line.now (lit< tt) (cc) (cc) (cc) in
    let end = YieldsList-end words c.loop-word.yielded _ c.loop-word.yielded_by _ _ c.in-None.is c.next.ensures.steps in
    c.loop-word.invariant ∙ end.0

use Rattle.std.proofs.Common.{◌∙◌, ap, sym, lit<}
use Rattle.std.specs.List.{flat_map}
use Rattle.std.proofs.lemmas.Iterator.Splits.{YieldsList-from_str_split}
use Rattle.std.proofs.lemmas.Iterator.Consumers.{YieldsList-end}
use Rattle.std.proofs.lemmas.List.Folds.{flat_map-map}
use Rattle.cases.specs.Files.{repeated_line}
use Rattle.cases.proofs.held.repeated.Goals as goal

pub returns : goal.returns
returns c =
    let lines = YieldsList-from_str_split 10 c.args.text.now (lit< tt) (cc) (cc) (cc) in
    let end = YieldsList-end lines c.loop-line.yielded _ c.loop-line.yielded_by _ _ c.in-None.is c.next.ensures.steps in
    c.loop-line.invariant ∙ sym (flat_map-map (repeated_line c.args.end.now) (λ x. x.now) c.loop-line.yielded) ∙ ap (flat_map (repeated_line c.args.end.now)) end.0

use Rattle.std.proofs.Common.{◌∙◌, ap}
use Rattle.narrowing.specs.Narrowing.{is_walk}
use Rattle.narrowing.proofs.narrow.is_walk.Goals as goal

pub returns-in-Some : goal.returns-in-Some
returns-in-Some c = c.is_for_each.ensures ∙ ap is_walk c.in-Some.ensures

pub returns-in-None : goal.returns-in-None
returns-in-None c = ap is_walk c.in-None.ensures

use Rattle.std.proofs.Common.{◌∙◌, ap, sym}
use Rattle.narrowing.specs.Narrowing.{place_or_none}
use Rattle.narrowing.proofs.Placed.{statement_place}
use Rattle.narrowing.proofs.narrow.place_at.Goals as goal

pub returns-in-Some : goal.returns-in-Some
returns-in-Some c = sym (statement_place c.in-Some.s.now) ∙ ap place_or_none c.in-Some.ensures

pub returns-in-None : goal.returns-in-None
returns-in-None c = ap place_or_none c.in-None.ensures

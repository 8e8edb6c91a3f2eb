use Rattle.narrowing.proofs.narrow.is_in.Goals as goal

pub returns : goal.returns
returns c = c.contains.ensures

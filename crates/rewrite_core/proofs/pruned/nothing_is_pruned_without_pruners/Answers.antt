use Rattle.rewrite_core.proofs.PrunedTries.{none_pruned}
use Rattle.rewrite_core.proofs.pruned.nothing_is_pruned_without_pruners.Goals as goal

pub returns : goal.returns
returns g c size ts n h = none_pruned _ _ c.args.pruners.now c.requires size ts n h

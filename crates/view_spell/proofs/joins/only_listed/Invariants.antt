use Rattle.std.proofs.Common.{◌≡◌, ◌+◌, ◌++◌, drop}
use Rattle.view_spell.specs.Joins.{only_from}
use Rattle.view_spell.proofs.joins.only_listed.Given as goal

abbrev pub invariant-loop-from : goal.invariant-loop-from
invariant-loop-from l = record {
  number : l.item ≡ l._from-index + 1;
  items : l.out.items ++ only_from l.listed l.item (drop l._from-index l.from) ≡ only_from l.listed 1 l.from;
}

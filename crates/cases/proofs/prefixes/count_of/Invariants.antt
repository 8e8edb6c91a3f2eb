use Rattle.std.proofs.Common.{◌≡◌, ◌≤◌, ◌+◌, ◌-◌, min, length}
use Rattle.cases.proofs.prefixes.count_of.Given as goal

abbrev pub invariant-loop-length : goal.invariant-loop-length
invariant-loop-length l = record {
  all : l.count.all ≡ min l.length (length l.bytes + 1 - l.less);
  refused : l.count.refused ≤ l.count.all;
  placed : l.count.placed ≤ l.count.refused;
}

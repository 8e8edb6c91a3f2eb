use Rattle.std.proofs.Common.{◌≡◌, ◌++◌, ◌-◌, ◌≤◌}
use Rattle.kernel_lang.specs.Whole.{fragment_of}
use Rattle.small_dbs.specs.Chosen as spec
use Rattle.small_dbs.specs.Held.{held}
use Rattle.small_dbs.proofs.entries.known_lists.Given as goal

abbrev pub invariant-loop-q : goal.invariant-loop-q
invariant-loop-q l = l.all ++ spec.known l.tables (fragment_of l.frag) (held l.values) l.d l.q (l.frag.known - l.q) ≡ spec.known l.tables (fragment_of l.frag) (held l.values) l.d 0 l.frag.known

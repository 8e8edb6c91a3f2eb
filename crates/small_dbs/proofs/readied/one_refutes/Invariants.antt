use Rattle.std.proofs.Common.{◌≡◌, ◌↔◌, ◌≤◌, length, drop}
use Rattle.kernel_lang.specs.Whole.{fragment_of}
use Rattle.small_dbs.specs.Endings as spec
use Rattle.small_dbs.specs.Pruned.{OneRefutes}
use Rattle.small_dbs.proofs.readied.one_refutes.Given as goal

abbrev pub invariant-loop-i : goal.invariant-loop-i
invariant-loop-i l =
    (l.endings ≡ spec.first_endings (fragment_of l.frag) l.items (length l.endings))
    × (l.i ≤ length l.endings)
    × (OneRefutes (fragment_of l.frag) l.cand l.items ↔ OneRefutes (fragment_of l.frag) l.cand (drop l.i l.items))

use Rattle.std.proofs.Common.{◌≡◌, [], drop, map}
use Rattle.loop_setting.specs.Listed.{IsListed}
use Rattle.lowering.specs.InCode.Numbered.{leaf_in_code}
use Rattle.java_loops.specs.Lowering.Numbering.{known_among}
use Rattle.java_ast.specs.Names.{names_lent}
use Rattle.lowering.proofs.numbering.named_values.known_found.Given as goal

abbrev pub invariant-loop-leaf : goal.invariant-loop-leaf
invariant-loop-leaf l = IsListed l.known.value × (known_among (names_lent l.known.value.names) (map leaf_in_code (drop l.leaf-index l.leaves)) ≡ known_among [] (map leaf_in_code l.leaves))

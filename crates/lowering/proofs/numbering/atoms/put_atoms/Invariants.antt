use Rattle.std.proofs.Common.{drop, map}
use Rattle.lowering.specs.InCode.Numbered.{leaf_in_code}
use Rattle.java_loops.specs.Lowering.Numbering.{atoms_among}
use Rattle.loop_text.specs.Sites.Reading.{exprs_lent}
use Rattle.java_ast.specs.Names.{names_lent}
use Rattle.lowering.specs.InCode.Reading.{setting_in_code}
use Rattle.java_loops.specs.Lowering.UpTo.{Reaches}
use Rattle.lowering.proofs.numbering.atoms.put_atoms.Given as goal

abbrev pub invariant-loop-leaf : goal.invariant-loop-leaf
invariant-loop-leaf l =
    Reaches 24 l.atoms (atoms_among (setting_in_code l.w) (exprs_lent l.entries) (names_lent l.known) l.atoms (map leaf_in_code (drop l.leaf-index l.leaves))) (atoms_among (setting_in_code l.w) (exprs_lent l.entries) (names_lent l.known) l.fn.atoms (map leaf_in_code l.leaves))

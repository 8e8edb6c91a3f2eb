use Rattle.std.proofs.Common.{drop, map, arith}
use Rattle.lowering.specs.InCode.Numbered.{leaf_in_code}
use Rattle.loop_text.specs.Sites.Reading.{exprs_lent}
use Rattle.java_ast.specs.Names.{names_lent}
use Rattle.lowering.specs.InCode.Reading.{setting_in_code}
use Rattle.java_loops.proofs.Lists.UpTo.{stopped, atoms_grow}
use Rattle.lowering.proofs.numbering.atoms.put_atoms.Goals as goal

pub returns-then-len-gt-MOST_ATOMS : goal.returns-then-len-gt-MOST_ATOMS
returns-then-len-gt-MOST_ATOMS c =
    stopped 24 c.loop-leaf.atoms _ _ (atoms_grow (setting_in_code c.args.w.now) (exprs_lent c.args.entries.now) (names_lent c.args.known.now) c.loop-leaf.atoms (map leaf_in_code (drop c.loop-leaf.leaf-index c.args.leaves.now)))
    (omega arith) c.loop-leaf.invariant

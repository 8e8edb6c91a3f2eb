-- Leaves and readings as the code holds them.
use Rattle.java_ast.specs.Reading.{expression}
use Rattle.lowering.specs.declared.numbering.leaves.Leaf as leaves
use Rattle.lowering.specs.declared.numbering.atoms.Reading as readings
use Rattle.java_loops.specs.Lowering.Numbering.{Leaf, Reading}

abbrev pub leaf_in_code : leaves.Leaf → Leaf
leaf_in_code l = record { number = l.number; expression = expression l.expression.now }

abbrev pub reading_in_code : readings.Reading → Reading
reading_in_code r = record { atom = r.atom; holds = r.holds }

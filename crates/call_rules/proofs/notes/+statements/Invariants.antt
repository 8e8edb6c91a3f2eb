use Rattle.std.proofs.Common.{◌≡◌, ◌++◌, drop, map}
use Rattle.java_ast.specs.Reading.{method, statements}
use Rattle.call_rules.specs.Noted.{notes_of}
use Rattle.call_rules.proofs.notes.+statements.Given as goal

abbrev pub invariant-note_block-loop-s : goal.invariant-note_block-loop-s
invariant-note_block-loop-s l = l.all ++ notes_of (map method l.helpers) (statements (drop l.s-index l.block)) ≡ l.fn.all ++ notes_of (map method l.helpers) (statements l.block)

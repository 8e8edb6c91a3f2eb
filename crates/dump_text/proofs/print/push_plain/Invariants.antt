use Rattle.std.proofs.Common.{◌≡◌, ◌++◌, map, drop}
use Rattle.dump_text.specs.Text as specs
use Rattle.dump_text.proofs.print.push_plain.Given as goal

-- what is written and the bytes that are left are all bytes
abbrev pub invariant-loop-byte : goal.invariant-loop-byte
invariant-loop-byte l = l.out.items ++ map specs.plain (drop l.byte-index l.comment) ≡ l.fn.out.items ++ map specs.plain l.comment

use Rattle.std.proofs.Common.{◌≡◌, drop}
use Rattle.std.specs.List.{list_all}
use Rattle.qbs_base.specs.Bytes.{is_name_part}
use Rattle.dump_schema.proofs.words.are_name_parts.Given as goal

-- all that are passed are parts of names
abbrev pub invariant-loop-byte : goal.invariant-loop-byte
invariant-loop-byte l = list_all is_name_part (drop l.byte-index l.rest) ≡ list_all is_name_part l.rest

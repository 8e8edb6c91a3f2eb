use Rattle.std.proofs.Common.{◌≡◌, drop}
use Rattle.std.specs.List.{list_all}
use Rattle.qbs_base.specs.Bytes.{is_name_part}
use Rattle.call_rules.proofs.kinds.all_parts.Given as goal

abbrev pub invariant-loop-b : goal.invariant-loop-b
invariant-loop-b l = list_all is_name_part (drop l.b-index l.bytes) ≡ list_all is_name_part l.bytes

-- The numbers and names of the rules of maps.
use Rattle.std.specs.Prelude.{ℕ, List, codes}
use Rattle.view_map.specs.declared.fault.MapRule.{MapRule}
use Rattle.view_map.specs.declared.fault.MapRule.TheVariants as rules

abbrev pub rule_number : MapRule → ℕ
rule_number rules.Unexpected = 1
rule_number rules.Unknown = 2
rule_number rules.DoubleName = 3
rule_number rules.Mismatch = 4
rule_number rules.Nullable = 5

abbrev pub rule_name : MapRule → List ℕ
rule_name rules.Unexpected = codes "Unexpected"
rule_name rules.Unknown = codes "Unknown"
rule_name rules.DoubleName = codes "DoubleName"
rule_name rules.Mismatch = codes "Mismatch"
rule_name rules.Nullable = codes "Nullable"

-- The numbers and names of the type rules and of the faults of a run.
use Rattle.std.specs.Prelude.{ℕ, List, codes}
use Rattle.java_mean.specs.declared.ending.RunFault.{RunFault}
use Rattle.java_mean.specs.declared.ending.RunFault.TheVariants as faults
use Rattle.java_mean.specs.declared.rule.TypeRule.{TypeRule}
use Rattle.java_mean.specs.declared.rule.TypeRule.TheVariants as rules

abbrev pub rule_number : TypeRule → ℕ
rule_number rules.Unknown = 1
rule_number rules.Mismatch = 2
rule_number rules.DoubleName = 3
rule_number rules.TextIdentity = 4
rule_number rules.ListAlias = 5
rule_number rules.ModifiedInLoop = 6
rule_number rules.BadQuery = 7
rule_number rules.UnorderedQuery = 8
rule_number rules.ReturnPlace = 9
rule_number rules.Arity = 10
rule_number rules.BreakPlace = 11

abbrev pub rule_name : TypeRule → List ℕ
rule_name rules.Unknown = codes "Unknown"
rule_name rules.Mismatch = codes "Mismatch"
rule_name rules.DoubleName = codes "DoubleName"
rule_name rules.TextIdentity = codes "TextIdentity"
rule_name rules.ListAlias = codes "ListAlias"
rule_name rules.ModifiedInLoop = codes "ModifiedInLoop"
rule_name rules.BadQuery = codes "BadQuery"
rule_name rules.UnorderedQuery = codes "UnorderedQuery"
rule_name rules.ReturnPlace = codes "ReturnPlace"
rule_name rules.Arity = codes "Arity"
rule_name rules.BreakPlace = codes "BreakPlace"

abbrev pub fault_number : RunFault → ℕ
fault_number faults.Overflow = 1
fault_number faults.OutOfRange = 2
fault_number faults.SumTooLarge = 3

abbrev pub fault_name : RunFault → List ℕ
fault_name faults.Overflow = codes "Overflow"
fault_name faults.OutOfRange = codes "OutOfRange"
fault_name faults.SumTooLarge = codes "SumTooLarge"

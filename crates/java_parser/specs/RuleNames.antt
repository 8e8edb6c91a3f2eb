-- The numbers and names of the rules of programs.
use Rattle.std.specs.Prelude.{ℕ, List, codes}
use Rattle.java_parser.specs.declared.fault.ParseRule.{ParseRule}
use Rattle.java_parser.specs.declared.fault.ParseRule.TheVariants as rules

abbrev pub rule_number : ParseRule → ℕ
rule_number rules.Unexpected = 1
rule_number rules.TooDeep = 2

abbrev pub rule_name : ParseRule → List ℕ
rule_name rules.Unexpected = codes "Unexpected"
rule_name rules.TooDeep = codes "TooDeep"

-- The numbers and names of the rules of tokens.
use Rattle.std.specs.Prelude.{ℕ, List, codes}
use Rattle.java_lex.specs.declared.token.LexRule.{LexRule}
use Rattle.java_lex.specs.declared.token.LexRule.TheVariants as rules

abbrev pub rule_number : LexRule → ℕ
rule_number rules.BadByte = 1
rule_number rules.OpenText = 2
rule_number rules.OpenComment = 3
rule_number rules.LongTooLarge = 4

abbrev pub rule_name : LexRule → List ℕ
rule_name rules.BadByte = codes "BadByte"
rule_name rules.OpenText = codes "OpenText"
rule_name rules.OpenComment = codes "OpenComment"
rule_name rules.LongTooLarge = codes "LongTooLarge"

-- The numbers and names of the rules of schemas and of tables.
use Rattle.std.specs.Prelude.{ℕ, List, codes}
use Rattle.schema.specs.declared.fault.SchemaRule.{SchemaRule}
use Rattle.schema.specs.declared.fault.SchemaRule.TheVariants as rules
use Rattle.schema.specs.declared.fault.DataRule.{DataRule}
use Rattle.schema.specs.declared.fault.DataRule.TheVariants as fields

abbrev pub rule_number : SchemaRule → ℕ
rule_number rules.BadToken = 1
rule_number rules.DoubleTable = 2
rule_number rules.DoubleColumn = 3
rule_number rules.NameReserved = 4
rule_number rules.TooManyTables = 5
rule_number rules.TooManyColumns = 6

abbrev pub rule_name : SchemaRule → List ℕ
rule_name rules.BadToken = codes "BadToken"
rule_name rules.DoubleTable = codes "DoubleTable"
rule_name rules.DoubleColumn = codes "DoubleColumn"
rule_name rules.NameReserved = codes "NameReserved"
rule_name rules.TooManyTables = codes "TooManyTables"
rule_name rules.TooManyColumns = codes "TooManyColumns"

abbrev pub data_rule_number : DataRule → ℕ
data_rule_number fields.Header = 1
data_rule_number fields.Width = 2
data_rule_number fields.BadLong = 3
data_rule_number fields.BadBool = 4
data_rule_number fields.BadUtf8 = 5
data_rule_number fields.TooManyRows = 6

abbrev pub data_rule_name : DataRule → List ℕ
data_rule_name fields.Header = codes "Header"
data_rule_name fields.Width = codes "Width"
data_rule_name fields.BadLong = codes "BadLong"
data_rule_name fields.BadBool = codes "BadBool"
data_rule_name fields.BadUtf8 = codes "BadUtf8"
data_rule_name fields.TooManyRows = codes "TooManyRows"

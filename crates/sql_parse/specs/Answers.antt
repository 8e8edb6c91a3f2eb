-- Answers that may also be want of memory.
use Rattle.std.specs.Prelude.{◌≡◌, Result}
use Rattle.qbs_base.specs.declared.memory.Fail.{Fail}
use Rattle.qbs_base.specs.declared.memory.Fail.TheVariants as fails
use Rattle.qbs_base.specs.Memory.{AnswersBy}
use Rattle.sql_ast.specs.declared.rule.SqlRule.{SqlRule}
use Rattle.sql_parse.specs.declared.refusal.SqlFault.{SqlFault}

-- what was answered, seen by view, is what is due, a fault by its rule, or memory ran out
abbrev pub Answers : {X Y : Type 0} → (X → Y) → Result X (Fail SqlFault) → Result Y SqlRule → Type 0
Answers view = AnswersBy view (λ (fault : SqlFault). fault.rule)

-- a rule that was answered is one that holds
abbrev pub IfRule : (SqlRule → Type 0) → Fail SqlFault → Type 0
IfRule P (fails.Fault fault) = P fault.rule
IfRule P fails.NoMemory = Unit {0}

-- the refusal by a rule
abbrev pub IsBroken : SqlRule → Fail SqlFault → Type 0
IsBroken rule (fails.Fault fault) = fault.rule ≡ rule
IsBroken rule fails.NoMemory = ⊥

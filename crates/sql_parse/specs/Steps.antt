-- Conditions made of others, step by step.
use Rattle.std.specs.Prelude.{List, [], ◌∷◌}
use Rattle.sql_ast.specs.Reading.{condition}
use Rattle.sql_ast.specs.Tree.{Condition, Both, Either, Not}
use Rattle.sql_parse.specs.declared.naming.Step.{Step}
use Rattle.sql_parse.specs.declared.naming.Step.TheVariants as steps

abbrev pub stepped : Step → Condition → Condition
stepped (steps.And b) a = Both a (condition b.value)
stepped (steps.Or b) a = Either a (condition b.value)
stepped steps.Not a = Not a

-- by all steps, the last one first
unfoldable pub climbed : List Step → Condition → Condition
climbed [] a = a
climbed (s ∷ ss) a = stepped s (climbed ss a)

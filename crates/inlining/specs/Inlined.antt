-- What inlining a program with calls answers.
use Rattle.std.specs.Prelude.{◌≤◌}
use Rattle.java_ast.specs.Reading.{program}
use Rattle.java_ast.specs.Tree.{PlainProgram}
use Rattle.java_calls.specs.Inlining.{IsInlined}
use Rattle.java_calls.specs.Rules.{BreaksNone, most_statements, sum_of}
use Rattle.call_rules.specs.Faults.{IsFaultOf}
use Rattle.inlining.specs.declared.inlined.Inlined.{Inlined}
use Rattle.inlining.specs.declared.inlined.Inlined.TheVariants as answers

-- the program in which no call is left, of one that breaks no rule of helpers
pub record IsWhole (p q : PlainProgram) : Type 0 where
  pub inlined : IsInlined p q
  pub rules : BreaksNone p
  pub small : sum_of q.methods ≤ most_statements

abbrev pub IsAnswer : PlainProgram → Inlined → Type 0
IsAnswer p (answers.Whole q) = IsWhole p (program q.value)
IsAnswer p (answers.Broken f) = IsFaultOf p f

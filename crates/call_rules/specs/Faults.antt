-- The rules of the code, their names, and what is said of a fault.
use Rattle.std.specs.Prelude.{◌≡◌, ℕ, ◌<◌, List, codes}
use Rattle.std.specs.declared.option.Option.{Option}
use Rattle.std.specs.declared.option.Option.TheVariants.{Some, None}
use Rattle.call_rules.specs.declared.rule.HelperRule.TheVariants as coded
use Rattle.call_rules.specs.declared.rule.HelperRule.{HelperRule as Coded}
use Rattle.call_rules.specs.declared.rule.HelperFault.{HelperFault}
use Rattle.java_ast.specs.Tree.{PlainMethod, PlainProgram}
use Rattle.java_calls.specs.Rules.{HelperRule, NoMethod, Arguments, Result, Recursive, TooLarge, CallsMethod, BreaksNone, IsFault}

abbrev pub plain_rule : Coded → HelperRule
plain_rule coded.NoMethod = NoMethod
plain_rule coded.Arguments = Arguments
plain_rule coded.Result = Result
plain_rule coded.Recursive = Recursive
plain_rule coded.TooLarge = TooLarge

abbrev pub rule_name : Coded → List ℕ
rule_name coded.NoMethod = codes "NoMethod"
rule_name coded.Arguments = codes "Arguments"
rule_name coded.Result = codes "Result"
rule_name coded.Recursive = codes "Recursive"
rule_name coded.TooLarge = codes "TooLarge"

-- the fault is the one that is kept
abbrev pub IsFaultOf : PlainProgram → HelperFault → Type 0
IsFaultOf p f = IsFault p (plain_rule f.rule) f.at

-- the methods have numbers, and a method calls those of smaller numbers alone
pub record AreRanked (ms : List PlainMethod) : Type 0 where
  pub rank : ℕ → ℕ
  pub falls : (i j : ℕ) → CallsMethod ms i j → rank j < rank i

-- the fault that is kept; where there is none, none of the first four rules is broken, and calls of methods come to an end
abbrev pub IsFound : PlainProgram → Option HelperFault → Type 0
IsFound p None = BreaksNone p × AreRanked p.methods
IsFound p (Some f) = IsFaultOf p f

-- What the readers of words promise.
use Rattle.std.specs.Prelude.{◌≡◌, ℕ, List, Result, Ok, Err, IfOk, IfSome, ⊤}
use Rattle.std.specs.declared.option.Option.{Option}
use Rattle.qbs_base.specs.declared.memory.NoMemory.{NoMemory}
use Rattle.qbs_base.specs.declared.scalar.Scalar.{Scalar}
use Rattle.qbs_base.specs.Values.{Schema}
use Rattle.java_ast.specs.Tree.{PlainParam}
use Rattle.java_mean.specs.declared.rule.TypeRule.{TypeRule}
use Rattle.java_mean.specs.Types.{IsArgument, AreArguments, single_spelled}
use Rattle.deliveries.specs.declared.fetch.Stop.{Stop}
use Rattle.plans.specs.Calls.{param_type, argument_of, fields_of, arguments, word_refusal}

-- the argument of a word is of the parameter's type
pub record IsTaken (found : Option Scalar) (p : PlainParam) (word : List ℕ) : Type 0 where
  pub is : found ≡ argument_of (param_type p.ty) word
  pub typed : IfSome found (λ x. (schema : Schema) → IsArgument (single_spelled schema p.ty) x)

abbrev pub Takes : Result (Option Scalar) NoMemory → PlainParam → List ℕ → Type 0
Takes result p word = IfOk result (λ found. IsTaken found p word)

pub record AreTaken (found : Option (List Scalar)) (params : List PlainParam) (words : List (List ℕ)) : Type 0 where
  pub are : found ≡ fields_of params words
  pub typed : IfSome found (λ xs. (schema : Schema) → AreArguments schema params xs)

abbrev pub TakesAll : Result (Option (List Scalar)) NoMemory → List PlainParam → List (List ℕ) → Type 0
TakesAll result params words = IfOk result (λ found. AreTaken found params words)

-- the arguments that words are, of the parameters' types, or the refusal by the rule that the words break
abbrev pub ReadsArguments : Result (List Scalar) Stop → List PlainParam → List (List ℕ) → Type 0
ReadsArguments (Ok args) params words = (arguments params words ≡ Ok args) × ((schema : Schema) → AreArguments schema params args)
ReadsArguments (Err (Stop.Due plan)) params words = (rule : TypeRule) × (arguments params words ≡ Err rule) × (plan ≡ word_refusal rule)
ReadsArguments (Err Stop.Memory) params words = ⊤

-- The words of a run: a method by its name, and its arguments.
use Rattle.std.specs.Prelude.{◌≡◌, ◌⊎◌, ℕ, List, [], ◌∷◌, ◌==◌, length, position, slice_get, Result, Ok, Err, if◌then◌else◌}
use Rattle.std.specs.declared.option.Option.{Option}
use Rattle.std.specs.declared.option.Option.TheVariants.{Some, None}
use Rattle.std.specs.Str.{bytes_eq}
use Rattle.qbs_base.specs.declared.scalar.Scalar.{Scalar}
use Rattle.qbs_base.specs.declared.scalar.Ty.{Ty}
use Rattle.qbs_base.specs.declared.scalar.Ty.TheVariants as tys
use Rattle.qbs_base.specs.declared.status.Status.{Status}
use Rattle.java_ast.specs.Tree.{Spelled, Int, Long, Boolean, String, PlainParam, PlainMethod, PlainProgram}
use Rattle.java_mean.specs.declared.rule.TypeRule.{TypeRule}
use Rattle.java_mean.specs.declared.rule.TypeRule.TheVariants as types
use Rattle.schema.specs.declared.fault.DataRule.{DataRule}
use Rattle.schema.specs.Rows.{cell_of}
use Rattle.deliveries.specs.declared.plan.Plan.{Plan}
use Rattle.plans.specs.Lines.{word_text}
use Rattle.deliveries.specs.Plan.{refusal}
use Rattle.deliveries.specs.Steps.{Ends, finds}

-- a word beside the source breaks a type rule
abbrev pub word_refusal : TypeRule → Plan
word_refusal rule = refusal Status.Types (word_text rule)

-- ---- Arguments

-- the type of a parameter, which is a scalar's
abbrev pub param_type : Spelled → Option Ty
param_type Int = Some tys.Long
param_type Long = Some tys.Long
param_type Boolean = Some tys.Bool
param_type String = Some tys.Text
param_type _ = None

abbrev pub found : Result Scalar DataRule → Option Scalar
found (Ok x) = Some x
found (Err rule) = None

-- what a word stands for as an argument of this type, as the fields of tables are read
abbrev pub argument_of : Option Ty → List ℕ → Option Scalar
argument_of (Some ty) word = found (cell_of ty word)
argument_of None word = None

abbrev pub with_argument : Option Scalar → Option (List Scalar) → Option (List Scalar)
with_argument None further = None
with_argument (Some x) None = None
with_argument (Some x) (Some xs) = Some (x ∷ xs)

-- the arguments of parameters, a word for each
unfoldable pub fields_of : List PlainParam → List (List ℕ) → Option (List Scalar)
fields_of (p ∷ ps) (word ∷ words) = with_argument (argument_of (param_type p.ty) word) (fields_of ps words)
fields_of _ _ = Some []

abbrev pub or_mismatch : Option (List Scalar) → Result (List Scalar) TypeRule
or_mismatch None = Err types.Mismatch
or_mismatch (Some xs) = Ok xs

-- there are as many words as parameters, and each is a field of its parameter's type
abbrev pub arguments : List PlainParam → List (List ℕ) → Result (List Scalar) TypeRule
arguments params words = if length params == length words then or_mismatch (fields_of params words) else Err types.Arity

-- ---- The call

abbrev pub method_at : List PlainMethod → Option ℕ → Option PlainMethod
method_at ms (Some n) = slice_get ms n
method_at ms None = None

-- the first method of this name
abbrev pub method_named : List ℕ → List PlainMethod → Option PlainMethod
method_named name ms = method_at ms (position (λ m. bytes_eq m.name name) ms)

-- what the words of a run ask for: a method's name, and a word for each argument
pub record Call : Type 0 where
  pub method : List ℕ
  pub words : List (List ℕ)

-- what they call
pub record Called : Type 0 where
  pub method : PlainMethod
  pub args : List Scalar

pub record Calls (p : PlainProgram) (call : Call) (called : Called) : Type 0 where
  pub named : method_named call.method p.methods ≡ Some called.method
  pub fit : arguments called.method.params call.words ≡ Ok called.args

-- the least rule that the words break where they call nothing
abbrev pub CallsNothing : PlainProgram → Call → TypeRule → Type 0
CallsNothing p call rule =
    ((rule ≡ types.Unknown) × (method_named call.method p.methods ≡ None))
    ⊎ ((m : PlainMethod) × (method_named call.method p.methods ≡ Some m) × (arguments m.params call.words ≡ Err rule))

-- the words name a method of the program and its arguments
abbrev pub has_call : PlainProgram → Call → (Called → Ends) → Ends
has_call p call next = finds (Calls p call) (CallsNothing p call) word_refusal next

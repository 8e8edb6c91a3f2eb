-- What a walk over statements answers: what it has pushed is what the definition makes, or that is more than may be written.
use Rattle.std.specs.Prelude.{◌≡◌, ℕ, suc, ◌+◌, ◌<◌, ◌≤◌, List, Vec, Box, map, if◌then◌else◌}
use Rattle.std.specs.Str.{bytes_eq}
use Rattle.std.specs.declared.option.Option.{Option}
use Rattle.std.specs.declared.option.Option.TheVariants.{Some, None}
use Rattle.std.specs.declared.alloc.Global.{Global}
use Rattle.qbs_base.specs.declared.span.Span.{Span}
use Rattle.java_ast.specs.declared.tree.Method.{Method}
use Rattle.java_ast.specs.declared.tree.Stmt.{Stmt}
use Rattle.java_ast.specs.Reading.{method, statements}
use Rattle.java_ast.specs.Path.{with_body, with_methods}
use Rattle.java_ast.specs.Tree.{Spelled, Expression, Expressions, Statement, Declare, Assign, Statements, Nothing, Then, PlainMethod, PlainProgram}
use Rattle.java_mean.specs.Refines.{followed_by}
use Rattle.call_parts.specs.Marks.{next_number}
use Rattle.java_calls.specs.Called.{Call}
use Rattle.java_calls.specs.Inlining.{Made, inlined, all_inlined, expand_with, expand_at, inlined_within}
use Rattle.java_calls.specs.ProgramNames.{names_of}
use Rattle.java_calls.specs.Renaming.{Renaming}
use Rattle.java_calls.specs.Rules.{total_of, sum_of, most_statements, IsTooLarge}
use Rattle.inlining.specs.declared.inlined.Bodies.{Bodies}
use Rattle.inlining.specs.declared.inlined.Bodies.TheVariants as bodies
use Rattle.inlining.specs.declared.counts.Counts.{Counts}
use Rattle.inlining.specs.declared.counts.Walked.{Walked}
use Rattle.inlining.specs.declared.counts.Walked.TheVariants as answers

-- what the definition makes of something, by how many calls may stand in one another
abbrev pub Makes : Type 0
Makes = ℕ → Option Made

abbrev pub statement_makes : PlainProgram → Renaming → ℕ → Statement → Makes
statement_makes p f taken s depth = inlined (expand_at depth (names_of p) p.methods) f taken s

abbrev pub block_makes : PlainProgram → Renaming → ℕ → Statements → Makes
block_makes p f taken block depth = all_inlined (expand_at depth (names_of p) p.methods) f taken block

abbrev pub call_makes : PlainProgram → Renaming → ℕ → Statement → Call → Makes
call_makes p f taken s call depth = expand_at depth (names_of p) p.methods taken f s call

abbrev pub helper_makes : PlainProgram → Renaming → ℕ → Statement → Call → PlainMethod → Makes
helper_makes p f taken s call m depth = expand_with (expand_at depth (names_of p) p.methods) (next_number (names_of p) taken) f s call (Some m)

-- ---- Answers

-- What is made, however many more calls may stand in one another, is pushed behind what was there.
pub record IsPushed (room : ℕ) (makes : Makes) (old new : Counts) (before after : Statements) : Type 0 where
  pub block : Statements
  pub made : (depth : ℕ) → room ≤ depth → makes depth ≡ Some (record { block = block; taken = new.taken })
  pub pushed : after ≡ followed_by before block
  pub spent : old.left ≡ new.left + total_of block

-- Whatever is made, it has more statements than these.
pub record IsPast (room : ℕ) (makes : Makes) (left : ℕ) : Type 0 where
  pub past : (depth : ℕ) → room ≤ depth → (made : Made) → makes depth ≡ Some made → left < total_of made.block

abbrev pub IsWalked : Walked → ℕ → Makes → Counts → Counts → Statements → Statements → Type 0
IsWalked answers.Pushed room makes old new before after = IsPushed room makes old new before after
IsWalked answers.Full room makes old new before after = IsPast room makes old.left

-- the same of statements that are known
abbrev pub IsPut : Walked → Statements → Counts → Counts → Statements → Statements → Type 0
IsPut answers.Pushed block old new before after = (after ≡ followed_by before block) × (old.left ≡ new.left + total_of block) × (new.taken ≡ old.taken)
IsPut answers.Full block old new before after = old.left < total_of block

-- the same of one statement alone
abbrev pub IsOne : Walked → Statement → Counts → Counts → Statements → Statements → Type 0
IsOne answers.Pushed s old new before after = (after ≡ followed_by before (Then s Nothing)) × (old.left ≡ suc new.left) × (new.taken ≡ old.taken)
IsOne answers.Full s old new before after = old.left ≡ 0

-- one more statement may be written, or none
abbrev pub IsSpent : Walked → Counts → Counts → Type 0
IsSpent answers.Pushed old new = (old.left ≡ suc new.left) × (new.taken ≡ old.taken)
IsSpent answers.Full old new = old.left ≡ 0

-- what is made alone is these statements, or has more than may be written
abbrev pub IsMadeOf : Option (Vec Stmt Global) → ℕ → Makes → Counts → Counts → Type 0
IsMadeOf (Some v) room makes old new = IsPushed room makes old new Nothing (statements v.items)
IsMadeOf None room makes old new = IsPast room makes old.left

-- the same of what stands in another statement
abbrev pub IsBodyOf : Option (Vec Stmt Global) → ℕ → Makes → Counts → Counts → Type 0
IsBodyOf (Some v) room makes old new = (middle : Counts) × (old.left ≡ suc middle.left) × IsPushed room makes middle new Nothing (statements v.items)
IsBodyOf None room makes old new = (depth : ℕ) → room ≤ depth → (made : Made) → makes depth ≡ Some made → old.left < suc (total_of made.block)

-- ---- Statements whose value is a call

-- a declaration of a variable of this type, or an assignment
abbrev pub giving : Span → Option Spelled → List ℕ → Expression → Statement
giving at (Some ty) x e = Declare at ty x e
giving at None x e = Assign at x e

-- the type with which a statement declares a variable, if it does
abbrev pub declared_in : List ℕ → Statement → Option Spelled
declared_in x (Declare at ty y e) = if bytes_eq y x then Some ty else None
declared_in x s = None

abbrev pub a_call : List ℕ → Expressions → Call
a_call name es = record { name = name; arguments = es }

-- ---- Programs

-- the method with the body that is made of it
pub record IsMethod (room : ℕ) (makes : Makes) (m made : PlainMethod) (old new : Counts) : Type 0 where
  pub block : Statements
  pub makes_it : (depth : ℕ) → room ≤ depth → makes depth ≡ Some (record { block = block; taken = new.taken })
  pub is : made ≡ with_body m block
  pub spent : old.left ≡ new.left + total_of block

abbrev pub IsMethodOf : Option (Box Method Global) → ℕ → Makes → PlainMethod → Counts → Counts → Type 0
IsMethodOf (Some b) room makes m old new = IsMethod room makes m (method b.value) old new
IsMethodOf None room makes m old new = IsPast room makes old.left

-- these methods are what is made of the program, however many more calls may stand in one another
pub record AreMade (room : ℕ) (p : PlainProgram) (methods : List PlainMethod) : Type 0 where
  pub made : (depth : ℕ) → room ≤ depth → inlined_within depth p ≡ Some (with_methods p methods)
  pub small : sum_of methods ≤ most_statements

-- whatever is made of the program, it is too large with the method there
pub record IsPastAt (room : ℕ) (p : PlainProgram) (at : Span) : Type 0 where
  pub past : (depth : ℕ) → room ≤ depth → (whole : PlainProgram) → inlined_within depth p ≡ Some whole → IsTooLarge p at

-- the most calls that may be open in one another
abbrev pub most_open : ℕ
most_open = 64

abbrev pub IsBodies : Bodies → PlainProgram → Type 0
IsBodies (bodies.Whole methods) p = AreMade most_open p (map method methods)
IsBodies (bodies.TooLarge at) p = IsPastAt most_open p at

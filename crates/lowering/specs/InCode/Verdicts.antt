-- What the code finds of a loop: the rule that it breaks first, or the numbers of one that breaks none.
use Rattle.std.specs.Prelude.{◌≡◌, ℕ, List, true}
use Rattle.std.specs.List.{list_all}
use Rattle.std.specs.declared.option.Option.{Option}
use Rattle.std.specs.declared.option.Option.TheVariants.{Some, None}
use Rattle.qbs_base.specs.declared.memory.Fail.{Fail}
use Rattle.qbs_base.specs.declared.memory.Fail.TheVariants.{Fault, NoMemory}
use Rattle.kernel_lang.specs.Validity as validity
use Rattle.lowering.specs.InCode.Counted.{HasFewLoops, AreNumbersOf}
use Rattle.java_loops.specs.Kernel.Kernel.{Broken, first_rule, broken_counts, broken, lowering}
use Rattle.java_loops.specs.Kernel.KernelConditions.{broken_conditions}
use Rattle.java_loops.specs.Kernel.KernelForms.{broken_forms}
use Rattle.java_loops.specs.Kernel.KernelLists.{broken_lists, broken_depth}
use Rattle.java_loops.specs.Kernel.KernelLoop.{broken_loop}
use Rattle.java_loops.specs.Kernel.KernelStarts.{broken_starts}
use Rattle.java_loops.specs.Kernel.KernelStatements.{broken_statements, broken_updates}
use Rattle.loop_text.specs.Statements.KeptStatements.{AreKept}
use Rattle.java_loops.specs.Lowering.Lowered.{Lowering}
use Rattle.java_ast.specs.Names.{names_read}
use Rattle.lowering.specs.Asked.{HasQueriesOf}
use Rattle.lowering.specs.InCode.LoweredInCode.{has_query}
use Rattle.lowering.specs.Lowers.{broken_in_code}
use Rattle.java_loops.specs.Lowering.Numbering.{Numbers, numbers_of}
use Rattle.java_loops.specs.Kernel.Setting.{Setting}
use Rattle.loop_places.specs.declared.outside.Outside.{Outside}

-- ---- The rules in their order

-- the least of the first four rules that is broken, and else another one
abbrev pub first_rules : Setting → Option Broken → Option Broken
first_rules w later = first_rule 1 (broken_loop w) (first_rule 2 (broken_lists w) (first_rule 3 (broken_depth w) (first_rule 4 (broken_statements w) later)))

-- the same of the next three
abbrev pub middle_rules : Setting → Option Broken → Option Broken
middle_rules w later = first_rule 5 (broken_updates w) (first_rule 6 (broken_forms w) (first_rule 7 (broken_conditions w) later))

abbrev pub last_rules : Setting → Option Broken
last_rules w = first_rule 8 (broken_counts w) (first_rule 9 (broken_starts w) None)

-- ---- What is found of a loop

-- these are the numbers of a loop that breaks no rule
pub record BreaksNone (w : Setting) (t : Numbers) : Type 0 where
  pub unbroken : broken w ≡ None
  pub few : HasFewLoops w
  pub numbers : AreNumbersOf w t

-- the loop breaks this rule first, at this place; or memory ran out
abbrev pub BreaksFirst : Setting → Fail Outside → Type 0
BreaksFirst w (Fault o) = broken w ≡ Some (broken_in_code o)
BreaksFirst w NoMemory = Unit {0}

-- ---- What is lowered

-- The fragment of a loop that breaks no rule is valid, and the run gives its known lists the answers of queries.
pub record MayBeLowered (w : Setting) : Type 0 where
  pub valid : broken w ≡ None → validity.broken (lowering w).fragment ≡ None
  pub known : broken w ≡ None → list_all (has_query w) (numbers_of w).known ≡ true

-- the lowered fragment of a loop that breaks no rule, whose known queries are queries of the schema, the number of its run's
-- first statement, and those of the kept ones
pub record IsLoweredFrom (w : Setting) (number : ℕ) (l : Lowering) (first : ℕ) (kept : List ℕ) : Type 0 where
  pub unbroken : broken w ≡ None
  pub lowered : lowering w ≡ l
  pub queries : HasQueriesOf w.schema l
  pub begins : first ≡ number
  pub keeps : AreKept w.fragment (names_read l.entries) first w.fragment.run kept

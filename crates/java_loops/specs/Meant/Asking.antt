-- Statements that ask for what a fragment ends with, in place of its loop.
use Rattle.std.specs.Prelude.{◌≡◌, ℕ, List}
use Rattle.std.specs.List.{AllByRecursion}
use Rattle.std.specs.declared.option.Option.{Option}
use Rattle.std.specs.declared.option.Option.TheVariants.{Some, None}
use Rattle.qbs_base.specs.Values.{Schema}
use Rattle.sql_ast.specs.Tree.{PlainQuery}
use Rattle.java_ast.specs.Path.{and_then, replaced_at}
use Rattle.java_ast.specs.Tree.{Spelled, Statement, Declare, PlainProgram}
use Rattle.java_mean.specs.Asks.{frame_of}
use Rattle.java_loops.specs.Walks.Reads.{Reads}
use Rattle.java_loops.specs.Walks.Replacing.{Ask, asked, seen_at}
use Rattle.java_loops.specs.Meant.GivesWay.{AnswersItsFragment}
use Rattle.java_loops.specs.Kernel.Kernel.{lowering}
use Rattle.loop_text.specs.Statements.KeptStatements.{with_numbers}
use Rattle.java_loops.specs.Lowering.Lowered.{needed_in_order}
use Rattle.java_ast.specs.Names.{names_read, is_among}
use Rattle.java_loops.specs.Meant.Members.{AreMatched}
use Rattle.java_loops.specs.Meant.Means.{MeansItsLoopThere}
use Rattle.java_loops.specs.Kernel.Setting.{Setting}
use Rattle.loop_text.specs.Statements.Setting.{first_touching}

-- the type that a declaration spells
abbrev pub spelled_by : Statement → Option Spelled
spelled_by (Declare at ty x e) = Some ty
spelled_by _ = None

-- An ask for a variable: a declaration where the statement that starts the variable is one, with its type, and else an
-- assignment.
pub record IsForStarted (w : Setting) (x : List ℕ) (k : Ask) : Type 0 where
  pub name : k.name ≡ x
  pub start : Statement
  pub found : first_touching x w.fragment.run ≡ Some start
  pub ty : k.ty ≡ spelled_by start

-- One ask for each needed accumulator, in the order of their start statements. Their expressions read what the
-- fragment's entry values read.
pub record AskForNeeded (w : Setting) (ks : List Ask) : Type 0 where
  pub starts : AreMatched (IsForStarted w) (needed_in_order w) ks
  pub reads : AllByRecursion (λ (k : Ask). Reads (is_among (names_read (lowering w).entries)) k.value) ks

-- such asks, whose expressions have what the fragment ends with
pub record AskForLoop (schema : Schema) (read : List ℕ → Option PlainQuery) (p : PlainProgram) (path : List ℕ) (w : Setting) (ks : List Ask) : Type 0 where
  pub needed : AskForNeeded w ks
  pub answers : (there : MeansItsLoopThere schema read p path w) → AnswersItsFragment (frame_of schema read there.method) (seen_at schema there.method there.hole) w ks

-- the program with the kept statements and the asks in place of the run and the loop to which the path leads
abbrev pub rewritten_at : List ℕ → ℕ → List ℕ → Setting → List Ask → PlainProgram → PlainProgram
rewritten_at path first kept w ks p = replaced_at path first (and_then (with_numbers kept first w.fragment.run) (asked ks)) p

-- The asks that stand for a loop: for each needed accumulator a statement that runs the query of its postcondition.
use Rattle.std.specs.Prelude.{ℕ, suc, List, [], ◌∷◌, ◌++◌, slice_get}
use Rattle.std.specs.declared.option.Option.{Option}
use Rattle.std.specs.declared.option.Option.TheVariants.{Some, None}
use Rattle.qbs_base.specs.declared.span.Span.{Span}
use Rattle.tor_terms.specs.declared.term.Elem.TheVariants as elems
use Rattle.kernel_lang.specs.declared.parts.Update.{Update}
use Rattle.kernel_lang.specs.declared.parts.Update.TheVariants as updates
use Rattle.kernel_lang.specs.Plain.{Accumulator}
use Rattle.sql_ast.specs.Canonical.{canonical}
use Rattle.sql_parts.specs.Numbered.{Emission, emitted}
use Rattle.sql_parts.specs.Scopes.{def_of, table_name}
use Rattle.java_ast.specs.Placed.{placed}
use Rattle.java_ast.specs.Tree.{Spelled, Table, String, Expression, Query, QueryLong, QueryBoolean, NewList, NewSetOf, Expressions, NoMore, And, Statement, PlainProgram}
use Rattle.loop_text.specs.Sites.Sites.{place_of}
use Rattle.loop_text.specs.Statements.KeptStatements.{first_at}
use Rattle.java_ast.specs.Names.{Names, names_read}
use Rattle.loop_text.specs.Statements.Setting.{first_touching}
use Rattle.java_loops.specs.Kernel.Kernel.{lowering}
use Rattle.java_loops.specs.Kernel.Setting.{Setting}
use Rattle.java_loops.specs.Lowering.Lowered.{needed_in_order}
use Rattle.java_loops.specs.Lowering.Spelling.{spelled_at, element_spelled}
use Rattle.java_loops.specs.Meant.Asking.{spelled_by, rewritten_at}
use Rattle.java_loops.specs.Meant.KeptNumbers.{kept_numbers}
use Rattle.java_loops.specs.Walks.Replacing.{Ask}
use Rattle.lowering.specs.Asked.{queries_in}

-- ---- Expressions

-- the element type of a list or set as it is spelled; no accumulator is added to that is neither
abbrev pub spelled_or_text : Option Spelled → Spelled
spelled_or_text (Some e) = e
spelled_or_text None = String

-- the expression of an entry value, where the loop stands; no parameter takes the value of an entry that isn't there
abbrev pub entry_at : Span → Option Expression → Expression
entry_at at (Some e) = placed at e
entry_at at None = NewList at

-- the expressions of the entry values with these numbers
abbrev pub arguments_of : Span → List Expression → List ℕ → Expressions
arguments_of at entries [] = NoMore
arguments_of at entries (k ∷ ks) = And (entry_at at (slice_get entries k)) (arguments_of at entries ks)

-- The query that has what an accumulator with this update ends with: rows of the table T, elements that are spelled E, each
-- once where a set collects them, a number or a truth value.
abbrev pub value_by : Span → Update → List ℕ → Spelled → List ℕ → Expressions → Expression
value_by at (updates.Push (elems.Whole j)) T E text arguments = Query at (Table T) text arguments
value_by at (updates.Push (elems.Field j c)) T E text arguments = Query at E text arguments
value_by at (updates.PushNew e) T E text arguments = NewSetOf at (Query at E text arguments)
value_by at updates.Tick T E text arguments = QueryLong at text arguments
value_by at (updates.Plus e) T E text arguments = QueryLong at text arguments
value_by at (updates.Best way e) T E text arguments = QueryLong at text arguments
value_by at updates.Mark T E text arguments = QueryBoolean at text arguments

-- ---- Of a loop

-- A loop of a program, with the number of each formula that a candidate chooses. The setting is that of the loop in the
-- program, which the path leads to.
pub record Place : Type 0 where
  pub program : PlainProgram
  pub path : List ℕ
  pub setting : Setting
  pub candidate : List ℕ

abbrev pub type_started : Option Statement → Option Spelled
type_started (Some s) = spelled_by s
type_started None = None

-- the type with which the statement that starts a variable declares it, where it does
abbrev pub start_type : Setting → List ℕ → Option Spelled
start_type w x = type_started (first_touching x w.fragment.run)

-- the table of the rows that an update takes whole
abbrev pub table_taken : Setting → Update → List ℕ
table_taken w (updates.Push (elems.Whole j)) = table_name (slice_get w.schema (def_of (slice_get (lowering w).fragment.lists j)).table)
table_taken w _ = []

-- the value of the ask for a variable that is declared as spelled, by its update and the query that is emitted for it
abbrev pub value_asked : Setting → Option Spelled → Update → Emission → Expression
value_asked w ty u e =
    value_by (place_of w.fragment.loop) u (table_taken w u) (spelled_or_text (element_spelled ty)) (canonical e.query) (arguments_of (place_of w.fragment.loop) (lowering w).entries e.entries)

-- the ask for a variable, where its accumulator is there and a query is emitted for it
abbrev pub ask_with : Place → List ℕ → Option Accumulator → Option Emission → List Ask
ask_with l x (Some a) (Some e) =
    record {
      at = place_of l.setting.fragment.loop;
      ty = start_type l.setting x;
      name = x;
      value = value_asked l.setting (spelled_at x l.path l.program) a.update e;
    }
    ∷ []
ask_with l x _ _ = []

-- the query that is emitted for the accumulator of this number
abbrev pub emitted_for : Setting → List ℕ → ℕ → Option Emission
emitted_for w candidate k = emitted w.schema (lowering w).fragment candidate k (queries_in (lowering w).known) (lowering w).arguments

-- the asks for variables, of whose accumulators the first has the number k
abbrev pub asks_from : Place → ℕ → Names → List Ask
asks_from l k [] = []
asks_from l k (x ∷ xs) = ask_with l x (slice_get (lowering l.setting).fragment.accs k) (emitted_for l.setting l.candidate k) ++ asks_from l (suc k) xs

-- the asks that stand for the loop, one for each needed accumulator, in the order of the statements that start them
abbrev pub asks_of : Place → List Ask
asks_of l = asks_from l 0 (needed_in_order l.setting)

-- ---- The program without the loop

abbrev pub number_of : Option ℕ → ℕ
number_of (Some n) = n
number_of None = 0

-- the number of the first statement of the loop's run
abbrev pub first_of_run : Place → ℕ
first_of_run l = number_of (first_at l.path l.program)

-- the program in which the kept statements and the asks stand in place of the run and the loop
abbrev pub replaced : Place → PlainProgram
replaced l =
    rewritten_at l.path (first_of_run l)
    (kept_numbers l.setting.fragment (names_read (lowering l.setting).entries) (first_of_run l) l.setting.fragment.run) l.setting (asks_of l) l.program

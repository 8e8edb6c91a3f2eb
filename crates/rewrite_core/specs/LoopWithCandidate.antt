-- A loop that gives way, as code has it, and the statements that ask for it. `replaced` is what it comes to.
use Rattle.std.specs.Prelude.{◌≡◌, ℕ, suc, List, [], ◌∷◌, ◌==◌, map, slice_get, if◌then◌else◌}
use Rattle.std.specs.declared.option.Option.{Option}
use Rattle.std.specs.declared.option.Option.TheVariants.{Some, None}
use Rattle.qbs_base.specs.declared.span.Span.{Span}
use Rattle.qbs_base.specs.Values.{Schema}
use Rattle.tor_terms.specs.declared.term.Elem.TheVariants as elems
use Rattle.kernel_lang.specs.declared.parts.ListDef.{ListDef}
use Rattle.kernel_lang.specs.declared.parts.Update.{Update}
use Rattle.kernel_lang.specs.declared.parts.Update.TheVariants as updates
use Rattle.kernel_lang.specs.Plain.{Accumulator}
use Rattle.kernel_lang.specs.Plain as kernel
use Rattle.kernel_lang.specs.Whole.{fragment_of}
use Rattle.sql_ast.specs.Canonical.{canonical}
use Rattle.sql_ast.specs.Reading.{query}
use Rattle.sql_ast.specs.Tree.{PlainQuery}
use Rattle.sql_ast.specs.Valid.{IsQueryOf}
use Rattle.sql_parts.specs.Numbered.{Emission, emitted}
use Rattle.sql_parts.specs.Scopes.{def_of, table_name}
use Rattle.java_ast.specs.Path.{and_then}
use Rattle.java_ast.specs.Reading.{expression, statements, program}
use Rattle.java_ast.specs.Spans.{place_of}
use Rattle.java_ast.specs.Unplaced.{nowhere}
use Rattle.java_ast.specs.Tree.{Spelled, Table, Expression, Query, QueryLong, QueryBoolean, NewSetOf, Expressions, Statement, Statements, Nothing, Then, PlainProgram}
use Rattle.java_ast.specs.Names.{Names}
use Rattle.loop_text.specs.Statements.Setting.{first_touching}
use Rattle.java_loops.specs.Lowering.Spelling.{spelled_at, element_spelled}
use Rattle.java_loops.specs.Walks.Replacing.{asking}
use Rattle.rewrite_core.specs.Asked.{spelled_or_text, arguments_of, type_started}
use Rattle.rewrite_core.specs.declared.looped.LoopWithCandidate.{LoopWithCandidate as CodeLooped}

-- ---- Values

-- the name of the table of the rows that an update takes whole
abbrev pub rows_taken : Schema → List ListDef → Update → List ℕ
rows_taken schema lists (updates.Push (elems.Whole j)) = table_name (slice_get schema (def_of (slice_get lists j)).table)
rows_taken schema lists _ = []

-- the element type of the list that is queried for an update: rows of the table T where it takes them whole, and else E
abbrev pub element_asked : Update → List ℕ → Spelled → Spelled
element_asked (updates.Push (elems.Whole j)) T E = Table T
element_asked _ T E = E

-- the query for an update whose list has elements of this type
abbrev pub value_with : Span → Update → Spelled → List ℕ → Expressions → Expression
value_with at (updates.Push e) S text arguments = Query at S text arguments
value_with at (updates.PushNew e) S text arguments = NewSetOf at (Query at S text arguments)
value_with at updates.Tick S text arguments = QueryLong at text arguments
value_with at (updates.Plus e) S text arguments = QueryLong at text arguments
value_with at (updates.Best way e) S text arguments = QueryLong at text arguments
value_with at updates.Mark S text arguments = QueryBoolean at text arguments

-- ---- Loops

-- where a statement stands, where there is one
abbrev pub place_or_nowhere : Option Statement → Span
place_or_nowhere (Some s) = place_of s
place_or_nowhere None = nowhere

-- A loop of a program with a candidate: the path to it, the run before it and its place, its lowered fragment, the expressions of its
-- entry values, and its known queries with the entry numbers of their arguments.
pub record LoopWithCandidate : Type 0 where
  pub schema : Schema
  pub program : PlainProgram
  pub path : List ℕ
  pub run : Statements
  pub at : Span
  pub fragment : kernel.Fragment
  pub entries : List Expression
  pub known : List PlainQuery
  pub arguments : List (List ℕ)
  pub candidate : List ℕ

abbrev pub looped_in_code : CodeLooped → LoopWithCandidate
looped_in_code l =
    record {
      schema = l.schema.now;
      program = program l.program.now;
      path = l.path.now;
      run = statements l.run.now;
      at = l.at;
      fragment = fragment_of l.lowered.now.frag;
      entries = map expression l.lowered.now.entries;
      known = map query l.lowered.now.known;
      arguments = l.lowered.now.known_args;
      candidate = l.candidate.now;
    }

-- ---- Asks

-- the accumulator, where it stands outside all loops
abbrev pub outermost : Option Accumulator → Option Accumulator
outermost (Some a) = if a.base == 0 then Some a else None
outermost None = None

-- the type of the elements that are asked for a variable
abbrev pub element_for : LoopWithCandidate → List ℕ → Update → Spelled
element_for l x u = element_asked u (rows_taken l.schema l.fragment.lists u) (spelled_or_text (element_spelled (spelled_at x l.path l.program)))

abbrev pub value_for : LoopWithCandidate → List ℕ → Update → Emission → Expression
value_for l x u e = value_with l.at u (element_for l x u) (canonical e.query) (arguments_of l.at l.entries e.entries)

-- the statement that asks for a variable, by its update and the query that is emitted for it
abbrev pub statement_for : LoopWithCandidate → List ℕ → Update → Emission → Statement
statement_for l x u e = asking (type_started (first_touching x l.run)) l.at x (value_for l x u e)

-- the query that is emitted for the accumulator of this number
abbrev pub emitted_in : LoopWithCandidate → ℕ → Option Emission
emitted_in l k = emitted l.schema l.fragment l.candidate k l.known l.arguments

abbrev pub asked_with : LoopWithCandidate → List ℕ → Option Accumulator → Option Emission → Statements
asked_with l x (Some a) (Some e) = Then (statement_for l x a.update e) Nothing
asked_with l x _ _ = Nothing

-- the statement for a variable whose accumulator has the number k, where that stands outside all loops
abbrev pub asked_at : LoopWithCandidate → ℕ → List ℕ → Statements
asked_at l k x = asked_with l x (outermost (slice_get l.fragment.accs k)) (emitted_in l k)

-- the statements for variables, of whose accumulators the first has the number k
abbrev pub asked_from : LoopWithCandidate → ℕ → Names → Statements
asked_from l k [] = Nothing
asked_from l k (x ∷ xs) = and_then (asked_at l k x) (asked_from l (suc k) xs)

-- ---- Their queries

-- the query that is emitted for the accumulator of this number, where that stands outside all loops, is of the schema
abbrev pub IsValidAt : LoopWithCandidate → ℕ → Type 0
IsValidAt l k = (a : Accumulator) (e : Emission) → outermost (slice_get l.fragment.accs k) ≡ Some a → emitted_in l k ≡ Some e → IsQueryOf l.schema e.query

-- so it is for variables, of whose accumulators the first has the number k
abbrev pub AreValidFrom : LoopWithCandidate → ℕ → Names → Type 0
AreValidFrom l k [] = Unit {0}
AreValidFrom l k (x ∷ xs) = IsValidAt l k × AreValidFrom l (suc k) xs

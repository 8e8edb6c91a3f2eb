-- How far the tries of a program's loops by their spreads have come.
use Rattle.std.specs.Prelude.{◌≡◌, ℕ, ◌+◌, suc, List, [], ◌∷◌, ◌++◌, length, take}
use Rattle.std.specs.Option.{option_map}
use Rattle.std.specs.declared.option.Option.{Option}
use Rattle.std.specs.declared.option.Option.TheVariants.{Some, None}
use Rattle.qbs_base.specs.Values.{Schema}
use Rattle.java_ast.specs.Path.{found_in, last_of, replaced_at, statement_at}
use Rattle.java_ast.specs.Reading.{statements, program as plain_program}
use Rattle.java_ast.specs.Tree.{Statement, Statements, Nothing, Then, PlainProgram}
use Rattle.java_loops.specs.Kernel.Kernel.{setting_at}
use Rattle.java_loops.specs.Kernel.Setting.{Setting}
use Rattle.java_mean.specs.Numbers.{NumbersFit}
use Rattle.java_mean.specs.WellTyped.{IsWellTyped}
use Rattle.java_stretches.specs.Patches.{PlainPatch, plain_patches}
use Rattle.java_types.specs.Texts.{read_by}
use Rattle.loop_lists.specs.Lists.{Lists}
use Rattle.loop_text.specs.Statements.Loops.{loops_of_methods}
use Rattle.loop_text.specs.Statements.Walking.{IsLoopOf}
use Rattle.spreads.specs.Spread.{spread_of}
use Rattle.verdicts.specs.declared.verdict.LoopVerdict.{LoopVerdict}
use Rattle.rewrite_core.specs.declared.outcome.GivesWay.{GivesWay}
use Rattle.rewrite_core.specs.declared.stage.Stage.{Stage}
use Rattle.rewrite_core.specs.declared.unnested.Unnested.{Unnested}
use Rattle.rewrite_core.specs.declared.unnesting.GaveWay.{GaveWay}
use Rattle.rewrite_core.specs.Outcome.{try_with, program_with}
use Rattle.rewrite_core.specs.Patches.{patches_left}
use Rattle.rewrite_core.specs.Rewriting.{verdicts_of}
use Rattle.rewrite_core.specs.Stages.{next_of}
use Rattle.rewrite_core.specs.TriedAsking.{MayBeAskedBy, AllMayBeAsked}
use Rattle.rewrite_core.specs.Trying.{Tried, program_after, left_of}
use Rattle.rewrite_core.specs.Unnesting.{PlainUnnested, if_found, unnested_by, unnesting}

-- ---- One loop

abbrev pub plain_unnested : Unnested → PlainUnnested
plain_unnested u = record { program = plain_program u.program; k = u.k }

-- the statement alone in a block, or an empty block where there is none
abbrev pub alone_or_nothing : Option Statement → Statements
alone_or_nothing None = Nothing
alone_or_nothing (Some s) = Then s Nothing

-- the block is the spread of the loop to which a path leads
pub record IsSpreadThere (schema : Schema) (p : PlainProgram) (path : List ℕ) (block : Statements) : Type 0 where
  pub spread : Statement
  pub block_is : block ≡ Then spread Nothing
  pub found : found_in (spread_of schema (read_by schema)) (statement_at path p) ≡ Some spread

-- The program with a block in place of the statement to which a path leads is well typed, its literals have 64 bits, and the path leads to a
-- loop there.
pub record MayBeTried (schema : Schema) (path : List ℕ) (block : Statements) (p : PlainProgram) : Type 0 where
  pub typed : IsWellTyped schema (read_by schema) (replaced_at path (last_of path) block p)
  pub numbers : NumbersFit (replaced_at path (last_of path) block p)
  pub loops : IsLoopOf (replaced_at path (last_of path) block p) path

-- how a loop gives way in a program, with the number of the candidate
abbrev pub unnested_with : Option GivesWay → List ℕ → PlainProgram → Option PlainUnnested
unnested_with None path q = None
unnested_with (Some way) path q = Some (record { program = program_with (Some way) path q; k = way.k })

-- what comes of a program with the spread of a loop, to which the path leads
pub record IsUnnestedIn (schema : Schema) (size budget : ℕ) (path : List ℕ) (q : PlainProgram) (o : Option Unnested) : Type 0 where
  pub setting : Setting
  pub there : setting_at schema (read_by schema) path q ≡ Some setting
  pub exact : option_map plain_unnested o ≡ unnested_by (try_with size budget q path setting) (try_with size budget q path setting).answer
  pub asked : MayBeAskedBy schema (try_with size budget q path setting) (try_with size budget q path setting).answer

-- ---- A stage with the spread of its next loop in the loop's place

-- The program with the old loop put back has the stage's list, and literals of 64 bits.
pub record GoesBack (old : Statements) (s : Stage) (path : List ℕ) : Type 0 where
  pub lists : Lists (replaced_at path (last_of path) old (plain_program s.typed.program)).methods s.standing s.listed
  pub numbers : NumbersFit (replaced_at path (last_of path) old (plain_program s.typed.program))

-- What comes in place of the loop changes no method before the loop's own.
abbrev pub LeavesBefore : Stage → List ℕ → Type 0
LeavesBefore s path =
    (first : ℕ) (others : Statements) → s.listed.before ≡ length (loops_of_methods 0 (take s.listed.number (replaced_at path first others (plain_program s.typed.program)).methods))

-- the program behind the try: the old loop is put back where it stands
abbrev pub program_behind : Statements → Option GivesWay → List ℕ → PlainProgram → PlainProgram
program_behind old None path q = replaced_at path (last_of path) old q
program_behind old (Some way) path q = program_with (Some way) path q

-- what is said of a loop, where it gives way
abbrev pub said_with : LoopVerdict → Option GivesWay → List LoopVerdict
said_with v None = []
said_with v (Some way) = v ∷ []

-- ---- All loops

-- The program as it stands, how many of its first loops have been tried and stand, and what is said of those that gave way, with the patches
-- of the source for them.
pub record UnnestingProgress : Type 0 where
  pub program : PlainProgram
  pub standing : ℕ
  pub verdicts : List LoopVerdict
  pub patches : List PlainPatch

abbrev pub unnesting_in : Stage → GaveWay → UnnestingProgress
unnesting_in s g = record { program = plain_program s.typed.program; standing = s.standing; verdicts = g.verdicts; patches = plain_patches g.patches }

-- no loop has been tried
abbrev pub unnesting_starts : PlainProgram → UnnestingProgress
unnesting_starts p = record { program = p; standing = 0; verdicts = []; patches = [] }

-- the program, the number of loops that stand, and the tries that gave way, behind the try of one loop: None where it stands
abbrev pub program_past : PlainProgram → Option Tried → PlainProgram
program_past p None = p
program_past p (Some t) = program_after t

abbrev pub standing_past : ℕ → Option Tried → ℕ
standing_past n None = suc n
standing_past n (Some t) = n

abbrev pub tries_past : Option Tried → List Tried
tries_past None = []
tries_past (Some t) = t ∷ []

-- the try of one loop of a program leads from one to another
pub record PassesLoop (schema : Schema) (source : List ℕ) (p : PlainProgram) (o : Option Tried) (before after : UnnestingProgress) : Type 0 where
  pub program : after.program ≡ program_past p o
  pub standing : after.standing ≡ standing_past before.standing o
  pub verdicts : after.verdicts ≡ before.verdicts ++ verdicts_of (tries_past o)
  pub patches : after.patches ≡ patches_left source before.patches (tries_past o)
  pub asked : AllMayBeAsked schema (tries_past o)

-- it is that of the loop's spread, which stands in the program q
pub record PassesSpread (schema : Schema) (size budget : ℕ) (source : List ℕ) (path : List ℕ) (p q : PlainProgram) (before after : UnnestingProgress) : Type 0 where
  pub setting : Setting
  pub there : setting_at schema (read_by schema) path q ≡ Some setting
  pub passes : PassesLoop schema source p (if_found (try_with size budget q path setting) (try_with size budget q path setting).answer) before after

-- So many loops are tried, and lead from one to another: `tries` are those that gave way. What is tried further is tried from there on.
pub record UnnestingLeads (schema : Schema) (size budget : ℕ) (source : List ℕ) (left : ℕ) (before after : UnnestingProgress) : Type 0 where
  pub tries : List Tried
  pub exact : (more : ℕ) → unnesting (left + more) schema size budget before.program before.standing ≡ tries ++ unnesting more schema size budget after.program after.standing
  pub program : after.program ≡ left_of before.program tries
  pub verdicts : after.verdicts ≡ before.verdicts ++ verdicts_of tries
  pub patches : after.patches ≡ patches_left source before.patches tries
  pub asked : AllMayBeAsked schema tries

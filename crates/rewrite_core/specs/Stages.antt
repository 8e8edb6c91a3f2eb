-- The stage of a program whose loops are tried: the next one is listed.
use Rattle.std.specs.Prelude.{ℕ, ◌-◌, List, slice_get}
use Rattle.std.specs.declared.option.Option.{Option}
use Rattle.std.specs.declared.option.Option.TheVariants.{Some, None}
use Rattle.java_ast.specs.Path.{replaced_at}
use Rattle.java_ast.specs.Reading.{program as plain_program}
use Rattle.java_ast.specs.Tree.{Statements, PlainProgram}
use Rattle.loop_lists.specs.Lists.{Lists}
use Rattle.rewrite_core.specs.declared.stage.Stage.{Stage}

-- The list of a stage has the next loop of its program, if there is one.
abbrev pub IsStage : Stage → Type 0
IsStage s = Lists (plain_program s.typed.program).methods s.standing s.listed

-- the path of the next loop
abbrev pub next_of : Stage → Option (List ℕ)
next_of s = slice_get s.listed.paths ((s.standing - s.listed.before) - s.listed.from)

-- the program in which statements stand in place of those from the number first to the loop to which a path leads
abbrev pub given_way : Option (List ℕ) → ℕ → Statements → PlainProgram → PlainProgram
given_way None first others p = p
given_way (Some path) first others p = replaced_at path first others p

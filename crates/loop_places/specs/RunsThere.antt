-- The run before a loop.
use Rattle.std.specs.declared.option.Option.{Option}
use Rattle.std.specs.declared.option.Option.TheVariants.{Some, None}
use Rattle.java_ast.specs.Tree.{Statements, Nothing}
use Rattle.loop_text.specs.Statements.Fragment.{Fragment}

-- the run of a fragment, where there is one
abbrev pub run_of_fragment : Option Fragment → Option Statements
run_of_fragment None = None
run_of_fragment (Some f) = Some f.run

-- the same, empty where there is none
abbrev pub run_or_nothing : Option Fragment → Statements
run_or_nothing None = Nothing
run_or_nothing (Some f) = f.run

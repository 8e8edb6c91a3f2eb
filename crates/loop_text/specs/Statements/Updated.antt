-- What is updated and declared outside of a loop.
use Rattle.std.specs.List.{filter}
use Rattle.loop_text.specs.Statements.Fragment.{Fragment, is_outer, declared_in_run, counter}
use Rattle.java_ast.specs.Names.{Names, with_names}

-- names and those behind them that are declared outside of the loop and aren't its counter
abbrev pub outer_with : Fragment → Names → Names → Names
outer_with f xs ys = with_names xs (filter (is_outer f.visible (declared_in_run f) (counter f.loop)) ys)

use Rattle.std.specs.Prelude.{not, ◌&&◌}
use Rattle.std.specs.List.{list_any}
use Rattle.std.proofs.Common.{◌≡◌, drop, map}
use Rattle.loop_text.specs.Sites.Reading.{site_of}
use Rattle.java_ast.specs.Reading.{statement, statements}
use Rattle.loop_text.specs.Kernel.KernelStarts.{starts}
use Rattle.loop_text.specs.Statements.Setting.{touches}
use Rattle.java_ast.specs.Names.{names_lent}
use Rattle.loop_text.proofs.updates.starts.spoils_one.Given as goal

abbrev pub invariant-loop-x : goal.invariant-loop-x
invariant-loop-x l = list_any (λ x. touches x (statement l.s) && not (starts (map site_of l.all) (statement l.s) (statements l.behind) x)) (names_lent (drop l.x-index l.xs)) ≡ list_any (λ x. touches x (statement l.s) && not (starts (map site_of l.all) (statement l.s) (statements l.behind) x)) (names_lent l.xs)

use Rattle.std.specs.List.{list_any}
use Rattle.std.proofs.Common.{◌≡◌, drop, map}
use Rattle.java_ast.specs.Reading.{expressions}
use Rattle.loop_text.specs.Kernel.KernelConditions.{all_best_under}
use Rattle.java_ast.specs.Names.{is_among, names_among}
use Rattle.loop_text.specs.Sites.Reading.{site_of}
use Rattle.loop_text.proofs.conditions.leaves.+best.Given as goal

abbrev pub invariant-some_mentions_best-loop-e : goal.invariant-some_mentions_best-loop-e
invariant-some_mentions_best-loop-e l = list_any (is_among (all_best_under (map site_of l.all) l.number 0 (map site_of l.all))) (names_among (expressions (drop l.e-index l.es))) ≡ list_any (is_among (all_best_under (map site_of l.all) l.number 0 (map site_of l.all))) (names_among (expressions l.es))

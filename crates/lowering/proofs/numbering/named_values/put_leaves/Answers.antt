use Rattle.std.proofs.Common.{drop, map, arith}
use Rattle.std.proofs.lemmas.List.{length-map}
use Rattle.java_ast.specs.Reading.{expression}
use Rattle.lowering.specs.InCode.Numbered.{leaf_in_code}
use Rattle.loop_text.specs.Sites.Reading.{exprs_lent, site_of}
use Rattle.java_loops.proofs.Lists.UpTo.{stopped, entries_grow}
use Rattle.lowering.proofs.numbering.named_values.put_leaves.Goals as goal

pub returns-then-len-gt-MOST_ENTRIES : goal.returns-then-len-gt-MOST_ENTRIES
returns-then-len-gt-MOST_ENTRIES c =
    stopped 9 (exprs_lent c.loop-leaf.entries) _ _ (entries_grow (map site_of c.args.w.now.sites.now) (exprs_lent c.loop-leaf.entries) (map leaf_in_code (drop c.loop-leaf.leaf-index c.args.leaves.now)))
    (omega (arith, length-map c.loop-leaf.entries (λ e. expression e.now))) c.loop-leaf.invariant

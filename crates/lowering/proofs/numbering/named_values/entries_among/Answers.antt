use Rattle.std.proofs.Common.{ap, arith, map}
use Rattle.std.proofs.lemmas.List.{length-map}
use Rattle.java_ast.specs.Reading.{expression, statements}
use Rattle.lowering.specs.InCode.Numbered.{leaf_in_code}
use Rattle.loop_text.specs.Sites.Reading.{exprs_lent, site_of}
use Rattle.java_ast.specs.Names.{names_lent}
use Rattle.java_loops.proofs.Lists.UpTo.{entries_found, few_found, many_found}
use Rattle.lowering.proofs.numbering.named_values.entries_among.Goals as goal

pub returns-then-len-gt-MOST_ENTRIES : goal.returns-then-len-gt-MOST_ENTRIES
returns-then-len-gt-MOST_ENTRIES c =
    many_found 9 (exprs_lent c.put_known_arguments.new.entries) _ (omega (arith, length-map c.put_known_arguments.new.entries (λ e. expression e.now)))
    (entries_found (statements c.args.w.now.fragment.run.now) (map site_of c.args.w.now.sites.now) (map leaf_in_code c.args.leaves.now) (names_lent c.args.known.now) (exprs_lent c.new-entries.result) (exprs_lent c.put_leaves.new.entries) (exprs_lent c.put_known_arguments.new.entries)
    (ap exprs_lent c.new-entries.ensures) c.in_ok-put_leaves.ensures c.in_ok-put_known_arguments.ensures)

pub returns : goal.returns
returns c =
    few_found 9 (exprs_lent c.put_known_arguments.new.entries) _ (omega (arith, length-map c.put_known_arguments.new.entries (λ e. expression e.now)))
    (entries_found (statements c.args.w.now.fragment.run.now) (map site_of c.args.w.now.sites.now) (map leaf_in_code c.args.leaves.now) (names_lent c.args.known.now) (exprs_lent c.new-entries.result) (exprs_lent c.put_leaves.new.entries) (exprs_lent c.put_known_arguments.new.entries)
    (ap exprs_lent c.new-entries.ensures) c.in_ok-put_leaves.ensures c.in_ok-put_known_arguments.ensures)

use Rattle.std.specs.Option.{option_copied}
use Rattle.std.proofs.Common.{ap}
use Rattle.loop_text.specs.Statements.Fragment.{is_name}
use Rattle.loop_text.specs.Sites.Groups.{under_name}
use Rattle.loop_text.specs.Kernel.KernelStarts.{updates_name}
use Rattle.loop_text.proofs.Indexed.IndexedSites.{next_passing}
use Rattle.loop_text.proofs.sites.marks.updates_of.Goals as goal

pub loop-n-preserved : goal.loop-n-preserved
loop-n-preserved c x =
    next_passing (updates_name x) (under_name c.loop-n.found x) (under_name c.push_name.new.found x) (is_name (option_copied c.target_of.result) x) c.loop-n.n c.args.all.now c.index-all-n.result _ c.loop-n-test.true c.index-all-n.is
    (ap (λ o. is_name o x) c.target_of.ensures)
    (c.in_ok-push_name.ensures x)
    (c.loop-n.invariant x)

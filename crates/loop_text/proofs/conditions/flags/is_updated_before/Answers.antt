use Rattle.std.specs.Prelude.{◌&&◌}
use Rattle.std.specs.List.{list_any}
use Rattle.std.proofs.Common.{◌∙◌, ap, sym, map, nat_lt}
use Rattle.loop_text.specs.Kernel.KernelStatements.{updates_local}
use Rattle.loop_text.specs.Sites.Reading.{site_of}
use Rattle.loop_text.proofs.Indexed.IndexedSites.{any_where, and_turned}
use Rattle.loop_text.proofs.conditions.flags.is_updated_before.Goals as goal

pub returns : goal.returns
returns c =
    c.some_below.ensures
    ∙ ap (list_any (λ m. nat_lt m c.args.n)) c.flag_updates.ensures
    ∙ sym (any_where (λ i s. nat_lt i c.args.n && updates_local (map site_of c.args.all.now) c.args.d i s) (updates_local (map site_of c.args.all.now) c.args.d) (λ m. nat_lt m c.args.n) (λ m t. and_turned (nat_lt m c.args.n) (updates_local (map site_of c.args.all.now) c.args.d m t)) 0 (map site_of c.args.all.now))

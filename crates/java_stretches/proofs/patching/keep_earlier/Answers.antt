use Rattle.std.proofs.Common.{rules, List, ap, ◌∙◌}
use Rattle.std.specs.Prelude.{filter, nat_le}
use Rattle.std.proofs.lemmas.Fn.{filter_same}
use Rattle.java_stretches.specs.declared.patch.Patch.{Patch}
use Rattle.java_stretches.specs.Patches as specs
use Rattle.java_stretches.proofs.PatchesMade.{earlier_made}
use Rattle.java_stretches.proofs.patching.keep_earlier.Goals as goal

pub returns : goal.returns
returns c =
    ap specs.plain_patches
    (c.from_vec.ensures
    ∙ filter_same _ _ _ (λ x b f' k. search rules) _ _ c.retain.ensures.filtered
    ∙ ap (λ (ps : List Patch). filter (λ p. nat_le p.to c.args.from) ps) (c.into_vec-all.ensures ∙ c.replace.ensures.value))
    ∙ earlier_made c.args.from c.args.patches.now

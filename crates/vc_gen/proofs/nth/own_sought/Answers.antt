use Rattle.std.proofs.Common.{◌≡◌, IfOk, ap, ◌∙◌, subst}
use Rattle.tor_terms.specs.Plain.{forms_of}
use Rattle.kernel_lang.specs.Plain.{accumulator}
use Rattle.vc_gen.specs.Levels.{layers_seen}
use Rattle.vc_gen.specs.Outlines.{staged}
use Rattle.vc_gen.specs.Sought.{sought, sought_seen}
use Rattle.vc_gen.proofs.Staged.{guarded_inside, own_staged}
use Rattle.vc_gen.proofs.nth.own_sought.Goals as goal

pub in_stages-requires : goal.in_stages-requires
in_stages-requires c =
    rw c.as_slice-2.ensures (guarded_inside (accumulator c.args.a.now) c.args.outline.now c.last_levels-inside.result.now c.requires (rw c.as_slice.ensures at c.last_levels-inside.ensures))

pub returns : goal.returns
returns c =
    subst (λ z. IfOk c.in_stages.result (λ s. sought_seen c.args.atoms.now s ≡ sought z c.args.n))
    (ap (λ ss. staged c.args.atoms.now c.args.a.now.update (forms_of c.args.choice.now) (layers_seen c.last_levels-inside.result.now) ss) c.as_slice-2.ensures
    ∙ own_staged c.args.atoms.now (accumulator c.args.a.now) (forms_of c.args.choice.now) c.args.outline.now c.last_levels-inside.result.now c.requires (rw c.as_slice.ensures at c.last_levels-inside.ensures))
    c.in_stages.ensures

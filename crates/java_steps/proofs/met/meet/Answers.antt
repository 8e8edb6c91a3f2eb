use Rattle.std.proofs.Common.{◌∙◌, refl}
use Rattle.java_steps.proofs.Seen.{meets, same_atoms}
use Rattle.java_steps.proofs.met.meet.Goals as goal

pub returns : goal.returns
returns c =
    meets _ (λ j k. same_atoms _ (record { long_long = λ a b. refl; long_truth = λ a b. refl; long_text = λ a b. refl; truth_long = λ a b. refl; truth_truth = λ a b. refl; truth_text = λ a b. refl; text_long = λ a b. refl; text_truth = λ a b. refl; text_text = λ a b. refl }) j.items k.items)
    c.args.met.now c.insert.new.self c.in_ok-key.key c.args.row.now (c.in_ok-key.ensures ∙ c.as_slice.ensures) c.in_ok-insert.field-0 c.in_ok-insert.ensures.added c.in_ok-insert.ensures.updates c.in_ok-insert.ensures.unchanged

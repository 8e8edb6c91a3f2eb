use Rattle.std.proofs.Common.{refl}
use Rattle.java_steps.proofs.Seen.{is_met, same_atoms}
use Rattle.java_steps.proofs.met.was_met.Goals as goal

pub returns : goal.returns
returns c =
    is_met _ (λ j k. same_atoms _ (record { long_long = λ a b. refl; long_truth = λ a b. refl; long_text = λ a b. refl; truth_long = λ a b. refl; truth_truth = λ a b. refl; truth_text = λ a b. refl; text_long = λ a b. refl; text_truth = λ a b. refl; text_text = λ a b. refl }) j.items k.items)
    c.args.met.now c.in_ok-key.key c.args.cells.now c.contains.result c.in_ok-key.ensures c.contains.ensures

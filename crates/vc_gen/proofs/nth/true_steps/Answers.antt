use Rattle.std.proofs.Common.{◌++◌, length, refl, ap, ◌∙◌}
use Rattle.vc_gen.proofs.Seeking.{here_by_path, left_by_paths}
use Rattle.vc_gen.proofs.nth.true_steps.Goals as goal

pub returns-in-None : goal.returns-in-None
returns-in-None c = left_by_paths c.args.chosen.now.atoms.now c.args.way.now _ _ _ c.args.passes.now c.args.n (length c.args.passes.now) c.in-None.ensures.lookup.3 c.requires refl

pub returns-in_ok-step-in-Some : goal.returns-in_ok-step-in-Some
returns-in_ok-step-in-Some c =
    here_by_path c.args.chosen.now.atoms.now c.args.way.now _ _ _ c.args.passes.now c.args.n c.in-Some.path.now c.as_slice-in-Some.result.now _ c.in-Some.ensures.lookup.3.0 c.in-Some.ensures.lookup.1 c.requires
    (c.as_slice-in-Some.ensures ∙ c.in_ok-tests-in-Some.ensures ∙ ap (λ q. c.args.way.now ++ q) c.as_slice.ensures)
    c.in_ok-step-in-Some.ensures

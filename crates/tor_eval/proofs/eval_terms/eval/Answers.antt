use Rattle.std.proofs.Common.{◌≡◌}
use Rattle.std.specs.declared.option.Option.TheVariants.{Some}
use Rattle.tor_terms.specs.Plain.{tree_of}
use Rattle.tor_terms.specs.Evaluation as spec
use Rattle.tor_eval.proofs.Shown.{some_value}
use Rattle.tor_eval.proofs.eval_terms.eval.Goals as goal

pub returns-in_ok-shown-in-Some-clause-value : goal.returns-in_ok-shown-in-Some-clause-value
returns-in_ok-shown-in-Some-clause-value c =
    let h : Some c.in-Some.found ≡ spec.evaluated c.args.env.now c.args.atoms.now (tree_of c.args.term.now) = cc (c.in-Some.is, c.in_ok-found.ensures, c.as_slice.ensures) in
    some_value c.args.env.now c.args.atoms.now (tree_of c.args.term.now) c.in-Some.found c.in_ok-shown-in-Some.field-0 h c.in_ok-shown-in-Some.ensures

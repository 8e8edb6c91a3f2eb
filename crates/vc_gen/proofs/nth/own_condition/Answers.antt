use Rattle.std.proofs.Common.{Some, sym, ap, ◌∙◌}
use Rattle.tor_terms.specs.Plain.{forms_of}
use Rattle.tor_axioms.specs.Accepts.{claim_over}
use Rattle.kernel_lang.specs.Plain.{accumulator}
use Rattle.vc_gen.specs.Conditions.{own_conditions}
use Rattle.vc_gen.specs.Sought.{sought_seen}
use Rattle.vc_gen.proofs.Seeking.{here-get, left-get}
use Rattle.vc_gen.proofs.nth.own_condition.Goals as goal

pub returns-in-Here : goal.returns-in-Here
returns-in-Here c =
    ap (λ x. Some (claim_over c.args.atoms.now x)) c.into_inner.ensures
    ∙ here-get (own_conditions c.args.atoms.now (accumulator c.args.a.now, forms_of c.args.choice.now)) c.args.n _ (sym (ap (sought_seen c.args.atoms.now) c.in-Here.is) ∙ c.in_ok-c.ensures)

pub returns-in-Left : goal.returns-in-Left
returns-in-Left c =
    left-get (own_conditions c.args.atoms.now (accumulator c.args.a.now, forms_of c.args.choice.now)) c.args.n _ (sym (ap (sought_seen c.args.atoms.now) c.in-Left.is) ∙ c.in_ok-c.ensures)

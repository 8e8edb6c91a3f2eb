use Rattle.std.proofs.Common.{sym, ap, ◌∙◌, option_map}
use Rattle.tor_terms.specs.Plain.{forms_of}
use Rattle.tor_axioms.specs.Accepts.{claim_over}
use Rattle.kernel_lang.specs.Plain.{accumulator}
use Rattle.vc_gen.specs.Conditions.{own_conditions}
use Rattle.query_search.proofs.Choosing.{derived-none_at}
use Rattle.query_search.proofs.deciding.fails_by.Goals as goal

pub returns-then-not-branch : goal.returns-then-not-branch
returns-then-not-branch c = λ e.
    derived-none_at (own_conditions c.args.atoms.now (accumulator c.args.a.now, forms_of c.args.choice.now)) c.args.n (claim_over c.args.atoms.now c.in-Some.condition)
    (sym c.in_ok-own_condition.ensures ∙ ap (option_map (claim_over c.args.atoms.now)) c.in-Some.is) (sym c.in_ok-derives-in-Some.ensures.exact ∙ c.if-not-branch.true)

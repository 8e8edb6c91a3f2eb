use Rattle.std.proofs.Common.{sym, ap, ◌∙◌}
use Rattle.std.specs.Option.{option_map}
use Rattle.tor_terms.specs.Plain.{forms_of}
use Rattle.tor_axioms.specs.Accepts.{claim_over, proof_of}
use Rattle.kernel_lang.specs.Plain.{accumulator}
use Rattle.vc_gen.specs.Conditions.{own_conditions}
use Rattle.query_search.proofs.Kept.{derived-next, derived-none, derived-all}
use Rattle.query_search.proofs.deciding.derive_own.Goals as goal

pub returns-in-None : goal.returns-in-None
returns-in-None c =
    derived-all (own_conditions c.args.atoms.now (accumulator c.args.a.now, forms_of c.args.choice.now)) c.loop-n.n c.loop-n.all _ c.loop-n.invariant
    (sym c.in_ok-own_condition.ensures ∙ ap (option_map (claim_over c.args.atoms.now)) c.in-None.is)

pub returns-in-None-2 : goal.returns-in-None-2
returns-in-None-2 c =
    derived-none (own_conditions c.args.atoms.now (accumulator c.args.a.now, forms_of c.args.choice.now)) c.loop-n.n c.loop-n.all _ c.loop-n.invariant (claim_over c.args.atoms.now c.in-Some.condition)
    (sym c.in_ok-own_condition.ensures ∙ ap (option_map (claim_over c.args.atoms.now)) c.in-Some.is) (sym c.in_ok-derive_over-in-Some.ensures.exact ∙ ap (option_map proof_of) c.in-None-2.is)

pub loop-n-preserved : goal.loop-n-preserved
loop-n-preserved c =
    derived-next (own_conditions c.args.atoms.now (accumulator c.args.a.now, forms_of c.args.choice.now)) c.loop-n.n c.loop-n.all _ c.loop-n.invariant (claim_over c.args.atoms.now c.in-Some.condition) c.in-Some-2.derivation c.push.new.self
    (sym c.in_ok-own_condition.ensures ∙ ap (option_map (claim_over c.args.atoms.now)) c.in-Some.is) (sym c.in_ok-derive_over-in-Some.ensures.exact ∙ ap (option_map proof_of) c.in-Some-2.is) c.in_ok-push-in-Some-2.ensures.ok

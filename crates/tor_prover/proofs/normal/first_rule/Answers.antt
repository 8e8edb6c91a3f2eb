use Rattle.std.proofs.Common.{◌≡◌, ℕ, ◌-◌, drop, ap, sym, ◌∙◌, arith, option_map}
use Rattle.tor_terms.specs.Plain.{tree_of}
use Rattle.tor_axioms.specs.Rules.{rules}
use Rattle.tor_prover.specs.Normal.{first_from, first_rule}
use Rattle.tor_prover.proofs.ByHead.{from_head, none_of_head}
use Rattle.tor_prover.proofs.First.{first_found, first_missed}
use Rattle.tor_prover.proofs.normal.first_rule.Goals as goal

pub returns-in-Some : goal.returns-in-Some
returns-in-Some c =
    first_found (rules c.args.atoms.now c.args.facts.now) c.loop-rule.rule (tree_of c.args.t.now) (tree_of c.in-Some.u.value) _ c.loop-rule.invariant (omega (arith, c.loop-rule.auto.rule, c.head_rules-first.ensures.first)) (omega (arith, c.loop-rule-test.true, c.head_rules-first.ensures.last))
    (sym (ap (option_map (λ u. tree_of u.value)) c.in-Some.is) ∙ c.in_ok-u.ensures)

pub loop-rule-preserved : goal.loop-rule-preserved
loop-rule-preserved c =
    first_missed (rules c.args.atoms.now c.args.facts.now) c.loop-rule.rule (tree_of c.args.t.now) _ c.loop-rule.invariant (omega (arith, c.loop-rule.auto.rule, c.head_rules-first.ensures.first)) (omega (arith, c.loop-rule-test.true, c.head_rules-first.ensures.last))
    (sym (ap (option_map (λ u. tree_of u.value)) c.in_default.is) ∙ c.in_ok-u.ensures)

pub loop-rule-init : goal.loop-rule-init
loop-rule-init c =
    from_head c.args.atoms.now c.args.facts.now (tree_of c.args.t.now)
    ∙ ap (λ (p : ℕ × ℕ). first_from p.0 (drop (p.0 - 1) (rules c.args.atoms.now c.args.facts.now)) (tree_of c.args.t.now)) (sym c.head_rules-first.ensures.rules)

pub returns : goal.returns
returns c =
    let e : c.loop-rule.rule ≡ c.head_rules-first.result.1 = omega (arith, c.loop-rule-test.false, c.loop-rule.auto.rule-end) in
    none_of_head c.args.atoms.now c.args.facts.now (tree_of c.args.t.now) c.loop-rule.rule (e ∙ ap (λ (p : ℕ × ℕ). p.1) c.head_rules-first.ensures.rules) (first_rule c.args.atoms.now c.args.facts.now (tree_of c.args.t.now)) c.loop-rule.invariant

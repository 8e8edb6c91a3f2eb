use Rattle.std.proofs.Common.{◌≡◌, ◌-◌, drop}
use Rattle.tor_terms.specs.Plain.{tree_of}
use Rattle.tor_axioms.specs.Rules.{rules}
use Rattle.tor_prover.specs.Normal.{first_from, first_rule}
use Rattle.tor_prover.proofs.normal.first_rule.Given as goal

-- the rules before this one don't match
abbrev pub invariant-loop-rule : goal.invariant-loop-rule
invariant-loop-rule l = first_rule l.atoms l.facts (tree_of l.t) ≡ first_from l.rule (drop (l.rule - 1) (rules l.atoms l.facts)) (tree_of l.t)

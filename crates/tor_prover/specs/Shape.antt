-- What a derivation that is found has in it: rules and children that there are, atoms that there are, and no
-- more than so many splits inside one another.
use Rattle.std.specs.Prelude.{◌<◌, ◌≤◌, ℕ, zero, suc, List, length}
use Rattle.std.specs.List.{AllByRecursion}
use Rattle.std.specs.declared.option.Option.{Option}
use Rattle.std.specs.declared.option.Option.TheVariants.{Some, None}
use Rattle.tor_terms.specs.declared.term.Atom.{Atom}
use Rattle.tor_axioms.specs.declared.derivation.Step.{Step}
use Rattle.tor_axioms.specs.Accepts.{Proof, Steps, Split, Absurd}

abbrev pub IsStepOfRules : Step → Type 0
IsStepOfRules s = (s.rule ≤ 44) × AllByRecursion (λ child. child ≤ 1) s.path

abbrev pub IsNestedWithin : List Atom → ℕ → Proof → Type 0
IsNestedWithin atoms room (Steps left right) = AllByRecursion IsStepOfRules left × AllByRecursion IsStepOfRules right
IsNestedWithin atoms zero (Split k holding failing) = ⊥
IsNestedWithin atoms (suc room) (Split k holding failing) = (k < length atoms) × IsNestedWithin atoms room holding × IsNestedWithin atoms room failing
IsNestedWithin atoms room Absurd = Unit {0}

abbrev pub IfNested : List Atom → ℕ → Option Proof → Type 0
IfNested atoms room None = Unit {0}
IfNested atoms room (Some p) = IsNestedWithin atoms room p

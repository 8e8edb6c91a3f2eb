-- What the values of the code are seen as.
use Rattle.tor_terms.specs.Plain.{Tree, Top, Cat, Join, Sel, Proj, Uniq, Insert, Count, Sum, Any, Best, Pick, Add, Or, forms_of, tree_of}
use Rattle.tor_prover.specs.declared.outcome.Judgement.{Judgement as JudgementCode}
use Rattle.tor_prover.specs.declared.outcome.Judgement.TheVariants as judgements
use Rattle.tor_prover.specs.declared.outcome.Outcome.{Outcome as OutcomeCode}
use Rattle.tor_prover.specs.declared.outcome.Outcome.TheVariants as outcomes
use Rattle.tor_prover.specs.declared.parts.OneHead.{OneHead as OneHeadCode}
use Rattle.tor_prover.specs.declared.parts.OneHead.TheVariants as one_heads
use Rattle.tor_prover.specs.declared.parts.Parts.{Parts as PartsCode}
use Rattle.tor_prover.specs.declared.parts.Parts.TheVariants as parts
use Rattle.tor_prover.specs.declared.parts.TwoHead.{TwoHead as TwoHeadCode}
use Rattle.tor_prover.specs.declared.parts.TwoHead.TheVariants as two_heads
use Rattle.tor_prover.specs.Derive.{Judgement, Same, Differ, Splits}
use Rattle.tor_prover.specs.Normal.{Outcome, Normal, Meets, Parts, NoChild, OneChild, TwoChildren}

abbrev pub outcome_of : OutcomeCode → Outcome
outcome_of (outcomes.Normal t steps) = Normal (tree_of t.value) steps
outcome_of (outcomes.Meets k) = Meets k

abbrev pub judgement_of : JudgementCode → Judgement
judgement_of (judgements.Same left right) = Same left right
judgement_of judgements.Differ = Differ
judgement_of (judgements.Splits k) = Splits k

abbrev pub around_one : OneHeadCode → Tree → Tree
around_one (one_heads.Top index) r = Top index r
around_one (one_heads.Sel fs) r = Sel (forms_of fs) r
around_one (one_heads.Proj e) r = Proj e r
around_one one_heads.Uniq r = Uniq r
around_one (one_heads.Insert e) r = Insert r e
around_one one_heads.Count r = Count r
around_one one_heads.Sum r = Sum r
around_one one_heads.Any r = Any r

abbrev pub around_two : TwoHeadCode → Tree → Tree → Tree
around_two two_heads.Cat r s = Cat r s
around_two two_heads.Join r s = Join r s
around_two (two_heads.Best way) v r = Best way v r
around_two (two_heads.Pick way) v n = Pick way v n
around_two two_heads.Add a b = Add a b
around_two two_heads.Or a b = Or a b

abbrev pub parts_of : PartsCode → Parts
parts_of (parts.NoChild t) = NoChild (tree_of t)
parts_of (parts.OneChild head r) = OneChild (around_one head) (tree_of r.value)
parts_of (parts.TwoChildren head r s) = TwoChildren (around_two head) (tree_of r.value) (tree_of s.value)

-- Normal forms without the steps that lead to them, and what they show.
use Rattle.std.specs.Prelude.{ℕ, cond}
use Rattle.tor_terms.specs.Plain.{Tree, tree_of}
use Rattle.tor_terms.specs.Same.{same_tree}
use Rattle.tor_prover.specs.declared.reduce.Reduced.{Reduced as ReducedCode}
use Rattle.tor_prover.specs.declared.reduce.Reduced.TheVariants as codes
use Rattle.tor_prover.specs.declared.derivable.Verdict.{Verdict as VerdictCode}
use Rattle.tor_prover.specs.declared.derivable.Verdict.TheVariants as verdicts
use Rattle.tor_prover.specs.Derive.{Judgement, Same, Differ, Splits}
use Rattle.tor_prover.specs.Normal.{Outcome, Normal, Meets}

-- a normal form, or the open atom that is met
pub data Reduced : Type 0 where
  Reduct : Tree → Reduced
  Stuck : ℕ → Reduced

abbrev pub reduced : Outcome → Reduced
reduced (Normal t steps) = Reduct t
reduced (Meets k) = Stuck k

abbrev pub around_child : (Tree → Tree) → Reduced → Reduced
around_child around (Reduct r) = Reduct (around r)
around_child around (Stuck k) = Stuck k

abbrev pub around_children : (Tree → Tree → Tree) → Reduced → Reduced → Reduced
around_children around (Reduct r) (Reduct s) = Reduct (around r s)
around_children around (Reduct r) (Stuck k) = Stuck k
around_children around (Stuck k) s = Stuck k

-- what both sides show: one term, different ones, or the atom that is met first
pub data Verdict : Type 0 where
  Alike : Verdict
  Unlike : Verdict
  Open : ℕ → Verdict

abbrev pub verdict_of : Judgement → Verdict
verdict_of (Same steps more) = Alike
verdict_of Differ = Unlike
verdict_of (Splits k) = Open k

abbrev pub compared : Reduced → Reduced → Verdict
compared (Stuck k) s = Open k
compared (Reduct r) (Stuck k) = Open k
compared (Reduct r) (Reduct s) = cond (same_tree r s) Alike Unlike

abbrev pub reduced_seen : ReducedCode → Reduced
reduced_seen (codes.Reduct t) = Reduct (tree_of t.value)
reduced_seen (codes.Stuck k) = Stuck k

abbrev pub verdict_seen : VerdictCode → Verdict
verdict_seen verdicts.Alike = Alike
verdict_seen verdicts.Unlike = Unlike
verdict_seen (verdicts.Open k) = Open k

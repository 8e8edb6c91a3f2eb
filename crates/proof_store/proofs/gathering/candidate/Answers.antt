use Rattle.std.proofs.Common.{◌≡◌, ◌<◌, ◌≤◌, ℕ, List, Some, Result, Ok, Err, IfOk, length, slice_get, sym, ◌∙◌, arith}
use Rattle.kernel_lang.specs.Plain.{Fragment}
use Rattle.kernel_lang.specs.Whole.{fragment_of}
use Rattle.templates.specs.Numbered.{candidates_of}
use Rattle.templates.proofs.Shorter.{shorter-each, shorter-fewer}
use Rattle.proof_store.proofs.gathering.candidate.Goals as goal

pub nth-requires : goal.nth-requires
nth-requires c = let fewer = shorter-fewer (fragment_of c.args.searched.frag.now) c.args.searched.size c.args.searched.low in let within = c.requires in omega (arith, fewer, within)

shorter : {E : Type 0} (f : Fragment) (size k : ℕ) → size ≤ 8 → k < length (candidates_of f size) → (r : Result (List ℕ) E)
    → IfOk r (λ c. slice_get (candidates_of f 8) k ≡ Some c) → IfOk r (λ c. slice_get (candidates_of f size) k ≡ Some c)
shorter f size k l h (Ok c) e = sym (shorter-each f size k l h) ∙ e
shorter f size k l h (Err x) e = tt

pub returns-clause-exact : goal.returns-clause-exact
returns-clause-exact c = shorter (fragment_of c.args.searched.frag.now) c.args.searched.size c.args.k c.args.searched.low c.requires c.nth.result c.nth.ensures.exact

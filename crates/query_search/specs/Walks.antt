-- A part of the candidates, and what comes of it.
use Rattle.std.specs.Prelude.{◌≡◌, ℕ, ◌+◌, ◌≤◌, take, drop}
use Rattle.std.specs.declared.option.Option.{Option}
use Rattle.std.specs.declared.option.Option.TheVariants.{Some, None}
use Rattle.kernel_lang.specs.Plain.{Fragment}
use Rattle.templates.specs.Numbered.{candidates_of}
use Rattle.query_search.specs.Counted.{AreCounted}
use Rattle.query_search.specs.Verdicts.{Hit, first_hit, IsAcceptedFor}

-- the first accepted one of n candidates from the number k on
unfoldable pub hit_within : Fragment → ℕ → ℕ → ℕ → Option Hit
hit_within f size k n = first_hit f k (take n (drop k (candidates_of f size)))

-- where a part ends: at the accepted one, or behind all
abbrev pub end_of : ℕ → Option Hit → ℕ
end_of end (Some h) = h.k
end_of end None = end

abbrev pub IfHit : Fragment → Option Hit → Type 0
IfHit f (Some h) = IsAcceptedFor f h.candidate h.proofs
IfHit f None = Unit {0}

-- of n candidates from the number k on this is the first accepted one, and so many before it are counted
pub record IsPart (f : Fragment) (size : ℕ) (may_drop may_keep : ℕ → Type 0) (k n : ℕ) (hit : Option Hit) (count : ℕ) : Type 0 where
  pub exact : hit ≡ hit_within f size k n
  pub counted : AreCounted may_drop may_keep k (end_of (k + n) hit) count
  pub few : count ≤ n
  pub found : IfHit f hit

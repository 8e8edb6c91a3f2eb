-- A stretch of loops that are walked in text order.
use Rattle.std.specs.Prelude.{◌≡◌, ℕ, ◌-◌, List, ◌++◌, length, take, drop}

-- of loops that are walked those in the stretch, where left more come up to its end and most of them are its own
abbrev pub window : ℕ → ℕ → List (List ℕ) → List (List ℕ)
window most left xs = drop (left - most) (take left xs)

-- how many more come up to the end, and what is listed, before these loops and behind them
pub record Sees (most : ℕ) (xs : List (List ℕ)) (before behind : ℕ) (listed more : List (List ℕ)) : Type 0 where
  pub left : behind ≡ before - length xs
  pub found : more ≡ listed ++ window most before xs

use Rattle.std.proofs.Common.{◌≡◌, drop}
use Rattle.view_text.specs.Tokens.{are_tokens}
use Rattle.view_text.proofs.tokens.are_tokens.Given as goal

-- the cells behind are tokens where all are
abbrev pub invariant-loop-cell : goal.invariant-loop-cell
invariant-loop-cell l = are_tokens (drop l.cell-index l.cells) ≡ are_tokens l.cells

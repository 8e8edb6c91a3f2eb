-- The worked cells are tokens of their text.
use Rattle.std.proofs.Common.{◌≡◌, true, List, ℕ, refl, subst}
use Rattle.java_lex.specs.Lexing.{tokens_from}
use Rattle.java_lex.specs.Pieces.{piece_of}
use Rattle.view_text.specs.Layout.{laid_out, stretches_of}
use Rattle.view_text.specs.Tokens.{are_tokens, HasCells}
use Rattle.view_text.specs.Worked.{cells, text}
use Rattle.view_text.proofs.TokensRead.{has_cells}

text_is : laid_out cells ≡ text
text_is = refl

pub cells_are_tokens : are_tokens cells ≡ true
unfolding tokens_from piece_of
cells_are_tokens = refl

pub text_has_cells : HasCells text cells (stretches_of cells)
text_has_cells = subst (λ (t : List ℕ). HasCells t cells (stretches_of cells)) text_is (has_cells cells cells_are_tokens)

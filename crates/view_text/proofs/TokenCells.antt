-- Tokens and the cells in which their bytes lie.
use Rattle.std.proofs.Common.{◌≡◌, ℕ, ◌≤◌, ◌<◌, true, List, map, Ok, Some, sym, ap, ◌∙◌}
use Rattle.std.specs.Prelude.{slice_get, option_map}
use Rattle.std.proofs.lemmas.Option.{slice_get-map}
use Rattle.java_lex.specs.declared.token.Token.{Token}
use Rattle.java_lex.specs.declared.token.Tokens.{Tokens}
use Rattle.java_lex.specs.Lexing.{lexed}
use Rattle.java_lex.specs.Spans.{IsToken}
use Rattle.view_items.specs.declared.cell.Cell.{Cell}
use Rattle.view_text.specs.declared.stretches.Stretch.{Stretch}
use Rattle.view_text.specs.Layout.{laid_out, stretches_of, cell_at}
use Rattle.view_text.specs.Tokens.{stretch_of, are_tokens, HasCells}
use Rattle.view_text.proofs.Holding.{cell_holds}
use Rattle.view_text.proofs.TokensRead.{has_cells}

pub token_lies : (cells : List Cell) (ts : Tokens) (n byte : ℕ) (t : Token) → are_tokens cells ≡ true → lexed (laid_out cells) ≡ Ok ts → IsToken ts n t → t.span.start ≤ byte → byte < t.span.end → cell_at cells byte ≡ Some n
token_lies cells ts n byte t tokens read is from to =
    let h : HasCells (laid_out cells) cells (stretches_of cells) = has_cells cells tokens in
    let both : Ok h.tokens ≡ Ok ts = sym h.lexed_as ∙ read in
    let same : h.tokens ≡ ts = cc in
    let places : map (λ u. stretch_of u.span) ts.list ≡ stretches_of cells = ap (λ (us : Tokens). map (λ u. stretch_of u.span) us.list) (sym same) ∙ h.places in
    let there : slice_get (stretches_of cells) n ≡ Some (stretch_of t.span) =
    ap (λ (ss : List Stretch). slice_get ss n) (sym places) ∙ (slice_get-map (λ (u : Token). stretch_of u.span) ts.list n ∙ ap (option_map (λ (u : Token). stretch_of u.span)) is) in
    cell_holds cells n byte (stretch_of t.span) there from to

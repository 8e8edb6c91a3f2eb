-- What is known to stay open.
use Rattle.std.specs.Prelude.{◌≡◌, ℕ, ◌+◌, ◌<◌, true, false, not, List, length, drop}
use Rattle.std.specs.List.{prefix_len}
use Rattle.std.specs.declared.option.Option.TheVariants.{None}
use Rattle.view_items.specs.declared.opened.Opened.{Opened}
use Rattle.view_items.specs.declared.opened.Opened.TheVariants as opens
use Rattle.view_items.specs.declared.known.Known.{Known}
use Rattle.view_items.specs.Opened.{breaks, begins_with, opening_mark, closing}

abbrev pub nothing : Known
nothing = record { comments = 0; blocks = 0; texts = 0; chars = 0 }

abbrev pub until : Known → Opened → ℕ
until k opens.Comment = k.comments
until k opens.Block = k.blocks
until k opens.Text = k.texts
until k opens.Char = k.chars

abbrev pub with_until : Known → Opened → ℕ → Known
with_until k opens.Comment n = record k { comments = n }
with_until k opens.Block n = record k { blocks = n }
with_until k opens.Text n = record k { texts = n }
with_until k opens.Char n = record k { chars = n }

-- how many bytes are looked through for the closing mark
abbrev pub reach : Opened → List ℕ → ℕ
reach o bs = prefix_len (λ b. not (breaks o b)) bs

-- what is opened in the bytes at a place, before another place of the file, isn't closed
pub record StaysOpen (o : Opened) (to at : ℕ) (bs : List ℕ) : Type 0 where
  pub stays : (n : ℕ) → begins_with (drop n bs) (opening_mark o) ≡ true → at + n < to → closing o false (drop (n + length (opening_mark o)) bs) ≡ None

-- all that is known is so
pub record IsKnown (k : Known) (at : ℕ) (bs : List ℕ) : Type 0 where
  pub of : (o : Opened) → StaysOpen o (until k o) at bs

-- Dotted names as the code reads them: part by part, behind what was read before.
use Rattle.std.specs.Prelude.{ℕ, List, ◌++◌, Bool, true, false, Option, Some, None, codes}
use Rattle.readers.specs.Reading.{made}
use Rattle.java_grammar.specs.Words.{name_in}
use Rattle.java_grammar.specs.Reading.{Reader, then_at, seq_at, one_at, or_at, is_sign, word_at, sign_at}
use Rattle.java_grammar.specs.ReadingPrograms.{dotted_at}

-- a name, or none where a star stands here, and may
unfoldable pub part_at : Bool → Reader (Option (List ℕ))
part_at false ts = made (λ w. Some w) (one_at name_in) ts
part_at true ts = or_at (is_sign (codes "*")) (made (λ x. None) (sign_at (codes "*"))) (made (λ w. Some w) (one_at name_in)) ts

-- a dot and a part
unfoldable pub dotted_part_at : Bool → Reader (Option (List ℕ))
dotted_part_at star ts = made (λ x. x.1) (seq_at (sign_at (codes ".")) (part_at star)) ts

-- what stands behind this text, and the text
abbrev pub dotted_from : Bool → List ℕ → Reader (List ℕ)
dotted_from star text ts = made (λ w. text ++ w) (dotted_at star) ts

-- word a . b . c ;
unfoldable pub dotted_line_at : List ℕ → Bool → Reader (List ℕ)
dotted_line_at word star ts = made (λ x. x.1.1.0) (seq_at (word_at word) (then_at (one_at name_in) (λ w. seq_at (dotted_from star w) (sign_at (codes ";"))))) ts

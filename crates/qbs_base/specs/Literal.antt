-- Scalars as they are written.
use Rattle.std.specs.Prelude.{ℕ, Bool, true, false, List, [], ◌∷◌, ◌++◌, codes, nat_eq, if◌then◌else◌}
use Rattle.std.specs.Fmt.{signed_decimal}
use Rattle.std.specs.List.{flat_map}
use Rattle.qbs_base.specs.declared.scalar.Scalar.{Scalar}
use Rattle.qbs_base.specs.declared.scalar.Scalar.TheVariants as scalars

-- a quote, a backslash, LF, CR and a tab are written by their escapes, each other byte as it is
abbrev pub escaped : ℕ → List ℕ
escaped b =
    if nat_eq b 34 then 92 ∷ 34 ∷ []
    else (if nat_eq b 92 then 92 ∷ 92 ∷ []
    else (if nat_eq b 10 then 92 ∷ 110 ∷ []
    else (if nat_eq b 13 then 92 ∷ 114 ∷ []
    else (if nat_eq b 9 then 92 ∷ 116 ∷ []
    else b ∷ []))))

abbrev pub text_literal : List ℕ → List ℕ
text_literal text = 34 ∷ [] ++ flat_map escaped text ++ 34 ∷ []

abbrev pub truth_text : Bool → List ℕ
truth_text true = codes "true"
truth_text false = codes "false"

-- digits, `true` or `false`, or a text in quotes
abbrev pub scalar_text : Scalar → List ℕ
scalar_text (scalars.Long n) = signed_decimal n
scalar_text (scalars.Bool b) = truth_text b
scalar_text (scalars.Text text) = text_literal text

-- Tests of columns for null. No column is null that a member gives, so each is true, or false, without effect.
use Rattle.std.specs.Prelude.{ℕ, List, [], ◌∷◌, Bool, true, false, ◌&&◌, ◌||◌, not, Option, Some, codes}
use Rattle.view_rules.specs.declared.expression.NullTest.{NullTest}
use Rattle.view_rules.specs.declared.sight.Sighted.{Sighted}
use Rattle.view_rules.specs.Names.{variable_at, may_be_read, is_row_of, past_member}
use Rattle.view_rules.specs.Options.{◌>>=◌, where_so}
use Rattle.view_rules.specs.Setting.{Within, past, next, here}

-- a row whose column may be read
abbrev pub is_row_to_read : Within → ℕ → Sighted → Bool
is_row_to_read w class v = is_row_of class v.java && (not v.outside || may_be_read w v)

-- `r.m` or `r.m()`
abbrev pub past_column : Within → List Sighted → ℕ → ℕ → ℕ → Option ℕ
past_column w s class member i =
    variable_at w s i >>= λ v. where_so (is_row_to_read w class v) i >>= λ h. next w h >>= λ j. past_member w class member j >>= λ seen. Some seen.0

-- `!=` as a part of `&&`, `==` as a part of `||`
abbrev pub null_sign : Bool → List ℕ
null_sign true = codes "!="
null_sign false = codes "=="

abbrev pub joined_sign : Bool → List ℕ
joined_sign true = codes "&&"
joined_sign false = codes "||"

abbrev pub past_test_at : Within → List Sighted → Bool → NullTest → Bool → ℕ → Option ℕ
past_test_at w s all t true i = past w (codes "null") i >>= λ j. past w (null_sign all) j >>= λ k. past_column w s t.class t.member k
past_test_at w s all t false i = past_column w s t.class t.member i >>= λ j. past w (null_sign all) j >>= λ k. past w (codes "null") k

-- parentheses change no value
abbrev pub past_test_in : Within → List Sighted → Bool → NullTest → Bool → ℕ → Option ℕ
past_test_in w s all t true i = past w (codes "(") i >>= λ j. past_test_at w s all t t.null_first j >>= λ k. past w (codes ")") k
past_test_in w s all t false i = past_test_at w s all t t.null_first i

abbrev pub past_test : Within → List Sighted → Bool → NullTest → ℕ → Option ℕ
past_test w s all t i = here t.at i >>= λ h. past_test_in w s all t t.wrapped h

-- a test with the operator behind it, and with the operator before it
abbrev pub past_test_before : Within → List Sighted → Bool → NullTest → ℕ → Option ℕ
past_test_before w s all t i = past_test w s all t i >>= λ j. past w (joined_sign all) j

abbrev pub past_test_behind : Within → List Sighted → Bool → NullTest → ℕ → Option ℕ
past_test_behind w s all t i = past w (joined_sign all) i >>= λ j. past_test w s all t j

-- tests, each with the operator behind it
abbrev pub past_tests_before : Within → List Sighted → Bool → List NullTest → ℕ → Option ℕ
past_tests_before w s all [] i = Some i
past_tests_before w s all (t ∷ ts) i = past_test_before w s all t i >>= λ j. past_tests_before w s all ts j

-- tests, each with the operator before it
abbrev pub past_tests_behind : Within → List Sighted → Bool → List NullTest → ℕ → Option ℕ
past_tests_behind w s all [] i = Some i
past_tests_behind w s all (t ∷ ts) i = past_test_behind w s all t i >>= λ j. past_tests_behind w s all ts j

abbrev pub has_some : List NullTest → Bool
has_some [] = false
has_some (t ∷ ts) = true

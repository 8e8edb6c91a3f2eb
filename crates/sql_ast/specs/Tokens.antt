-- The tokens of a query's bytes.
use Rattle.std.specs.Prelude.{◌≡◌, ℕ, suc, ◌+◌, ◌<◌, Bool, true, false, not, ◌&&◌, ◌||◌, nat_eq, List, [], ◌∷◌, ◌++◌, codes}
use Rattle.std.specs.Char.{is_ascii_digit}
use Rattle.std.specs.List.{list_all, list_any}
use Rattle.std.specs.Str.{str_eq_ignore_ascii_case}
use Rattle.qbs_base.specs.Bytes.{is_white, is_name_start, is_name_part}
use Rattle.sql_ast.specs.declared.tree.Cmp.{Cmp}
use Rattle.sql_ast.specs.declared.tree.Cmp.TheVariants as tests
use Rattle.sql_ast.specs.Canonical.{doubled}

-- a word is a name or a keyword, as it is written; a number has its digits, a text its bytes
pub data Token : Type 0 where
  Word : List ℕ → Token
  Digits : List ℕ → Token
  Negative : List ℕ → Token
  Quoted : List ℕ → Token
  Param : ℕ → Token
  Test : Cmp → Token
  Open : Token
  Close : Token
  Comma : Token
  Dot : Token
  Star : Token

-- an ASCII letter or `_`, and then ASCII letters, digits and `_`
abbrev pub is_name : List ℕ → Bool
is_name [] = false
is_name (b ∷ bs) = is_name_start b && list_all is_name_part bs

abbrev pub is_number : List ℕ → Bool
is_number [] = false
is_number (b ∷ bs) = is_ascii_digit b && list_all is_ascii_digit bs

abbrev pub sign_of : Cmp → List ℕ
sign_of tests.Eq = codes "="
sign_of tests.Ne = codes "<>"
sign_of tests.Lt = codes "<"
sign_of tests.Le = codes "<="
sign_of tests.Gt = codes ">"
sign_of tests.Ge = codes ">="

-- how a token is spelled: a minus stands directly before the digits, a parameter's digit directly
-- after the question mark, and a text stands in quotes, with each quote in it twice
pub data HasSpelling : List ℕ → Token → Type 0 where
  word : {bs : List ℕ} → is_name bs ≡ true → HasSpelling bs (Word bs)
  digits : {bs : List ℕ} → is_number bs ≡ true → HasSpelling bs (Digits bs)
  negative : {bs : List ℕ} → is_number bs ≡ true → HasSpelling (45 ∷ bs) (Negative bs)
  quoted : {text : List ℕ} → HasSpelling (39 ∷ doubled text ++ 39 ∷ []) (Quoted text)
  param : {n : ℕ} → n < 9 → HasSpelling (63 ∷ (49 + n) ∷ []) (Param (suc n))
  test : {cmp : Cmp} → HasSpelling (sign_of cmp) (Test cmp)
  unlike : HasSpelling (codes "!=") (Test tests.Ne)
  opened : HasSpelling (codes "(") Open
  closed : HasSpelling (codes ")") Close
  comma : HasSpelling (codes ",") Comma
  dot : HasSpelling (codes ".") Dot
  star : HasSpelling (codes "*") Star

-- the token would go on with this byte
abbrev pub goes_on_with : Token → ℕ → Bool
goes_on_with (Word bs) b = is_name_part b
goes_on_with (Digits bs) b = is_ascii_digit b
goes_on_with (Negative bs) b = is_ascii_digit b
goes_on_with (Quoted bs) b = nat_eq b 39
goes_on_with (Param n) b = false
goes_on_with (Test tests.Eq) b = false
goes_on_with (Test tests.Ne) b = false
goes_on_with (Test tests.Lt) b = nat_eq b 61 || nat_eq b 62
goes_on_with (Test tests.Le) b = false
goes_on_with (Test tests.Gt) b = nat_eq b 61
goes_on_with (Test tests.Ge) b = false
goes_on_with Open b = false
goes_on_with Close b = false
goes_on_with Comma b = false
goes_on_with Dot b = false
goes_on_with Star b = false

abbrev pub first_is : (ℕ → Bool) → List ℕ → Bool
first_is passes [] = false
first_is passes (b ∷ bs) = passes b

abbrev pub goes_on : Token → List ℕ → Bool
goes_on token bs = first_is (goes_on_with token) bs

-- white space stands where it will, and a token is as long as it can be
pub data HasTokens : List ℕ → List Token → Type 0 where
  nothing : HasTokens [] []
  blank : {b : ℕ} {bs : List ℕ} {ts : List Token} → is_white b ≡ true → HasTokens bs ts → HasTokens (b ∷ bs) ts
  token : {us bs : List ℕ} {t : Token} {ts : List Token} → HasSpelling us t → goes_on t bs ≡ false → HasTokens bs ts → HasTokens (us ++ bs) (t ∷ ts)

-- the words that are no name, in any letter case
abbrev pub reserved_words : List (List ℕ)
reserved_words = codes "SELECT" ∷ codes "FROM" ∷ codes "WHERE" ∷ codes "GROUP" ∷ codes "BY" ∷ codes "ORDER" ∷ codes "LIMIT" ∷ codes "AND" ∷ codes "OR" ∷ codes "NOT" ∷ codes "EXISTS" ∷ codes "IN" ∷ codes "AS" ∷ codes "ASC" ∷ codes "DESC" ∷ codes "TRUE" ∷ codes "FALSE" ∷ []

abbrev pub is_free : List ℕ → Bool
is_free name = not (list_any (str_eq_ignore_ascii_case name) reserved_words)

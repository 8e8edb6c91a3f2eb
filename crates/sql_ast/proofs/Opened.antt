-- Texts as tokens, piece by piece.
use Rattle.std.proofs.Common.{◌≡◌, ℕ, ◌<◌, ◌^◌, Bool, true, false, ◌&&◌, ◌||◌, List, [], ◌∷◌, ◌++◌, length, codes, nat_eq, refl, ap, ◌∙◌, arith, append_assoc}
use Rattle.std.proofs.lemmas.Bool.Decides.{nat_tests}
use Rattle.std.proofs.lemmas.Fmt.{decimal_is_IsNumeral}
use Rattle.std.proofs.lemmas.Str.Ascii.{lowercase_is}
use Rattle.std.proofs.lemmas.Str.Parse.{digit_from_value}
use Rattle.std.specs.Char.{is_ascii_digit, to_ascii_lowercase}
use Rattle.std.specs.Fmt.{decimal}
use Rattle.std.specs.List.{list_all}
use Rattle.std.specs.Str.Parse.{AllDigits, digits_value}
use Rattle.sql_ast.specs.declared.tree.Cmp.{Cmp}
use Rattle.sql_ast.specs.declared.tree.Cmp.TheVariants as tests
use Rattle.sql_ast.specs.Canonical.{doubled, alias_text, cmp_text}
use Rattle.qbs_base.specs.Bytes.{is_name_part}
use Rattle.sql_ast.specs.Tokens.{Token, Word, Digits, Negative, Quoted, Test, Open, Close, Comma, Dot, Star, is_name, is_number, is_free, word, digits, negative, quoted, test, opened, closed, comma, dot, star, first_is, goes_on, HasTokens, blank, token}

-- nothing, or a space, a closing parenthesis, a comma or a dot
abbrev pub is_stop : ℕ → Bool
is_stop b = nat_eq b 32 || (nat_eq b 41 || (nat_eq b 44 || nat_eq b 46))

abbrev pub stops : List ℕ → Bool
stops [] = true
stops (b ∷ bs) = is_stop b

-- before what stops, the text is these tokens
abbrev pub Reads : List ℕ → List Token → Type 0
Reads text tokens = (rest : List ℕ) (us : List Token) → stops rest ≡ true → HasTokens rest us → HasTokens (text ++ rest) (tokens ++ us)

-- before anything, the text is these tokens
abbrev pub Opens : List ℕ → List Token → Type 0
Opens text tokens = (rest : List ℕ) (us : List Token) → HasTokens rest us → HasTokens (text ++ rest) (tokens ++ us)

no_name_part : (b : ℕ) → is_stop b ≡ true → is_name_part b ≡ false
no_name_part b h = grind (arith, nat_tests, h)

no_digit : (b : ℕ) → is_stop b ≡ true → is_ascii_digit b ≡ false
no_digit b h = grind (arith, nat_tests, h)

no_quote : (b : ℕ) → is_stop b ≡ true → nat_eq b 39 ≡ false
no_quote b h = grind (arith, nat_tests, h)

pub word_ends : (w rest : List ℕ) → stops rest ≡ true → goes_on (Word w) rest ≡ false
word_ends w [] h = refl
word_ends w (b ∷ bs) h = no_name_part b h

digits_end : (w rest : List ℕ) → stops rest ≡ true → goes_on (Digits w) rest ≡ false
digits_end w [] h = refl
digits_end w (b ∷ bs) h = no_digit b h

negative_ends : (w rest : List ℕ) → stops rest ≡ true → goes_on (Negative w) rest ≡ false
negative_ends w [] h = refl
negative_ends w (b ∷ bs) h = no_digit b h

quoted_ends : (w rest : List ℕ) → stops rest ≡ true → goes_on (Quoted w) rest ≡ false
quoted_ends w [] h = refl
quoted_ends w (b ∷ bs) h = no_quote b h

-- ---- one token

pub word_reads : (w : List ℕ) → is_name w ≡ true → Reads w (Word w ∷ [])
word_reads w name rest us stop h = token (word name) (word_ends w rest stop) h

pub digits_reads : (w : List ℕ) → is_number w ≡ true → Reads w (Digits w ∷ [])
digits_reads w number rest us stop h = token (digits number) (digits_end w rest stop) h

pub negative_reads : (w : List ℕ) → is_number w ≡ true → Reads (45 ∷ w) (Negative w ∷ [])
negative_reads w number rest us stop h = token (negative number) (negative_ends w rest stop) h

pub quoted_reads : (text : List ℕ) → Reads (codes "'" ++ doubled text ++ codes "'") (Quoted text ∷ [])
quoted_reads text rest us stop h = token (quoted {text = text}) (quoted_ends text rest stop) h

-- ---- pieces put together

pub then_reads : (a b : List ℕ) (ts us : List Token) → Opens a ts → Reads b us → Reads (a ++ b) (ts ++ us)
then_reads a b ts us first second rest vs stop h = simp append_assoc (first (b ++ rest) (us ++ vs) (second rest vs stop h))

-- ---- numbers

digit_is : (c : ℕ) (x : ℕ) → x ≡ c → is_ascii_digit c ≡ true → is_ascii_digit x ≡ true
digit_is c x e h = rw e h

all_digits : (ds : List ℕ) → AllDigits 10 ds → list_all is_ascii_digit ds ≡ true
all_digits [] h = refl
all_digits (c ∷ cs) h = let r = digit_from_value c h.0 in let d : is_ascii_digit c ≡ true = grind (arith, nat_tests, r) in rw d (all_digits cs h.1)

number_from : (ds : List ℕ) → 0 < length ds → list_all is_ascii_digit ds ≡ true → is_number ds ≡ true
number_from [] some h = absurd (omega (arith, some))
number_from (c ∷ cs) some h = h

pub decimal_number : (n : ℕ) → n < 2 ^ 64 → is_number (decimal n) ≡ true
decimal_number n lt = let d = decimal_is_IsNumeral n lt in number_from (decimal n) d.0.0 (all_digits (decimal n) d.0.1)

pub decimal_value : (n : ℕ) → n < 2 ^ 64 → digits_value 10 (decimal n) ≡ n
decimal_value n lt = (decimal_is_IsNumeral n lt).1

-- ---- pieces before anything

pub no_more : (rest : List ℕ) → first_is (λ b. false) rest ≡ false
no_more [] = refl
no_more (b ∷ bs) = refl

pub then_opens : (a b : List ℕ) (ts us : List Token) → Opens a ts → Opens b us → Opens (a ++ b) (ts ++ us)
then_opens a b ts us first second rest vs h = simp append_assoc (first (b ++ rest) (us ++ vs) (second rest vs h))

pub open_opens : Opens (codes "(") (Open ∷ [])
open_opens rest us h = token opened (no_more rest) h

pub close_opens : Opens (codes ")") (Close ∷ [])
close_opens rest us h = token closed (no_more rest) h

pub dot_opens : Opens (codes ".") (Dot ∷ [])
dot_opens rest us h = token dot (no_more rest) h

pub star_opens : Opens (codes "*") (Star ∷ [])
star_opens rest us h = token star (no_more rest) h

pub comma_opens : Opens (codes ", ") (Comma ∷ [])
comma_opens rest us h = token comma refl (blank refl h)

pub blank_opens : Opens (codes " ") []
blank_opens rest us h = blank refl h

-- a keyword with a space after it, and one with an open parenthesis
pub word_opens : (w : List ℕ) → is_name w ≡ true → Opens (w ++ codes " ") (Word w ∷ [])
word_opens w name rest us h = simp append_assoc (token (word name) refl (blank refl h))

pub called_opens : (w : List ℕ) → is_name w ≡ true → Opens (w ++ codes "(") (Word w ∷ Open ∷ [])
called_opens w name rest us h = simp append_assoc (token (word name) refl (token opened (no_more rest) h))

pub spaced_opens : (w : List ℕ) → is_name w ≡ true → Opens (codes " " ++ (w ++ codes " ")) (Word w ∷ [])
spaced_opens w name = then_opens (codes " ") (w ++ codes " ") [] (Word w ∷ []) blank_opens (word_opens w name)

pub one_opens : Opens (codes "1 ") (Digits (codes "1") ∷ [])
one_opens rest us h = token (digits refl) refl (blank refl h)

pub cmp_opens : (cmp : Cmp) → Opens (cmp_text cmp) (Test cmp ∷ [])
cmp_opens tests.Eq rest us h = blank refl (token (test {cmp = tests.Eq}) refl (blank refl h))
cmp_opens tests.Ne rest us h = blank refl (token (test {cmp = tests.Ne}) refl (blank refl h))
cmp_opens tests.Lt rest us h = blank refl (token (test {cmp = tests.Lt}) refl (blank refl h))
cmp_opens tests.Le rest us h = blank refl (token (test {cmp = tests.Le}) refl (blank refl h))
cmp_opens tests.Gt rest us h = blank refl (token (test {cmp = tests.Gt}) refl (blank refl h))
cmp_opens tests.Ge rest us h = blank refl (token (test {cmp = tests.Ge}) refl (blank refl h))

-- what opens also reads, and what reads opens before what begins with a stop
pub opens_reads : (a : List ℕ) (ts : List Token) → Opens a ts → Reads a ts
opens_reads a ts o rest us stop h = o rest us h

pub reads_then : (a b : List ℕ) (ts us : List Token) → Reads a ts → ((rest : List ℕ) → stops (b ++ rest) ≡ true) → Opens b us → Opens (a ++ b) (ts ++ us)
reads_then a b ts us first starts second rest vs h = simp append_assoc (first (b ++ rest) (us ++ vs) (starts rest) (second rest vs h))

-- ---- aliases

digits_are_parts : (ds : List ℕ) → list_all is_ascii_digit ds ≡ true → list_all is_name_part ds ≡ true
digits_are_parts [] h = refl
digits_are_parts (c ∷ cs) h = go (is_ascii_digit c) (list_all is_ascii_digit cs) refl h (digits_are_parts cs)
  where
    go : (a b : Bool) → is_ascii_digit c ≡ a → (a && b) ≡ true → (b ≡ true → list_all is_name_part cs ≡ true) → (is_name_part c && list_all is_name_part cs) ≡ true
    go true true e h later = let p : is_name_part c ≡ true = grind (arith, nat_tests, e) in rw p (later refl)
    go true false e h later = absurd cc
    go false b e h later = absurd cc

alias_name_from : (ds : List ℕ) → is_number ds ≡ true → is_name (116 ∷ ds) ≡ true
alias_name_from [] h = absurd cc
alias_name_from (c ∷ cs) h = digits_are_parts (c ∷ cs) h

pub alias_name : (n : ℕ) → n < 2 ^ 64 → is_name (alias_text n) ≡ true
alias_name n lt = alias_name_from (decimal n) (decimal_number n lt)

no_r : (c : ℕ) → is_ascii_digit c ≡ true → nat_eq (to_ascii_lowercase c) 114 ≡ false
no_r c h =
    let lt : c < 65 = grind (arith, nat_tests, h) in
    let f : nat_eq c 114 ≡ false = grind (arith, nat_tests, h) in
    ap (λ (x : ℕ). nat_eq x 114) ((lowercase_is c).1 lt) ∙ f

alias_free_from : (ds : List ℕ) → is_number ds ≡ true → is_free (116 ∷ ds) ≡ true
alias_free_from [] h = absurd cc
alias_free_from (c ∷ cs) h = go (is_ascii_digit c) (list_all is_ascii_digit cs) refl h
  where
    go : (a b : Bool) → is_ascii_digit c ≡ a → (a && b) ≡ true → is_free (116 ∷ c ∷ cs) ≡ true
    go true b e h = rw (no_r c e) refl
    go false b e h = absurd cc

pub alias_free : (n : ℕ) → n < 2 ^ 64 → is_free (alias_text n) ≡ true
alias_free n lt = alias_free_from (decimal n) (decimal_number n lt)

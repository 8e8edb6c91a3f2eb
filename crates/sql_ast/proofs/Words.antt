-- Which words are others, and what may follow a part of a query.
use Rattle.std.proofs.Common.{◌≡◌, ℕ, zero, suc, ◌<◌, Bool, true, false, not, ◌&&◌, ◌||◌, List, [], ◌∷◌, length, get_or, None, codes, refl, sym, ap, ◌∙◌, arith}
use Rattle.std.specs.List.{list_all, list_any}
use Rattle.std.specs.Str.{bytes_eq, str_eq_ignore_ascii_case, str_to_ascii_lowercase}
use Rattle.std.proofs.lemmas.Slice.Eq.{bytes_eq-Decides}
use Rattle.sql_ast.specs.Reader.{is_word, after_word, after_comma}
use Rattle.sql_ast.specs.Tokens.{Token, Word, Close, Comma, Dot, is_free, reserved_words}

-- a word that is one keyword is not another
pub apart : (w k l : List ℕ) → str_eq_ignore_ascii_case w k ≡ true → str_eq_ignore_ascii_case k l ≡ false → str_eq_ignore_ascii_case w l ≡ false
apart w k l e h = ap (λ (x : List ℕ). bytes_eq x (str_to_ascii_lowercase l)) ((bytes_eq-Decides (str_to_ascii_lowercase w) (str_to_ascii_lowercase k)).0 e) ∙ h

both_true : (s t : Bool) → (s && t) ≡ true → (s ≡ true) × (t ≡ true)
both_true true true h = (refl, refl)
both_true false t h = absurd cc
both_true true false h = absurd cc

not_true : (b : Bool) → not b ≡ true → b ≡ false
not_true false h = refl
not_true true h = absurd cc

-- a word that is one of these keywords is not another
pub apart_any : (w l : List ℕ) (ks : List (List ℕ)) → list_any (str_eq_ignore_ascii_case w) ks ≡ true → list_all (λ k. not (str_eq_ignore_ascii_case k l)) ks ≡ true → str_eq_ignore_ascii_case w l ≡ false
apart_any w l [] h others = absurd cc
apart_any w l (k ∷ ks) h others = go (str_eq_ignore_ascii_case w k) refl h (both_true (not (str_eq_ignore_ascii_case k l)) (list_all (λ k. not (str_eq_ignore_ascii_case k l)) ks) others) (apart_any w l ks)
  where
    go : (b : Bool) → str_eq_ignore_ascii_case w k ≡ b → (b || list_any (str_eq_ignore_ascii_case w) ks) ≡ true → (not (str_eq_ignore_ascii_case k l) ≡ true) × (list_all (λ k. not (str_eq_ignore_ascii_case k l)) ks ≡ true) → (list_any (str_eq_ignore_ascii_case w) ks ≡ true → list_all (λ k. not (str_eq_ignore_ascii_case k l)) ks ≡ true → str_eq_ignore_ascii_case w l ≡ false) → str_eq_ignore_ascii_case w l ≡ false
    go true e h o later = apart w k l e (not_true (str_eq_ignore_ascii_case k l) o.0)
    go false e h o later = later h o.1

none_passes : (p : List ℕ → Bool) (ks : List (List ℕ)) (n : ℕ) → n < length ks → not (list_any p ks) ≡ true → p (get_or ks n []) ≡ false
none_passes p [] n lt h = absurd (omega (arith, lt))
none_passes p (k ∷ ks) zero lt h = go (p k) (list_any p ks) h
  where
    go : (a b : Bool) → not (a || b) ≡ true → a ≡ false
    go false b h = refl
    go true b h = absurd cc
none_passes p (k ∷ ks) (suc n) lt h = none_passes p ks n (omega (arith, lt)) (go (p k) (list_any p ks) h)
  where
    go : (a b : Bool) → not (a || b) ≡ true → not b ≡ true
    go false b h = h
    go true b h = absurd cc

-- a name is no reserved word, by the word's number among them
pub free_not : (w : List ℕ) (n : ℕ) → n < 17 → is_free w ≡ true → str_eq_ignore_ascii_case w (get_or reserved_words n []) ≡ false
free_not w n lt h = none_passes (str_eq_ignore_ascii_case w) reserved_words n lt h

-- the words that may stand after the FROM and WHERE of a SELECT
abbrev pub after_source : List (List ℕ)
after_source = codes "GROUP" ∷ codes "ORDER" ∷ codes "LIMIT" ∷ []

abbrev pub after_parts : List (List ℕ)
after_parts = codes "WHERE" ∷ after_source

abbrev pub after_conjunction : List (List ℕ)
after_conjunction = codes "OR" ∷ after_source

abbrev pub after_atom : List (List ℕ)
after_atom = codes "AND" ∷ after_conjunction

abbrev pub after_group : List (List ℕ)
after_group = codes "ORDER" ∷ codes "LIMIT" ∷ []

abbrev pub after_keys : List (List ℕ)
after_keys = codes "LIMIT" ∷ []

-- nothing, a closing parenthesis, a comma or one of these words
abbrev pub ends : List (List ℕ) → List Token → Bool
ends ks [] = true
ends ks (Close ∷ ts) = true
ends ks (Comma ∷ ts) = true
ends ks (Word w ∷ ts) = list_any (str_eq_ignore_ascii_case w) ks
ends ks (t ∷ ts) = false

abbrev pub no_comma : List Token → Bool
no_comma [] = true
no_comma (Comma ∷ ts) = false
no_comma (t ∷ ts) = true

abbrev pub no_dot : List Token → Bool
no_dot [] = true
no_dot (Dot ∷ ts) = false
no_dot (t ∷ ts) = true

pub ends_no_dot : (ks : List (List ℕ)) (rest : List Token) → ends ks rest ≡ true → no_dot rest ≡ true
ends_no_dot ks [] h = refl
ends_no_dot ks (Dot ∷ ts) h = absurd cc
ends_no_dot ks (t ∷ ts) h = refl

pub no_comma_after : (rest : List Token) → no_comma rest ≡ true → after_comma rest ≡ None
no_comma_after [] h = refl
no_comma_after (Comma ∷ ts) h = absurd cc
no_comma_after (t ∷ ts) h = refl

pub not_word : (l : List ℕ) (ks : List (List ℕ)) (t : Token) (ts : List Token) → ends ks (t ∷ ts) ≡ true → list_all (λ k. not (str_eq_ignore_ascii_case k l)) ks ≡ true → is_word l t ≡ false
not_word l ks (Word w) ts h others = apart_any w l ks h others
not_word l ks t ts h others = refl

pub no_word : (l : List ℕ) (ks : List (List ℕ)) (rest : List Token) → ends ks rest ≡ true → list_all (λ k. not (str_eq_ignore_ascii_case k l)) ks ≡ true → after_word l rest ≡ None
no_word l ks [] h others = refl
no_word l ks (t ∷ ts) h others = rw (not_word l ks t ts h others) refl

none_of_four : (a b c d : Bool) → a ≡ false → b ≡ false → c ≡ false → d ≡ false → (a || (b || (c || (d || false)))) ≡ false
none_of_four a b c d e f g h = rw (e, f, g, h) refl

-- a word that may follow the parts of a FROM is no name
pub no_alias : (w : List ℕ) → list_any (str_eq_ignore_ascii_case w) after_parts ≡ true → is_free w ≡ false
no_alias w h = go (is_free w) refl
  where
    go : (b : Bool) → is_free w ≡ b → is_free w ≡ false
    go false e = e
    go true e = absurd (let n = none_of_four (str_eq_ignore_ascii_case w (codes "WHERE")) (str_eq_ignore_ascii_case w (codes "GROUP")) (str_eq_ignore_ascii_case w (codes "ORDER")) (str_eq_ignore_ascii_case w (codes "LIMIT")) (free_not w 2 (omega arith) e) (free_not w 3 (omega arith) e) (free_not w 5 (omega arith) e) (free_not w 6 (omega arith) e) in let x : true ≡ false = sym h ∙ n in cc)

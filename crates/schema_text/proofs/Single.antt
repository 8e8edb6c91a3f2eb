-- Single tokens: what is read has the token, and the laws of their readers.
use Rattle.std.proofs.Common.{◌≡◌, ℕ, Bool, true, false, cond, List, [], ◌∷◌, ◌++◌, Some, None, refl, ap, ◌∙◌, inl}
use Rattle.std.specs.Prelude.{if◌then◌else◌}
use Rattle.readers.specs.Reading.{Read, IsToken}
use Rattle.readers.proofs.Lawful.{Lawful, Inhabited, token_lawful}
use Rattle.readers.proofs.Again.{Again, Any}
use Rattle.schema.specs.declared.token.Kind.{Kind}
use Rattle.schema.specs.declared.token.Kind.TheVariants.{Word, Digits, Sign, Stray}
use Rattle.schema.specs.declared.token.Sign as signs
use Rattle.schema.specs.declared.token.Sign.TheVariants.{Open, Close, Comma, Semicolon}
use Rattle.schema.specs.Words.{spells}
use Rattle.schema.specs.Reading.{word_in, is_word, is_sign, is_digits, same_sign, passing, name_at, word_at, sign_at, digits_at}

-- a reader of one thing reads another that has all of its tokens
pub as_lawful : {T A : Type 0} (P Q : List T → A → Type 0) (r : List T → Read T A) → ((ts : List T) (x : A) → P ts x → Q ts x) → Lawful P r → Lawful Q r
as_lawful P Q r turn law = record {
  found = λ ts x e. let t = law.found ts x e in record { front = t.front; parts = t.parts; has = turn t.front x.0 t.has };
  begins = λ ts n e. let b = law.begins ts n e in record { front = b.front; rest = b.rest; parts = b.parts; left = b.left; tail = b.tail; value = b.value; has = turn (b.front ++ b.tail) b.value b.has };
  stays = law.stays;
  same = law.same;
}

-- ---- what tokens are

abbrev pub IsName : List Kind → List ℕ → Type 0
IsName ts n = ts ≡ Word n ∷ []

abbrev pub IsKeyword : List ℕ → List Kind → Unit {0} → Type 0
IsKeyword keyword ts u = (w : List ℕ) × (ts ≡ Word w ∷ []) × (spells keyword w ≡ true)

abbrev pub IsSign : signs.Sign → List Kind → Unit {0} → Type 0
IsSign s ts u = ts ≡ Sign s ∷ []

abbrev pub IsDigits : List Kind → Unit {0} → Type 0
IsDigits ts u = ts ≡ Digits ∷ []

some_is : {A : Type 0} (x y : A) → Some x ≡ Some y → x ≡ y
some_is x y e = cc

passes : (test : Kind → Bool) (k : Kind) (u : Unit {0}) → passing test k ≡ Some u → test k ≡ true
passes test k u e = by_test (test k) refl e
  where
    by_test : (b : Bool) → test k ≡ b → cond b (Some tt) None ≡ Some u → test k ≡ true
    by_test true is e = is
    by_test false is e = absurd cc

name_is : (k : Kind) (n : List ℕ) → word_in k ≡ Some n → k ≡ Word n
name_is (Word w) n e = ap (λ (v : List ℕ). Word v) (some_is w n e)
name_is Digits n e = absurd cc
name_is (Sign s) n e = absurd cc
name_is Stray n e = absurd cc

keyword_is : (keyword : List ℕ) (k : Kind) → is_word keyword k ≡ true → (w : List ℕ) × (k ≡ Word w) × (spells keyword w ≡ true)
keyword_is keyword (Word w) e = (w, refl, e)
keyword_is keyword Digits e = absurd cc
keyword_is keyword (Sign s) e = absurd cc
keyword_is keyword Stray e = absurd cc

same : (s t : signs.Sign) → same_sign s t ≡ true → t ≡ s
same Open Open e = refl
same Open Close e = absurd cc
same Open Comma e = absurd cc
same Open Semicolon e = absurd cc
same Close Open e = absurd cc
same Close Close e = refl
same Close Comma e = absurd cc
same Close Semicolon e = absurd cc
same Comma Open e = absurd cc
same Comma Close e = absurd cc
same Comma Comma e = refl
same Comma Semicolon e = absurd cc
same Semicolon Open e = absurd cc
same Semicolon Close e = absurd cc
same Semicolon Comma e = absurd cc
same Semicolon Semicolon e = refl

sign_is : (s : signs.Sign) (k : Kind) → is_sign s k ≡ true → k ≡ Sign s
sign_is s (Sign t) e = ap (λ (u : signs.Sign). Sign u) (same s t e)
sign_is s (Word w) e = absurd cc
sign_is s Digits e = absurd cc
sign_is s Stray e = absurd cc

pub same_self : (s : signs.Sign) → same_sign s s ≡ true
same_self Open = refl
same_self Close = refl
same_self Comma = refl
same_self Semicolon = refl

digits_are : (k : Kind) → is_digits k ≡ true → k ≡ Digits
digits_are Digits e = refl
digits_are (Word w) e = absurd cc
digits_are (Sign s) e = absurd cc
digits_are Stray e = absurd cc

-- ---- the laws

pub name_lawful : Lawful IsName name_at
name_lawful =
    as_lawful (IsToken word_in) IsName name_at (λ ts n h. h.1 ∙ ap (λ (k : Kind). k ∷ []) (name_is h.0 n h.2))
    (token_lawful word_in (record { tokens = Word [] ∷ []; value = []; has = (Word [], refl, refl) }))

pub word_lawful : (keyword : List ℕ) → spells keyword keyword ≡ true → Lawful (IsKeyword keyword) (word_at keyword)
word_lawful keyword self =
    as_lawful (IsToken (passing (is_word keyword))) (IsKeyword keyword) (word_at keyword)
    (λ ts u h. let k = keyword_is keyword h.0 (passes (is_word keyword) h.0 u h.2) in (k.0, h.1 ∙ ap (λ (t : Kind). t ∷ []) k.1, k.2))
    (token_lawful (passing (is_word keyword)) (record { tokens = Word keyword ∷ []; value = tt; has = (Word keyword, refl, ap (λ (b : Bool). if b then Some (tt {0}) else None) self) }))

pub sign_lawful : (s : signs.Sign) → Lawful (IsSign s) (sign_at s)
sign_lawful s =
    as_lawful (IsToken (passing (is_sign s))) (IsSign s) (sign_at s)
    (λ ts u h. h.1 ∙ ap (λ (t : Kind). t ∷ []) (sign_is s h.0 (passes (is_sign s) h.0 u h.2)))
    (token_lawful (passing (is_sign s)) (record { tokens = Sign s ∷ []; value = tt; has = (Sign s, refl, ap (λ (b : Bool). if b then Some (tt {0}) else None) (same_self s)) }))

pub digits_lawful : Lawful IsDigits digits_at
digits_lawful =
    as_lawful (IsToken (passing is_digits)) IsDigits digits_at
    (λ ts u h. h.1 ∙ ap (λ (t : Kind). t ∷ []) (digits_are h.0 (passes is_digits h.0 u h.2)))
    (token_lawful (passing is_digits) (record { tokens = Digits ∷ []; value = tt; has = (Digits, refl, refl) }))

-- ---- what has a token is read from it

pub name_again : Again IsName Any name_at
name_again us n rest h any = inl (rw h refl)

pub word_again : (keyword : List ℕ) → Again (IsKeyword keyword) Any (word_at keyword)
word_again keyword us u rest h any = inl (rw (h.1, h.2) refl)

pub sign_again : (s : signs.Sign) → Again (IsSign s) Any (sign_at s)
sign_again s us u rest h any = inl (rw (h, same_self s) refl)

pub digits_again : Again IsDigits Any digits_at
digits_again us u rest h any = inl (rw h refl)

-- ---- that some tokens have it

pub some_name : Inhabited IsName
some_name = record { tokens = Word [] ∷ []; value = []; has = refl }

pub some_keyword : (keyword : List ℕ) → spells keyword keyword ≡ true → Inhabited (IsKeyword keyword)
some_keyword keyword self = record { tokens = Word keyword ∷ []; value = tt; has = (keyword, refl, self) }

pub some_sign : (s : signs.Sign) → Inhabited (IsSign s)
some_sign s = record { tokens = Sign s ∷ []; value = tt; has = refl }

pub some_digits : Inhabited IsDigits
some_digits = record { tokens = Digits ∷ []; value = tt; has = refl }

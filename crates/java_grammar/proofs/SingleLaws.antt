-- Readers of single tokens keep the laws, and words and signs are told apart.
use Rattle.std.proofs.Common.{◌≡◌, ℕ, Bool, true, false, cond, not, List, Option, Some, None, refl, sym, ap, subst}
use Rattle.std.specs.Str.{bytes_eq}
use Rattle.std.proofs.lemmas.Slice.Eq.{bytes_eq-Decides}
use Rattle.java_lex.specs.declared.token.Token.{Token}
use Rattle.java_lex.specs.declared.token.TokenNode.{TokenNode}
use Rattle.java_lex.specs.declared.token.TokenNode.TheVariants as tokens
use Rattle.java_grammar.specs.Marks.{Tok, nowhere}
use Rattle.java_grammar.specs.Rules.{One, This, Word, Sign, Opening}
use Rattle.java_grammar.specs.Words.{is_name, word_if, by_word}
use Rattle.java_words.specs.Words.{is_among, reserved_words}
use Rattle.java_grammar.specs.Reading.{passing, is_word, is_sign, word_at, sign_at, opening_at}
use Rattle.java_grammar.proofs.Sound.{Sound, one_sound, Held, held_sound, turned_sound}
use Rattle.java_grammar.proofs.Again.{Again, Any, one_again, held_again, turned_again, Heads}

abbrev some : {A : Type 0} → A → Option A
some x = Some x

pub same_bytes : (xs ys : List ℕ) → bytes_eq xs ys ≡ true → xs ≡ ys
same_bytes xs ys e = (bytes_eq-Decides xs ys).0 e

pub bytes_same : (xs : List ℕ) → bytes_eq xs xs ≡ true
bytes_same xs = (bytes_eq-Decides xs xs).1 refl

pub passing_true : (p : TokenNode → Bool) (n : TokenNode) (x : Unit {0}) → passing p n ≡ some x → p n ≡ true
passing_true p n x e = by (p n) e
  where
    by : (b : Bool) → cond b (some tt) None ≡ some x → b ≡ true
    by true h = refl
    by false h = absurd cc

pub is_word_true : (text : List ℕ) (n : TokenNode) → is_word text n ≡ true → n ≡ tokens.Word text
is_word_true text (tokens.Word w) e = ap tokens.Word (same_bytes w text e)
is_word_true text (tokens.Integer v l) e = absurd cc
is_word_true text (tokens.Text t) e = absurd cc
is_word_true text (tokens.Sign s) e = absurd cc

pub is_sign_true : (text : List ℕ) (n : TokenNode) → is_sign text n ≡ true → n ≡ tokens.Sign text
is_sign_true text (tokens.Word w) e = absurd cc
is_sign_true text (tokens.Integer v l) e = absurd cc
is_sign_true text (tokens.Text t) e = absurd cc
is_sign_true text (tokens.Sign s) e = ap tokens.Sign (same_bytes s text e)

pub word_passes : (text : List ℕ) → passing (is_word text) (tokens.Word text) ≡ Some tt
word_passes text = rw (bytes_same text) refl

pub sign_passes : (text : List ℕ) → passing (is_sign text) (tokens.Sign text) ≡ Some tt
sign_passes text = rw (bytes_same text) refl

abbrev pub token_of : TokenNode → Token
token_of n = record { span = nowhere; node = n }

pub word_sound : (text : List ℕ) → Sound (Word text) (word_at text)
word_sound text =
    turned_sound (One (passing (is_word text))) (Word text) (word_at text) (λ us x h. (h.0, h.1, is_word_true text h.0.token.node (passing_true (is_word text) h.0.token.node x h.2)))
    (one_sound (passing (is_word text)) (record { token = token_of (tokens.Word text); value = tt; is = word_passes text }))

pub word_again : (text : List ℕ) → Again (Word text) Any (word_at text)
word_again text = turned_again (One (passing (is_word text))) (Word text) Any (word_at text) (λ us x h. (h.0, h.1, rw h.2 (word_passes text))) (one_again (passing (is_word text)))

pub sign_sound : (text : List ℕ) → Sound (Sign text) (sign_at text)
sign_sound text =
    turned_sound (One (passing (is_sign text))) (Sign text) (sign_at text) (λ us x h. (h.0, h.1, is_sign_true text h.0.token.node (passing_true (is_sign text) h.0.token.node x h.2)))
    (one_sound (passing (is_sign text)) (record { token = token_of (tokens.Sign text); value = tt; is = sign_passes text }))

pub sign_again : (text : List ℕ) → Again (Sign text) Any (sign_at text)
sign_again text = turned_again (One (passing (is_sign text))) (Sign text) Any (sign_at text) (λ us x h. (h.0, h.1, rw h.2 (sign_passes text))) (one_again (passing (is_sign text)))

pub opening_sound : (room : ℕ) (text : List ℕ) → Sound (Opening room text) (opening_at room text)
opening_sound room text =
    turned_sound (Held room (passing (is_sign text))) (Opening room text) (opening_at room text) (λ us x h. (h.0, h.1, is_sign_true text h.0.token.node (passing_true (is_sign text) h.0.token.node x h.2), h.3))
    (held_sound room (passing (is_sign text)) (record { token = token_of (tokens.Sign text); value = tt; is = sign_passes text }))

pub opening_again : (room : ℕ) (text : List ℕ) → Again (Opening room text) Any (opening_at room text)
opening_again room text = turned_again (Held room (passing (is_sign text))) (Opening room text) Any (opening_at room text) (λ us x h. (h.0, h.1, rw h.2 (sign_passes text), h.3)) (held_again (passing (is_sign text)) room)

-- ---- what is at the front

pub this_heads : (node : TokenNode) (p : TokenNode → Bool) (b : Bool) (F : List Tok → Type 0) → p node ≡ b → Heads p b (This node) F
this_heads node p b F is us x rest h follows = rw (h.1, h.2) is

pub opening_heads : (room : ℕ) (text : List ℕ) (p : TokenNode → Bool) (b : Bool) (F : List Tok → Type 0) → p (tokens.Sign text) ≡ b → Heads p b (Opening room text) F
opening_heads room text p b F is us x rest h follows = rw (h.1, h.2) is

-- a word that f takes is a word, and no sign
pub by_word_is : {A : Type 0} (f : List ℕ → Option A) (n : TokenNode) (x : A) → by_word f n ≡ some x → (w : List ℕ) × (n ≡ tokens.Word w) × (f w ≡ some x)
by_word_is f (tokens.Word w) x e = (w, refl, e)
by_word_is f (tokens.Integer v l) x e = absurd cc
by_word_is f (tokens.Text t) x e = absurd cc
by_word_is f (tokens.Sign s) x e = absurd cc

pub word_if_is : (passes : List ℕ → Bool) (n : TokenNode) (w : List ℕ) → word_if passes n ≡ some w → (n ≡ tokens.Word w) × (passes w ≡ true)
word_if_is passes (tokens.Word v) w e = by (passes v) refl e
  where
    by : (b : Bool) → passes v ≡ b → cond b (some v) None ≡ some w → (tokens.Word v ≡ tokens.Word w) × (passes w ≡ true)
    by true is h = let same : v ≡ w = cc in (ap tokens.Word same, subst (λ (u : List ℕ). passes u ≡ true) same is)
    by false is h = absurd cc
word_if_is passes (tokens.Integer v l) w e = absurd cc
word_if_is passes (tokens.Text t) w e = absurd cc
word_if_is passes (tokens.Sign s) w e = absurd cc

-- a name is none of the reserved words
among_later : (w : List ℕ) (texts : List (List ℕ)) (text : List ℕ) → is_among text texts ≡ true → bytes_eq w text ≡ true → is_among w texts ≡ true
among_later w texts text among same = subst (λ (u : List ℕ). is_among u texts ≡ true) (sym (same_bytes w text same)) among

pub no_reserved : (w text : List ℕ) → is_among text reserved_words ≡ true → is_name w ≡ true → bytes_eq w text ≡ false
no_reserved w text among named = by (bytes_eq w text) refl
  where
    by : (b : Bool) → bytes_eq w text ≡ b → b ≡ false
    by true e = let h = among_later w reserved_words text among e in let q : not (is_among w reserved_words) ≡ not true = ap not h in absurd cc
    by false e = refl

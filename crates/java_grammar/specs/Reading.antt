-- Readers from left to right over marked tokens, beside those of any tokens.
use Rattle.std.specs.Prelude.{◌-◌, ℕ, zero, suc, List, [], ◌∷◌, length, take, Bool, false, Option, Some, None, Ok, Err, if◌then◌else◌}
use Rattle.std.specs.Str.{bytes_eq}
use Rattle.qbs_base.specs.declared.span.Span.{Span}
use Rattle.java_lex.specs.declared.token.TokenNode.{TokenNode}
use Rattle.java_lex.specs.declared.token.TokenNode.TheVariants as tokens
use Rattle.readers.specs.declared.fault.Fault.TheVariants.{Unexpected, TooDeep}
use Rattle.readers.specs.Reading.{◌>>=◌, Read, token_at, first_passes, many}
use Rattle.java_grammar.specs.Marks.{Tok, extent}

abbrev pub Reader : Type 0 → Type 0
Reader A = List Tok → Read Tok A

-- one, and then another that goes by the value of the first
abbrev pub then_at : {A B : Type 0} → Reader A → (A → Reader B) → Reader (A × B)
then_at r s ts = r ts >>= λ x. s x.0 x.1 >>= λ y. Ok ((x.0, y.0), y.1)

abbrev pub seq_at : {A B : Type 0} → Reader A → Reader B → Reader (A × B)
seq_at r s ts = then_at r (λ x. s) ts

-- nothing, which is this value
abbrev pub empty_at : {A : Type 0} → A → Reader A
empty_at a ts = Ok (a, ts)

abbrev pub one_at : {A : Type 0} → (TokenNode → Option A) → Reader A
one_at f ts = token_at (λ t. f t.token.node) ts

-- the tokens before the rest
abbrev pub consumed : List Tok → List Tok → List Tok
consumed ts rest = take (length ts - length rest) ts

-- a value made of what is read and of its place
abbrev pub placed_at : {A B : Type 0} → (Span → A → B) → Reader A → Reader B
placed_at f r ts = r ts >>= λ x. Ok (f (extent (consumed ts x.1)) x.0, x.1)

abbrev pub first_is : (TokenNode → Bool) → List Tok → Bool
first_is p ts = first_passes (λ t. p t.token.node) ts

abbrev pub or_at : {A : Type 0} → (TokenNode → Bool) → Reader A → Reader A → Reader A
or_at p r s ts = if first_is p ts then r ts else s ts

-- something opens at the token before, where so many more may
abbrev pub enter : {A : Type 0} → ℕ → A → List Tok → Read Tok A
enter zero a ts = Err (TooDeep (suc (length ts)))
enter (suc room) a ts = Ok (a, ts)

abbrev pub held : {A : Type 0} → ℕ → Option A → List Tok → Read Tok A
held room None ts = Err (Unexpected (suc (length ts)))
held room (Some a) ts = enter room a ts

-- one token, if f accepts it and something may open at it
abbrev pub held_at : {A : Type 0} → ℕ → (TokenNode → Option A) → Reader A
held_at room f [] = Err (Unexpected 0)
held_at room f (t ∷ ts) = held room (f t.token.node) ts

abbrev pub passing : (TokenNode → Bool) → TokenNode → Option (Unit {0})
passing p n = if p n then Some tt else None

abbrev pub is_word : List ℕ → TokenNode → Bool
is_word text (tokens.Word w) = bytes_eq w text
is_word text _ = false

abbrev pub is_sign : List ℕ → TokenNode → Bool
is_sign text (tokens.Sign s) = bytes_eq s text
is_sign text _ = false

abbrev pub word_at : List ℕ → Reader (Unit {0})
word_at text ts = one_at (passing (is_word text)) ts

abbrev pub sign_at : List ℕ → Reader (Unit {0})
sign_at text ts = one_at (passing (is_sign text)) ts

abbrev pub opening_at : ℕ → List ℕ → Reader (Unit {0})
opening_at room text ts = held_at room (passing (is_sign text)) ts

-- ---- chains

-- what follows x, which is read from `from` on, while the next token passes; a step reads one more part
unfoldable pub chain_at : {A : Type 0} → (TokenNode → Bool) → (ℕ → A → Reader (Span → A)) → ℕ → List Tok → A → Reader A
chain_at more step zero from x ts = if first_is more ts then Err (TooDeep (length ts)) else Ok (x, ts)
chain_at more step (suc left) from x ts = if first_is more ts then (step (suc left) x ts >>= λ y. chain_at more step left from (y.0 (extent (consumed from y.1))) y.1) else Ok (x, ts)

-- behind something that no part may follow, or so many
abbrev pub continued : {A : Type 0} → (TokenNode → Bool) → (ℕ → A → Reader (Span → A)) → Option ℕ → List Tok → A → Reader A
continued more step None from x ts = Ok (x, ts)
continued more step (Some left) from x ts = chain_at more step left from x ts

abbrev pub chained_at : {A : Type 0} → (TokenNode → Bool) → (ℕ → A → Reader (Span → A)) → Reader (A × Option ℕ) → Reader A
chained_at more step base ts = base ts >>= λ x. continued more step x.0.1 ts x.0.0 x.1

-- any number of them, up to a token that passes
abbrev pub many_at : {A : Type 0} → (TokenNode → Bool) → Reader A → Reader (List A)
many_at stop r ts = many (λ t. stop t.token.node) r ts

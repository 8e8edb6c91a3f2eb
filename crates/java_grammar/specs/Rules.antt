-- Rules of a grammar: which tokens have which value, by splits of a list of tokens.
use Rattle.std.specs.Prelude.{◌≡◌, ◌⊎◌, ℕ, List, [], ◌∷◌, ◌++◌, Option, Some}
use Rattle.qbs_base.specs.declared.span.Span.{Span}
use Rattle.java_lex.specs.declared.token.TokenNode.{TokenNode}
use Rattle.java_lex.specs.declared.token.TokenNode.TheVariants as tokens
use Rattle.java_grammar.specs.Marks.{Tok, Allows, extent}

abbrev pub Rule : Type 0 → Type 1
Rule A = List Tok → A → Type 0

-- no tokens, and this value
abbrev pub Empty : {A : Type 0} → A → Rule A
Empty a ts x = (ts ≡ []) × (x ≡ a)

-- one token, of which f makes the value
abbrev pub One : {A : Type 0} → (TokenNode → Option A) → Rule A
One f ts x = (t : Tok) × (ts ≡ t ∷ []) × (f t.token.node ≡ Some x)

-- one token, which is this one
abbrev pub This : TokenNode → Rule (Unit {0})
This node ts x = (t : Tok) × (ts ≡ t ∷ []) × (t.token.node ≡ node)

abbrev pub Word : List ℕ → Rule (Unit {0})
Word text = This (tokens.Word text)

abbrev pub Sign : List ℕ → Rule (Unit {0})
Sign text = This (tokens.Sign text)

-- one token, which is this sign and opens something, where so many more may be open
abbrev pub Opening : ℕ → List ℕ → Rule (Unit {0})
Opening room text ts x = (t : Tok) × (ts ≡ t ∷ []) × (t.token.node ≡ tokens.Sign text) × Allows room t

-- one, and then the other
abbrev pub Seq : {A B : Type 0} → Rule A → Rule B → Rule (A × B)
Seq P Q ts x = (us : List _) × (vs : List _) × (ts ≡ us ++ vs) × P us x.0 × Q vs x.1

-- one, and then another that goes by the value of the first
abbrev pub Then : {A B : Type 0} → Rule A → (A → Rule B) → Rule (A × B)
Then P Q ts x = (us : List _) × (vs : List _) × (ts ≡ us ++ vs) × P us x.0 × Q x.0 vs x.1

-- the one or the other
abbrev pub Or : {A : Type 0} → Rule A → Rule A → Rule A
Or P Q ts x = P ts x ⊎ Q ts x

-- a value made of another
abbrev pub Made : {A B : Type 0} → (A → B) → Rule A → Rule B
Made f P ts x = (y : _) × P ts y × (x ≡ f y)

-- a value made of another and of the place of its tokens
abbrev pub Placed : {A B : Type 0} → (Span → A → B) → Rule A → Rule B
Placed f P ts x = (y : _) × P ts y × (x ≡ f (extent ts) y)

-- any number of them
abbrev pub Many : {A : Type 0} → Rule A → Rule (List A)
Many P ts [] = ts ≡ []
Many P ts (x ∷ xs) = (us : List _) × (vs : List _) × (ts ≡ us ++ vs) × P us x × Many P vs xs

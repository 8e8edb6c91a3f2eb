-- What a program goes on with behind a part of a call, and no call of a name among what it goes on with.
use Rattle.std.proofs.Common.{◌≡◌, ℕ, Bool, true, false, List, [], ◌∷◌, ◌++◌, Option, Some, None, refl, sym, ap, subst, ◌∙◌, append_assoc, codes, if◌then◌else◌}
use Rattle.std.specs.Prelude.{pred, map}
use Rattle.java_lex.specs.declared.token.TokenNode.{TokenNode}
use Rattle.java_lex.specs.declared.token.TokenNode.TheVariants as tokens
use Rattle.java_ast.specs.Tree.{Expression, Expressions, PlainProgram}
use Rattle.java_grammar.specs.Marks.{Tok, tokens_of, Allows}
use Rattle.java_grammar.specs.Words.{name_in, variable_in, text_in}
use Rattle.java_grammar.specs.Reading.{is_sign}
use Rattle.java_grammar.specs.Expressions.{QueryOfLong, ranks, query_of_long, HasArguments, called, dotted, HasUnary, parts, operand, HasRank, unary, chain}
use Rattle.java_grammar.specs.Grammar.{HasProgram}
use Rattle.java_grammar.proofs.SingleLaws.{is_sign_true}
use Rattle.call_reader.specs.SpelledOut.{Spot, BehindEquals, Elsewhere, begins_with, if_opened, behind_name, query_or_token}
use Rattle.call_faults.specs.Larger.{marked, spelled_from}
use Rattle.call_faults.proofs.Inner.{none_of}
use Rattle.call_faults.proofs.Heads.{no_call}
use Rattle.call_faults.proofs.Focus.{IsEquals, Focus, Some_of, value_behind}

abbrev pub IsOpen : Tok → Type 0
IsOpen t = is_sign (codes "(") t.token.node ≡ true

-- ---- no calls of names

-- the first token of a call and its parenthesis
record Opened (n : TokenNode) (w : List ℕ) (ts : List Tok) : Type 0 where
  open_sign : Tok
  more : List Tok
  is : ts ≡ open_sign ∷ more
  opens : is_sign (codes "(") open_sign.token.node ≡ true
  variable : variable_in n ≡ Some w

opened_is : (n : TokenNode) (w : List ℕ) (ts : List Tok) → if_opened (begins_with (codes "(") (tokens_of ts)) n ≡ Some w → Opened n w ts
opened_is n w [] e = absurd (let q : none_of (List ℕ) ≡ Some w = e in cc)
opened_is n w (t ∷ ts) e = by (is_sign (codes "(") t.token.node) refl e
  where
    by : (b : Bool) → is_sign (codes "(") t.token.node ≡ b → if_opened b n ≡ Some w → Opened n w (t ∷ ts)
    by true h k = record { open_sign = t; more = ts; is = refl; opens = h; variable = k }
    by false h k = absurd (let q : none_of (List ℕ) ≡ Some w = k in cc)

not_called : (us : List Tok) (e t : Tok) (ts : List Tok) (w : List ℕ) (p : PlainProgram) → HasProgram (us ++ e ∷ t ∷ ts) p → IsEquals e → Opened t.token.node w ts → ⊥
not_called us e t ts w p h eq o =
    let f : Focus (Some_of HasProgram) us e (t ∷ ts) = value_behind us e (t ∷ ts) p h eq in
    no_call f.end f.rest t o.open_sign o.more w f.has f.ends (sym f.parts ∙ ap (λ (xs : List Tok). t ∷ xs) o.is) o.variable o.opens

-- they end in `=`, where that is said
abbrev pub Ends : Bool → List Tok → Type 0
Ends false us = Unit {0}
Ends true us = (vs : List Tok) × (e : Tok) × (us ≡ vs ++ e ∷ []) × IsEquals e

pub ends_with : (b : Bool) (us : List Tok) (t : Tok) → is_sign (codes "=") t.token.node ≡ b → Ends b (us ++ t ∷ [])
ends_with true us t e = (us, t, refl, e)
ends_with false us t e = tt

abbrev pub spot_if : Bool → Spot
spot_if b = if b then BehindEquals else Elsewhere

one_further : (us : List Tok) (t : Tok) (ts : List Tok) (p : PlainProgram) → HasProgram (us ++ t ∷ ts) p → HasProgram ((us ++ t ∷ []) ++ ts) p
one_further us t ts p h = subst (λ (xs : List Tok). HasProgram xs p) (sym (append_assoc us (t ∷ []) ts)) h

behind_equals : (us : List Tok) (t : Tok) (ts : List Tok) (p : PlainProgram) → Ends true us → HasProgram (us ++ t ∷ ts) p → spelled_from (spot_if (is_sign (codes "=") t.token.node)) ts ≡ ts
    → (o : Option (List ℕ)) → if_opened (begins_with (codes "(") (tokens_of ts)) t.token.node ≡ o → map (marked t.strict) (query_or_token o t.token) ++ spelled_from (behind_name o t.token.node) ts ≡ t ∷ ts
behind_equals us t ts p ends h rest None e = ap (λ (xs : List Tok). t ∷ xs) rest
behind_equals us t ts p (vs, e, is, eq) h rest (Some w) o =
    absurd (not_called vs e t ts w p (subst (λ (xs : List Tok). HasProgram xs p) (ap (λ (xs : List Tok). xs ++ t ∷ ts) is ∙ append_assoc vs (e ∷ []) (t ∷ ts)) h) eq (opened_is t.token.node w ts o))

-- what a program goes on with is spelled out as it is
pub stays : (b : Bool) (us ts : List Tok) (p : PlainProgram) → Ends b us → HasProgram (us ++ ts) p → spelled_from (spot_if b) ts ≡ ts
stays true us [] p ends h = refl
stays false us [] p ends h = refl
stays true us (t ∷ ts) p ends h =
    let rest : spelled_from (spot_if (is_sign (codes "=") t.token.node)) ts ≡ ts = stays (is_sign (codes "=") t.token.node) (us ++ t ∷ []) ts p (ends_with (is_sign (codes "=") t.token.node) us t refl) (one_further us t ts p h) in
    behind_equals us t ts p ends h rest (if_opened (begins_with (codes "(") (tokens_of ts)) t.token.node) refl
stays false us (t ∷ ts) p ends h =
    ap (λ (xs : List Tok). t ∷ xs) (stays (is_sign (codes "=") t.token.node) (us ++ t ∷ []) ts p (ends_with (is_sign (codes "=") t.token.node) us t refl) (one_further us t ts p h))

-- ---- number queries

pub lone_rank : {room : ℕ} {us : List Tok} {x : Expression} → HasUnary room us x → HasRank room ranks us x
lone_rank h = chain (operand (chain (operand (chain (operand (chain (operand (chain (operand (chain (operand (unary h))))))))))))

-- = db . queryLong
pub record Call (before tail : List Tok) : Type 0 where
  pub us : List Tok
  pub e : Tok
  pub n : Tok
  pub d : Tok
  pub m : Tok
  pub parts : before ≡ us ++ e ∷ n ∷ d ∷ m ∷ tail
  pub equals : IsEquals e
  pub db : n.token.node ≡ tokens.Word (codes "db")
  pub dot : d.token.node ≡ tokens.Sign (codes ".")
  pub long : m.token.node ≡ tokens.Word (codes "queryLong")

-- db . queryLong ( text arguments )
abbrev pub query : {before tail : List Tok} → Call before tail → Tok → Tok → List Tok → Tok → List Tok
query c o text args close = c.n ∷ c.d ∷ c.m ∷ o ∷ text ∷ (args ++ close ∷ [])

pub has_query : {before tail : List Tok} (c : Call before tail) (room : ℕ) (o text : Tok) (name : List ℕ) (args : List Tok) (es : Expressions) (close : Tok) → is_sign (codes "(") o.token.node ≡ true → Allows room o → text_in text.token.node ≡ Some name
    → HasArguments (pred room) args es → close.token.node ≡ tokens.Sign (codes ")") → (x : Expression) × HasRank room ranks (query c o text args close) x
has_query c room o text name args es close opens allows is_text has closes = (
  _,
  lone_rank (parts (dotted {w = codes "db"} {m = codes "queryLong"} {us = c.n ∷ []} {vs = c.d ∷ []} {ws = c.m ∷ []} {zs = (o ∷ []) ++ (((text ∷ []) ++ args) ++ close ∷ [])}
      (c.n, refl, ap variable_in c.db) (c.d, refl, c.dot) (c.m, refl, ap name_in c.long)
      (called {c = QueryOfLong} {us = o ∷ []} {vs = (text ∷ []) ++ args} {ws = close ∷ []} refl (o, refl, is_sign_true (codes "(") o.token.node opens, allows) (query_of_long {text = name} {us = text ∷ []} (text, refl, is_text) has) (close, refl, closes)))),
)

-- the tokens before are those of a program as far as they go
abbrev pub Goes : Spot → List Tok → Type 0
Goes spot us = (more : List Tok) × (p : PlainProgram) × HasProgram (us ++ spelled_from spot more) p

-- with another value behind `=`
module _ {before tail : List Tok} (c : Call before tail) (more : List Tok) (p : PlainProgram) (h : HasProgram (before ++ more) p) where
  pub focus : Focus (Some_of HasProgram) c.us c.e (c.n ∷ c.d ∷ c.m ∷ (tail ++ more))
  focus = value_behind c.us c.e (c.n ∷ c.d ∷ c.m ∷ (tail ++ more)) p (subst (λ (xs : List Tok). HasProgram xs p) (ap (λ (xs : List Tok). xs ++ more) c.parts ∙ append_assoc c.us (c.e ∷ c.n ∷ c.d ∷ c.m ∷ tail) more) h) c.equals

-- Tokens that are spelled out have the places of those in whose place they stand.
use Rattle.std.proofs.Common.{◌≡◌, ℕ, zero, suc, ◌-◌, ◌<◌, ◌≤◌, Bool, true, false, List, [], ◌∷◌, ◌++◌, length, Option, Some, None, refl, sym, ap, ◌∙◌, arith, if◌then◌else◌}
use Rattle.std.specs.Prelude.{slice_get, codes, nat_lt}
use Rattle.std.proofs.lemmas.Bool.{ltb-true, ltb-false}
use Rattle.std.proofs.lemmas.Option.{slice_get_past}
use Rattle.qbs_base.specs.declared.span.Span.{Span}
use Rattle.java_lex.specs.declared.token.Token.{Token}
use Rattle.java_lex.specs.declared.token.TokenNode.TheVariants.{Sign}
use Rattle.java_grammar.specs.Reading.{is_sign}
use Rattle.java_parser.specs.Kept.{place_or}
use Rattle.call_reader.specs.SpelledOut.{Spot, BehindEquals, BehindName, InCall, BehindCall, Elsewhere, begins_with, called, behind, token_at, comma_unless, query_or_token, in_place, spelled_from, number_from}

abbrev AllAt : Span → List Token → Type 0
AllAt at [] = Unit {0}
AllAt at (t ∷ ts) = (t.span ≡ at) × AllAt at ts

comma_at : (b : Bool) (at : Span) → AllAt at (comma_unless b at)
comma_at true at = tt
comma_at false at = (refl, tt)

ending_at : (b : Bool) (t : Token) → AllAt t.span (if b then t ∷ [] else token_at t.span (Sign (codes "{")) ∷ [])
ending_at true t = (refl, tt)
ending_at false t = (refl, tt)

query_at : (name : Option (List ℕ)) (t : Token) → AllAt t.span (query_or_token name t)
query_at (Some name) t = (refl, (refl, (refl, tt)))
query_at None t = (refl, tt)

in_place_at : (spot : Spot) (t : Token) (rest : List Token) → AllAt t.span (in_place spot t rest)
in_place_at BehindEquals t rest = query_at (called BehindEquals t.node rest) t
in_place_at (BehindName name) t rest = (refl, (refl, comma_at (begins_with (codes ")") rest) t.span))
in_place_at (InCall more) t rest = (refl, tt)
in_place_at BehindCall t rest = ending_at (is_sign (codes ";") t.node) t
in_place_at Elsewhere t rest = (refl, tt)

-- ---- numbers in lists that are joined

in_front : (end at : Span) (us more : List Token) (n : ℕ) → n < length us → AllAt at us → place_or end (slice_get (us ++ more) n) ≡ at
in_front end at [] more n h all = absurd (omega (arith, h))
in_front end at (u ∷ us) more zero h all = all.0
in_front end at (u ∷ us) more (suc n) h all = in_front end at us more n (omega (arith, h)) all.1

behind_front : (us more : List Token) (n : ℕ) → length us ≤ n → slice_get (us ++ more) n ≡ slice_get more (n - length us)
behind_front [] more n h = let e : n ≡ n - length {A = Token} [] = omega arith in ap (λ (k : ℕ). slice_get more k) e
behind_front (u ∷ us) more zero h = absurd (omega (arith, h))
behind_front (u ∷ us) more (suc n) h =
    let e : n - length us ≡ suc n - length (u ∷ us) = omega arith in
    behind_front us more n (omega (arith, h)) ∙ ap (λ (k : ℕ). slice_get more k) e

-- ---- places

by_number : (b : Bool) (end at : Span) (t : Token) (us more ts : List Token) (n next : ℕ) → nat_lt n (length us) ≡ b → t.span ≡ at → AllAt at us
    → place_or end (slice_get more (n - length us)) ≡ place_or end (slice_get ts next)
    → place_or end (slice_get (us ++ more) n) ≡ place_or end (slice_get (t ∷ ts) (if b then 0 else suc next))
by_number true end at t us more ts n next e is all rest = in_front end at us more n (ltb-true n (length us) e) all ∙ sym is
by_number false end at t us more ts n next e is all rest = ap (λ (o : Option Token). place_or end o) (behind_front us more n (ltb-false n (length us) e)) ∙ rest

pub place_same : (end : Span) (spot : Spot) (ts : List Token) (n : ℕ) → place_or end (slice_get (spelled_from spot ts) n) ≡ place_or end (slice_get ts (number_from spot ts n))
place_same end spot [] n = ap (λ (o : Option Token). place_or end o) (slice_get_past [] n (omega arith))
place_same end spot (t ∷ ts) n =
    by_number (nat_lt n (length (in_place spot t ts))) end t.span t (in_place spot t ts) (spelled_from (behind spot t.node ts) ts) ts n
    (number_from (behind spot t.node ts) ts (n - length (in_place spot t ts))) refl refl (in_place_at spot t ts)
    (place_same end (behind spot t.node ts) ts (n - length (in_place spot t ts)))

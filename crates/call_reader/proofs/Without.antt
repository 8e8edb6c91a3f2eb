-- Tokens without calls are spelled out as they are.
use Rattle.std.proofs.Common.{◌≡◌, ℕ, Bool, true, false, ◌&&◌, ◌||◌, List, [], ◌∷◌, ◌++◌, Option, Some, None, refl, ap, if◌then◌else◌}
use Rattle.std.specs.Prelude.{codes, is_some}
use Rattle.java_lex.specs.declared.token.Token.{Token}
use Rattle.java_grammar.specs.Reading.{is_sign}
use Rattle.call_reader.specs.SpelledOut.{BehindEquals, Elsewhere, begins_with, if_opened, behind_other, behind_name, query_or_token, begins_call, has_call, spelled_from, spelled_out}

none_of : (p q : Bool) → p || q ≡ false → (p ≡ false) × (q ≡ false)
none_of true q e = absurd cc
none_of false q e = (refl, e)

no_name : (name : Option (List ℕ)) (t : Token) (ts : List Token) → is_some name ≡ false → spelled_from (behind_other t.node) ts ≡ ts
    → query_or_token name t ++ spelled_from (behind_name name t.node) ts ≡ t ∷ ts
no_name (Some name) t ts e h = absurd cc
no_name None t ts e h = ap (λ (us : List Token). t ∷ us) h

-- behind `=` or elsewhere
stay_from : (equals : Bool) (ts : List Token) → (equals && begins_call ts) || has_call ts ≡ false → spelled_from (if equals then BehindEquals else Elsewhere) ts ≡ ts
stay_from true [] h = refl
stay_from false [] h = refl
stay_from true (t ∷ ts) h =
    let s : (begins_call (t ∷ ts) ≡ false) × (has_call (t ∷ ts) ≡ false) = none_of (begins_call (t ∷ ts)) (has_call (t ∷ ts)) h in
    no_name (if_opened (begins_with (codes "(") ts) t.node) t ts s.0 (stay_from (is_sign (codes "=") t.node) ts s.1)
stay_from false (t ∷ ts) h = ap (λ (us : List Token). t ∷ us) (stay_from (is_sign (codes "=") t.node) ts h)

pub stay : (ts : List Token) → has_call ts ≡ false → spelled_out ts ≡ ts
stay ts h = stay_from false ts h

-- Three tokens behind others, one after the other.
use Rattle.std.proofs.Common.{◌≡◌, List, [], ◌∷◌, ◌++◌, refl, sym, ap, ◌∙◌, append_assoc}
use Rattle.java_lex.specs.declared.token.Token.{Token}

pub three : (old first second new : List Token) (a b c : Token) → first ≡ old ++ a ∷ [] → second ≡ first ++ b ∷ [] → new ≡ second ++ c ∷ [] → new ≡ old ++ a ∷ b ∷ c ∷ []
three old first second new a b c e f g =
    g ∙ ap (λ (us : List Token). us ++ c ∷ []) (f ∙ ap (λ (us : List Token). us ++ b ∷ []) e)
    ∙ append_assoc (old ++ a ∷ []) (b ∷ []) (c ∷ []) ∙ append_assoc old (a ∷ []) (b ∷ c ∷ [])

-- Directions of keys, by what stands behind each key.
use Rattle.std.proofs.Common.{◌≡◌, ℕ, ◌+◌, ◌<◌, Bool, true, false, not, List, [], ◌∷◌, ◌++◌, length, get_or, drop, Option, Some, None, refl, sym, ap, ◌∙◌, append_assoc}
use Rattle.std.proofs.lemmas.List.{drop_more}
use Rattle.java_grammar.specs.Statements.{is_turned, keys_in, downs_in}

-- a truth value, turned round or not
abbrev pub turned_with : Bool → Bool → Bool
turned_with true b = not b
turned_with false b = b

turned_twice : (b : Bool) → not (not b) ≡ b
turned_twice true = refl
turned_twice false = refl

pub turned_end : (b : Bool) → turned_with b false ≡ b
turned_end true = refl
turned_end false = refl

turned_on : (b c : Bool) → turned_with (not b) c ≡ turned_with b (not c)
turned_on true c = sym (turned_twice c)
turned_on false c = refl

module _ (parts : List (Option (List ℕ))) (i : ℕ) (item : Option (List ℕ)) (lt : i < length parts) (is : item ≡ get_or parts i item) where
  here : drop i parts ≡ item ∷ drop (i + 1) parts
  here = drop_more parts i item lt ∙ ap (λ (x : Option (List ℕ)). x ∷ drop (i + 1) parts) (sym is)

  pub turned_round : (turned : Bool) → item ≡ None → turned_with turned (is_turned (drop i parts)) ≡ is_turned parts → turned_with (not turned) (is_turned (drop (i + 1) parts)) ≡ is_turned parts
  turned_round turned none so_far = turned_on turned (is_turned (drop (i + 1) parts)) ∙ ap (λ (fs : List (Option (List ℕ))). turned_with turned (is_turned fs)) (sym (here ∙ ap (λ (x : Option (List ℕ)). x ∷ drop (i + 1) parts) none)) ∙ so_far

  pub turned_not : (turned : Bool) (key : List ℕ) → item ≡ Some key → turned_with turned (is_turned (drop i parts)) ≡ is_turned parts → turned_with turned (is_turned (drop (i + 1) parts)) ≡ is_turned parts
  turned_not turned key some so_far = ap (λ (fs : List (Option (List ℕ))). turned_with turned (is_turned fs)) (sym (here ∙ ap (λ (x : Option (List ℕ)). x ∷ drop (i + 1) parts) some)) ∙ so_far

  pub down_round : (turned : Bool) → item ≡ None → turned ≡ is_turned (drop i parts) → not turned ≡ is_turned (drop (i + 1) parts)
  down_round turned none so_far = ap not (so_far ∙ ap is_turned (here ∙ ap (λ (x : Option (List ℕ)). x ∷ drop (i + 1) parts) none)) ∙ turned_twice (is_turned (drop (i + 1) parts))

  pub keys_round : item ≡ None → keys_in (drop i parts) ≡ keys_in (drop (i + 1) parts)
  keys_round none = ap keys_in (here ∙ ap (λ (x : Option (List ℕ)). x ∷ drop (i + 1) parts) none)

  pub downs_round : item ≡ None → downs_in (drop i parts) ≡ downs_in (drop (i + 1) parts)
  downs_round none = ap downs_in (here ∙ ap (λ (x : Option (List ℕ)). x ∷ drop (i + 1) parts) none)

  pub down_key : (turned : Bool) (key : List ℕ) → item ≡ Some key → turned ≡ is_turned (drop i parts) → turned ≡ is_turned (drop (i + 1) parts)
  down_key turned key some so_far = so_far ∙ ap is_turned (here ∙ ap (λ (x : Option (List ℕ)). x ∷ drop (i + 1) parts) some)

  pub keys_more : (keys : List (List ℕ)) (key : List ℕ) → item ≡ Some key → keys ++ keys_in (drop i parts) ≡ (keys ++ key ∷ []) ++ keys_in (drop (i + 1) parts)
  keys_more keys key some = ap (λ (fs : List (Option (List ℕ))). keys ++ keys_in fs) (here ∙ ap (λ (x : Option (List ℕ)). x ∷ drop (i + 1) parts) some) ∙ sym (append_assoc keys (key ∷ []) (keys_in (drop (i + 1) parts)))

  pub downs_more : (downs : List Bool) (turned : Bool) (key : List ℕ) → item ≡ Some key → turned ≡ is_turned (drop i parts) → downs ++ downs_in (drop i parts) ≡ (downs ++ turned ∷ []) ++ downs_in (drop (i + 1) parts)
  downs_more downs turned key some now =
      ap (λ (fs : List (Option (List ℕ))). downs ++ downs_in fs) (here ∙ ap (λ (x : Option (List ℕ)). x ∷ drop (i + 1) parts) some)
      ∙ ap (λ (b : Bool). downs ++ b ∷ downs_in (drop (i + 1) parts)) (sym (down_key turned key some now))
      ∙ sym (append_assoc downs (turned ∷ []) (downs_in (drop (i + 1) parts)))

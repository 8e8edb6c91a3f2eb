-- The names of the tokens, one token after the other.
use Rattle.std.proofs.Common.{◌≡◌, ℕ, ◌<◌, ◌≤◌, List, [], ◌∷◌, ◌++◌, length, Bool, true, false, cond, Option, Some, None, refl, sym, ap, ◌∙◌, arith}
use Rattle.std.specs.Option.{is_some}
use Rattle.std.proofs.lemmas.Bool.{le-ltb, lt-ltb}
use Rattle.readers.specs.Reading.{option_cases}
use Rattle.qbs_base.specs.declared.span.Span.{Span}
use Rattle.schema.specs.declared.token.Token.{Token}
use Rattle.schema.specs.declared.names.Where.{Where}
use Rattle.schema.specs.declared.names.Role.{Role}
use Rattle.schema.specs.declared.names.Seen.{Seen}
use Rattle.schema.specs.declared.fault.SchemaRule.{SchemaRule}
use Rattle.schema.specs.declared.fault.SchemaFault.{SchemaFault}
use Rattle.schema.specs.Naming.{Declared, next_where, role_of, declares, declared_before, seen_with, broken_by, first_broken}

pub nothing_declared : (s : Seen) (o : Option (Role × List ℕ)) (span : Span) (ds : List Declared) → o ≡ None → first_broken s (declares o span ++ ds) ≡ first_broken s ds
nothing_declared s o span ds e = rw e refl

pub breaks_none : (s after : Seen) (o : Option (Role × List ℕ)) (role : Role) (name : List ℕ) (span : Span) (ds : List Declared)
    → o ≡ Some (role, name) → broken_by s role name ≡ None → after ≡ seen_with s role name → first_broken s (declares o span ++ ds) ≡ first_broken after ds
unfolding first_broken
breaks_none s after o role name span ds e none is = rw (e, none, is) refl

pub breaks : (s : Seen) (o : Option (Role × List ℕ)) (role : Role) (name : List ℕ) (span : Span) (rule : SchemaRule) (ds : List Declared)
    → o ≡ Some (role, name) → broken_by s role name ≡ Some rule → first_broken s (declares o span ++ ds) ≡ Some (record { rule = rule; at = span })
unfolding first_broken
breaks s o role name span rule ds e is = rw (e, is) refl

-- what the first token leaves to be judged where it isn't among the last n, and where judging it gave a fault or not
module _ (n : ℕ) (s new : Seen) (w : Where) (t : Token) (ts after : List Token) (fault total : Option SchemaFault) (parts : ts ≡ t ∷ after) (within : n ≤ length after)
    (judged : (ds : List Declared) → first_broken s (declares (role_of w t.kind after) t.at ++ ds) ≡ option_cases fault (first_broken new ds) (λ f. Some f)) (so_far : first_broken s (declared_before n w ts) ≡ total) where
  step : option_cases fault (first_broken new (declared_before n (next_where w t.kind) after)) (λ f. Some f) ≡ total
  unfolding declared_before
  step =
      sym (judged (declared_before n (next_where w t.kind) after))
      ∙ ap (λ (b : Bool). first_broken s (cond b [] (declares (role_of w t.kind after) t.at ++ declared_before n (next_where w t.kind) after))) (sym (le-ltb (length after) n within))
      ∙ ap (λ (us : List Token). first_broken s (declared_before n w us)) (sym parts)
      ∙ so_far

  pub goes_on : is_some fault ≡ false → first_broken new (declared_before n (next_where w t.kind) after) ≡ total
  goes_on none = by_fault fault none step
    where
      by_fault : (o : Option SchemaFault) → is_some o ≡ false → option_cases o (first_broken new (declared_before n (next_where w t.kind) after)) (λ f. Some f) ≡ total → first_broken new (declared_before n (next_where w t.kind) after) ≡ total
      by_fault None none e = e
      by_fault (Some f) none e = absurd cc

  pub stops : is_some fault ≡ true → fault ≡ total
  stops some = by_fault fault some step
    where
      by_fault : (o : Option SchemaFault) → is_some o ≡ true → option_cases o (first_broken new (declared_before n (next_where w t.kind) after)) (λ f. Some f) ≡ total → o ≡ total
      by_fault None some e = absurd cc
      by_fault (Some f) some e = e

-- the last n tokens are left aside
pub is_left : (n : ℕ) (s : Seen) (w : Where) (t : Token) (ts after : List Token) (total : Option SchemaFault) → ts ≡ t ∷ after → length after < n → first_broken s (declared_before n w ts) ≡ total → None ≡ total
unfolding declared_before first_broken
is_left n s w t ts after total parts past so_far =
    ap (λ (b : Bool). first_broken s (cond b [] (declares (role_of w t.kind after) t.at ++ declared_before n (next_where w t.kind) after))) (sym (lt-ltb (length after) n past))
    ∙ ap (λ (us : List Token). first_broken s (declared_before n w us)) (sym parts)
    ∙ so_far

pub ends : (n : ℕ) (s : Seen) (w : Where) (ts : List Token) (total : Option SchemaFault) → length ts ≡ 0 → first_broken s (declared_before n w ts) ≡ total → None ≡ total
unfolding declared_before first_broken
ends n s w [] total e so_far = so_far
ends n s w (t ∷ ts) total e so_far = absurd (omega arith)

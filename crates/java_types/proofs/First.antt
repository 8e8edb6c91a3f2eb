-- The fault that is kept in the end is a least one.
use Rattle.std.proofs.Common.{◌≡◌, ℕ, List, [], ◌∷◌, Bool, true, false, ◌&&◌, ◌⊎◌, refl, sym, ap, ◌∙◌, Option, Some, None, inl, inr, nat_lt, nat_eq, arith}
use Rattle.std.specs.Prelude.{if◌then◌else◌}
use Rattle.std.proofs.lemmas.Bool.Decides.{nat_tests}
use Rattle.java_mean.specs.declared.rule.TypeFault.{TypeFault}
use Rattle.java_mean.specs.RuleNames.{rule_number}
use Rattle.java_mean.specs.WellTyped.{is_before, Has, IsLeast, NoneBefore}
use Rattle.java_mean.specs.Least.{least}

abbrev lex : ℕ → ℕ → ℕ → ℕ → Bool
lex a r b s = if nat_lt a b then true else (nat_eq a b && nat_lt r s)

-- h before g, and h not before f: g is not before f
lex_less : (a r b s c t : ℕ) → lex a r b s ≡ true → lex a r c t ≡ false → lex b s c t ≡ false
lex_less a r b s c t p q = grind (arith, nat_tests)

-- h not before g, g not before f: h is not before f
lex_more : (a r b s c t : ℕ) → lex a r b s ≡ false → lex b s c t ≡ false → lex a r c t ≡ false
lex_more a r b s c t p q = grind (arith, nat_tests)

record From (g f : TypeFault) (fs : List TypeFault) : Type 0 where
  member : (f ≡ g) ⊎ Has f fs
  start : is_before g f ≡ false
  first : NoneBefore f fs

not_itself : (f : TypeFault) → is_before f f ≡ false
not_itself f = grind (arith, nat_tests)

-- of a first fault g and a next one h
chosen : (b : Bool) (g h f : TypeFault) (hs : List TypeFault) → is_before h g ≡ b → From (if b then h else g) f hs → From g f (h ∷ hs)
chosen true g h f hs p i = record {
  member = inr i.member;
  start = lex_less h.at.start (rule_number h.rule) g.at.start (rule_number g.rule) f.at.start (rule_number f.rule) p i.start;
  first = (i.start, i.first);
}
chosen false g h f hs p i = record {
  member = elim i.member [ inl e ↦ inl e | inr m ↦ inr (inr m) ];
  start = i.start;
  first = (lex_more h.at.start (rule_number h.rule) g.at.start (rule_number g.rule) f.at.start (rule_number f.rule) p i.start, i.first);
}

some_if : (b : Bool) (h g : TypeFault) → (if b then Some h else Some g) ≡ Some (if b then h else g)
some_if true h g = refl
some_if false h g = refl

from_some : (g f : TypeFault) (fs : List TypeFault) → least (Some g) fs ≡ Some f → From g f fs
from_some g f [] p = let e : f ≡ g = cc in record { member = inl e; start = rw e (not_itself g); first = tt }
from_some g f (h ∷ hs) p = chosen (is_before h g) g h f hs refl (from_some (if is_before h g then h else g) f hs (ap (λ (k : Option TypeFault). least k hs) (sym (some_if (is_before h g) h g)) ∙ p))

none_left : (g : TypeFault) (fs : List TypeFault) → least (Some g) fs ≡ None → ⊥
none_left g [] p = absurd cc
none_left g (h ∷ hs) p = none_left (if is_before h g then h else g) hs (ap (λ (k : Option TypeFault). least k hs) (sym (some_if (is_before h g) h g)) ∙ p)

pub kept_none : (fs : List TypeFault) → None ≡ least None fs → fs ≡ []
kept_none [] p = refl
kept_none (f ∷ fs) p = absurd (none_left f fs (sym p))

pub kept_some : (f : TypeFault) (fs : List TypeFault) → Some f ≡ least None fs → IsLeast f fs
kept_some f [] p = absurd cc
kept_some f (g ∷ gs) p = let i : From g f gs = from_some g f gs (sym p) in record { member = i.member; first = (i.start, i.first) }

pub ruleset kept_last = (kept_none, kept_some)

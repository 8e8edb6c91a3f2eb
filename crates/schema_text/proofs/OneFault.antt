-- One text has one fault, and none where it has a schema.
use Rattle.std.proofs.Common.{◌≡◌, ℕ, ◌<◌, ◌≤◌, Bool, true, false, cond, List, [], ◌∷◌, ◌++◌, length, Option, Some, None, refl, sym, ap, ap₂, subst, ◌∙◌, append_assoc, arith, inl, inr}
use Rattle.std.specs.Prelude.{nat_lt}
use Rattle.std.proofs.lemmas.Bool.{le-ltb, ltb-false, ltb-true}
use Rattle.std.proofs.lemmas.List.{length-append, length-map, map-append}
use Rattle.readers.specs.Reading.{BeginsOne, IsFirstFault, option_cases}
use Rattle.qbs_base.specs.declared.span.Span.{Span}
use Rattle.qbs_base.specs.declared.columns.Table.{Table}
use Rattle.schema.specs.declared.token.Kind.{Kind}
use Rattle.schema.specs.declared.token.Token.{Token}
use Rattle.schema.specs.declared.names.Where.{Where}
use Rattle.schema.specs.declared.names.Where.TheVariants.{Create}
use Rattle.schema.specs.declared.names.Role.{Role}
use Rattle.schema.specs.declared.names.Seen.{Seen}
use Rattle.schema.specs.declared.fault.SchemaRule.{SchemaRule}
use Rattle.schema.specs.declared.fault.SchemaFault.{SchemaFault}
use Rattle.schema.specs.Tokens.{tokens_of, kinds_of, end_of}
use Rattle.schema.specs.Grammar.{HasSchema}
use Rattle.schema.specs.Rules.{IsSchema}
use Rattle.schema.specs.Naming.{next_where, role_of, Declared, declares, declared_before, nothing_seen, seen_with, broken_by, first_broken}
use Rattle.schema.specs.Schemas.{last_from, first_span}
use Rattle.schema.specs.Faults.{IsBadToken, IsBadName, IsFaultOf}
use Rattle.schema_text.proofs.Soundness.{unbroken}

same_some : (f g : SchemaFault) → Some f ≡ Some g → f ≡ g
same_some f g e = cc

-- ---- the first broken name of a longer front is that of a shorter one

-- What a rule says of a first name and the names behind it, where of those behind it the same is said.
judged_alike : (s : Seen) (r : Role) (name : List ℕ) (at : Span) (ds es : List Declared) (f : SchemaFault) (o : Option SchemaRule)
    → (first_broken (seen_with s r name) ds ≡ Some f → first_broken (seen_with s r name) es ≡ Some f)
    → option_cases o (first_broken (seen_with s r name) ds) (λ rule. Some (record { rule = rule; at = at })) ≡ Some f
    → option_cases o (first_broken (seen_with s r name) es) (λ rule. Some (record { rule = rule; at = at })) ≡ Some f
judged_alike s r name at ds es f None behind h = behind h
judged_alike s r name at ds es f (Some rule) behind h = h

declared_alike : (s : Seen) (o : Option (Role × List ℕ)) (at : Span) (ds es : List Declared) (f : SchemaFault)
    → ((t : Seen) → first_broken t ds ≡ Some f → first_broken t es ≡ Some f)
    → first_broken s (declares o at ++ ds) ≡ Some f → first_broken s (declares o at ++ es) ≡ Some f
unfolding first_broken
declared_alike s None at ds es f behind h = behind s h
declared_alike s (Some (r, name)) at ds es f behind h = judged_alike s r name at ds es f (broken_by s r name) (behind (seen_with s r name)) h

first_alike : (n m : ℕ) → m ≤ n → (s : Seen) (w : Where) (t : Token) (ts : List Token) (f : SchemaFault) (b : Bool) → nat_lt (length ts) n ≡ b
    → ((u : Seen) → first_broken u (declared_before n (next_where w t.kind) ts) ≡ Some f → first_broken u (declared_before m (next_where w t.kind) ts) ≡ Some f)
    → first_broken s (cond b [] (declares (role_of w t.kind ts) t.at ++ declared_before n (next_where w t.kind) ts)) ≡ Some f
    → first_broken s (cond (nat_lt (length ts) m) [] (declares (role_of w t.kind ts) t.at ++ declared_before m (next_where w t.kind) ts)) ≡ Some f
unfolding first_broken
first_alike n m le s w t ts f true is behind h = absurd cc
first_alike n m le s w t ts f false is behind h =
    let here : n ≤ length ts = ltb-false (length ts) n is in
    let inside : nat_lt (length ts) m ≡ false = le-ltb (length ts) m (omega (arith, here, le)) in
    ap (λ (b : Bool). first_broken s (cond b [] (declares (role_of w t.kind ts) t.at ++ declared_before m (next_where w t.kind) ts))) inside
    ∙ declared_alike s (role_of w t.kind ts) t.at (declared_before n (next_where w t.kind) ts) (declared_before m (next_where w t.kind) ts) f behind h

first_stays : (n m : ℕ) → m ≤ n → (s : Seen) (w : Where) (ts : List Token) (f : SchemaFault) → first_broken s (declared_before n w ts) ≡ Some f → first_broken s (declared_before m w ts) ≡ Some f
unfolding declared_before first_broken
first_stays n m le s w [] f e = absurd cc
first_stays n m le s w (t ∷ ts) f e = first_alike n m le s w t ts f (nat_lt (length ts) n) refl (λ u. first_stays n m le u (next_where w t.kind) ts f) e

-- ---- no front reaches past the first fault

-- of two ways to cut a list, the one that leaves less goes on behind the other
record Further (xs ys zs us : List Kind) : Type 0 where
  first : Kind
  more : List Kind
  goes_on : ys ≡ xs ++ first ∷ more
  was : zs ≡ first ∷ more ++ us

cut : (xs ys zs us : List Kind) → xs ++ zs ≡ ys ++ us → length us < length zs → Further xs ys zs us
cut [] [] zs us e lt = absurd (omega (arith, lt, ap length e))
cut [] (y ∷ ys) zs us e lt = record { first = y; more = ys; goes_on = refl; was = e }
cut (x ∷ xs) [] zs us e lt = absurd (omega (arith, lt, ap length e, length-append xs zs))
cut (x ∷ xs) (y ∷ ys) zs us e lt =
    let head : x ≡ y = let k = e in cc in
    let tail : xs ++ zs ≡ ys ++ us = let k = e in cc in
    let f = cut xs ys zs us tail lt in
    record { first = f.first; more = f.more; goes_on = ap (λ (k : Kind). k ∷ ys) (sym head) ∙ ap (λ (ks : List Kind). x ∷ ks) f.goes_on; was = f.was }

reaches : (ks front rest : List Kind) (n : ℕ) → IsFirstFault HasSchema ks n → ks ≡ front ++ rest → BeginsOne HasSchema front → n ≤ length rest
reaches ks front rest n fault parts begins = by (nat_lt (length rest) n) refl
  where
    past : length rest < n → n ≤ length rest
    past lt =
        let f = cut fault.front front fault.rest rest (sym fault.parts ∙ parts) (omega (arith, lt, fault.left)) in
        let longer : front ≡ (fault.front ++ f.first ∷ []) ++ f.more = f.goes_on ∙ sym (append_assoc fault.front (f.first ∷ []) f.more) in
        let all : front ++ begins.0 ≡ (fault.front ++ f.first ∷ []) ++ (f.more ++ begins.0) = ap (λ (us : List Kind). us ++ begins.0) longer ∙ append_assoc (fault.front ++ f.first ∷ []) f.more begins.0 in
        absurd (fault.none_goes_on f.first (f.more ++ rest) f.was (f.more ++ begins.0, begins.1, subst (λ (us : List Kind). HasSchema us begins.1) all begins.2))

    by : (b : Bool) → nat_lt (length rest) n ≡ b → n ≤ length rest
    by true is = past (ltb-true (length rest) n is)
    by false is = ltb-false (length rest) n is

-- the tokens that a front leaves, as kinds
kinds_parts : (ts front rest : List Token) → ts ≡ front ++ rest → kinds_of ts ≡ kinds_of front ++ kinds_of rest
kinds_parts ts front rest parts = ap kinds_of parts ∙ map-append (λ (t : Token). t.kind) front rest

within : (text : List ℕ) (f g : SchemaFault) (a : IsBadToken text f) (b : IsBadName text g) → a.left ≤ length b.rest
within text f g a b =
    let le = reaches (kinds_of (tokens_of text)) (kinds_of b.front) (kinds_of b.rest) a.left a.first (kinds_parts (tokens_of text) b.front b.rest b.parts) b.begins in
    omega (arith, le, length-map b.rest (λ (t : Token). t.kind))

-- ---- one fault

never_both : (text : List ℕ) (f g : SchemaFault) → IsBadToken text f → IsBadName text g → ⊥
never_both text f g a b =
    let broken = first_stays (length b.rest) a.left (within text f g a b) nothing_seen Create (tokens_of text) g b.first in
    let none = a.unbroken in
    absurd cc

same_names : (text : List ℕ) (f g : SchemaFault) → IsBadName text f → IsBadName text g → f ≡ g
same_names text f g a b = by (nat_lt (length a.rest) (length b.rest)) refl
  where
    by : (t : Bool) → nat_lt (length a.rest) (length b.rest) ≡ t → f ≡ g
    by true is =
        let le : length a.rest ≤ length b.rest = omega (arith, ltb-true (length a.rest) (length b.rest) is) in
        same_some f g (sym a.first ∙ first_stays (length b.rest) (length a.rest) le nothing_seen Create (tokens_of text) g b.first)
    by false is =
        let le : length b.rest ≤ length a.rest = ltb-false (length a.rest) (length b.rest) is in
        same_some f g (sym (first_stays (length a.rest) (length b.rest) le nothing_seen Create (tokens_of text) f a.first) ∙ b.first)

front_begins : (ks : List Kind) (n : ℕ) (h : IsFirstFault HasSchema ks n) → BeginsOne HasSchema h.front
front_begins ks n h = h.begins

same_left : (ks : List Kind) (m n : ℕ) → IsFirstFault HasSchema ks m → IsFirstFault HasSchema ks n → m ≡ n
same_left ks m n a b =
    let one = reaches ks b.front b.rest m a b.parts b.begins in
    let two = reaches ks a.front a.rest n b a.parts a.begins in
    omega (arith, one, two, a.left, b.left)

same_places : (f g : SchemaFault) → f.rule ≡ g.rule → f.at ≡ g.at → f ≡ g
same_places f g e h = ap₂ (λ (x : SchemaRule) (y : Span). record { rule = x; at = y }) e h

same_tokens : (text : List ℕ) (f g : SchemaFault) → IsBadToken text f → IsBadToken text g → f ≡ g
same_tokens text f g a b =
    let left = same_left (kinds_of (tokens_of text)) a.left b.left a.first b.first in
    same_places f g (a.rule ∙ sym b.rule) (a.place ∙ ap (λ (n : ℕ). first_span (end_of text) (last_from n (tokens_of text))) left ∙ sym b.place)

pub one_fault : (text : List ℕ) (f g : SchemaFault) → IsFaultOf text f → IsFaultOf text g → f ≡ g
one_fault text f g (inl a) (inl b) = same_tokens text f g a b
one_fault text f g (inl a) (inr b) = absurd (never_both text f g a b)
one_fault text f g (inr a) (inl b) = absurd (never_both text g f b a)
one_fault text f g (inr a) (inr b) = same_names text f g a b

pub no_fault : (text : List ℕ) (tables : List Table) (f : SchemaFault) → HasSchema (kinds_of (tokens_of text)) tables → IsSchema tables → IsFaultOf text f → ⊥
no_fault text tables f h is (inl a) = a.first.is_none tables h
no_fault text tables f h is (inr b) =
    let le : 0 ≤ length b.rest = omega arith in
    let broken = first_stays (length b.rest) 0 le nothing_seen Create (tokens_of text) f b.first in
    let none = unbroken (tokens_of text) tables h is in
    absurd cc

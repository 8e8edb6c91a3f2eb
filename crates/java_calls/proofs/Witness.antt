-- The worked class breaks no rule and its helper fits, so that the law on inlined programs speaks of it.
use Rattle.std.proofs.Common.{◌≡◌, ◌≢◌, ℕ, zero, suc, Bool, true, false, List, [], ◌∷◌, Option, Some, None, refl, sym, ap, ◌∙◌, subst, slice_get, length, codes, arith}
use Rattle.qbs_base.specs.Values.{Schema}
use Rattle.java_ast.specs.Tree.{Spelled, Table, ListOf, QueryLong, NewList, NoMore, And, Declare, Statements, Nothing, Then, PlainMethod}
use Rattle.java_mean.specs.Worked.{somewhere, User}
use Rattle.java_calls.specs.Called.{method_named}
use Rattle.java_calls.specs.Fitting.{AreFitting}
use Rattle.java_calls.specs.Inlining.{inlined_within}
use Rattle.java_calls.specs.KeepsCalls.{KeepsCalls}
use Rattle.java_calls.specs.Rules.{HelperRule, NoMethod, Arguments, Result as ResultRule, Recursive, TooLarge, Site, sites_of, how_many, has_result_for, number_named, CallsMethod, Reaches, directly, through, Breaks, Broken, BreaksNone}
use Rattle.java_calls.specs.Worked.{helper, found, out, two, class_with, staff_with, calling, replaced}
use Rattle.java_calls.proofs.Computed.{inlined}
use Rattle.java_calls.proofs.Keeping.{inlined_keeps}

abbrev methods : List PlainMethod
methods = (class_with calling).methods

abbrev staff : PlainMethod
staff = staff_with calling

some_is : {A : Type 0} (a b : A) → Some a ≡ Some b → a ≡ b
some_is a b e = cc

none_some : {A : Type 0} (a : A) → None ≡ Some a → ⊥
none_some a e = absurd cc

pub fits : AreFitting (class_with calling).methods
fits = (refl, (refl, tt))

-- ---- Rules

abbrev only_site : Site
only_site =
    record {
      at = somewhere;
      call = record { name = codes "ofRole"; arguments = And two NoMore };
      whole = Some (Declare somewhere (ListOf (Table User)) found (QueryLong somewhere (codes "ofRole") (And two NoMore)));
    }

only_calls : (i j : ℕ) (m : PlainMethod) → slice_get methods i ≡ Some m → (n : ℕ) (site : Site) → slice_get (sites_of m.body) n ≡ Some site → number_named methods site.call.name ≡ Some j → (i ≡ 1) × (j ≡ 0)
only_calls zero j m there n site calls named = absurd (none_some site (subst (λ (m : PlainMethod). slice_get (sites_of m.body) n ≡ Some site) (sym (some_is helper m there)) calls))
only_calls (suc zero) j m there n site calls named = (refl, at_first n (subst (λ (m : PlainMethod). slice_get (sites_of m.body) n ≡ Some site) (sym (some_is staff m there)) calls))
  where
    at_first : (n : ℕ) → slice_get (sites_of staff.body) n ≡ Some site → j ≡ 0
    at_first zero c = sym (some_is 0 j (ap (λ (s : Site). number_named methods s.call.name) (some_is only_site site c) ∙ named))
    at_first (suc n) c = absurd (none_some site c)
only_calls (suc (suc i)) j m there n site calls named = absurd (none_some m there)

only_reaches : (i j : ℕ) → Reaches methods i j → (i ≡ 1) × (j ≡ 0)
only_reaches _ _ (directly i j c) = only_calls i j c.method c.there c.number c.site c.calls c.named
only_reaches _ _ (through i j k c r) = ((only_calls i j c.method c.there c.number c.site c.calls c.named).0, (only_reaches j k r).1)

none_reaches : (i : ℕ) → Reaches methods i i → ⊥
none_reaches i r = let e = only_reaches i i r in let z : i ≡ 1 = e.0 in let y : i ≡ 0 = e.1 in absurd (omega arith)

helper_named : method_named (codes "ofRole") methods ≡ Some helper
helper_named = refl

takes : has_result_for only_site.whole helper ≡ true
takes = refl

clash : (b : Bool) → b ≡ true → b ≡ false → ⊥
clash b e h = absurd cc

named_so : (m : PlainMethod) → method_named (codes "ofRole") methods ≡ Some m → helper ≡ m
named_so m e = some_is helper m (sym helper_named ∙ e)

site_breaks : (rule : HelperRule) → Breaks methods 1 0 only_site rule → ⊥
site_breaks NoMethod b = none_some helper (sym b ∙ helper_named)
site_breaks Arguments b = b.2 (ap (λ (m : PlainMethod). length m.params) (named_so b.0 b.1))
site_breaks ResultRule b = clash (has_result_for only_site.whole helper) takes (ap (has_result_for only_site.whole) (named_so b.0 b.1) ∙ b.2)
site_breaks Recursive b = none_reaches 1 b.1
site_breaks TooLarge b = b

broken : (rule : HelperRule) (i : ℕ) (m : PlainMethod) → slice_get methods i ≡ Some m → (n : ℕ) (site : Site) → slice_get (sites_of m.body) n ≡ Some site → Breaks methods i n site rule → ⊥
broken rule zero m there n site calls b = none_some site (subst (λ (m : PlainMethod). slice_get (sites_of m.body) n ≡ Some site) (sym (some_is helper m there)) calls)
broken rule (suc zero) m there n site calls b = in_staff n b (subst (λ (m : PlainMethod). slice_get (sites_of m.body) n ≡ Some site) (sym (some_is staff m there)) calls)
  where
    in_staff : (n : ℕ) → Breaks methods 1 n site rule → slice_get (sites_of staff.body) n ≡ Some site → ⊥
    in_staff zero b c = site_breaks rule (subst (λ (s : Site). Breaks methods 1 0 s rule) (sym (some_is only_site site c)) b)
    in_staff (suc n) b c = none_some site c
broken rule (suc (suc i)) m there n site calls b = none_some m there

pub breaks_none : BreaksNone (class_with calling)
breaks_none rule at r = broken rule r.i r.method r.there r.n r.site r.calls r.breaks

-- so the inlined class keeps what the class does
pub kept : (schema : Schema) → KeepsCalls (class_with calling) (class_with replaced) schema
kept schema = inlined_keeps schema (class_with calling) (class_with replaced) breaks_none fits (1, inlined)

-- An ill-typed class of the grammar, whose inlined class is none.
use Rattle.std.proofs.Common.{◌≡◌, ℕ, zero, suc, Bool, true, false, List, Some, None, refl, sym, ap, ◌∙◌, subst, slice_get, length, codes, arith}
use Rattle.java_ast.specs.Tree.{Long, QueryLong, NoMore, Declare, PlainMethod}
use Rattle.java_mean.specs.Worked.{somewhere}
use Rattle.java_grammar.specs.InGrammar.{IsVariable, IsInGrammar}
use Rattle.java_calls.specs.Called.{method_named}
use Rattle.java_calls.specs.Inlining.{expand_at, inlined_within}
use Rattle.java_calls.specs.Rules.{HelperRule, NoMethod, Arguments, Result as ResultRule, Recursive, TooLarge, Site, sites_of, has_result_for, number_named, Reaches, directly, through, Breaks, BreaksNone}
use Rattle.inlined_grammar.specs.Worked.{unreadable, all, one_with, ill_typed_with, asking, asked}

abbrev methods : List PlainMethod
methods = (ill_typed_with asking).methods

abbrev one : PlainMethod
one = one_with asking

some_is : {A : Type 0} (a b : A) → Some a ≡ Some b → a ≡ b
some_is a b e = cc

none_some : {A : Type 0} (a : A) → None ≡ Some a → ⊥
none_some a e = absurd cc

pub asking_in : IsInGrammar (ill_typed_with asking)
asking_in =
    record {
      «package» = tt;
      imports = tt;
      name = refl;
      methods = (record { result = tt; name = refl; params = tt; body = ((refl, refl, refl), ((tt, refl, refl), (refl, tt))) }, (record { result = tt; name = refl; params = tt; body = ((tt, refl, tt), (tt, tt)) }, tt));
    }

pub asking_inlined : inlined_within 1 (ill_typed_with asking) ≡ Some (ill_typed_with asked)
unfolding expand_at
asking_inlined = refl

not_read : IsVariable unreadable → ⊥
not_read h = absurd cc

pub asked_out : IsInGrammar (ill_typed_with asked) → ⊥
asked_out h = not_read (h.methods.1.0.body.1.0.2)

-- ---- It breaks no rule

abbrev only_site : Site
only_site =
    record {
      at = somewhere;
      call = record { name = codes "all"; arguments = NoMore };
      whole = Some (Declare somewhere Long unreadable (QueryLong somewhere (codes "all") NoMore));
    }

only_calls : (i j : ℕ) (m : PlainMethod) → slice_get methods i ≡ Some m → (n : ℕ) (site : Site) → slice_get (sites_of m.body) n ≡ Some site → number_named methods site.call.name ≡ Some j → (i ≡ 1) × (j ≡ 0)
only_calls zero j m there n site calls named = absurd (none_some site (subst (λ (m : PlainMethod). slice_get (sites_of m.body) n ≡ Some site) (sym (some_is all m there)) calls))
only_calls (suc zero) j m there n site calls named = (refl, at_first n (subst (λ (m : PlainMethod). slice_get (sites_of m.body) n ≡ Some site) (sym (some_is one m there)) calls))
  where
    at_first : (n : ℕ) → slice_get (sites_of one.body) n ≡ Some site → j ≡ 0
    at_first zero c = sym (some_is 0 j (ap (λ (s : Site). number_named methods s.call.name) (some_is only_site site c) ∙ named))
    at_first (suc n) c = absurd (none_some site c)
only_calls (suc (suc i)) j m there n site calls named = absurd (none_some m there)

only_reaches : (i j : ℕ) → Reaches methods i j → (i ≡ 1) × (j ≡ 0)
only_reaches _ _ (directly i j c) = only_calls i j c.method c.there c.number c.site c.calls c.named
only_reaches _ _ (through i j k c r) = ((only_calls i j c.method c.there c.number c.site c.calls c.named).0, (only_reaches j k r).1)

none_reaches : (i : ℕ) → Reaches methods i i → ⊥
none_reaches i r = let e = only_reaches i i r in let z : i ≡ 1 = e.0 in let y : i ≡ 0 = e.1 in absurd (omega arith)

helper_named : method_named (codes "all") methods ≡ Some all
helper_named = refl

takes : has_result_for only_site.whole all ≡ true
takes = refl

clash : (b : Bool) → b ≡ true → b ≡ false → ⊥
clash b e h = absurd cc

named_so : (m : PlainMethod) → method_named (codes "all") methods ≡ Some m → all ≡ m
named_so m e = some_is all m (sym helper_named ∙ e)

site_breaks : (rule : HelperRule) → Breaks methods 1 0 only_site rule → ⊥
site_breaks NoMethod b = none_some all (sym b ∙ helper_named)
site_breaks Arguments b = b.2 (ap (λ (m : PlainMethod). length m.params) (named_so b.0 b.1))
site_breaks ResultRule b = clash (has_result_for only_site.whole all) takes (ap (has_result_for only_site.whole) (named_so b.0 b.1) ∙ b.2)
site_breaks Recursive b = none_reaches 1 b.1
site_breaks TooLarge b = b

broken : (rule : HelperRule) (i : ℕ) (m : PlainMethod) → slice_get methods i ≡ Some m → (n : ℕ) (site : Site) → slice_get (sites_of m.body) n ≡ Some site → Breaks methods i n site rule → ⊥
broken rule zero m there n site calls b = none_some site (subst (λ (m : PlainMethod). slice_get (sites_of m.body) n ≡ Some site) (sym (some_is all m there)) calls)
broken rule (suc zero) m there n site calls b = in_one n b (subst (λ (m : PlainMethod). slice_get (sites_of m.body) n ≡ Some site) (sym (some_is one m there)) calls)
  where
    in_one : (n : ℕ) → Breaks methods 1 n site rule → slice_get (sites_of one.body) n ≡ Some site → ⊥
    in_one zero b c = site_breaks rule (subst (λ (s : Site). Breaks methods 1 0 s rule) (sym (some_is only_site site c)) b)
    in_one (suc n) b c = none_some site c
broken rule (suc (suc i)) m there n site calls b = none_some m there

pub asking_rules : BreaksNone (ill_typed_with asking)
asking_rules rule at r = broken rule r.i r.method r.there r.n r.site r.calls r.breaks

-- Of a program one fault is kept: its rule, and the byte at which what breaks it begins.
use Rattle.std.proofs.Common.{◌≡◌, ◌⊎◌, inl, inr, ℕ, zero, suc, ◌+◌, ◌<◌, ◌≤◌, List, [], ◌∷◌, Bool, true, false, ◌&&◌, refl, sym, ap, ◌∙◌, subst, Option, Some, None, slice_get, take, nat_eq, nat_lt, arith}
use Rattle.std.specs.Prelude.{if◌then◌else◌}
use Rattle.std.proofs.lemmas.Bool.Decides.{nat_tests}
use Rattle.qbs_base.specs.declared.span.Span.{Span}
use Rattle.java_ast.specs.Tree.{PlainMethod, PlainProgram}
use Rattle.java_calls.specs.Rules.{HelperRule, NoMethod, Arguments, Result, Recursive, TooLarge, rule_number, Broken, is_earlier, IsTooLarge, sum_of, total_of, BreaksNone, IsFault, most_statements}
use Rattle.java_calls.proofs.Grown.{one_inlined}
use Rattle.call_rules.specs.declared.rule.HelperRule.TheVariants as coded
use Rattle.call_rules.specs.declared.rule.HelperRule.{HelperRule as Coded}
use Rattle.call_rules.specs.declared.rule.HelperFault.{HelperFault}
use Rattle.call_rules.specs.Faults.{plain_rule, IsFaultOf}
use Rattle.inlining.specs.Inlined.{IsWhole}

-- ---- the first four rules

record IsFirst (p : PlainProgram) (rule : HelperRule) (at : Span) : Type 0 where
  broken : Broken p rule at
  first : (r : HelperRule) (to : Span) → Broken p r to → is_earlier r to rule at ≡ false

record IsLast (p : PlainProgram) (rule : HelperRule) (at : Span) : Type 0 where
  large : IsTooLarge p at
  rules : BreaksNone p
  is : rule ≡ TooLarge

kind_of : (p : PlainProgram) (rule : HelperRule) (at : Span) → IsFault p rule at → IsFirst p rule at ⊎ IsLast p rule at
kind_of p NoMethod at h = inl (record { broken = h.0; first = h.1 })
kind_of p Arguments at h = inl (record { broken = h.0; first = h.1 })
kind_of p Result at h = inl (record { broken = h.0; first = h.1 })
kind_of p Recursive at h = inl (record { broken = h.0; first = h.1 })
kind_of p TooLarge at h = inr (record { large = h.0; rules = h.1; is = refl })

abbrev earlier : ℕ → ℕ → ℕ → ℕ → Bool
earlier a r b s = if nat_lt a b then true else (nat_eq a b && nat_lt r s)

-- of two of which none is earlier, both are the same
one_start : (a r b s : ℕ) → earlier a r b s ≡ false → earlier b s a r ≡ false → a ≡ b
one_start a r b s x y = grind (arith, nat_tests)

one_number : (a r b s : ℕ) → earlier a r b s ≡ false → earlier b s a r ≡ false → r ≡ s
one_number a r b s x y = grind (arith, nat_tests)

-- ---- the fifth

sums_rise : (m n : ℕ) (ms : List PlainMethod) → m ≤ n → sum_of (take m ms) ≤ sum_of (take n ms)
sums_rise zero n ms h = omega arith
sums_rise (suc m) zero ms h = absurd (omega arith)
sums_rise (suc m) (suc n) [] h = omega arith
sums_rise (suc m) (suc n) (x ∷ ms) h =
    let less : m ≤ n = omega arith in
    let rest : sum_of (take m ms) ≤ sum_of (take n ms) = sums_rise m n ms less in
    omega arith

-- the number at which a sum passes a bound is one
passes_once : (i j most : ℕ) (ms : List PlainMethod) → sum_of (take i ms) ≤ most → most < sum_of (take (suc i) ms) → sum_of (take j ms) ≤ most → most < sum_of (take (suc j) ms) → i ≡ j
passes_once i j most ms a b c d = by_order (nat_lt i j) refl (nat_lt j i) refl
  where
    not_less : (k l : ℕ) → sum_of (take l ms) ≤ most → most < sum_of (take (suc k) ms) → nat_lt k l ≡ true → ⊥
    not_less k l low high less =
        let below : suc k ≤ l = grind (arith, nat_tests) in
        let rises : sum_of (take (suc k) ms) ≤ sum_of (take l ms) = sums_rise (suc k) l ms below in
        omega arith

    same_by : nat_lt i j ≡ false → nat_lt j i ≡ false → i ≡ j
    same_by e f = grind (arith, nat_tests)

    by_order : (x : Bool) → nat_lt i j ≡ x → (y : Bool) → nat_lt j i ≡ y → i ≡ j
    by_order true e y f = absurd (not_less i j c b e)
    by_order false e true f = absurd (not_less j i a d f)
    by_order false e false f = same_by e f

method_one : (o : Option PlainMethod) (m n : PlainMethod) → o ≡ Some m → o ≡ Some n → m ≡ n
method_one o m n a b = cc

one_large : (p : PlainProgram) (a b : Span) → IsTooLarge p a → IsTooLarge p b → a ≡ b
one_large p a b x y =
    let same : x.whole ≡ y.whole = one_inlined p x.whole y.whole (x.depth, x.inlined) (y.depth, y.inlined) in
    let number : x.i ≡ y.i = passes_once x.i y.i most_statements x.whole.methods x.before x.passed
    (subst (λ (w : PlainProgram). sum_of (take y.i w.methods) ≤ most_statements) (sym same) y.before)
    (subst (λ (w : PlainProgram). most_statements < sum_of (take (suc y.i) w.methods)) (sym same) y.passed) in
    let method : x.method ≡ y.method = method_one (slice_get p.methods x.i) x.method y.method x.there (subst (λ (n : ℕ). slice_get p.methods n ≡ Some y.method) (sym number) y.there) in
    x.place ∙ ap (λ (m : PlainMethod). m.span) method ∙ sym y.place

-- ---- both

-- one rule, and places that begin at one byte
record IsSame (r s : HelperRule) (a b : Span) : Type 0 where
  number : rule_number r ≡ rule_number s
  start : a.start ≡ b.start

one_kept : (p : PlainProgram) (r s : HelperRule) (a b : Span) → IsFirst p r a ⊎ IsLast p r a → IsFirst p s b ⊎ IsLast p s b → IsSame r s a b
one_kept p r s a b (inl x) (inl y) =
    let after : earlier a.start (rule_number r) b.start (rule_number s) ≡ false = y.first r a x.broken in
    let before : earlier b.start (rule_number s) a.start (rule_number r) ≡ false = x.first s b y.broken in
    record { number = one_number a.start (rule_number r) b.start (rule_number s) after before; start = one_start a.start (rule_number r) b.start (rule_number s) after before }
one_kept p r s a b (inl x) (inr y) = absurd (y.rules r a x.broken)
one_kept p r s a b (inr x) (inl y) = absurd (x.rules s b y.broken)
one_kept p r s a b (inr x) (inr y) = record { number = ap rule_number x.is ∙ sym (ap rule_number y.is); start = ap (λ (at : Span). at.start) (one_large p a b x.large y.large) }

rule_same : (r s : Coded) → rule_number (plain_rule r) ≡ rule_number (plain_rule s) → r ≡ s
rule_same coded.NoMethod coded.NoMethod e = refl
rule_same coded.NoMethod coded.Arguments e = absurd cc
rule_same coded.NoMethod coded.Result e = absurd cc
rule_same coded.NoMethod coded.Recursive e = absurd cc
rule_same coded.NoMethod coded.TooLarge e = absurd cc
rule_same coded.Arguments coded.NoMethod e = absurd cc
rule_same coded.Arguments coded.Arguments e = refl
rule_same coded.Arguments coded.Result e = absurd cc
rule_same coded.Arguments coded.Recursive e = absurd cc
rule_same coded.Arguments coded.TooLarge e = absurd cc
rule_same coded.Result coded.NoMethod e = absurd cc
rule_same coded.Result coded.Arguments e = absurd cc
rule_same coded.Result coded.Result e = refl
rule_same coded.Result coded.Recursive e = absurd cc
rule_same coded.Result coded.TooLarge e = absurd cc
rule_same coded.Recursive coded.NoMethod e = absurd cc
rule_same coded.Recursive coded.Arguments e = absurd cc
rule_same coded.Recursive coded.Result e = absurd cc
rule_same coded.Recursive coded.Recursive e = refl
rule_same coded.Recursive coded.TooLarge e = absurd cc
rule_same coded.TooLarge coded.NoMethod e = absurd cc
rule_same coded.TooLarge coded.Arguments e = absurd cc
rule_same coded.TooLarge coded.Result e = absurd cc
rule_same coded.TooLarge coded.Recursive e = absurd cc
rule_same coded.TooLarge coded.TooLarge e = refl

pub record IsOneFault (f g : HelperFault) : Type 0 where
  pub rule : f.rule ≡ g.rule
  pub start : f.at.start ≡ g.at.start

pub one_fault : (p : PlainProgram) (f g : HelperFault) → IsFaultOf p f → IsFaultOf p g → IsOneFault f g
one_fault p f g x y =
    let h = one_kept p (plain_rule f.rule) (plain_rule g.rule) f.at g.at (kind_of p (plain_rule f.rule) f.at x) (kind_of p (plain_rule g.rule) g.at y) in
    record { rule = rule_same f.rule g.rule h.number; start = h.start }

-- where the inlined program has few statements it isn't too large
few_pass : (n most : ℕ) (ms : List PlainMethod) → sum_of ms ≤ most → most < sum_of (take n ms) → ⊥
few_pass n most ms few more = let h : sum_of (take n ms) ≤ sum_of ms = no_more n ms in omega arith
  where
    no_more : (k : ℕ) (ns : List PlainMethod) → sum_of (take k ns) ≤ sum_of ns
    no_more zero ns = omega arith
    no_more (suc k) [] = omega arith
    no_more (suc k) (x ∷ ns) = let h : sum_of (take k ns) ≤ sum_of ns = no_more k ns in omega arith

-- a program that keeps a fault has no whole
pub whole_or_fault : (p q : PlainProgram) (f : HelperFault) → IsWhole p q → IsFaultOf p f → ⊥
whole_or_fault p q f whole x = apart (kind_of p (plain_rule f.rule) f.at x)
  where
    apart : IsFirst p (plain_rule f.rule) f.at ⊎ IsLast p (plain_rule f.rule) f.at → ⊥
    apart (inl h) = whole.rules (plain_rule f.rule) f.at h.broken
    apart (inr h) =
        let same : h.large.whole ≡ q = one_inlined p h.large.whole q (h.large.depth, h.large.inlined) whole.inlined in
        few_pass (suc h.large.i) most_statements q.methods whole.small (subst (λ (w : PlainProgram). most_statements < sum_of (take (suc h.large.i) w.methods)) same h.large.passed)

-- The first number that is free: one step.
use Rattle.std.proofs.Common.{◌≡◌, ℕ, suc, ◌+◌, ◌-◌, ◌<◌, ◌≤◌, Bool, true, false, [], length, sym, ap, ◌∙◌, arith}
use Rattle.std.specs.Prelude.{if◌then◌else◌}
use Rattle.java_ast.specs.Names.{Names}
use Rattle.call_parts.specs.Marks.{is_marked, unmarked_from, next_number}
use Rattle.inlining.specs.Endings.{Endings, all_noted}
use Rattle.inlining.proofs.Marks.{count_is}

fewer : (count i : ℕ) → i < count → count - i ≡ suc (count - (i + 1))
fewer count i lt = omega arith

-- before the first step
pub first_step : (names : Names) (t : Endings) (count taken c : ℕ) → count ≡ t.1 → t ≡ all_noted ([], 0) names → c ≡ suc taken → unmarked_from (count - 0) names c ≡ next_number names taken
first_step names t count taken c e is next =
    let h : count ≡ length names = e ∙ ap (λ (t : Endings). t.1) is ∙ count_is names in
    let n : count - 0 ≡ length names = omega (arith, h) in
    ap (λ (n : ℕ). unmarked_from n names c) n ∙ ap (unmarked_from (length names) names) next

-- a name ends in the mark of this number
pub one_taken : (names : Names) (count i c n whole : ℕ) (b : Bool) → i < count → b ≡ is_marked names c → b ≡ true → n ≡ suc c → unmarked_from (count - i) names c ≡ whole → unmarked_from (count - (i + 1)) names n ≡ whole
one_taken names count i c n whole b lt is e next h =
    ap (unmarked_from (count - (i + 1)) names) next
    ∙ sym (ap (λ (n : ℕ). unmarked_from n names c) (fewer count i lt) ∙ ap (λ (b : Bool). if b then unmarked_from (count - (i + 1)) names (suc c) else c) (sym is ∙ e))
    ∙ h

-- none ends in it
pub one_free : (names : Names) (count i c whole : ℕ) (b : Bool) → i < count → b ≡ is_marked names c → b ≡ false → unmarked_from (count - i) names c ≡ whole → c ≡ whole
one_free names count i c whole b lt is e h =
    sym (ap (λ (n : ℕ). unmarked_from n names c) (fewer count i lt) ∙ ap (λ (b : Bool). if b then unmarked_from (count - (i + 1)) names (suc c) else c) (sym is ∙ e))
    ∙ h

-- no number is left to be tried
pub none_left : (names : Names) (count i c whole : ℕ) → count ≤ i → unmarked_from (count - i) names c ≡ whole → c ≡ whole
none_left names count i c whole e h =
    let z : count - i ≡ 0 = omega (arith, e) in
    sym (ap (λ (n : ℕ). unmarked_from n names c) z) ∙ h

pub ruleset fresh = (first_step, one_taken, one_free, none_left)

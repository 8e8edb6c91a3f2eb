-- First accumulators that stand outside all loops.
use Rattle.std.proofs.Common.{◌≡◌, ℕ, ◌<◌, true, List, [], ◌∷◌, length, map, get_or, slice_get, nat_eq, Some, refl, sym, ap, ◌∙◌, arith}
use Rattle.std.proofs.lemmas.Bool.Decides.{nat_tests}
use Rattle.kernel_lang.specs.declared.parts.Acc.{Acc}
use Rattle.kernel_lang.specs.Worked.{class_A}
use Rattle.kernel_lang.specs.Plain.{Accumulator, Fragment, accumulator}
use Rattle.sql_parts.specs.Given.{IsOutermost}

is_zero : (n : ℕ) → nat_eq n 0 ≡ true → n ≡ 0
is_zero n h = grind (arith, nat_tests)

pub got_first : (accs : List Acc) (a d : Acc) → 0 < length accs → a ≡ get_or accs 0 d → slice_get accs 0 ≡ Some a
got_first [] a d below e = absurd (omega (arith, below))
got_first (b ∷ accs) a d below e = ap (λ (x : Acc). Some x) (sym e)

map_first : (accs : List Acc) (a : Acc) → slice_get accs 0 ≡ Some a → slice_get (map accumulator accs) 0 ≡ Some (accumulator a)
map_first [] a e = absurd cc
map_first (b ∷ accs) a e = let same : b ≡ a = cc in ap (λ (x : Acc). Some (accumulator x)) same

pub outside_first : (f : Fragment) (accs : List Acc) (a : Acc) → f.accs ≡ map accumulator accs → slice_get accs 0 ≡ Some a → nat_eq a.base 0 ≡ true → IsOutermost f 0
outside_first f accs a e there h =
    record { accumulator = accumulator a; there = ap (λ (as1 : List Accumulator). slice_get as1 0) e ∙ map_first accs a there; base = is_zero a.base h }

-- the first accumulator of the worked class
pub class_A_outside : IsOutermost class_A 0
class_A_outside = record { accumulator = _; there = refl; base = refl }

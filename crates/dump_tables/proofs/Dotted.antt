-- The parts of a name.
use Rattle.std.proofs.Common.{◌≡◌, ◌-◌, ◌≤◌, Bool, true, false, List, [], ◌∷◌, take, drop, length, get_or, refl, ap, ◌∙◌, arith, length-drop, if◌then◌else◌}
use Rattle.std.proofs.lemmas.List.{take_all}
use Rattle.dump_items.specs.declared.item.Item.{Item}
use Rattle.dump_tables.specs.Tables.{goes_on, last_part}

taken : (b : Bool) (x y : Item × List Item) → true ≡ b → x ≡ (if b then x else y)
taken true x y e = refl
taken false x y e = absurd cc

next_part : (part dot next : Item) (rest after : List Item) → dot ≡ get_or rest 0 dot → next ≡ get_or rest 1 next → true ≡ goes_on dot next → 2 ≤ length rest
    → after ≡ drop 2 rest → last_part next after ≡ last_part part rest
unfolding last_part
next_part part dot next [] after p q g le e = absurd (omega arith)
next_part part dot next (d ∷ []) after p q g le e = absurd (omega arith)
next_part part dot next (d ∷ j ∷ is) after p q g le e =
    ap (λ (a : List Item). last_part next a) e
    ∙ ap (λ (i : Item). last_part i is) q
    ∙ taken (goes_on d j) (last_part j is) (part, d ∷ j ∷ is) (g ∙ ap (λ (i : Item). goes_on i next) p ∙ ap (λ (i : Item). goes_on d i) q)

behind_two : (rest : List Item) → take (length rest - 2) (drop 2 rest) ≡ drop 2 rest
behind_two rest = take_all (length rest - 2) (drop 2 rest) (omega (arith, length-drop 2 rest))

pub dotted : (part dot next : Item) (rest : List Item) (total : Item × List Item) → last_part part rest ≡ total → dot ≡ get_or rest 0 dot → next ≡ get_or rest 1 next
    → true ≡ goes_on dot next → 2 ≤ length rest → last_part next (take (length rest - 2) (drop 2 rest)) ≡ total
dotted part dot next rest total so_far p q g le = next_part part dot next rest (take (length rest - 2) (drop 2 rest)) p q g le (behind_two rest) ∙ so_far

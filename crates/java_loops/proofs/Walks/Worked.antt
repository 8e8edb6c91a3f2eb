-- Worked loops are nests: with a flag and a `break`, with a condition that reads the accumulator, and one that a `break` ends itself.
use Rattle.std.proofs.Common.{false, true, [], ◌∷◌, Option, Some, None, refl}
use Rattle.std.specs.Prelude.{codes, bytes_eq}
use Rattle.qbs_base.specs.declared.scalar.Scalar.TheVariants as scalars
use Rattle.java_mean.specs.Worked.{out, class_C, class_E}
use Rattle.java_loops.specs.Walks.Nests.{is_among, Mark, IsNest, assign, add, when, for_each, nothing, declare, leave, next}
use Rattle.java_loops.specs.Walks.Worked.{first_loop, roles, best, all, all_active}
use Rattle.java_loops.proofs.Walks.Names.{guards_fixed, guards_own, or_none}

abbrev found_mark : Option Mark
found_mark = Some (record { name = codes "found"; value = scalars.Bool true })

pub flagged_is_nest : IsNest (first_loop class_E.body) (is_among (out ∷ [])) (is_among (roles ∷ [])) None
flagged_is_nest =
    for_each _ _ _ None _ _ _ _ _ refl refl tt tt (declare _ _ _ _ _ _ _ _ _ _ refl refl (next _ _ _ _ _ _ (for_each _ _ _ found_mark _ _ _ _ _ refl refl refl tt (next _ _ _ _ _ _ (when _ _ _ _ _ _ (guards_fixed _ _ _ _ (refl, refl)) (leave _ _ _ _ _ _ _ _ refl)) (nothing _ _ _ _))) (next _ _ _ _ _ _ (when _ _ _ _ _ _ (guards_fixed _ _ _ _ refl) (next _ _ _ _ _ _ (add _ _ _ _ _ refl refl) (nothing _ _ _ _))) (nothing _ _ _ _))))

pub greatest_is_nest : IsNest (first_loop class_C.body) (is_among (best ∷ [])) (is_among []) None
greatest_is_nest =
    for_each _ _ _ None _ _ _ _ _ refl refl tt tt (next _ _ _ _ _ _ (when _ _ _ _ _ _ (guards_own _ _ _ _ best (λ x ax dx. or_none (bytes_eq best x) dx) (refl, refl)) (next _ _ _ _ _ _ (assign _ _ _ _ _ _ refl refl tt) (nothing _ _ _ _))) (nothing _ _ _ _))

abbrev all_mark : Option Mark
all_mark = Some (record { name = all; value = scalars.Bool false })

pub early_is_nest : IsNest all_active (is_among (all ∷ [])) (is_among []) None
early_is_nest =
    for_each _ _ None all_mark _ _ _ _ _ refl refl tt tt (next _ _ _ _ _ _ (when _ _ _ _ _ _ (guards_fixed _ _ _ _ refl) (leave _ _ _ _ _ _ _ _ refl)) (nothing _ _ _ _))

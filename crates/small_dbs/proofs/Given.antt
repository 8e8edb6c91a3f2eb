-- What literals give, of some and of those behind them.
use Rattle.std.proofs.Common.{◌≡◌, pos, List, [], ◌∷◌, ◌++◌, refl, sym, ap, ap₂, ◌∙◌}
use Rattle.std.specs.List.{flat_map}
use Rattle.qbs_base.specs.declared.scalar.Scalar.{Scalar}
use Rattle.qbs_base.specs.declared.scalar.Scalar.TheVariants as scalars
use Rattle.qbs_base.specs.declared.scalar.Ty.{Ty}
use Rattle.qbs_base.specs.declared.scalar.Ty.TheVariants as tys
use Rattle.tor_terms.specs.declared.term.Atom.{Atom}
use Rattle.kernel_lang.specs.Plain.{Accumulator, Fragment}
use Rattle.kernel_steps.specs.Put.{put}
use Rattle.small_dbs.specs.Literals.{candidates, given_by, literals_of_atoms, literals_of_starts, put_all, put_given}

more_put : (xs ys zs : List Scalar) → put_all (xs ++ ys) zs ≡ put_all ys (put_all xs zs)
more_put [] ys zs = refl
more_put (x ∷ xs) ys zs = more_put xs ys (put x zs)

pub more_given : (ty : Ty) (xs ys zs : List Scalar) → put_given ty (xs ++ ys) zs ≡ put_given ty ys (put_given ty xs zs)
more_given ty [] ys zs = refl
more_given ty (x ∷ xs) ys zs =
    more_put (given_by ty x) (flat_map (given_by ty) (xs ++ ys)) zs ∙ more_given ty xs ys (put_all (given_by ty x) zs) ∙ ap (put_given ty ys) (sym (more_put (given_by ty x) (flat_map (given_by ty) xs) zs))

-- 0, 1, and what the literals of atoms and starts give
pub longs_put : (f : Fragment) (atoms : List Atom) (starts : List Accumulator) (old one two three last : List Scalar) → atoms ≡ f.atoms → starts ≡ f.accs → one ≡ put (scalars.Long (pos 0)) old → two ≡ put (scalars.Long (pos 1)) one
    → three ≡ put_given tys.Long (literals_of_atoms atoms) two → last ≡ put_given tys.Long (literals_of_starts starts) three → last ≡ put_all (candidates f tys.Long) old
longs_put f atoms starts old one two three last a s h k m e =
    e
    ∙ ap₂ (λ (accs : List Accumulator) (ys : List Scalar). put_given tys.Long (literals_of_starts accs) ys) s (m ∙ ap₂ (λ (tests : List Atom) (ys : List Scalar). put_given tys.Long (literals_of_atoms tests) ys) a (k ∙ ap (put (scalars.Long (pos 1))) h))
    ∙ sym (more_given tys.Long (literals_of_atoms f.atoms) (literals_of_starts f.accs) (put (scalars.Long (pos 1)) (put (scalars.Long (pos 0)) old)))

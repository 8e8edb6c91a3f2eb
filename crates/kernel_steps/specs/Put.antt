-- Values in ascending order, each once.
use Rattle.std.specs.Prelude.{if◌then◌else◌, List, [], ◌∷◌}
use Rattle.qbs_base.specs.declared.scalar.Scalar.{Scalar}
use Rattle.qbs_base.specs.Scalar.{scalar_before, scalar_same}

-- a value at its place among others, where it isn't there
abbrev pub put : Scalar → List Scalar → List Scalar
put x [] = x ∷ []
put x (y ∷ ys) = if scalar_before x y then x ∷ y ∷ ys else (if scalar_same x y then y ∷ ys else y ∷ put x ys)

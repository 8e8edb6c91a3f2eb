-- Where no method is left, whatever members follow.
use Rattle.std.proofs.Common.{◌≡◌, ◌<◌, Bool, true, false, ◌&&◌, List, [], ◌∷◌, length, refl, sym, ap, ◌∙◌, arith}
use Rattle.qbs_base.specs.declared.columns.Table.{Table}
use Rattle.view_map.specs.declared.model.ViewMap.{ViewMap}
use Rattle.view_shapes.specs.declared.members.Stretch.{Stretch}
use Rattle.view_statements.specs.declared.slice.Sliced.{Sliced}
use Rattle.view_slices.specs.Reading.{all_sliced}
use Rattle.view_slices.specs.Slices.{File}
use Rattle.view_slices.specs.Views.{are_sliced}

and_true : (b : Bool) → (b && true) ≡ b
and_true true = refl
and_true false = refl

none_sliced : (m : ViewMap) (tables : List Table) (file : File) (bs : List Stretch) → are_sliced m tables file bs [] ≡ true
none_sliced m tables file [] = refl
none_sliced m tables file (b ∷ bs) = refl

pub nothing_left : (m : ViewMap) (tables : List Table) (file : File) (all : Bool) (bs : List Stretch) (rest : List Sliced) (t : Bool)
    → (all && are_sliced m tables file bs (all_sliced rest)) ≡ t → length rest < 1 → all ≡ t
nothing_left m tables file all bs [] t so_far none = sym (ap (λ (b : Bool). all && b) (none_sliced m tables file bs) ∙ and_true all) ∙ so_far
nothing_left m tables file all bs (s ∷ rest) t so_far none = absurd (omega arith)

-- What is known of a fetch pattern, a template or a constant of the map is known by its number.
use Rattle.std.proofs.Common.{◌≡◌, ℕ, zero, suc, List, [], ◌∷◌, map, option_map, slice_get, refl, ap, ◌∙◌}
use Rattle.view_map.specs.declared.model.ViewMap.{ViewMap}
use Rattle.view_slices.specs.declared.words.Known.{Known}
use Rattle.view_slices.specs.Slices.{File}
use Rattle.view_slices.specs.Words.{known_in, is_kept, is_template_kept, is_unhidden}

pub of_mapped : {A B : Type 0} (f : A → B) (xs : List A) (n : ℕ) → slice_get (map f xs) n ≡ option_map f (slice_get xs n)
of_mapped f [] n = refl
of_mapped f (x ∷ xs) zero = refl
of_mapped f (x ∷ xs) (suc n) = of_mapped f xs n

pub kept_of : (m : ViewMap) (file : File) (known : Known) (n : ℕ) → known ≡ known_in m file
    → slice_get known.kept n ≡ option_map (is_kept m file) (slice_get m.fetches n)
kept_of m file known n is = ap (λ (k : Known). slice_get k.kept n) is ∙ of_mapped (is_kept m file) m.fetches n

pub template_of : (m : ViewMap) (file : File) (known : Known) (n : ℕ) → known ≡ known_in m file
    → slice_get known.templates n ≡ option_map (is_template_kept m file) (slice_get m.templates n)
template_of m file known n is = ap (λ (k : Known). slice_get k.templates n) is ∙ of_mapped (is_template_kept m file) m.templates n

pub free_of : (m : ViewMap) (file : File) (known : Known) (n : ℕ) → known ≡ known_in m file
    → slice_get known.free n ≡ option_map (is_unhidden file) (slice_get m.constants n)
free_of m file known n is = ap (λ (k : Known). slice_get k.free n) is ∙ of_mapped (is_unhidden file) m.constants n

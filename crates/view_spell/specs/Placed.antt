-- Where the patches of a file lie, and which slices have them.
use Rattle.std.specs.Prelude.{◌≡◌, ℕ, suc, Bool, true, false, ◌&&◌, ◌==◌, nat_le, List, [], ◌∷◌, ◌++◌, map, take, drop, Option, Some, None, slice_get}
use Rattle.std.specs.List.{prefix_len}
use Rattle.java_stretches.specs.Patches.{PlainPatch}
use Rattle.text_patches.specs.declared.patch.TextPatch.{TextPatch}
use Rattle.view_shapes.specs.declared.method.Method.{Method}
use Rattle.view_statements.specs.Slices.{PlainSlice, PlainSliced}
use Rattle.view_spell.specs.declared.origins.Origin.{Origin}
use Rattle.view_spell.specs.declared.origins.Taken.{Taken}
use Rattle.view_spell.specs.declared.spelled.SliceSpelled.{SliceSpelled}
use Rattle.view_spell.specs.declared.spelled.SliceSpelled.TheVariants as spelled
use Rattle.view_spell.specs.Origins.{origin_to, stretch_taken}
use Rattle.view_spell.specs.Shared.{SeenAs, is_shared}

-- ---- Patches of the file

-- they are in order and apart, from one byte up to another
abbrev pub are_apart : ℕ → ℕ → List TextPatch → Bool
are_apart from to [] = nat_le from to
are_apart from to (p ∷ ps) = (nat_le from p.from && nat_le p.from p.to) && are_apart p.to to ps

abbrev pub are_within : Option Origin → List TextPatch → Bool
are_within None ps = false
are_within (Some at) ps = are_apart at.from at.to ps

-- it stands in place of these bytes
abbrev pub takes : Option Taken → TextPatch → Bool
takes None t = false
takes (Some taken) t = (t.from == taken.at.from) && (t.to == taken.at.to)

-- each stands in place of the bytes of the file from which those come in the place of which a patch of what is seen stands
abbrev pub take_each : SeenAs → PlainSlice → List PlainPatch → List TextPatch → Bool
take_each seen s [] [] = true
take_each seen s (p ∷ ps) (t ∷ ts) = takes (stretch_taken seen.cells seen.items s p.from p.to) t && take_each seen s ps ts
take_each seen s ps ts = false

-- ---- Answers

-- the patches that a slice has in the file
abbrev pub patches_in : SliceSpelled → List TextPatch
patches_in (spelled.Patched ps) = ps
patches_in _ = []

-- those of all slices
abbrev pub patches_of : List SliceSpelled → List TextPatch
patches_of [] = []
patches_of (x ∷ xs) = patches_in x ++ patches_of xs

abbrev pub is_left : SliceSpelled → Bool
is_left spelled.Left = true
is_left _ = false

abbrev pub says_shared : SliceSpelled → Bool
says_shared spelled.Shared = true
says_shared _ = false

-- the patches of a slice are spelled in its bytes, or they can't be
abbrev pub is_spelling : SeenAs → PlainSlice → List PlainPatch → SliceSpelled → Bool
is_spelling seen s ps (spelled.Patched ts) = are_within (origin_to seen.items s.from s.to) ts && take_each seen s ps ts
is_spelling seen s ps spelled.Unlike = true
is_spelling seen s ps _ = false

-- An answer for a slice: without patches it is left as it is. It says where rows are shared; else its patches are spelled, or can't be.
abbrev pub is_answer_where : SeenAs → PlainSlice → Bool → List PlainPatch → SliceSpelled → Bool
is_answer_where seen s shared [] x = is_left x
is_answer_where seen s true (p ∷ ps) x = says_shared x
is_answer_where seen s false (p ∷ ps) x = is_spelling seen s (p ∷ ps) x

abbrev pub is_answer : SeenAs → Method → PlainSlice → List PlainPatch → SliceSpelled → Bool
is_answer seen method s ps x = is_answer_where seen s (is_shared seen method s ps) ps x

-- ---- Which patches are whose

abbrev pub is_number : ℕ → Option ℕ → Bool
is_number k None = false
is_number k (Some n) = n == k

-- a patch is of the method with this number
abbrev pub is_in_method : ℕ → PlainPatch → Bool
is_in_method k p = is_number k (slice_get p.path 0)

-- those at the front that are of the method, and those behind them
abbrev pub own : ℕ → List PlainPatch → List PlainPatch
own k ps = take (prefix_len (is_in_method k) ps) ps

abbrev pub others : ℕ → List PlainPatch → List PlainPatch
others k ps = drop (prefix_len (is_in_method k) ps) ps

-- slices, each with the method in which it stands
abbrev pub slices_in : PlainSliced → List (Method × PlainSlice)
slices_in x = map (λ s. (x.read.method, s)) x.slices

abbrev pub slices_with : List PlainSliced → List (Method × PlainSlice)
slices_with [] = []
slices_with (x ∷ xs) = slices_in x ++ slices_with xs

-- There is an answer for each slice, of which the first is seen as the method with the number k: the patches of what is seen are in the order of
-- its methods.
abbrev pub are_answers : SeenAs → ℕ → List (Method × PlainSlice) → List PlainPatch → List SliceSpelled → Bool
are_answers seen k [] ps [] = true
are_answers seen k ((method, s) ∷ ss) ps (x ∷ xs) = is_answer seen method s (own k ps) x && are_answers seen (suc k) ss (others k ps) xs
are_answers seen k ss ps xs = false

-- the patches that are left behind those of some slices
abbrev pub left : ℕ → List (Method × PlainSlice) → List PlainPatch → List PlainPatch
left k [] ps = ps
left k (s ∷ ss) ps = left (suc k) ss (others k ps)

-- slices have answers, and these patches are left for those behind
pub record AreAnswered (seen : SeenAs) (ss : List (Method × PlainSlice)) (ps : List PlainPatch) (xs : List SliceSpelled) (rest : List PlainPatch) : Type 0 where
  pub answers : are_answers seen 0 ss ps xs ≡ true
  pub are_left : rest ≡ left 0 ss ps

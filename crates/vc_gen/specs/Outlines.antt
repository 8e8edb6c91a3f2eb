-- What of an accumulator's conditions is the same for all choices of formulas.
use Rattle.std.specs.Prelude.{◌≡◌, ℕ, ◌+◌, true, false, List, [], ◌∷◌, ◌++◌, length}
use Rattle.std.specs.declared.option.Option.{Option}
use Rattle.tor_terms.specs.declared.term.Atom.{Atom}
use Rattle.tor_axioms.specs.Accepts.{Claim}
use Rattle.kernel_lang.specs.declared.parts.Update.{Update}
use Rattle.tor_terms.specs.Plain.{Form, Tree, Hold, tree_of}
use Rattle.kernel_lang.specs.Paths.{Path, each_with, guard_paths}
use Rattle.kernel_lang.specs.Plain.{Accumulator}
use Rattle.kernel_lang.specs.Postcondition.{loops_of, start_term}
use Rattle.kernel_lang.specs.Running.{Layer, layers_of, outside, inside}
use Rattle.vc_gen.specs.declared.outline.Outline.{Outline}
use Rattle.vc_gen.specs.declared.outline.Stage.{Stage}
use Rattle.vc_gen.specs.Conditions.{level, ways_through}
use Rattle.vc_gen.specs.Levels.{layers_seen}

-- it has the paths of a guard, and how many conditions there are by each way
pub record IsStageOf (guard : Option Form) (s : Stage) : Type 0 where
  pub passes : s.passes ≡ guard_paths guard true
  pub fails : s.fails ≡ guard_paths guard false
  pub each : s.each ≡ length s.passes + (length s.fails + 2)

-- it stands where a level does: with these loops round it, these ways to it, and this at entry
pub record StandsAt (loops : List ℕ) (Fs : List Path) (w : Tree) (s : Stage) : Type 0 where
  pub outer : s.place.outer ≡ loops
  pub ways : s.ways ≡ Fs
  pub entry : tree_of s.place.entry.value ≡ w

-- the stages of these layers, of which the first stands here
abbrev pub AreStages : List ℕ → List Path → Tree → List Layer → List Stage → Type 0
AreStages outer Fs w [] ss = Unit {0}
AreStages outer Fs w (y ∷ ys) [] = ⊥
AreStages outer Fs w (y ∷ ys) (s ∷ ss) =
    StandsAt outer Fs w s × IsStageOf y.guard s × AreStages (outer ++ y.over ∷ []) (each_with Fs (guard_paths y.guard true)) (Hold (length outer + 2)) ys ss

-- they have the paths of these layers' guards, wherever they stand
abbrev pub AreOfLayers : List Layer → List Stage → Type 0
AreOfLayers [] ss = Unit {0}
AreOfLayers (y ∷ ys) [] = Unit {0}
AreOfLayers (y ∷ ys) (s ∷ ss) = IsStageOf y.guard s × AreOfLayers ys ss

-- the conditions of these layers where they stand
abbrev pub staged : List Atom → Update → List Form → List Layer → List Stage → List Claim
staged atoms u fs [] ss = []
staged atoms u fs (y ∷ ys) [] = []
staged atoms u fs (y ∷ ys) (s ∷ ss) = level atoms u fs s.place.outer s.ways (tree_of s.place.entry.value) y ys ++ staged atoms u fs ys ss

-- the levels of an accumulator, with the stages of those inside its declaration
pub record IsOutlineOf (a : Accumulator) (o : Outline) : Type 0 where
  pub levels : layers_seen o.levels ≡ layers_of a
  pub stages : AreStages (loops_of (outside a)) (ways_through ([] ∷ []) (outside a)) (start_term a.start) (inside a) o.stages

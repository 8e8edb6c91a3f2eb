-- Levels at their stages, and their conditions by number.
use Rattle.std.proofs.Common.{◌≡◌, ℕ, zero, suc, ◌+◌, ◌-◌, ◌*◌, ◌/◌, ◌%◌, ◌<◌, ◌≤◌, true, false, List, [], ◌∷◌, ◌++◌, take, drop, length, get_or, refl, sym, ap, ap₂, ◌∙◌, subst, arith, length-append}
use Rattle.std.proofs.Math.Nat.{mod-lt, div-mul-le_self, mul-le-mul_right, suc-mul}
use Rattle.std.proofs.lemmas.Nat.{div-add-mod'}
use Rattle.std.specs.List.{flat_map}
use Rattle.tor_terms.specs.declared.term.Atom.{Atom}
use Rattle.tor_terms.specs.Plain.{Form, Tree, Hold, tree_of}
use Rattle.tor_axioms.specs.Accepts.{Claim}
use Rattle.kernel_lang.specs.declared.parts.Update.{Update}
use Rattle.kernel_lang.specs.Paths.{Path, each_with, guard_paths}
use Rattle.kernel_lang.specs.Plain.{Accumulator}
use Rattle.kernel_lang.specs.Postcondition.{loops_of, start_term}
use Rattle.kernel_lang.specs.Running.{Layer, layers_of, outside, inside}
use Rattle.vc_gen.specs.declared.condition.Place.{Place}
use Rattle.vc_gen.specs.declared.level.Level.{Level}
use Rattle.vc_gen.specs.declared.outline.Outline.{Outline}
use Rattle.vc_gen.specs.declared.outline.Stage.{Stage}
use Rattle.vc_gen.specs.Conditions.{true_steps, false_steps, exit, at_level, level, conditions_in, ways_through, own_conditions}
use Rattle.vc_gen.specs.Outlines.{IsStageOf, StandsAt, AreStages, AreOfLayers, IsOutlineOf, staged}
use Rattle.vc_gen.specs.Levels.{layers_seen}
use Rattle.vc_gen.specs.Sought.{Left, sought}
use Rattle.vc_gen.proofs.Few.{by_paths_length}

pub first_stage : (outer inner : List ℕ) (Fs more : List Path) (w v : Tree) (y : Layer) (ys : List Layer) (s : Stage) (ss : List Stage) → StandsAt outer Fs w s → IsStageOf y.guard s → inner ≡ outer ++ y.over ∷ []
    → more ≡ each_with Fs (guard_paths y.guard true) → v ≡ Hold (length outer + 2) → AreStages inner more v ys ss → AreStages outer Fs w (y ∷ ys) (s ∷ ss)
first_stage outer inner Fs more w v y ys s ss at of a b c h =
    let x : AreStages (outer ++ y.over ∷ []) more v ys ss = subst (λ o. AreStages o more v ys ss) a h in
    let z : AreStages (outer ++ y.over ∷ []) (each_with Fs (guard_paths y.guard true)) v ys ss = subst (λ ps. AreStages (outer ++ y.over ∷ []) ps v ys ss) b x in
    (at, of, subst (λ t. AreStages (outer ++ y.over ∷ []) (each_with Fs (guard_paths y.guard true)) t ys ss) c z)

pub of_layers : (outer : List ℕ) (Fs : List Path) (w : Tree) (ys : List Layer) (ss : List Stage) → AreStages outer Fs w ys ss → AreOfLayers ys ss
of_layers outer Fs w [] ss h = tt
of_layers outer Fs w (y ∷ ys) [] h = tt
of_layers outer Fs w (y ∷ ys) (s ∷ ss) h = (h.1, of_layers (outer ++ y.over ∷ []) (each_with Fs (guard_paths y.guard true)) (Hold (length outer + 2)) ys ss h.2)

module _ (atoms : List Atom) (u : Update) (fs : List Form) where
  level_there : (outer : List ℕ) (Fs : List Path) (w : Tree) (y : Layer) (ys : List Layer) (s : Stage) → StandsAt outer Fs w s
      → level atoms u fs s.place.outer s.ways (tree_of s.place.entry.value) y ys ≡ level atoms u fs outer Fs w y ys
  level_there outer Fs w y ys s at =
      ap (λ o. level atoms u fs o s.ways (tree_of s.place.entry.value) y ys) at.outer
      ∙ ap (λ ps. level atoms u fs outer ps (tree_of s.place.entry.value) y ys) at.ways
      ∙ ap (λ t. level atoms u fs outer Fs t y ys) at.entry

  pub staged_there : (outer : List ℕ) (Fs : List Path) (w : Tree) (ys : List Layer) (ss : List Stage) → AreStages outer Fs w ys ss → staged atoms u fs ys ss ≡ conditions_in atoms u fs outer Fs w ys
  staged_there outer Fs w [] ss h = refl
  staged_there outer Fs w (y ∷ ys) [] h = absurd h
  staged_there outer Fs w (y ∷ ys) (s ∷ ss) h =
      ap (λ cs. cs ++ staged atoms u fs ys ss) (level_there outer Fs w y ys s h.0)
      ∙ ap (λ cs. level atoms u fs outer Fs w y ys ++ cs) (staged_there (outer ++ y.over ∷ []) (each_with Fs (guard_paths y.guard true)) (Hold (length outer + 2)) ys ss h.2)

  -- there are as many by each way
  pub as_many : (outer : List ℕ) (w : Tree) (y : Layer) (ys : List Layer) (s : Stage) → IsStageOf y.guard s → (F : Path) → length (at_level atoms u fs outer w y ys F) ≡ s.each
  as_many outer w y ys s of F =
      let a = length-append (true_steps atoms u fs outer w y ys F) (false_steps atoms u fs outer w y ys F ++ exit atoms u fs outer w y ys F ∷ []) in
      let b = length-append (false_steps atoms u fs outer w y ys F) (exit atoms u fs outer w y ys F ∷ []) in
      let c : length (true_steps atoms u fs outer w y ys F) ≡ length s.passes = by_paths_length atoms F _ _ (guard_paths y.guard true) ∙ ap length (sym of.passes) in
      let d : length (false_steps atoms u fs outer w y ys F) ≡ length s.fails = by_paths_length atoms F _ _ (guard_paths y.guard false) ∙ ap length (sym of.fails) in
      let e = of.each in
      omega (arith, a, b, c, d, e)

-- ---- of lists that are as long as each other

sought_within : (xs ys : List Claim) (r : ℕ) → r < length xs → sought xs r ≡ sought (xs ++ ys) r
sought_within [] ys r h = absurd (omega arith)
sought_within (x ∷ xs) ys zero h = refl
sought_within (x ∷ xs) ys (suc r) h = sought_within xs ys r (omega arith)

sought_past : (xs ys : List Claim) (m : ℕ) → sought ys m ≡ sought (xs ++ ys) (length xs + m)
sought_past [] ys m = let e : m ≡ 0 + m = omega arith in ap (sought ys) e
sought_past (x ∷ xs) ys m = let e : suc (length xs + m) ≡ suc (length xs) + m = omega arith in sought_past xs ys m ∙ ap (sought (x ∷ (xs ++ ys))) e

sum_again : (a b c : ℕ) → a + (b + c) ≡ a + b + c
sum_again a b c = omega arith

none_before : (each r : ℕ) → r ≡ 0 * each + r
none_before each r = omega arith

one_before : (q each r : ℕ) → each + q * each + r ≡ suc q * each + r
one_before q each r = let e : suc q * each ≡ q * each + each = suc-mul q each in omega (arith, e)

rest_again : (a n : ℕ) → a ≤ n → a + (n - a) ≡ n
rest_again a n h = omega (arith, h)

module _ (g : Path → List Claim) (each : ℕ) (many : (w : Path) → length (g w) ≡ each) where
  past_way : (w : Path) (ws : List Path) (m r : ℕ) → sought (flat_map g ws) (m + r) ≡ sought (flat_map g (w ∷ ws)) (each + m + r)
  past_way w ws m r = sought_past (g w) (flat_map g ws) (m + r) ∙ ap (λ k. sought (flat_map g (w ∷ ws)) (k + (m + r))) (many w) ∙ ap (sought (flat_map g (w ∷ ws))) (sum_again each m r)

  by_way : (ways : List Path) (q r : ℕ) (way : Path) → r < each → q < length ways → way ≡ get_or ways q way → sought (g way) r ≡ sought (flat_map g ways) (q * each + r)
  by_way [] q r way small there is = absurd (omega arith)
  by_way (w ∷ ws) zero r way small there is = ap (λ x. sought (g x) r) is ∙ sought_within (g w) (flat_map g ws) r (subst (λ n. r < n) (sym (many w)) small) ∙ ap (sought (flat_map g (w ∷ ws))) (none_before each r)
  by_way (w ∷ ws) (suc q) r way small there is = by_way ws q r way small (omega arith) is ∙ past_way w ws (q * each) r ∙ ap (sought (flat_map g (w ∷ ws))) (one_before q each r)

  behind_ways : (ways : List Path) (r : ℕ) → Left r ≡ sought (flat_map g ways) (length ways * each + r)
  behind_ways [] r = ap Left (none_before each r)
  behind_ways (w ∷ ws) r = behind_ways ws r ∙ past_way w ws (length ws * each) r ∙ ap (sought (flat_map g (w ∷ ws))) (one_before (length ws) each r)

  pub here_by_number : (ways : List Path) (n : ℕ) (way : Path) → 0 < each → n / each < length ways → way ≡ get_or ways (n / each) way → sought (g way) (n % each) ≡ sought (flat_map g ways) n
  here_by_number ways n way some there is = by_way ways (n / each) (n % each) way (mod-lt n some) there is ∙ ap (sought (flat_map g ways)) (div-add-mod' n each)

  pub left_by_number : (ways : List Path) (n : ℕ) → length ways * each ≤ n → Left (n - length ways * each) ≡ sought (flat_map g ways) n
  left_by_number ways n h = behind_ways ways (n - length ways * each) ∙ ap (sought (flat_map g ways)) (rest_again (length ways * each) n h)

pub all_below : (n each count : ℕ) → count ≤ n / each → count * each ≤ n
all_below n each count h = let a = mul-le-mul_right each h in let b = div-mul-le_self n each in le_by (count * each) (n / each * each) n a b
  where
    le_by : (a b c : ℕ) → a ≤ b → b ≤ c → a ≤ c
    le_by a b c h k = omega (arith, h, k)

pub some_each : (y : Layer) (s : Stage) → IsStageOf y.guard s → 0 < s.each
some_each y s of = let e = of.each in omega (arith, e)

-- as the code makes them
pub stood : (place : Place) (ways : List Path) (y : Layer) (ys : List Layer) (s : Stage) (ss : List Stage) (inner : Place) (more : List Path) → s.place ≡ place → s.ways ≡ ways → IsStageOf y.guard s
    → inner.outer ≡ s.place.outer ++ y.over ∷ [] → tree_of inner.entry.value ≡ Hold (length s.place.outer + 2) → more ≡ each_with s.ways s.passes → AreStages inner.outer more (tree_of inner.entry.value) ys ss
    → AreStages place.outer ways (tree_of place.entry.value) (y ∷ ys) (s ∷ ss)
stood place ways y ys s ss inner more at by of outer entry all h =
    first_stage place.outer inner.outer ways more (tree_of place.entry.value) (tree_of inner.entry.value) y ys s ss (record { outer = ap (λ (p : Place). p.outer) at; ways = by; entry = ap (λ (p : Place). tree_of p.entry.value) at }) of
    (outer ∙ ap (λ (p : Place). p.outer ++ y.over ∷ []) at) (all ∙ ap₂ each_with by of.passes) (entry ∙ ap (λ (p : Place). Hold (length p.outer + 2)) at) h

pub outlined : (a : Accumulator) (all round within : List Level) (ss : List Stage) → layers_seen all ≡ layers_of a → layers_seen round ≡ take a.base (layers_seen all) → layers_seen within ≡ drop a.base (layers_seen all)
    → AreStages (loops_of (layers_seen round)) (ways_through ([] ∷ []) (layers_seen round)) (start_term a.start) (layers_seen within) ss → IsOutlineOf a (record { levels = all; stages = ss })
outlined a all round within ss levels o i h =
    let out : layers_seen round ≡ outside a = o ∙ ap (take a.base) levels in
    let inn : layers_seen within ≡ inside a = i ∙ ap (drop a.base) levels in
    record {
      levels = levels;
      stages =
          subst (λ ys. AreStages (loops_of (outside a)) (ways_through ([] ∷ []) (outside a)) (start_term a.start) ys ss) inn
          (subst (λ zs. AreStages (loops_of zs) (ways_through ([] ∷ []) zs) (start_term a.start) (layers_seen within) ss) out h);
    }

-- what is asked of an accumulator's stages, and what is looked for among its conditions
pub guarded_inside : (a : Accumulator) (o : Outline) (within : List Level) → IsOutlineOf a o → layers_seen within ≡ drop a.base (layers_seen o.levels) → AreOfLayers (layers_seen within) o.stages
guarded_inside a o within h i =
    subst (λ ys. AreOfLayers ys o.stages) (sym (i ∙ ap (drop a.base) h.levels)) (of_layers (loops_of (outside a)) (ways_through ([] ∷ []) (outside a)) (start_term a.start) (inside a) o.stages h.stages)

pub own_staged : (atoms : List Atom) (a : Accumulator) (fs : List Form) (o : Outline) (within : List Level) → IsOutlineOf a o → layers_seen within ≡ drop a.base (layers_seen o.levels)
    → staged atoms a.update fs (layers_seen within) o.stages ≡ own_conditions atoms (a, fs)
own_staged atoms a fs o within h i =
    ap (λ ys. staged atoms a.update fs ys o.stages) (i ∙ ap (drop a.base) h.levels) ∙ staged_there atoms a.update fs (loops_of (outside a)) (ways_through ([] ∷ []) (outside a)) (start_term a.start) (inside a) o.stages h.stages

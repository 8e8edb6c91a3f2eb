-- Where every condition is valid, runs end with what is claimed of them: by induction over the levels from
-- the innermost outwards, and at each level over its turns.
use Rattle.std.proofs.Common.{◌≡◌, ℕ, ◌+◌, ◌<◌, Bool, true, false, cond, ◌||◌, List, [], ◌∷◌, ◌++◌, take, length, slice_get, inl, inr, nat_eq, pos, refl, sym, ap, ap₂, ◌∙◌, subst, arith, append_assoc, append-nil, length-append, eq-eqb, eqb-true}
use Rattle.std.specs.List.{flat_map, take-map, AllByRecursion}
use Rattle.std.proofs.Math.Seq.{take-append_seam}
use Rattle.std.specs.declared.option.Option.{Option}
use Rattle.std.specs.declared.option.Option.TheVariants.{Some, None}
use Rattle.qbs_base.specs.declared.scalar.Row.{Row}
use Rattle.qbs_base.specs.declared.scalar.Scalar.{Scalar}
use Rattle.tor_terms.specs.declared.term.Atom.{Atom}
use Rattle.tor_terms.specs.declared.term.Index.TheVariants.{Zero, At, Next}
use Rattle.tor_terms.specs.Plain.{Form, Tree, Walk, Top, Hold}
use Rattle.tor_terms.specs.Truth.{Datum, Tup, Element, World, has_loop, form_within}
use Rattle.tor_terms.specs.Valid.{IsCurrent, IsValidFor, elem_loop}
use Rattle.tor_terms.specs.Value.{only_number, elem_at, walked, inserted, added, picked, value}
use Rattle.tor_axioms.specs.Accepts.{Claim}
use Rattle.kernel_lang.specs.declared.parts.Update.{Update}
use Rattle.kernel_lang.specs.declared.parts.Update.TheVariants.{Push, PushNew, Tick, Plus, Best, Mark}
use Rattle.kernel_lang.specs.Paths.{Path, each_with, guard_paths}
use Rattle.kernel_lang.specs.Postcondition.{loops_of, nest_walks, nest_ones, body, val, start_term, whole, part}
use Rattle.kernel_lang.specs.Running.{Layer, with_row, passes, started}
use Rattle.kernel_lang.specs.Validity.{element_of, element_within, guard_all}
use Rattle.vc_gen.specs.Conditions.{by_paths, true_steps, false_steps, at_level, level, conditions_in, ways_through}
use Rattle.vc_gen.proofs.AllOf.{all_left, all_right}
use Rattle.vc_gen.proofs.Alike.{at}
use Rattle.vc_gen.proofs.Decide.{Follows, Reached, follows_both, reached_with, guard_reached, satisfied}
use Rattle.vc_gen.proofs.Scope.{IsNew, new_left, row_scope, Chain, Unread, unread_right}
use Rattle.vc_gen.proofs.Frame.{level_same}
use Rattle.vc_gen.proofs.Whole.{every_row, whole_run}
use Rattle.vc_gen.proofs.Uses.{AllCurrent, turns_with, Use}

pub current_append : (w : World) (a b : List ℕ) → AllCurrent w a → AllCurrent w b → AllCurrent w (a ++ b)
current_append w [] b h g = g
current_append w (j ∷ a) b h g = (h.0, current_append w a b h.1 g)

pub among_current : (w : World) (j : ℕ) (ls : List ℕ) → AllCurrent w ls → has_loop ls j ≡ true → IsCurrent w j
among_current w j [] c h = absurd cc
among_current w j (l ∷ ls) c h = go (nat_eq l j) refl h (among_current w j ls c.1)
  where
    go : (x : Bool) → nat_eq l j ≡ x → (x || has_loop ls j) ≡ true → (has_loop ls j ≡ true → IsCurrent w j) → IsCurrent w j
    go true e h ih = subst (IsCurrent w) (eqb-true l j e) c.0
    go false e h ih = ih h

-- ---- worlds that are valid for a level's terms

stands_walks : (w : World) (x : Tree) → IsValidFor w x → (inner : List ℕ) → IsValidFor w (nest_walks x inner)
stands_walks w x h [] = h
stands_walks w x h (l ∷ ls) = (h, stands_walks w (Walk l) tt ls)

stands_ones : (w : World) (x : Tree) → IsValidFor w x → (outer : List ℕ) → AllCurrent w outer → IsValidFor w (nest_ones outer x)
stands_ones w x h [] c = h
stands_ones w x h (l ∷ ls) c = ((c.0, tt), stands_ones w x h ls c.1)

stands_val : (w : World) (u : Update) (a b : Tree) → IsValidFor w a → IsValidFor w b → IsValidFor w (val u a b)
stands_val w (Push e) a b h g = (h, g)
stands_val w (PushNew e) a b h g = g
stands_val w Tick a b h g = (h, g)
stands_val w (Plus e) a b h g = (h, g)
stands_val w (Best way e) a b h g = (h, g)
stands_val w Mark a b h g = (h, g)

stands_level : (w : World) (u : Update) (fs : List Form) (outer : List ℕ) → AllCurrent w outer → (a x : Tree) (inner : List ℕ) → IsValidFor w a → IsValidFor w x → IsValidFor w (val u a (body fs outer x inner))
stands_level w u fs outer c a x inner h g = stands_val w u a (body fs outer x inner) h (stands_ones w (nest_walks x inner) (stands_walks w x g inner) outer c)

-- the loop of the update's element is one of these
abbrev pub ReadsAmong : Update → List ℕ → Type 0
ReadsAmong u ls = element_within ls (element_of u) ≡ true

none_left : (u : Update) (outer : List ℕ) → ReadsAmong u (outer ++ []) → ReadsAmong u outer
none_left u outer r = subst (λ ls. element_within ls (element_of u) ≡ true) (append-nil outer) r

stands_effect : (w : World) (u : Update) (fs : List Form) (outer : List ℕ) → AllCurrent w outer → (a : Tree) → ReadsAmong u outer → IsValidFor w a → IsValidFor w (whole u fs outer a [])
stands_effect w (Push e) fs outer c a r h = (h, among_current w (elem_loop e) outer c r)
stands_effect w (PushNew e) fs outer c a r h = h
stands_effect w Tick fs outer c a r h = (h, tt)
stands_effect w (Plus e) fs outer c a r h = (h, among_current w (elem_loop e) outer c r)
stands_effect w (Best way e) fs outer c a r h = (h, among_current w (elem_loop e) outer c r)
stands_effect w Mark fs outer c a r h = tt

stands_whole : (w : World) (u : Update) (fs : List Form) (outer : List ℕ) → AllCurrent w outer → (a : Tree) (ys : List Layer) → ReadsAmong u (outer ++ loops_of ys) → IsValidFor w a → IsValidFor w (whole u fs outer a ys)
stands_whole w u fs outer c a [] r h = stands_effect w u fs outer c a (none_left u outer r) h
stands_whole w u fs outer c a (y ∷ ys) r h = stands_level w u fs outer c a (Walk y.over) (loops_of ys) h tt

-- the first rows of a list, and the row behind them
seam : (done todo : List Row) (r : Row) → slice_get (done ++ r ∷ todo) (length done) ≡ Some r
seam [] todo r = refl
seam (d ∷ done) todo r = seam done todo r

module _ (b : World) (atoms : List Atom) where
  -- another row of a new loop, or other held values, leave the loops outside current
  pub current_kept : (t : ℕ → ℕ) (c : ℕ → Row) (h : ℕ → List Datum) (l n : ℕ) (r : Row) (outer : List ℕ) → IsNew l outer → AllCurrent (at b t c h) outer
      → AllCurrent (at b (λ j. cond (nat_eq l j) n (t j)) (with_row c l r) h) outer
  current_kept t c h l n r [] new now = tt
  current_kept t c h l n r (k ∷ ks) new now =
      let e : cond (nat_eq l k) n (t k) ≡ t k = ap (λ x. cond x n (t k)) new.0 in
      let f : cond (nat_eq l k) r (c k) ≡ c k = ap (λ x. cond x r (c k)) new.0 in
      (record { below = subst (λ s. s < length (b.lists k)) (sym e) now.0.below; row = ap (slice_get (b.lists k)) e ∙ now.0.row ∙ ap Some (sym f) }, current_kept t c h l n r ks new.1 now.1)

  current_held : (t : ℕ → ℕ) (c : ℕ → Row) (h g : ℕ → List Datum) (ls : List ℕ) → AllCurrent (at b t c h) ls → AllCurrent (at b t c g) ls
  current_held t c h g [] now = tt
  current_held t c h g (k ∷ ks) now = (record { below = now.0.below; row = now.0.row }, current_held t c h g ks now.1)

  -- facts that hold, and the valid conditions under them
  record Picked (V : Claim → Type 0) (rows : ℕ → Row) (g : Path → List Claim) : Type 0 where
    facts : Path
    hold : Follows b atoms rows facts
    valid : AllByRecursion V (g facts)

  pick : (V : Claim → Type 0) (rows : ℕ → Row) (g : Path → List Claim) (Fs : List Path) → AllByRecursion V (flat_map g Fs) → Reached b atoms rows Fs → Picked V rows g
  pick V rows g [] a h = absurd h
  pick V rows g (F ∷ Fs) a h = elim h [ inl s ↦ record { facts = F; hold = s; valid = all_left V (g F) (flat_map g Fs) a } | inr r ↦ pick V rows g Fs (all_right V (g F) (flat_map g Fs) a) r ]

  -- the condition of a path that holds
  by_path : (u : Update) (fs : List Form) (all : List ℕ) (using : Use b atoms u fs all) (t : ℕ → ℕ) (c : ℕ → Row) (h : ℕ → List Datum) (s : using.State t c h) (l r : Tree) (F : Path) → Follows b atoms c F → IsValidFor (at b t c h) l → IsValidFor (at b t c h) r
      → using.Fits t c h s l → using.Fits t c h s r → (ps : List Path) → AllByRecursion using.Valid (by_paths atoms F l r ps) → Reached b atoms c ps → value (at b t c h) atoms l ≡ value (at b t c h) atoms r
  by_path u fs all using t c h s l r F d x y f g [] v k = absurd k
  by_path u fs all using t c h s l r F d x y f g (p ∷ ps) v k =
      elim k [ inl q ↦ using.use_it t c h s (F ++ p) l r v.0 x y f g (satisfied b atoms c t h (F ++ p) (follows_both b atoms c F p d q)) | inr q ↦ by_path u fs all using t c h s l r F d x y f g ps v.1 q ]

  -- a value at entry that the turns inside do not change
  pub record Steady (a : Tree) : Type 1 where
    pub same : (t s : ℕ → ℕ) (c d : ℕ → Row) (h : ℕ → List Datum) → value (at b t c h) atoms a ≡ value (at b s d h) atoms a
    pub stands : (w : World) → IsValidFor w a
    pub turned : (u : Update) (fs : List Form) (all : List ℕ) (using : Use b atoms u fs all) (t : ℕ → ℕ) (c : ℕ → Row) (h : ℕ → List Datum) (s : using.State t c h) (j m : ℕ) (r : Row)
        → using.Fits t c h s a → using.Fits (turns_with t j m) (with_row c j r) h (using.turned t c h s j m r) a

  -- in worlds that differ in turns and held values alone, the entry's value counts
  pub whole_same : (t s : ℕ → ℕ) (c : ℕ → Row) (h g : ℕ → List Datum) (u : Update) (fs : List Form) (outer : List ℕ) (ys : List Layer) → Chain atoms outer ys → (x y : Tree) → value (at b t c h) atoms x ≡ value (at b s c g) atoms y
      → value (at b t c h) atoms (whole u fs outer x ys) ≡ value (at b s c g) atoms (whole u fs outer y ys)
  whole_same t s c h g (Push e) fs outer [] k x y q = ap (λ v. v ++ Element (elem_at c e) ∷ []) q
  whole_same t s c h g (PushNew e) fs outer [] k x y q = ap (λ v. inserted v (Element (elem_at c e))) q
  whole_same t s c h g Tick fs outer [] k x y q = ap (λ v. added v (only_number (pos 1))) q
  whole_same t s c h g (Plus e) fs outer [] k x y q = ap (λ v. added v (Element (elem_at c e) ∷ [])) q
  whole_same t s c h g (Best way e) fs outer [] k x y q = ap (λ v. picked way v (Element (elem_at c e) ∷ [])) q
  whole_same t s c h g Mark fs outer [] k x y q = refl
  whole_same t s c h g u fs outer (z ∷ zs) k x y q =
      level_same b atoms t s c c h g z.over (λ j e. refl) u fs outer k.0 x y q (Walk z.over) (Walk z.over) (b.lists z.over) refl refl (loops_of zs)

  -- what the layers that are left make of a term fits where it does
  fits_whole : (u : Update) (fs : List Form) (all : List ℕ) (using : Use b atoms u fs all) (t : ℕ → ℕ) (c : ℕ → Row) (h : ℕ → List Datum) (s : using.State t c h) (outer : List ℕ) (ys : List Layer) → outer ++ loops_of ys ≡ all → AllCurrent (at b t c h) outer
      → (a : Tree) → using.Fits t c h s a → using.Fits t c h s (whole u fs outer a ys)
  fits_whole u fs all using t c h s outer [] e now a f = using.effect_fits t c h s outer (sym (append-nil outer) ∙ e) now a f
  fits_whole u fs all using t c h s outer (y ∷ ys) e now a f = using.whole_fits t c h s outer y.over (loops_of ys) e now a f

  -- one level: its layer y, the layers inside, and what is known of the guards outside
  module _ (u : Update) (fs : List Form) (outer : List ℕ) (Fs : List Path) (a : Tree) (steady : Steady a) (y : Layer) (ys : List Layer) (new : IsNew y.over outer) (chain : Chain atoms (outer ++ y.over ∷ []) ys)
      (P : (ℕ → Row) → Type 0) (kept : (rows : ℕ → Row) (r : Row) → P rows → P (with_row rows y.over r)) (covers : (rows : ℕ → Row) → P rows → Reached b atoms rows Fs)
      (all : List ℕ) (using : Use b atoms u fs all) (places : outer ++ y.over ∷ loops_of ys ≡ all)
      (valid : AllByRecursion using.Valid (level atoms u fs outer Fs a y ys)) (reads : ReadsAmong u ((outer ++ y.over ∷ []) ++ loops_of ys)) (n : ℕ)
      (inner : (t : ℕ → ℕ) (c : ℕ → Row) (h : ℕ → List Datum) (s : using.State t c h) → using.Fits t c h s (Hold n) → AllCurrent (at b t c h) (outer ++ y.over ∷ []) → P c → passes b atoms c y.guard ≡ true
      → whole_run b atoms u ys c (h n) ≡ value (at b t c h) atoms (whole u fs (outer ++ y.over ∷ []) (Hold n) ys))
      (t : ℕ → ℕ) (c : ℕ → Row) (h : ℕ → List Datum) (state : using.State t c h) (fits : using.Fits t c h state a) (now : AllCurrent (at b t c h) outer) (p : P c) where
    -- the turns and rows at the turn m, with the row r
    abbrev turns_at : ℕ → ℕ → ℕ
    turns_at m j = cond (nat_eq y.over j) m (t j)

    abbrev rows_with : Row → ℕ → Row
    rows_with r = with_row c y.over r

    same_loop : nat_eq y.over y.over ≡ true
    same_loop = eq-eqb y.over y.over refl

    -- x is the level's value for the rows done of its loop, in each world that differs in that loop alone
    abbrev Is : List Row → List Datum → Type 0
    Is done x = (s : ℕ → ℕ) (d : ℕ → Row) → ((j : ℕ) → nat_eq y.over j ≡ false → d j ≡ c j) → (tree : Tree) → value (at b s d h) atoms tree ≡ walked y.over done → value (at b s d h) atoms (val u a (body fs outer tree (loops_of ys))) ≡ x

    everywhere : (done : List Row) (x : List Datum) (s : ℕ → ℕ) (d : ℕ → Row) → ((j : ℕ) → nat_eq y.over j ≡ false → d j ≡ c j) → (tree : Tree) → value (at b s d h) atoms tree ≡ walked y.over done
        → value (at b s d h) atoms (val u a (body fs outer tree (loops_of ys))) ≡ x → Is done x
    everywhere done x s d k tree e q = λ s' d' k' tree' e'.
        level_same b atoms s' s d' d h h y.over (λ j f. k' j f ∙ sym (k j f)) u fs outer new a a (steady.same s' s d' d h) tree' tree done e' e (loops_of ys) ∙ q

    apart : (r : Row) (j : ℕ) → nat_eq y.over j ≡ false → rows_with r j ≡ c j
    apart r j e = ap (λ x. cond x r (c j)) e

    -- no turns
    first : Is [] (value (at b t c h) atoms a)
    first =
        let k : Picked using.Valid c (at_level atoms u fs outer a y ys) = pick using.Valid c (at_level atoms u fs outer a y ys) Fs valid (covers c p) in
        everywhere [] (value (at b t c h) atoms a) t c (λ j e. refl) (Top Zero (Walk y.over)) refl
        (using.use_it t c h state k.facts (part u fs outer a y ys Zero) a k.valid.0 (stands_level (at b t c h) u fs outer now a (Top Zero (Walk y.over)) (loops_of ys) (steady.stands (at b t c h)) (tt, tt)) (steady.stands (at b t c h))
        (using.part_fits t c h state outer y.over (loops_of ys) places now a fits Zero tt) fits (satisfied b atoms c t h k.facts k.hold))

    -- the rows that a Top takes
    taken : (m : ℕ) (done todo rs : List Row) → rs ≡ done ++ todo → m ≡ length done → take m (walked y.over rs) ≡ walked y.over done
    taken m done todo rs e k = take-map (λ r. Tup ((y.over, r) ∷ [])) m rs ∙ ap (walked y.over) (ap₂ take k e ∙ take-append_seam done todo)

    turned : (m : ℕ) → turns_at m y.over ≡ m
    turned m = ap (λ x. cond x m (t y.over)) same_loop

    current_at : (done todo : List Row) (r : Row) → b.lists y.over ≡ done ++ r ∷ todo → IsCurrent (at b (turns_at (length done)) (rows_with r) h) y.over
    current_at done todo r e =
        let k : turns_at (length done) y.over ≡ length done = turned (length done) in
        record {
          below = omega (arith, k, ap length e, length-append done (r ∷ todo));
          row = ap₂ slice_get e k ∙ seam done todo r ∙ ap Some (sym (ap (λ x. cond x r (c y.over)) same_loop));
        }

    module _ (done todo : List Row) (r : Row) (x : List Datum) (e : b.lists y.over ≡ done ++ r ∷ todo) (q : Is done x) where
      abbrev turns_here : ℕ → ℕ
      turns_here = turns_at (length done)

      abbrev rows_here : ℕ → Row
      rows_here = rows_with r

      abbrev here : World
      here = at b turns_here rows_here h

      at_next : value here atoms (Top (Next y.over) (Walk y.over)) ≡ walked y.over (done ++ r ∷ [])
      at_next = taken (turns_here y.over + 1) (done ++ r ∷ []) todo (b.lists y.over) (e ∙ sym (append_assoc done (r ∷ []) todo)) (ap (λ m. m + 1) (turned (length done)) ∙ sym (length-append done (r ∷ [])))

      at_done : value here atoms (Top (At y.over) (Walk y.over)) ≡ walked y.over done
      at_done = taken (turns_here y.over) done (r ∷ todo) (b.lists y.over) e (turned (length done))

      abbrev state_here : using.State turns_here rows_here h
      state_here = using.turned t c h state y.over (length done) r

      fits_here : using.Fits turns_here rows_here h state_here a
      fits_here = steady.turned u fs all using t c h state y.over (length done) r fits

      still : AllCurrent here outer
      still = current_kept t c h y.over (length done) r outer new now

      still_inside : AllCurrent here (outer ++ y.over ∷ [])
      still_inside = current_append here outer (y.over ∷ []) still (current_at done todo r e, tt)

      next_stands : IsValidFor here (part u fs outer a y ys (Next y.over))
      next_stands = stands_level here u fs outer still a (Top (Next y.over) (Walk y.over)) (loops_of ys) (steady.stands here) (current_at done todo r e, tt)

      done_stands : IsValidFor here (part u fs outer a y ys (At y.over))
      done_stands = stands_level here u fs outer still a (Top (At y.over) (Walk y.over)) (loops_of ys) (steady.stands here) (current_at done todo r e, tt)

      next_fits : using.Fits turns_here rows_here h state_here (part u fs outer a y ys (Next y.over))
      next_fits = using.part_fits turns_here rows_here h state_here outer y.over (loops_of ys) places still a fits_here (Next y.over) refl

      done_fits : using.Fits turns_here rows_here h state_here (part u fs outer a y ys (At y.over))
      done_fits = using.part_fits turns_here rows_here h state_here outer y.over (loops_of ys) places still a fits_here (At y.over) refl

      before : value here atoms (part u fs outer a y ys (At y.over)) ≡ x
      before = q turns_here rows_here (apart r) (Top (At y.over) (Walk y.over)) at_done

      chosen : Picked using.Valid rows_here (at_level atoms u fs outer a y ys)
      chosen = pick using.Valid rows_here (at_level atoms u fs outer a y ys) Fs valid (covers rows_here (kept c r p))

      -- the guard fails
      passed_over : passes b atoms rows_here y.guard ≡ false → value here atoms (part u fs outer a y ys (Next y.over)) ≡ x
      passed_over f =
          let k : Picked using.Valid rows_here (at_level atoms u fs outer a y ys) = chosen in
          by_path u fs all using turns_here rows_here h state_here (part u fs outer a y ys (Next y.over)) (part u fs outer a y ys (At y.over)) k.facts k.hold next_stands done_stands next_fits done_fits (guard_paths y.guard false)
          (all_left using.Valid (false_steps atoms u fs outer a y ys k.facts) _ (all_right using.Valid (true_steps atoms u fs outer a y ys k.facts) _ k.valid.1))
          (guard_reached b atoms rows_here y.guard false f)
          ∙ before

      -- the value so far is held for the layers inside
      abbrev holding : ℕ → List Datum
      holding j = cond (nat_eq n j) x (h j)

      held_here : holding n ≡ x
      held_here = ap (λ z. cond z x (h n)) (eq-eqb n n refl)

      -- the guard holds
      gone_in : passes b atoms rows_here y.guard ≡ true → value here atoms (part u fs outer a y ys (Next y.over)) ≡ whole_run b atoms u ys rows_here x
      gone_in f =
          let k : Picked using.Valid rows_here (at_level atoms u fs outer a y ys) = chosen in
          by_path u fs all using turns_here rows_here h state_here (part u fs outer a y ys (Next y.over)) (whole u fs (outer ++ y.over ∷ []) (part u fs outer a y ys (At y.over)) ys) k.facts k.hold next_stands
          (stands_whole here u fs (outer ++ y.over ∷ []) still_inside (part u fs outer a y ys (At y.over)) ys reads done_stands) next_fits
          (fits_whole u fs all using turns_here rows_here h state_here (outer ++ y.over ∷ []) ys (append_assoc outer (y.over ∷ []) (loops_of ys) ∙ places) still_inside (part u fs outer a y ys (At y.over)) done_fits) (guard_paths y.guard true)
          (all_left using.Valid (true_steps atoms u fs outer a y ys k.facts) _ k.valid.1)
          (guard_reached b atoms rows_here y.guard true f)
          ∙ sym (whole_same turns_here turns_here rows_here holding h u fs (outer ++ y.over ∷ []) ys chain (Hold n) (part u fs outer a y ys (At y.over)) (held_here ∙ sym before))
          ∙ sym (inner turns_here rows_here holding (using.held turns_here rows_here h state_here n x (part u fs outer a y ys (At y.over)) done_fits before)
          (using.held_fits turns_here rows_here h state_here n x (part u fs outer a y ys (At y.over)) done_fits before) (current_held turns_here rows_here h holding (outer ++ y.over ∷ []) still_inside) (kept c r p) f)
          ∙ ap (whole_run b atoms u ys rows_here) held_here

      turn : (z : Bool) → passes b atoms rows_here y.guard ≡ z → value here atoms (part u fs outer a y ys (Next y.over)) ≡ cond z (whole_run b atoms u ys rows_here x) x
      turn true f = gone_in f
      turn false f = passed_over f

      -- one more turn
      next : Is (done ++ r ∷ []) (cond (passes b atoms (with_row c y.over r) y.guard) (whole_run b atoms u ys (with_row c y.over r) x) x)
      next = everywhere (done ++ r ∷ []) (cond (passes b atoms rows_here y.guard) (whole_run b atoms u ys rows_here x) x) turns_here rows_here (apart r) (Top (Next y.over) (Walk y.over)) at_next (turn (passes b atoms rows_here y.guard) refl)

    all_turns : (todo done : List Row) (x : List Datum) → b.lists y.over ≡ done ++ todo → Is done x
        → Is (b.lists y.over) (every_row todo (λ r x. cond (passes b atoms (with_row c y.over r) y.guard) (whole_run b atoms u ys (with_row c y.over r) x) x) x)
    all_turns [] done x e q = subst (λ rs. Is rs x) (sym (e ∙ append-nil done)) q
    all_turns (r ∷ todo) done x e q = all_turns todo (done ++ r ∷ []) _ (e ∙ sym (append_assoc done (r ∷ []) todo)) (next done todo r x e q)

    level_ends : whole_run b atoms u (y ∷ ys) c (value (at b t c h) atoms a) ≡ value (at b t c h) atoms (whole u fs outer a (y ∷ ys))
    level_ends = sym (all_turns (b.lists y.over) [] (value (at b t c h) atoms a) refl first t c (λ j e. refl) (Walk y.over) refl)

  -- what holds of the rows does not change with the row of a loop inside
  abbrev pub Stable : ((ℕ → Row) → Type 0) → List Layer → Type 0
  Stable P [] = Unit {0}
  Stable P (y ∷ ys) = ((rows : ℕ → Row) (r : Row) → P rows → P (with_row rows y.over r)) × Stable P ys

  stable_both : (P : (ℕ → Row) → Type 0) (g : Option Form) (ys : List Layer) → Stable P ys → Unread b atoms g ys → Stable (λ rows. P rows × (passes b atoms rows g ≡ true)) ys
  stable_both P g [] s h = tt
  stable_both P g (y ∷ ys) s h = (λ rows r k. (s.0 rows r k.0, h.0 rows r ∙ k.1), stable_both P g ys s.1 h.1)

  -- a guard reads no row of the layers inside its own
  pub unread_inside : (g : Option Form) (ls more : List ℕ) → guard_all (form_within atoms ls) g ≡ true → (ys : List Layer) → Chain atoms (ls ++ more) ys → Unread b atoms g ys
  unread_inside g ls more w [] k = tt
  unread_inside g ls more w (y ∷ ys) k =
      (λ rows r. row_scope b atoms rows y.over r ls (new_left y.over ls more k.0) g w, unread_inside g ls (more ++ y.over ∷ []) w ys (subst (λ all. Chain atoms all ys) (append_assoc ls more (y.over ∷ [])) k.2))

  unread_next : (y : Layer) (outer : List ℕ) (ys : List Layer) → Chain atoms outer (y ∷ ys) → Unread b atoms y.guard ys
  unread_next y outer ys k = unread_inside y.guard (outer ++ y.over ∷ []) [] k.1 ys (subst (λ all. Chain atoms all ys) (sym (append-nil (outer ++ y.over ∷ []))) k.2)

  steady_hold : (n : ℕ) → Steady (Hold n)
  steady_hold n = record { same = λ t s c d h. refl; stands = λ w. tt; turned = λ u fs all using t c h s j m r f. using.turned_hold t c h s j m r n f }

  reads_on : (u : Update) (outer : List ℕ) (l : ℕ) (ls : List ℕ) → ReadsAmong u (outer ++ l ∷ ls) → ReadsAmong u ((outer ++ l ∷ []) ++ ls)
  reads_on u outer l ls r = subst (λ all. element_within all (element_of u) ≡ true) (sym (append_assoc outer (l ∷ []) ls)) r

  ends : (u : Update) (fs : List Form) (ys : List Layer) (outer : List ℕ) (Fs : List Path) (a : Tree) → Steady a → Chain atoms outer ys → (P : (ℕ → Row) → Type 0) → Stable P ys → ((rows : ℕ → Row) → P rows → Reached b atoms rows Fs)
      → (all : List ℕ) (using : Use b atoms u fs all) → outer ++ loops_of ys ≡ all → AllByRecursion using.Valid (conditions_in atoms u fs outer Fs a ys) → ReadsAmong u (outer ++ loops_of ys)
      → (t : ℕ → ℕ) (c : ℕ → Row) (h : ℕ → List Datum) (s : using.State t c h) → using.Fits t c h s a → AllCurrent (at b t c h) outer → P c
      → whole_run b atoms u ys c (value (at b t c h) atoms a) ≡ value (at b t c h) atoms (whole u fs outer a ys)
  ends (Push e) fs [] outer Fs a steady chain P stable covers all using places valid reads t c h s f now p = refl
  ends (PushNew e) fs [] outer Fs a steady chain P stable covers all using places valid reads t c h s f now p = refl
  ends Tick fs [] outer Fs a steady chain P stable covers all using places valid reads t c h s f now p = refl
  ends (Plus e) fs [] outer Fs a steady chain P stable covers all using places valid reads t c h s f now p = refl
  ends (Best way e) fs [] outer Fs a steady chain P stable covers all using places valid reads t c h s f now p = refl
  ends Mark fs [] outer Fs a steady chain P stable covers all using places valid reads t c h s f now p = refl
  ends u fs (y ∷ ys) outer Fs a steady chain P stable covers all using places valid reads t c h s f now p =
      level_ends u fs outer Fs a steady y ys chain.0 chain.2 P stable.0 covers all using places (all_left using.Valid (level atoms u fs outer Fs a y ys) _ valid) (reads_on u outer y.over (loops_of ys) reads) (length outer + 2)
      (λ t c h s f now p pass. ends u fs ys (outer ++ y.over ∷ []) (each_with Fs (guard_paths y.guard true)) (Hold (length outer + 2)) (steady_hold (length outer + 2)) chain.2 (λ rows. P rows × (passes b atoms rows y.guard ≡ true)) (stable_both P y.guard ys stable.1 (unread_next y outer ys chain))
      (λ rows k. reached_with b atoms rows Fs (guard_paths y.guard true) (covers rows k.0) (guard_reached b atoms rows y.guard true k.1)) all using (append_assoc outer (y.over ∷ []) (loops_of ys) ∙ places) (all_right using.Valid (level atoms u fs outer Fs a y ys) _ valid)
      (reads_on u outer y.over (loops_of ys) reads) t c h s f now (p, pass))
      t c h s f now p

  pub steady_start : (o : Option Scalar) → Steady (start_term o)
  steady_start None = record { same = λ t s c d h. refl; stands = λ w. tt; turned = λ u fs all using t c h s j m r f. using.turned_start t c h s j m r None f }
  steady_start (Some x) = record { same = λ t s c d h. refl; stands = λ w. tt; turned = λ u fs all using t c h s j m r f. using.turned_start t c h s j m r (Some x) f }

  started_start : (o : Option Scalar) (w : World) → value w atoms (start_term o) ≡ started o
  started_start None w = refl
  started_start (Some x) w = refl

  -- the guards of these layers hold
  abbrev pub AllPass : (ℕ → Row) → List Layer → Type 0
  AllPass rows [] = Unit {0}
  AllPass rows (y ∷ ys) = (passes b atoms rows y.guard ≡ true) × AllPass rows ys

  -- no guard of the layers outside reads a row of those inside
  abbrev pub AllUnread : List Layer → List Layer → Type 0
  AllUnread [] ys = Unit {0}
  AllUnread (z ∷ zs) ys = Unread b atoms z.guard ys × AllUnread zs ys

  pub all_unread : (outer : List ℕ) (zs ys : List Layer) → Chain atoms outer (zs ++ ys) → AllUnread zs ys
  all_unread outer [] ys k = tt
  all_unread outer (z ∷ zs) ys k = (unread_right b atoms z.guard zs ys (unread_next z outer (zs ++ ys) k), all_unread (outer ++ z.over ∷ []) zs ys k.2)

  pub pass_kept : (zs : List Layer) (y : Layer) (ys : List Layer) → AllUnread zs (y ∷ ys) → (rows : ℕ → Row) (r : Row) → AllPass rows zs → AllPass (with_row rows y.over r) zs
  pass_kept [] y ys h rows r k = tt
  pass_kept (z ∷ zs) y ys h rows r k = (h.0.0 rows r ∙ k.0, pass_kept zs y ys h.1 rows r k.1)

  unread_fewer : (zs : List Layer) (y : Layer) (ys : List Layer) → AllUnread zs (y ∷ ys) → AllUnread zs ys
  unread_fewer [] y ys h = tt
  unread_fewer (z ∷ zs) y ys h = (h.0.1, unread_fewer zs y ys h.1)

  stable_pass : (zs ys : List Layer) → AllUnread zs ys → Stable (λ rows. AllPass rows zs) ys
  stable_pass zs [] h = tt
  stable_pass zs (y ∷ ys) h = (λ rows r k. pass_kept zs y ys h rows r k, stable_pass zs ys (unread_fewer zs y ys h))

  through : (rows : ℕ → Row) (zs : List Layer) (Fs : List Path) → Reached b atoms rows Fs → AllPass rows zs → Reached b atoms rows (ways_through Fs zs)
  through rows [] Fs h k = h
  through rows (z ∷ zs) Fs h k = through rows zs (each_with Fs (guard_paths z.guard true)) (reached_with b atoms rows Fs (guard_paths z.guard true) h (guard_reached b atoms rows z.guard true k.0)) k.1

  pub chain_inside : (outer : List ℕ) (zs ys : List Layer) → Chain atoms outer (zs ++ ys) → Chain atoms (outer ++ loops_of zs) ys
  chain_inside outer [] ys k = subst (λ ls. Chain atoms ls ys) (sym (append-nil outer)) k
  chain_inside outer (z ∷ zs) ys k = subst (λ ls. Chain atoms ls ys) (append_assoc outer (z.over ∷ []) (loops_of zs)) (chain_inside (outer ++ z.over ∷ []) zs ys k.2)

  -- where every condition is valid, the run ends with the value of the postcondition
  pub whole-ends : (u : Update) (fs : List Form) (o : Option Scalar) (zs ys : List Layer) → Chain atoms [] (zs ++ ys) → ReadsAmong u (loops_of zs ++ loops_of ys)
      → (all : List ℕ) (using : Use b atoms u fs all) → loops_of zs ++ loops_of ys ≡ all → AllByRecursion using.Valid (conditions_in atoms u fs (loops_of zs) (ways_through ([] ∷ []) zs) (start_term o) ys)
      → (t : ℕ → ℕ) (c : ℕ → Row) (h : ℕ → List Datum) (s : using.State t c h) → using.Fits t c h s (start_term o) → AllCurrent (at b t c h) (loops_of zs) → AllPass c zs
      → whole_run b atoms u ys c (started o) ≡ value (at b t c h) atoms (whole u fs (loops_of zs) (start_term o) ys)
  whole-ends u fs o zs ys chain reads all using places valid t c h s f now pass =
      subst (λ v. whole_run b atoms u ys c v ≡ value (at b t c h) atoms (whole u fs (loops_of zs) (start_term o) ys)) (started_start o (at b t c h))
      (ends u fs ys (loops_of zs) (ways_through ([] ∷ []) zs) (start_term o) (steady_start o) (chain_inside [] zs ys chain) (λ rows. AllPass rows zs) (stable_pass zs ys (all_unread [] zs ys chain))
      (λ rows k. through rows zs ([] ∷ []) (inl tt) k) all using places valid reads t c h s f now pass)

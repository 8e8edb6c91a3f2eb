-- The accumulators of a lowered fragment are those of the variables of the loop: each has a chain of loops and guards in the
-- turns of the loop, which are the layers of its accumulator.
use Rattle.std.proofs.Common.{◌≡◌, ℕ, suc, ◌+◌, ◌<◌, ◌≤◌, Bool, true, false, List, [], ◌∷◌, length, Option, Some, None, refl, sym, ap, ◌∙◌, subst, cond, slice_get, bytes_eq, arith, ⊎_elim}
use Rattle.std.proofs.lemmas.Bool.{cases_lt, cases_eq, cond-false}
use Rattle.std.proofs.lemmas.Option.{slice_get_within}
use Rattle.qbs_base.specs.declared.scalar.Ty.TheVariants as tys
use Rattle.java_ast.specs.Tree as tree
use Rattle.java_ast.specs.Tree.{Spelled, Expression, Statement, Statements}
use Rattle.java_mean.specs.declared.types.JavaType.{JavaType}
use Rattle.java_mean.specs.declared.types.JavaType.TheVariants.{Of}
use Rattle.java_mean.specs.declared.types.Single.TheVariants.{ScalarOf, RowOf}
use Rattle.java_mean.specs.Types.{Types, with_type}
use Rattle.java_mean.specs.Typing.{Frame, TypedStatement, TypedStatements}
use Rattle.java_mean.proofs.Puts.{names_equal}
use Rattle.java_mean.proofs.TypedRuns.{extends_statement}
use Rattle.kernel_lang.specs.Plain.{Accumulator, Fragment}
use Rattle.kernel_lang.specs.Running.{Layer, layer, layers_of, started}
use Rattle.tor_terms.specs.Plain.{Form}
use Rattle.kernel_lang.specs.declared.parts.Update.TheVariants as updates
use Rattle.java_loops.specs.Walks.Carried.{Suits}
use Rattle.java_loops.specs.Walks.ChainLaws.{IsTurned}
use Rattle.java_loops.specs.Walks.Chains.{By, joined, AreChain}
use Rattle.java_loops.specs.Walks.Numbering.{Numbering, no_flags, with_loop}
use Rattle.loop_text.specs.Statements.Fragment.{is_name}
use Rattle.loop_text.specs.Kernel.KernelForms.{adds, counts, sums, takes, marks, other, whole, column, Found, form_of, best_claims, best_way, only_way}
use Rattle.java_loops.specs.Kernel.KernelForms.{fits, fits_outer, fits_target, is_distinct}
use Rattle.loop_text.specs.Kernel.KernelForms as kernel_forms
use Rattle.loop_text.specs.Kernel.KernelStarts.{Numbered, first_site, updates_name, update_of, form_found}
use Rattle.loop_text.specs.Statements.Loops.{is_loop}
use Rattle.java_loops.specs.Lowering.Lowered.{accumulator_with, update_with, is_opposite, element_of_column, way_found}
use Rattle.java_loops.specs.Lowering.Numbering.{Numbers, table_of_loop}
use Rattle.java_loops.specs.Kernel.Setting.{Setting}
use Rattle.loop_text.specs.declared.sites.bindings.Binding.TheVariants.{Row, Local, Outer}
use Rattle.loop_text.specs.Sites.Sites.{Round, Site, RowColumn, binding_at, counted_row, in_loop, outside, kernel_body, sites_of, target_of}
use Rattle.java_loops.proofs.Typing.BoundSteps.{bound_next, bound_past, bound_other, new_row}
use Rattle.java_loops.proofs.Typing.BoundTyping.{typed_next, typed_if, typed_choice, over, over_new, typed_each, typed_while, new_other, seen_with, row_new}
use Rattle.java_loops.proofs.Chained.ChainAims.{Aim, Aimed, DownAll, Start}
use Rattle.java_loops.proofs.Chained.ChainBest.{AimBest, BestWay, best_change, best_ways, best_whole}
use Rattle.java_loops.proofs.Chained.ChainDown.{all_down}
use Rattle.java_loops.proofs.Chained.ChainExcepted.{OneConjunct, one_conjunct, plain_way}
use Rattle.java_loops.proofs.Chained.ChainFlagForms.{HasFlags}
use Rattle.java_loops.proofs.Chained.ChainFlags.{Loud}
use Rattle.java_loops.proofs.Chained.ChainPremises.{HasElements, HasForms, HasNumbers, HasRows}
use Rattle.java_loops.proofs.Chained.ChainSettles.{loud_rules}
use Rattle.java_loops.proofs.Chained.ChainSight.{Sight, Binds, sight_row, with_row}
use Rattle.java_loops.proofs.Chained.ChainSites.{all_at_site}
use Rattle.java_loops.proofs.Chained.ChainSteady.{PlainBut, AimForms, Stays, update_aimed, opposite_aimed, steady_ways}
use Rattle.java_loops.proofs.Chained.ChainSteps.{Step, Through, round_down, fronts, layers_down, layers_inside}
use Rattle.java_loops.proofs.Chained.ChainUpdates.{IsSteady}
use Rattle.java_loops.proofs.Nested.NestRules.{Unbroken, formed_at}
use Rattle.java_loops.proofs.Standing.Standing.{site_of, Stands, single, when, choose, walks, repeats, AllStand, nothing, next}
use Rattle.java_loops.proofs.Standing.StandingKnown.{Known, site_known}
use Rattle.java_loops.proofs.Standing.StandingRules.{get_same}
use Rattle.java_loops.proofs.Standing.StandingSites.{body_stands, loop_first}

-- ---- A visible name is bound alike at each site

later : (n i : ℕ) → n ≤ i → (n ≡ i → ⊥) → suc n ≤ i
later n i low different = ⊎_elim (λ l. l) (λ h. absurd (different (omega arith))) (cases_lt n i)

at_itself : (sites : List Site) (n i : ℕ) (y : List ℕ) → n ≡ i → binding_at sites i y ≡ binding_at sites n y
at_itself sites n i y e = ap (λ k. binding_at sites k y) (sym e)

mutual
  bound_in : (c : Frame) (sites : List Site) (r : Round) (previous : Option Statement) (s : Statement) (n m : ℕ) → Stands sites r previous s n m → (l : Option Types) (g h : Types) → TypedStatement c l g s h → (y : List ℕ) (k : JavaType) → g y ≡ Some k → (i : ℕ) → n ≤ i → i < m → binding_at sites i y ≡ binding_at sites n y
  bound_in c sites _ _ _ _ _ (single r previous s n one get) l g h t y k seen i low high = at_itself sites n i y (omega arith)
  bound_in c sites _ _ _ _ _ (when r previous at e p n m get all) l g h t y k seen i low high =
      let u = typed_if c l g h at e p t in
      ⊎_elim (at_itself sites n i y) (λ o. all_bound_in c sites _ _ p (suc n) m all l g u.branch.last u.branch.body y k seen i (later n i low o) high ∙ bound_next sites n (site_of r previous (tree.If at e p)) y get) (cases_eq n i)
  bound_in c sites _ _ _ _ _ (choose r previous at e p q n m z get all more) l g h t y k seen i low high =
      let u = typed_choice c l g h at e p q t in
      ⊎_elim (at_itself sites n i y) (λ o. ⊎_elim
      (λ first. all_bound_in c sites _ _ p (suc n) m all l g u.branch.last u.branch.body y k seen i (later n i low o) first ∙ bound_next sites n (site_of r previous (tree.IfElse at e p q)) y get)
      (λ second. all_bound_in c sites _ _ q m z more l g u.other.last u.other.body y k seen i second high ∙ bound_other c sites r previous at e p q n m get all l g u.branch.last u.branch.body y k seen)
      (cases_lt i m)) (cases_eq n i)
  bound_in c sites _ _ _ _ _ (walks r previous at ty x e p n m get all) l g h t y k seen i low high =
      ⊎_elim (at_itself sites n i y) (λ o. elim (typed_each c l g h at ty x e p t) [
        | over z j f new v has u ↦ all_bound_in c sites _ _ p (suc n) m all (Some (with_type x (Some (Of f)) g)) (with_type x (Some (Of f)) g) z u y k (seen_with g y x (Some (Of f)) k new seen) i (later n i low o) high ∙ bound_next sites n (site_of r previous (tree.ForEach at ty x e p)) y get ∙ new_row g y x k n (binding_at sites n y) new seen
        | over_new z j new isnew u ↦ all_bound_in c sites _ _ p (suc n) m all (Some (with_type x (Some j) g)) (with_type x (Some j) g) z u y k (seen_with g y x (Some j) k new seen) i (later n i low o) high ∙ bound_next sites n (site_of r previous (tree.ForEach at ty x e p)) y get ∙ new_row g y x k n (binding_at sites n y) new seen
      ]) (cases_eq n i)
  bound_in c sites _ _ _ _ _ (repeats r previous at e p n m get all) l g h t y k seen i low high =
      let u = typed_while c l g h at e p t in
      ⊎_elim (at_itself sites n i y) (λ o. all_bound_in c sites _ _ p (suc n) m all (Some g) g u.branch.last u.branch.body y k seen i (later n i low o) high ∙ bound_next sites n (site_of r previous (tree.While at e p)) y get ∙ cond-false (is_name (counted_row p) y) (Row n) (binding_at sites n y) (row_new c (Some g) g u.branch.last p u.branch.body y k seen)) (cases_eq n i)

  all_bound_in : (c : Frame) (sites : List Site) (r : Round) (previous : Option Statement) (p : Statements) (n m : ℕ) → AllStand sites r previous p n m → (l : Option Types) (g h : Types) → TypedStatements c l g p h → (y : List ℕ) (k : JavaType) → g y ≡ Some k → (i : ℕ) → n ≤ i → i < m → binding_at sites i y ≡ binding_at sites n y
  all_bound_in c sites _ _ _ _ _ (nothing r previous n) l g h t y k seen i low high = absurd (omega (arith, low, high))
  all_bound_in c sites _ _ _ _ _ (next r previous s p n m o first rest) l g h t y k seen i low high =
      let u = typed_next c l g h s p t in
      ⊎_elim
      (λ before. bound_in c sites _ _ s n m first l g u.middle u.first y k seen i low before)
      (λ behind. all_bound_in c sites _ _ p m o rest l u.middle u.last u.rest y k (extends_statement c l g u.middle s u.first y k seen) i behind high ∙ bound_past c sites _ _ s n m first l g u.middle u.first y k seen)
      (cases_lt i m)

-- ---- The first update of a name

record FoundUpdate (x : List ℕ) (k : ℕ) (sites : List Site) (u : Numbered) : Type 0 where
  index : ℕ
  is : k + index ≡ u.number
  there : slice_get sites index ≡ Some u.site
  target : target_of u.site.statement ≡ Some x

target_named : (o : Option (List ℕ)) (x : List ℕ) → is_name o x ≡ true → o ≡ Some x
target_named (Some y) x h = ap Some (sym (names_equal x y h))
target_named None x h = absurd cc

found_step : (x : List ℕ) (k : ℕ) (s : Site) (ss : List Site) (u : Numbered) (b : Bool) → updates_name x k s ≡ b → cond b (Some (record { number = k; site = s })) (first_site (updates_name x) (suc k) ss) ≡ Some u → (first_site (updates_name x) (suc k) ss ≡ Some u → FoundUpdate x (suc k) ss u) → FoundUpdate x k (s ∷ ss) u
found_step x k s ss u true e h more =
    let same : record { number = k; site = s } ≡ u = cc in
    subst (λ z. FoundUpdate x k (s ∷ ss) z) same (record { index = 0; is = omega arith; there = refl; target = target_named (target_of s.statement) x e })
found_step x k s ss u false e h more =
    let f = more h in
    record { index = suc f.index; is = let g = f.is in omega (arith, g); there = f.there; target = f.target }

found_update : (x : List ℕ) (k : ℕ) (sites : List Site) (u : Numbered) → first_site (updates_name x) k sites ≡ Some u → FoundUpdate x k sites u
found_update x k [] u h = absurd cc
found_update x k (s ∷ ss) u h = found_step x k s ss u (updates_name x k s) refl h (found_update x (suc k) ss u)

-- ---- The turns of a loop

-- The body of the loop is typed where its row is visible, which is new and bound to the loop, and is a row of its table.
pub record Turns (w : Setting) (c : Frame) : Type 0 where
  pub row : List ℕ
  pub type : JavaType
  pub is_row : type ≡ Of (RowOf (table_of_loop w.schema w.fragment.loop))
  pub new : w.types row ≡ None
  pub binds : Binds w 0 1 row (Row 0)
  pub loop : is_loop w.fragment.loop ≡ true
  pub left : Option Types
  pub last : Types
  pub body : TypedStatements c left (with_type row (Some type) w.types) (kernel_body w.fragment.loop) last

-- what is known of a setting, its fragment and its numbers
pub record Lowerable (w : Setting) (c : Frame) (t : Numbers) (N : Numbering) (F : Fragment) : Type 0 where
  pub unbroken : Unbroken w
  pub sites : w.sites ≡ sites_of w.fragment.loop
  pub turns : Turns w c
  pub numbers : HasNumbers w N
  pub rows : HasRows w c
  pub forms : HasForms w c N t
  pub elements : HasElements w c N
  pub atoms : F.atoms ≡ t.atoms
  pub flags : HasFlags w t F

-- A variable is visible at the loop, and updated in it; a best value is a number, and no set has rows.
pub record Updated (w : Setting) (x : List ℕ) (u : Numbered) : Type 0 where
  pub is : update_of w.sites x ≡ Some u
  pub type : JavaType
  pub visible : w.types x ≡ Some type
  pub long : (k : RowColumn) → form_of w.sites u.number u.site.statement ≡ takes k → type ≡ Of (ScalarOf tys.Long)
  pub no_rows : (j : ℕ) → form_of w.sites u.number u.site.statement ≡ adds (whole j) → is_distinct (w.types x) ≡ false

-- the chain of a variable in the turns of the loop, and the layers of its accumulator
pub record ChainOf (w : Setting) (c : Frame) (N : Numbering) (F : Fragment) (turns : Turns w c) (x : List ℕ) (acc : Accumulator) : Type 0 where
  pub fronts : List Form
  pub layers : List Layer
  pub chain : AreChain F false (with_loop turns.row 0 N) no_flags [] (kernel_body w.fragment.loop) x fronts layers (By acc.update acc.opposite)
  pub is : layers_of acc ≡ layer 0 (joined fronts) ∷ layers

module _ (w : Setting) (c : Frame) (t : Numbers) (N : Numbering) (F : Fragment) (known : Lowerable w c t N F) where
  pub stand : AllStand w.sites (in_loop outside 0) None (kernel_body w.fragment.loop) 1 (length w.sites)
  stand = subst (λ ss. AllStand ss (in_loop outside 0) None (kernel_body w.fragment.loop) 1 (length ss)) (sym known.sites) (body_stands w.fragment.loop)

  pub first_there : slice_get w.sites 0 ≡ Some (site_of outside None w.fragment.loop)
  first_there = ap (λ ss. slice_get ss 0) known.sites ∙ loop_first w.fragment.loop

  known_sites : (i : ℕ) (s : Site) → slice_get w.sites i ≡ Some s → Known w.sites i s
  known_sites i s get = subst (λ ss. Known ss i s) (sym known.sites) (site_known w.fragment.loop i s (ap (λ ss. slice_get ss i) (sym known.sites) ∙ get))

  before_loop : Sight w outside 0 w.types N.loops
  before_loop =
      record {
        rows = λ x k j e b. absurd cc;
        visible = λ x j e. absurd (none_some (N.loops x) j (known.numbers.loops x) e);
        bound = λ x j e. absurd (none_some (N.loops x) j (known.numbers.loops x) e);
        low = λ x j e. absurd (none_some (N.loops x) j (known.numbers.loops x) e);
        within = λ x j e. absurd (none_some (N.loops x) j (known.numbers.loops x) e);
        outer = λ x k e. e;
        round = tt;
        tables = λ x k j z e b there. absurd cc;
        types = λ x k e b. e;
        over = λ x k j e b. absurd cc;
        locals = λ x k d e b. absurd cc;
      }
    where
      none_some : (o : Option ℕ) (j : ℕ) → o ≡ None → o ≡ Some j → ⊥
      none_some o j e f = absurd cc

  abbrev types_inside : Types
  types_inside = with_type known.turns.row (Some known.turns.type) w.types

  sight : Sight w (in_loop outside 0) 1 types_inside (with_row known.turns.row 0 N.loops)
  sight = sight_row w outside 0 1 w.types N.loops known.turns.row known.turns.type (site_of outside None w.fragment.loop) first_there known.turns.loop refl known.turns.is_row known.turns.new known.turns.binds before_loop

  not_local : (q : Bool) (d : ℕ) (P : Type 0) → cond q (Row 0) Outer ≡ Local d → P
  not_local true d P e = absurd cc
  not_local false d P e = absurd cc

  loud_start : (a : Aim) → a.setting ≡ w → Loud a (in_loop outside 0) 1 types_inside no_flags []
  loud_start a e =
      record {
        absent = refl;
        hidden = λ x h. refl;
        others = λ j x flag low h. absurd cc;
        locals = λ x k d seen b. not_local (bytes_eq known.turns.row x) d _ (sym (known.turns.binds.by x) ∙ subst (λ (z : Setting). binding_at z.sites 1 x ≡ Local d) e b);
        own = tt;
      }

  abbrev aim : (x : List ℕ) → Numbered → Aim
  aim x u = record { setting = w; frame = c; fragment = F; numbers = t; numbering = N; quiet = false; name = x; bound = Outer; number = u.number; round = u.site.round }

  pub row_other : (x : List ℕ) (u : Numbered) → Updated w x u → bytes_eq known.turns.row x ≡ false
  row_other x u up = new_other w.types x known.turns.row up.type known.turns.new up.visible

  bound_first : (x : List ℕ) (u : Numbered) → Updated w x u → binding_at w.sites 1 x ≡ Outer
  bound_first x u up = known.turns.binds.by x ∙ ap (λ q. cond q (Row 0) Outer) (row_other x u up)

  visible_inside : (x : List ℕ) (u : Numbered) → (up : Updated w x u) → types_inside x ≡ Some up.type
  visible_inside x u up = seen_with w.types x known.turns.row (Some known.turns.type) up.type known.turns.new up.visible

  no_target : (s : Statement) (x : List ℕ) → is_loop s ≡ true → target_of s ≡ Some x → ⊥
  no_target (tree.ForEach at ty y e p) x h k = absurd cc
  no_target (tree.While at e p) x h k = absurd cc
  no_target (tree.Assign at y e) x h k = absurd cc
  no_target (tree.Add at y e) x h k = absurd cc
  no_target (tree.Declare at ty y e) x h k = absurd cc
  no_target (tree.Sort at y keys downs) x h k = absurd cc
  no_target (tree.If at e p) x h k = absurd cc
  no_target (tree.IfElse at e p q) x h k = absurd cc
  no_target (tree.Print at e) x h k = absurd cc
  no_target (tree.Return at e) x h k = absurd cc
  no_target (tree.Break at) x h k = absurd cc

  record Located (x : List ℕ) (u : Numbered) : Type 0 where
    there : slice_get w.sites u.number ≡ Some u.site
    target : target_of u.site.statement ≡ Some x
    low : 1 ≤ u.number
    high : u.number < length w.sites

  located : (x : List ℕ) (u : Numbered) → Updated w x u → Located x u
  located x u up =
      let f : FoundUpdate x 0 w.sites u = found_update x 0 w.sites u up.is in
      let same : f.index ≡ u.number = let g = f.is in omega (arith, g) in
      let there : slice_get w.sites u.number ≡ Some u.site = ap (slice_get w.sites) (sym same) ∙ f.there in
      record {
        there = there;
        target = f.target;
        low = ⊎_elim (λ h. absurd (first_no u.number h there f.target)) (λ h. h) (cases_lt u.number 1);
        high = slice_get_within w.sites u.number u.site there;
      }
    where
      first_no : (n : ℕ) → n < 1 → slice_get w.sites n ≡ Some u.site → target_of u.site.statement ≡ Some x → ⊥
      first_no n h there target =
          let zero_is : n ≡ 0 = omega (arith, h) in
          let same : u.site ≡ site_of outside None w.fragment.loop = get_same w.sites 0 u.site (site_of outside None w.fragment.loop) (ap (slice_get w.sites) (sym zero_is) ∙ there) first_there in
          no_target w.fragment.loop x known.turns.loop (ap (λ (z : Site). target_of z.statement) (sym same) ∙ target)

  bound_there : (x : List ℕ) (u : Numbered) → (up : Updated w x u) → binding_at w.sites u.number x ≡ Outer
  bound_there x u up =
      let at = located x u up in
      all_bound_in c w.sites (in_loop outside 0) None (kernel_body w.fragment.loop) 1 (length w.sites) stand known.turns.left types_inside known.turns.last known.turns.body x up.type (visible_inside x u up) u.number at.low at.high ∙ bound_first x u up

  abbrev aimed : (x : List ℕ) (u : Numbered) → Updated w x u → Aimed (aim x u)
  aimed x u up =
      record {
        unbroken = known.unbroken;
        numbers = known.numbers;
        rows = known.rows;
        first = site_of outside None w.fragment.loop;
        first_there = first_there;
        first_flat = refl;
        no_row = refl;
        update = record { site = u.site; there = (located x u up).there; target = (located x u up).target; bound = bound_there x u up };
        round = refl;
      }

  aim_forms : (x : List ℕ) (u : Numbered) → AimForms (aim x u)
  aim_forms x u = record { atoms = known.atoms; forms = known.forms; elements = known.elements }

  start : (x : List ℕ) (u : Numbered) → Updated w x u → Start (aim x u) (Loud (aim x u)) (in_loop outside 0) 1 types_inside (with_row known.turns.row 0 N.loops) no_flags []
  start x u up =
      record {
        leveled = record { by = tt };
        before = tt;
        inner = omega arith;
        sight = sight;
        flags_known = loud_start (aim x u) refl;
        type = up.type;
        visible = visible_inside x u up;
        bound = bound_first x u up;
      }

  -- the layers of the accumulator are those of the way
  layers_are : (cs : List Form) (x : List ℕ) (u : Numbered) (form : kernel_forms.Form) (ss : List Step) → u.site.round ≡ round_down (in_loop outside 0) ss → layers_of (accumulator_with w t cs x 0 u.site.round form) ≡ layer 0 (joined (fronts w t ss)) ∷ layers_down w t ss
  layers_are cs x u form ss way =
      ap (λ (q : Round). layers_of (accumulator_with w t cs x 0 q form)) way ∙ layers_inside w t outside (Through 0 ∷ ss) (record { by = tt })

  -- a variable that is updated alike in each turn
  steady_chain : (cs : List Form) (x : List ℕ) (u : Numbered) → Updated w x u → IsSteady w x (form_of w.sites u.number u.site.statement) → ChainOf w c N F known.turns x (accumulator_with w t cs x 0 u.site.round (form_of w.sites u.number u.site.statement))
  steady_chain cs x u up steady =
      let a : Aim = aim x u in
      let d : Aimed a = aimed x u up in
      let at = located x u up in
      let plain : PlainBut a (λ n. ⊥) = plain_way a d known_sites (λ n. ⊥) (λ k f e one. steady_takes (form_of w.sites u.number u.site.statement) k e steady) in
      let q : DownAll a (Stays (update_aimed a d) (opposite_aimed a d)) (in_loop outside 0) 1 (with_row known.turns.row 0 N.loops) no_flags [] (kernel_body w.fragment.loop) =
      all_down a d (Loud a) (loud_rules a d (aim_forms x u) known.flags known_sites refl) (Stays (update_aimed a d) (opposite_aimed a d)) (steady_ways a d (aim_forms x u) plain steady) (in_loop outside 0) None (kernel_body w.fragment.loop) 1 (length w.sites) stand known.turns.left types_inside known.turns.last (with_row known.turns.row 0 N.loops) no_flags [] known.turns.body (start x u up) at.low at.high in
      record {
        fronts = fronts w t q.steps;
        layers = layers_down w t q.steps;
        chain = subst (λ ch. AreChain F false (with_loop known.turns.row 0 N) no_flags [] (kernel_body w.fragment.loop) x (fronts w t q.steps) (layers_down w t q.steps) ch) q.kept q.chain;
        is = layers_are cs x u (form_of w.sites u.number u.site.statement) q.steps q.is;
      }
    where
      steady_takes : (form : kernel_forms.Form) (k : RowColumn) → form ≡ takes k → IsSteady w x form → ⊥
      steady_takes form k e h = subst (λ z. IsSteady w x z) e h

  -- a best value
  best_chain : (cs : List Form) (x : List ℕ) (u : Numbered) → Updated w x u → (k : RowColumn) → form_of w.sites u.number u.site.statement ≡ takes k → ChainOf w c N F known.turns x (accumulator_with w t cs x 0 u.site.round (form_of w.sites u.number u.site.statement))
  best_chain cs x u up k form =
      let a : Aim = aim x u in
      let d : Aimed a = aimed x u up in
      let at = located x u up in
      let one : OneConjunct w u.number u.site x k = one_conjunct w known.unbroken u.number u.site x k at.there at.target form in
      let best : AimBest a d k one.found one.way = record { form = form; one = one.one; found = one.is; long = up.visible ∙ ap Some (up.long k form) } in
      let plain : PlainBut a (λ n. n ≡ one.found.number) = plain_way a d known_sites (λ n. n ≡ one.found.number) (λ j f e other_one. ap (λ (z : Found). z.number) (same_found f one.found (sym other_one ∙ one.one))) in
      let q : DownAll a (BestWay a k one.way one.found.number) (in_loop outside 0) 1 (with_row known.turns.row 0 N.loops) no_flags [] (kernel_body w.fragment.loop) =
      all_down a d (Loud a) (loud_rules a d (aim_forms x u) known.flags known_sites refl) (BestWay a k one.way one.found.number) (best_ways a d (aim_forms x u) k one.found one.way best plain) (in_loop outside 0) None (kernel_body w.fragment.loop) 1 (length w.sites) stand known.turns.left types_inside known.turns.last (with_row known.turns.row 0 N.loops) no_flags [] known.turns.body (start x u up) at.low at.high in
      let change : q.change ≡ best_change a k one.way = best_whole a d (aim_forms x u) k one.found one.way best plain (in_loop outside 0) q.steps q.change q.is refl q.kept in
      let way : best_way w.sites x k u.site.round ≡ Some one.way = ap (only_way w.sites x k) one.one ∙ one.is in
      let update : best_change a k one.way ≡ By (update_with w x u.site.round (form_of w.sites u.number u.site.statement)) (is_opposite (form_of w.sites u.number u.site.statement)) =
      ap (λ o. By (updates.Best (way_found o) (element_of_column w k)) false) (sym way) ∙ ap (λ z. By (update_with w x u.site.round z) (is_opposite z)) (sym form) in
      record {
        fronts = fronts w t q.steps;
        layers = layers_down w t q.steps;
        chain = subst (λ ch. AreChain F false (with_loop known.turns.row 0 N) no_flags [] (kernel_body w.fragment.loop) x (fronts w t q.steps) (layers_down w t q.steps) ch) (change ∙ update) q.chain;
        is = layers_are cs x u (form_of w.sites u.number u.site.statement) q.steps q.is;
      }
    where
      same_found : (f g : Found) → f ∷ [] ≡ g ∷ [] → f ≡ g
      same_found f g e = cc

  chain_by : (cs : List Form) (x : List ℕ) (u : Numbered) → Updated w x u → (form : kernel_forms.Form) → form_of w.sites u.number u.site.statement ≡ form → fits_outer w u.number u.site x form ≡ true → ChainOf w c N F known.turns x (accumulator_with w t cs x 0 u.site.round (form_of w.sites u.number u.site.statement))
  chain_by cs x u up (adds (whole j)) e h = steady_chain cs x u up (subst (λ z. IsSteady w x z) (sym e) (up.no_rows j e))
  chain_by cs x u up (adds (column k)) e h = steady_chain cs x u up (subst (λ z. IsSteady w x z) (sym e) tt)
  chain_by cs x u up counts e h = steady_chain cs x u up (subst (λ z. IsSteady w x z) (sym e) tt)
  chain_by cs x u up (sums k) e h = steady_chain cs x u up (subst (λ z. IsSteady w x z) (sym e) tt)
  chain_by cs x u up (takes k) e h = best_chain cs x u up k e
  chain_by cs x u up (marks b) e h = steady_chain cs x u up (subst (λ z. IsSteady w x z) (sym e) tt)
  chain_by cs x u up other e h = absurd cc

  -- Each variable of the loop that is updated has its chain, with the layers of its accumulator.
  pub chain_of : (cs : List Form) (x : List ℕ) (u : Numbered) → Updated w x u → ChainOf w c N F known.turns x (accumulator_with w t cs x 0 u.site.round (form_found w.sites (Some u)))
  chain_of cs x u up =
      let at = located x u up in
      let fit : fits w u.number u.site x Outer ≡ true = ap (fits w u.number u.site x) (sym (bound_there x u up)) ∙ ap (λ o. fits_target w u.number u.site o) (sym at.target) ∙ formed_at w known.unbroken u.number u.site at.there in
      chain_by cs x u up (form_of w.sites u.number u.site.statement) refl fit

  -- The accumulator of a variable is that of the turns of the loop, where it starts as its update asks for.
  pub is_turned : (cs : List Form) (x : List ℕ) (u : Numbered) → (up : Updated w x u) → Suits (By (accumulator_with w t cs x 0 u.site.round (form_found w.sites (Some u))).update (accumulator_with w t cs x 0 u.site.round (form_found w.sites (Some u))).opposite) (started (accumulator_with w t cs x 0 u.site.round (form_found w.sites (Some u))).start) → IsTurned F N known.turns.row 0 (kernel_body w.fragment.loop) x (chain_of cs x u up).fronts (chain_of cs x u up).layers (accumulator_with w t cs x 0 u.site.round (form_found w.sites (Some u)))
  is_turned cs x u up suits =
      let at = located x u up in
      let set = (all_at_site w.sites (in_loop outside 0) None (kernel_body w.fragment.loop) 1 (length w.sites) stand u.number u.site at.low at.high at.there).sets_it x at.target in
      record {
        apart = known.numbers.updated x set;
        variable = known.numbers.new known.turns.row known.turns.new;
        other = row_other x u up;
        new = record { loops = λ y i e. absurd (none_some (N.loops y) i (known.numbers.loops y) e); in_sight = λ y flag e. absurd cc };
        chain = (chain_of cs x u up).chain;
        layers = (chain_of cs x u up).is;
        start = suits;
      }
    where
      none_some : (o : Option ℕ) (j : ℕ) → o ≡ None → o ≡ Some j → ⊥
      none_some o j e f = absurd cc

-- The accumulators of a lowered fragment at its loop, where each is a chain: it starts as its variable does.
use Rattle.std.proofs.Common.{◌≡◌, ℕ, suc, Bool, true, false, List, [], ◌∷◌, ◌++◌, length, Option, Some, None, refl, sym, ap, ◌∙◌, subst, cond, append_assoc}
use Rattle.std.specs.List.{AllByRecursion}
use Rattle.qbs_base.specs.Named.{at_name}
use Rattle.sql_ast.proofs.Combinations.{all_append}
use Rattle.java_ast.specs.Tree as tree
use Rattle.java_ast.specs.Tree.{Statement, Statements, Nothing, Then}
use Rattle.java_mean.specs.Statement.{State}
use Rattle.java_mean.specs.Types.{IsTyped}
use Rattle.tor_terms.specs.Plain.{Form}
use Rattle.kernel_lang.specs.Plain.{Accumulator}
use Rattle.kernel_lang.specs.Plain as kernel
use Rattle.kernel_lang.specs.Running.{Layer, started}
use Rattle.java_loops.specs.Walks.Carried.{Suits}
use Rattle.java_loops.specs.Walks.ChainLaws.{start_of, IsTurned}
use Rattle.java_loops.specs.Walks.ChainStarts.{StandsForStatement}
use Rattle.java_loops.specs.Walks.Chains as chains
use Rattle.java_loops.specs.Walks.Chains.{By, IsChain, AreChain}
use Rattle.java_loops.specs.Walks.Numbering.{Numbering, Flags, no_flags, with_loop}
use Rattle.loop_text.specs.Statements.Fragment.{Fragment, accumulators, needed_of, set_by}
use Rattle.java_loops.specs.Kernel.Kernel.{lowering}
use Rattle.loop_text.specs.Kernel.KernelStarts.{Numbered, update_of, update_of_flag, form_found}
use Rattle.java_loops.specs.Lowering.Lowered.{conditions_of, accumulator_with, accumulator_of, outer_accumulators, flag_here, flags_from, set_in_order, needed_in_order}
use Rattle.java_ast.specs.Names.{Names, is_among}
use Rattle.java_loops.specs.Lowering.Numbering.{numbers_of}
use Rattle.java_loops.specs.Kernel.Setting.{Setting}
use Rattle.loop_text.specs.Sites.Sites.{Round, Site, in_loop, in_branch, with_site, outside, is_some, walk, walk_all, kernel_body, declared_name, sites_of}
use Rattle.java_loops.proofs.Meant.Mean.{AreStarted, no_more, outer, inner}
use Rattle.java_loops.proofs.Meant.MeanStarts.{start_held, update_found}
use Rattle.java_loops.proofs.Meant.MeanSuits.{start_suits}
use Rattle.java_loops.proofs.Nested.Nest.{row_of, set_by_loop}
use Rattle.java_loops.proofs.Nested.NestCounter.{Kind, each, counts}
use Rattle.java_loops.proofs.Nested.NestNames.{among_filtered}
use Rattle.java_loops.proofs.Numbers.Numberings.{numbering}
use Rattle.java_loops.proofs.Starts.Start.{StartsRightly}

-- ---- Chains

abbrev pub conditions_at : Setting → List Form
conditions_at w = conditions_of w (numbers_of w)

-- the accumulator of a variable that is declared outside of the loop, with this update
abbrev pub accumulator_at : Setting → List ℕ → Numbered → Accumulator
accumulator_at w y u = accumulator_with w (numbers_of w) (conditions_at w) y 0 u.site.round (form_found w.sites (Some u))

abbrev pub flags_at : Setting → List Accumulator
flags_at w = flags_from w (numbers_of w) (conditions_at w) 0 w.sites

-- The accumulator is that of the variable y in the turns of the loop over x, under these conditions and in these layers, where
-- its start is of the kind that its update keeps.
pub record HasTurn (w : Setting) (x y : List ℕ) (acc : Accumulator) : Type 0 where
  pub conditions : List Form
  pub layers : List Layer
  pub is : Suits (By acc.update acc.opposite) (started acc.start) → IsTurned (lowering w).fragment (numbering w) x 0 (kernel_body w.fragment.loop) y conditions layers acc

-- The needed accumulators of the lowered fragment are chains over the body of its loop.
pub record HasChains (w : Setting) : Type 0 where
  pub needed : (x y : List ℕ) (u : Numbered) → row_of w.fragment.loop ≡ Some x → is_among (needed_of w.fragment) y ≡ true → update_of w.sites y ≡ Some u → HasTurn w x y (accumulator_at w y u)

-- ---- Statements of chains

record Inside (f : kernel.Fragment) (n : Numbering) (a : List ℕ) (ch : chains.Change) : Type 0 where
  quiet : Bool
  flags : Flags
  statement : Statement
  conditions : List Form
  layers : List Layer
  is : IsChain f quiet n flags statement a conditions layers ch

-- the statement of a block that changes the variable
inside_of : (f : kernel.Fragment) (quiet : Bool) (n : Numbering) (flags : Flags) (bs : List (List ℕ)) (p : Statements) (a : List ℕ) (fs : List Form) (ys : List Layer) (ch : chains.Change) → AreChain f quiet n flags bs p a fs ys ch → Inside f n a ch
inside_of f _ _ _ _ _ _ _ _ _ (chains.here quiet n flags bs s p a fs ys ch h none) = record { quiet = quiet; flags = flags; statement = s; conditions = fs; layers = ys; is = h }
inside_of f _ _ _ _ _ _ _ _ _ (chains.declared quiet n flags bs at at' b start p a fs ys ch apart other h) = inside_of f quiet n _ _ p a fs ys ch h
inside_of f _ _ _ _ _ _ _ _ _ (chains.later quiet n flags flags' bs s p a fs ys ch plain unset settles none h) = inside_of f quiet n flags' bs p a fs ys ch h

turn_stands : (w : Setting) (x y : List ℕ) (acc : Accumulator) → HasTurn w x y acc → Suits (By acc.update acc.opposite) (started acc.start) → StandsForStatement (lowering w).fragment (numbering w) acc
turn_stands w x y acc h suits =
    let k : Inside (lowering w).fragment (with_loop x 0 (numbering w)) y (By acc.update acc.opposite) = inside_of (lowering w).fragment false (with_loop x 0 (numbering w)) no_flags [] (kernel_body w.fragment.loop) y h.conditions h.layers (By acc.update acc.opposite) (h.is suits).chain in
    record { quiet = k.quiet; loops = (with_loop x 0 (numbering w)).loops; flags = k.flags; statement = k.statement; variable = y; conditions = k.conditions; layers = k.layers; is = k.is }

-- ---- Needed accumulators in their order

abbrev pub IsNeeded : Names → List ℕ → Type 0
IsNeeded xs y = is_among xs y ≡ true

order_step : (xs : Names) (y : List ℕ) (ys : Names) (b : Bool) → is_among xs y ≡ b → AllByRecursion (IsNeeded xs) ys → AllByRecursion (IsNeeded xs) (cond b (y ∷ ys) ys)
order_step xs y ys true e h = (e, h)
order_step xs y ys false e h = h

pub all_needed : (xs : Names) (p : Statements) → AllByRecursion (IsNeeded xs) (set_in_order xs p)
all_needed xs Nothing = tt
all_needed xs (Then s p) = order_step xs (set_by s) (set_in_order xs p) (is_among xs (set_by s)) refl (all_needed xs p)

-- ---- Flags stand in loops

abbrev HasLoops : Round → Type 0
HasLoops r = (n : ℕ) × (length r.loops ≡ suc n)

-- what is declared there stands in a loop
abbrev IsInner : Site → Type 0
IsInner s = (x : List ℕ) → declared_name s.statement ≡ Some x → HasLoops s.round

one_longer : (xs : List ℕ) (n : ℕ) → (k : ℕ) × (length (xs ++ n ∷ []) ≡ suc k)
one_longer [] n = (0, refl)
one_longer (x ∷ xs) n = (length (xs ++ n ∷ []), refl)

in_loop_deep : (r : Round) (n : ℕ) → HasLoops (in_loop r n)
in_loop_deep r n = one_longer r.loops n

site_added : (r : Round) (previous : Option Statement) (s : Statement) (met : List Site) → HasLoops r → AllByRecursion IsInner met → AllByRecursion IsInner (with_site met r previous s)
site_added r previous s met deep h = all_append IsInner met (record { statement = s; round = r; previous = previous } ∷ []) h ((λ x e. deep), tt)

mutual
  walk_inner : (r : Round) (previous : Option Statement) (s : Statement) (met : List Site) → HasLoops r → AllByRecursion IsInner met → AllByRecursion IsInner (walk r previous s met)
  walk_inner r previous (tree.Declare at ty x e) met deep h = site_added r previous (tree.Declare at ty x e) met deep h
  walk_inner r previous (tree.Assign at x e) met deep h = site_added r previous (tree.Assign at x e) met deep h
  walk_inner r previous (tree.Add at x e) met deep h = site_added r previous (tree.Add at x e) met deep h
  walk_inner r previous (tree.Sort at x keys downs) met deep h = site_added r previous (tree.Sort at x keys downs) met deep h
  walk_inner r previous (tree.If at c a) met deep h = all_inner (in_branch r (length met) c true) None a (with_site met r previous (tree.If at c a)) deep (site_added r previous (tree.If at c a) met deep h)
  walk_inner r previous (tree.IfElse at c a b) met deep h =
      all_inner (in_branch r (length met) c false) None b (walk_all (in_branch r (length met) c true) None a (with_site met r previous (tree.IfElse at c a b))) deep
      (all_inner (in_branch r (length met) c true) None a (with_site met r previous (tree.IfElse at c a b)) deep (site_added r previous (tree.IfElse at c a b) met deep h))
  walk_inner r previous (tree.ForEach at ty x e b) met deep h = all_inner (in_loop r (length met)) None b (with_site met r previous (tree.ForEach at ty x e b)) (in_loop_deep r (length met)) (site_added r previous (tree.ForEach at ty x e b) met deep h)
  walk_inner r previous (tree.While at c b) met deep h = all_inner (in_loop r (length met)) None b (with_site met r previous (tree.While at c b)) (in_loop_deep r (length met)) (site_added r previous (tree.While at c b) met deep h)
  walk_inner r previous (tree.Print at e) met deep h = site_added r previous (tree.Print at e) met deep h
  walk_inner r previous (tree.Return at e) met deep h = site_added r previous (tree.Return at e) met deep h
  walk_inner r previous (tree.Break at) met deep h = site_added r previous (tree.Break at) met deep h

  all_inner : (r : Round) (previous : Option Statement) (p : Statements) (met : List Site) → HasLoops r → AllByRecursion IsInner met → AllByRecursion IsInner (walk_all r previous p met)
  all_inner r previous Nothing met deep h = h
  all_inner r previous (Then s p) met deep h = all_inner r (Some s) p (walk r previous s met) deep (walk_inner r previous s met deep h)

declares_nothing : (f : Fragment) (s : Statement) → Kind f s → (x : List ℕ) → declared_name s ≡ Some x → HasLoops outside
declares_nothing f _ (each at ty y e b) x h = absurd cc
declares_nothing f _ (counts at q b k e i z) x h = absurd cc

-- each flag of a loop of the kernel form stands in a loop
sites_inner : (f : Fragment) (loop : Statement) → Kind f loop → AllByRecursion IsInner (sites_of loop)
sites_inner f loop k = all_inner (in_loop outside 0) None (kernel_body loop) (with_site [] outside None loop) (in_loop_deep outside 0) ((λ x e. declares_nothing f loop k x e), tt)

-- ---- All accumulators

module _ (w : Setting) (x : List ℕ) (t : State) (row : row_of w.fragment.loop ≡ Some x) (h : HasChains w) (typed : IsTyped w.schema w.types t.store) (seen : (y : List ℕ) → is_among (accumulators w.fragment) y ≡ true → is_some (w.types y) ≡ true) (starts : (y : List ℕ) → is_among (accumulators w.fragment) y ≡ true → StartsRightly w w.schema w.types y t) where
  abbrev Started : Names → List Accumulator → Type 0
  Started ys accs = AreStarted (lowering w).fragment (numbering w) x (kernel_body w.fragment.loop) (set_by_loop w) t.store ys accs

  -- ---- Flags

  flag_started : (y : List ℕ) (r : Round) (o : Option Numbered) (accs : List Accumulator) → HasLoops r → Started [] accs → Started [] (accumulator_of w (numbers_of w) (conditions_at w) y (length r.loops) o ++ accs)
  flag_started y r None accs deep k = k
  flag_started y r (Some u) accs deep k = inner deep.0 (accumulator_with w (numbers_of w) (conditions_at w) y (length r.loops) u.site.round (form_found w.sites (Some u))) [] accs deep.1 k

  named_started : (d : ℕ) (s : Site) (o : Option (List ℕ)) (accs : List Accumulator) → declared_name s.statement ≡ o → IsInner s → Started [] accs → Started [] (flag_here w (numbers_of w) (conditions_at w) d s.round o ++ accs)
  named_started d s None accs e i k = k
  named_started d s (Some y) accs e i k = flag_started y s.round (update_of_flag w.sites d) accs (i y e) k

  flags_started : (d : ℕ) (ss : List Site) → AllByRecursion IsInner ss → Started [] (flags_from w (numbers_of w) (conditions_at w) d ss)
  flags_started d [] i = no_more
  flags_started d (s ∷ ss) i = named_started d s (declared_name s.statement) (flags_from w (numbers_of w) (conditions_at w) (suc d) ss) refl i.0 (flags_started (suc d) ss i.1)

  -- ---- Accumulators

  needed_is : (y : List ℕ) → is_among (needed_of w.fragment) y ≡ true → is_among (accumulators w.fragment) y ≡ true
  needed_is y n = (among_filtered _ (accumulators w.fragment) y n).0

  suits : (y : List ℕ) (u : Numbered) → is_among (needed_of w.fragment) y ≡ true → update_of w.sites y ≡ Some u → Suits (By (accumulator_at w y u).update (accumulator_at w y u).opposite) (started (accumulator_at w y u).start)
  suits y u n e = start_suits w (numbers_of w) (conditions_at w) y t 0 u.site.round (seen y (needed_is y n)) typed (starts y (needed_is y n)) (accumulator_at w y u) (ap (λ o. accumulator_with w (numbers_of w) (conditions_at w) y 0 u.site.round (form_found w.sites o)) (sym e))

  held : (y : List ℕ) (u : Numbered) → is_among (needed_of w.fragment) y ≡ true → update_of w.sites y ≡ Some u → at_name t.store y ≡ Some (start_of (accumulator_at w y u))
  held y u n e = start_held w (numbers_of w) (conditions_at w) y t 0 u.site.round (seen y (needed_is y n)) typed (starts y (needed_is y n)) ∙ ap (λ o. Some (start_of (accumulator_with w (numbers_of w) (conditions_at w) y 0 u.site.round (form_found w.sites o)))) e

  outer_started : (y : List ℕ) (u : Numbered) (ys : Names) (accs : List Accumulator) → is_among (needed_of w.fragment) y ≡ true → update_of w.sites y ≡ Some u → Started ys accs → Started (y ∷ ys) (accumulator_of w (numbers_of w) (conditions_at w) y 0 (update_of w.sites y) ++ accs)
  outer_started y u ys accs n e k =
      let one : HasTurn w x y (accumulator_at w y u) = h.needed x y u row n e in
      subst (λ o. Started (y ∷ ys) (accumulator_of w (numbers_of w) (conditions_at w) y 0 o ++ accs)) (sym e)
      (outer y (accumulator_at w y u) ys accs one.conditions one.layers refl (needed_is y n) (one.is (suits y u n e)) (held y u n e) k)

  all_outer : (ys : Names) → AllByRecursion (IsNeeded (needed_of w.fragment)) ys → Started [] (flags_at w) → Started ys (outer_accumulators w (numbers_of w) (conditions_at w) ys ++ flags_at w)
  all_outer [] n k = k
  all_outer (y ∷ ys) n k =
      let u = update_found w w.schema w.types y t (starts y (needed_is y n.0)) in
      subst (Started (y ∷ ys)) (sym (append_assoc (accumulator_of w (numbers_of w) (conditions_at w) y 0 (update_of w.sites y)) (outer_accumulators w (numbers_of w) (conditions_at w) ys) (flags_at w)))
      (outer_started y u.0 ys (outer_accumulators w (numbers_of w) (conditions_at w) ys ++ flags_at w) n.0 u.1 (all_outer ys n.1 k))

  -- At the loop all accumulators of the lowered fragment start as their variables do.
  pub all_started : w.sites ≡ sites_of w.fragment.loop → Kind w.fragment w.fragment.loop → Started (needed_in_order w) (lowering w).fragment.accs
  all_started are k = all_outer (needed_in_order w) (all_needed (needed_of w.fragment) w.fragment.run) (flags_started 0 w.sites (subst (AllByRecursion IsInner) (sym are) (sites_inner w.fragment w.fragment.loop k)))

  -- ---- They stand for statements

  outer_stands : (y : List ℕ) (u : Numbered) (accs : List Accumulator) → is_among (needed_of w.fragment) y ≡ true → update_of w.sites y ≡ Some u → AllByRecursion (StandsForStatement (lowering w).fragment (numbering w)) accs → AllByRecursion (StandsForStatement (lowering w).fragment (numbering w)) (accumulator_of w (numbers_of w) (conditions_at w) y 0 (update_of w.sites y) ++ accs)
  outer_stands y u accs n e k =
      subst (λ o. AllByRecursion (StandsForStatement (lowering w).fragment (numbering w)) (accumulator_of w (numbers_of w) (conditions_at w) y 0 o ++ accs)) (sym e)
      (turn_stands w x y (accumulator_at w y u) (h.needed x y u row n e) (suits y u n e), k)

  all_stand : (ys : Names) → AllByRecursion (IsNeeded (needed_of w.fragment)) ys → AllByRecursion (StandsForStatement (lowering w).fragment (numbering w)) (flags_at w) → AllByRecursion (StandsForStatement (lowering w).fragment (numbering w)) (outer_accumulators w (numbers_of w) (conditions_at w) ys ++ flags_at w)
  all_stand [] n k = k
  all_stand (y ∷ ys) n k =
      let u = update_found w w.schema w.types y t (starts y (needed_is y n.0)) in
      subst (AllByRecursion (StandsForStatement (lowering w).fragment (numbering w))) (sym (append_assoc (accumulator_of w (numbers_of w) (conditions_at w) y 0 (update_of w.sites y)) (outer_accumulators w (numbers_of w) (conditions_at w) ys) (flags_at w)))
      (outer_stands y u.0 (outer_accumulators w (numbers_of w) (conditions_at w) ys ++ flags_at w) n.0 u.1 (all_stand ys n.1 k))

  -- where its flags stand for statements, all accumulators of the lowered fragment do
  pub accumulators_stand : AllByRecursion (StandsForStatement (lowering w).fragment (numbering w)) (flags_at w) → AllByRecursion (StandsForStatement (lowering w).fragment (numbering w)) (lowering w).fragment.accs
  accumulators_stand k = all_stand (needed_in_order w) (all_needed (needed_of w.fragment) w.fragment.run) k

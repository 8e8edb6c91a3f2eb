-- The change of a best value: below the `if` with the conjunct that compares the variable the column is taken as it is, from
-- there on the best value is kept.
use Rattle.std.proofs.Common.{◌≡◌, ℕ, suc, ◌<◌, ◌≤◌, Bool, true, false, ◌||◌, List, [], ◌∷◌, ◌++◌, length, Option, Some, refl, sym, ap, ◌∙◌, subst, cond, slice_get, nat_eq, arith, append_assoc, ⊎_elim}
use Rattle.std.specs.List.{filter, flat_map, AllByRecursion}
use Rattle.std.proofs.lemmas.Bool.{cases_eq, or_parts, eq-eqb, ne_eqb, eqb-false}
use Rattle.std.proofs.lemmas.List.{append-nil}
use Rattle.std.proofs.lemmas.List.Concat.{flat_map-append}
use Rattle.std.proofs.lemmas.List.Elements.{filter-append}
use Rattle.qbs_base.specs.declared.scalar.Ty.TheVariants as tys
use Rattle.java_ast.specs.Tree.{Expression, Statement, Statements}
use Rattle.java_mean.specs.declared.types.JavaType.TheVariants.{Of}
use Rattle.java_mean.specs.declared.types.Single.TheVariants.{ScalarOf}
use Rattle.java_mean.specs.Types.{Types}
use Rattle.java_mean.specs.Typing.{HasType, bool, TypedStatement}
use Rattle.tor_terms.specs.declared.term.Way.{Way}
use Rattle.kernel_lang.specs.declared.parts.Update.TheVariants as updates
use Rattle.java_loops.specs.Walks.Chains as chains
use Rattle.java_loops.specs.Walks.Chains.{Change, By, Takes, IsBranch, IsChain, AreChain}
use Rattle.java_loops.specs.Walks.Forms.{IsBest}
use Rattle.java_loops.specs.Walks.Numbering.{Flags}
use Rattle.loop_text.specs.Kernel.KernelConditions.{condition_of}
use Rattle.loop_text.specs.Kernel.KernelForms.{Claim, Found, found_at, mentions, claims, mentioning, best_claims, way_found, takes, form_of}
use Rattle.java_loops.specs.Lowering.Lowered.{found_form, element_of_column}
use Rattle.java_loops.specs.Lowering.Numbering.{Numbers, form_of_condition, loop_number, column_of}
use Rattle.java_loops.specs.Kernel.Setting.{Setting}
use Rattle.loop_text.specs.Sites.Sites.{Test, Round, Site, RowColumn, in_branch, in_loop, target_of}
use Rattle.java_loops.proofs.Chained.ChainAims.{Aim, Aimed, AllBefore, numbering_at, Started, Branched, Looped, WayRules}
use Rattle.java_loops.proofs.Chained.ChainPremises.{FlagsRead}
use Rattle.java_loops.proofs.Chained.ChainSight.{Sight, in_sight}
use Rattle.java_loops.proofs.Chained.ChainSteady.{PlainBut, AimForms, plain_branch}
use Rattle.java_loops.proofs.Chained.ChainSteps.{Step, Through, Into, round_down, fronts, layers_down, loops_down, tests_down, has_if, at_level, outer_none, loops_of_down, tests_of_down}
use Rattle.java_loops.proofs.Chained.ChainUpdates.{takes_update}
use Rattle.java_loops.proofs.Standing.Standing.{site_of}
use Rattle.java_loops.proofs.Standing.StandingRules.{get_same}
use Rattle.java_loops.proofs.Standing.StandingWithin.{Leveled, test_of}

-- ---- Conjuncts by the numbers of their `if`s

-- none is of the `if` with this number
abbrev Others : ℕ → List Found → Type 0
Others n xs = AllByRecursion (λ (x : Found). x.number ≡ n → ⊥) xs

both_others : (n : ℕ) (xs ys : List Found) → Others n xs → Others n ys → Others n (xs ++ ys)
both_others n [] ys h k = k
both_others n (x ∷ xs) ys h k = (h.0, both_others n xs ys h.1 k)

found_others : (n k : ℕ) (cs : List Claim) → (k ≡ n → ⊥) → Others n (found_at k cs)
found_others n k [] other = tt
found_others n k (c ∷ cs) other = (other, found_others n k cs other)

abbrev mentioned_by : List ℕ → List Test → List Found
mentioned_by m ts = flat_map (mentioning m) ts

-- the tests of one level have other numbers
test_others : (m : List ℕ) (n level : ℕ) (t : Test) (ts : List Test) (b : Bool) → nat_eq t.level level ≡ b → (t.number ≡ n → ⊥) → Others n (mentioned_by m (at_level level ts)) → Others n (mentioned_by m (at_level level (t ∷ ts)))
test_others m n level t ts true e other h =
    subst (λ b. Others n (mentioned_by m (cond b (t ∷ at_level level ts) (at_level level ts)))) (sym e) (both_others n (mentioning m t) (mentioned_by m (at_level level ts)) (found_others n t.number (filter (mentions m) (claims t.holds t.condition)) other) h)
test_others m n level t ts false e other h = subst (λ b. Others n (mentioned_by m (cond b (t ∷ at_level level ts) (at_level level ts)))) (sym e) h

before_others : (m : List ℕ) (n level : ℕ) (ts : List Test) → AllBefore n ts → Others n (mentioned_by m (at_level level ts))
before_others m n level [] h = tt
before_others m n level (t ∷ ts) h = test_others m n level t ts (nat_eq t.level level) refl (λ e. let f = h.0 in omega (arith, e, f)) (before_others m n level ts h.1)

down_others : (m : List ℕ) (n level from : ℕ) (ss : List Step) → has_if n ss ≡ false → Others n (mentioned_by m (at_level level (tests_down from ss)))
down_others m n level from [] h = tt
down_others m n level from (Through k ∷ ss) h = down_others m n level (suc from) ss h
down_others m n level from (Into k e holds ∷ ss) h =
    let two = or_parts (nat_eq k n) (has_if n ss) h in
    let t : Test = record { number = k; level = from; condition = e; holds = holds } in
    test_others m n level t (tests_down from ss) (nat_eq from level) refl (eqb-false k n two.0) (down_others m n level from ss two.1)

-- ---- The one conjunct

only_one : (xs ys zs : List Found) (f : Found) (n : ℕ) → f.number ≡ n → Others n xs → Others n zs → xs ++ (ys ++ zs) ≡ f ∷ [] → ys ≡ f ∷ []
only_one (x ∷ xs) ys zs f n number h k e = let same : x ≡ f = cc in absurd (h.0 (ap (λ (y : Found). y.number) same ∙ number))
only_one [] (y ∷ ys) zs f n number h k e = let same : y ≡ f = cc in let rest : ys ++ zs ≡ [] = cc in ap (λ z. z ∷ ys) same ∙ ap (λ zs'. f ∷ zs') (first_nil ys zs rest)
  where
    first_nil : (us vs : List Found) → us ++ vs ≡ [] → us ≡ []
    first_nil [] vs e = refl
    first_nil (u ∷ us) vs e = absurd cc
only_one [] [] (z ∷ zs) f n number h k e = let same : z ≡ f = cc in absurd (k.0 (ap (λ (y : Found). y.number) same ∙ number))
only_one [] [] [] f n number h k e = absurd cc

none_of : (xs : List Found) (f : Found) → Others f.number xs → xs ≡ f ∷ [] → ⊥
none_of [] f h e = absurd cc
none_of (x ∷ xs) f h e = let same : x ≡ f = cc in h.0 (ap (λ (y : Found). y.number) same)

-- the levels are below this one
abbrev Below : ℕ → List Test → Type 0
Below level ts = AllByRecursion (λ (t : Test). t.level < level) ts

below_more : (k level : ℕ) (ts : List Test) → k < level → AllByRecursion (λ (t : Test). t.level ≤ k) ts → Below level ts
below_more k level [] h all = tt
below_more k level (t ∷ ts) h all = (let i = all.0 in omega (arith, h, i), below_more k level ts h all.1)

inner_of : (q : Round) (xs ys : List Test) (m : List ℕ) (level : ℕ) → q.tests ≡ xs ++ ys → length q.loops ≡ level → best_claims m q ≡ mentioned_by m (at_level level xs) ++ mentioned_by m (at_level level ys)
inner_of q xs ys m level e f =
    ap (λ k. mentioned_by m (at_level k q.tests)) f
    ∙ ap (λ ts. mentioned_by m (at_level level ts)) e
    ∙ ap (mentioned_by m) (filter-append (λ (t : Test). nat_eq t.level level) xs ys)
    ∙ flat_map-append (mentioning m) (at_level level xs) (at_level level ys)

-- the conjunct stands on the way where no test before it is of the innermost level
pub conjunct_below : (q r : Round) (ss : List Step) (m : List ℕ) (f : Found) → q ≡ round_down r ss → Below (length q.loops) r.tests → best_claims m q ≡ f ∷ [] → has_if f.number ss ≡ false → ⊥
conjunct_below q r ss m f is below one none =
    let level : ℕ = length q.loops in
    let tests : q.tests ≡ r.tests ++ tests_down (length r.loops) ss = ap (λ (x : Round). x.tests) is ∙ tests_of_down r ss in
    let split = inner_of q r.tests (tests_down (length r.loops) ss) m level tests refl in
    let first : mentioned_by m (at_level level r.tests) ≡ [] = ap (mentioned_by m) (outer_none level r.tests below) in
    none_of (mentioned_by m (at_level level (tests_down (length r.loops) ss))) f (down_others m f.number level (length r.loops) ss none) (ap (λ xs. xs ++ mentioned_by m (at_level level (tests_down (length r.loops) ss))) (sym first) ∙ sym split ∙ one)

-- the `if` of the conjunct mentions the variable once
conjunct_here : (q r : Round) (n : ℕ) (e : Expression) (holds : Bool) (ss : List Step) (m : List ℕ) (f : Found) → q ≡ round_down (in_branch r n e holds) ss → loops_down ss ≡ [] → AllBefore n r.tests → has_if n ss ≡ false → best_claims m q ≡ f ∷ [] → f.number ≡ n → mentioning m (test_of r n e holds) ≡ f ∷ []
conjunct_here q r n e holds ss m f is flat before fresh one number =
    let level : ℕ = length r.loops in
    let t : Test = test_of r n e holds in
    let rest : List Test = tests_down level ss in
    let tests : q.tests ≡ r.tests ++ (t ∷ rest) = ap (λ (x : Round). x.tests) is ∙ tests_of_down (in_branch r n e holds) ss ∙ append_assoc r.tests (t ∷ []) rest in
    let loops : q.loops ≡ r.loops = ap (λ (x : Round). x.loops) is ∙ loops_of_down (in_branch r n e holds) ss ∙ ap (λ ls. r.loops ++ ls) flat ∙ append-nil r.loops in
    let split = inner_of q r.tests (t ∷ rest) m level tests (ap length loops) in
    let here : mentioned_by m (at_level level (t ∷ rest)) ≡ mentioning m t ++ mentioned_by m (at_level level rest) = ap (λ b. mentioned_by m (cond b (t ∷ at_level level rest) (at_level level rest))) (eq-eqb level level refl) in
    only_one (mentioned_by m (at_level level r.tests)) (mentioning m t) (mentioned_by m (at_level level rest)) f n number (before_others m n level r.tests before) (down_others m n level level ss fresh)
    (ap (λ ys. mentioned_by m (at_level level r.tests) ++ ys) (sym here) ∙ sym split ∙ one)

-- ---- The rules

-- The conditions inside the innermost loop mention the variable in one conjunct, which compares it with the column that the
-- update takes; the variable is a number.
pub record AimBest (a : Aim) (d : Aimed a) (column : RowColumn) (f : Found) (way : Way) : Type 0 where
  pub form : form_of a.setting.sites a.number d.update.site.statement ≡ takes column
  pub one : best_claims a.name a.round ≡ f ∷ []
  pub found : way_found a.setting.sites a.name column f ≡ Some way
  pub long : a.setting.types a.name ≡ Some (Of (ScalarOf tys.Long))

abbrev pub best_change : Aim → RowColumn → Way → Change
best_change a column way = By (updates.Best way (element_of_column a.setting column)) false

-- the column is taken up to the `if` with this number, and the best value is kept from there on
pub data BestWay (a : Aim) (column : RowColumn) (way : Way) (b : ℕ) : List Step → Change → Type 0 where
  untested : (ss : List Step) → loops_down ss ≡ [] → has_if b ss ≡ false → BestWay a column way b ss (Takes (element_of_column a.setting column))
  tested : (ss : List Step) → has_if b ss ≡ true → BestWay a column way b ss (best_change a column way)

best_start : (a : Aim) → (d : Aimed a) → AimForms a → (column : RowColumn) (f : Found) (way : Way) → AimBest a d column f way → (r : Round) (previous : Option Statement) (l : Option Types) (g h : Types) (loops : List ℕ → Option ℕ) (s : Statement) → slice_get a.setting.sites a.number ≡ Some (site_of r previous s) → Sight a.setting r a.number g loops → TypedStatement a.frame l g s h → Started a (BestWay a column way f.number) s loops
best_start a d known column f way best r previous l g h loops s get sight t =
    let same : d.update.site ≡ site_of r previous s = get_same a.setting.sites a.number d.update.site (site_of r previous s) d.update.there get in
    let same_statement : d.update.site.statement ≡ s = ap (λ (x : Site). x.statement) same in
    let form : form_of a.setting.sites a.number s ≡ takes column = ap (form_of a.setting.sites a.number) (sym same_statement) ∙ best.form in
    let target : target_of s ≡ Some a.name = ap target_of (sym same_statement) ∙ d.update.target in
    record {
      change = Takes (element_of_column a.setting column);
      kept = untested [] refl refl;
      update = takes_update a.setting a.frame a.numbering known.elements a.number (site_of r previous s) get g loops (in_sight a.setting r a.number g loops sight) a.name l h s column t target (sight.outer a.name (Of (ScalarOf tys.Long)) best.long) form;
    }

no_layers : (w : Setting) (t : Numbers) (ss : List Step) → loops_down ss ≡ [] → layers_down w t ss ≡ []
no_layers w t [] e = refl
no_layers w t (Through n ∷ ss) e = absurd cc
no_layers w t (Into n c holds ∷ ss) e = no_layers w t ss e

module _ (a : Aim) (d : Aimed a) (known : AimForms a) (column : RowColumn) (f : Found) (way : Way) (best : AimBest a d column f way) (plain : PlainBut a (λ n. n ≡ f.number)) where
  -- the `if` of the conjunct
  best_here : (r : Round) (previous : Option Statement) (n : ℕ) (g : Types) (loops : List ℕ → Option ℕ) (flags : Flags) (s : Statement) (e : Expression) (holds : Bool) (p : Statements) (ss : List Step) → slice_get a.setting.sites n ≡ Some (site_of r previous s) → condition_of s ≡ Some e → HasType a.frame g e bool → Sight a.setting r n g loops → FlagsRead a.setting n g flags → AllBefore n r.tests → a.round ≡ round_down (in_branch r n e holds) ss → has_if n ss ≡ false → loops_down ss ≡ [] → n ≡ f.number → IsBranch s a.name holds e p → AreChain a.fragment a.quiet (numbering_at a loops) flags [] p a.name (fronts a.setting a.numbers ss) (layers_down a.setting a.numbers ss) (Takes (element_of_column a.setting column)) → Branched a (BestWay a column way f.number) s loops flags (Into n e holds ∷ ss)
  best_here r previous n g loops flags s e holds p ss get is t sight reads before at fresh flat number branch below =
      let none : layers_down a.setting a.numbers ss ≡ [] = no_layers a.setting a.numbers ss flat in
      let form : IsBest a.numbers.atoms (numbering_at a loops) flags a.name way (loop_number a.setting.sites column.loop) (column_of a.setting column) holds e (found_form (form_of_condition a.setting a.numbers n holds e)) =
      known.forms.best n (length r.loops) (site_of r previous s) e holds g loops flags a.name column f way a.number d.update.site get is t (in_sight a.setting r n g loops sight) reads d.update.there d.update.target best.form (ap (best_claims a.name) d.round ∙ best.one) (sym number) (conjunct_here a.round r n e holds ss a.name f at flat before fresh best.one (sym number)) best.found in
      record {
        change = best_change a column way;
        kept = tested (Into n e holds ∷ ss) (ap (λ b. b || has_if f.number ss) (eq-eqb n f.number number));
        chain =
            subst (λ ys. IsChain a.fragment a.quiet (numbering_at a loops) flags s a.name (found_form (form_of_condition a.setting a.numbers n holds e) ++ fronts a.setting a.numbers ss) ys (best_change a column way)) (sym none)
            (chains.best a.quiet (numbering_at a loops) flags s a.name holds e p way (loop_number a.setting.sites column.loop) (column_of a.setting column) (found_form (form_of_condition a.setting a.numbers n holds e)) (fronts a.setting a.numbers ss) branch
            (subst (λ atoms. IsBest atoms (numbering_at a loops) flags a.name way (loop_number a.setting.sites column.loop) (column_of a.setting column) holds e (found_form (form_of_condition a.setting a.numbers n holds e))) (sym known.atoms) form)
            (subst (λ ys. AreChain a.fragment a.quiet (numbering_at a loops) flags [] p a.name (fronts a.setting a.numbers ss) ys (Takes (element_of_column a.setting column))) none below));
      }

  other_step : (n b : ℕ) (ss : List Step) → (n ≡ b → ⊥) → has_if b ss ≡ false → (nat_eq n b || has_if b ss) ≡ false
  other_step n b ss other e = ap (λ q. q || has_if b ss) (ne_eqb n b other) ∙ e

  or_true : (b : Bool) → (b || true) ≡ true
  or_true true = refl
  or_true false = refl

  not_that : (n b : ℕ) (ss : List Step) → has_if n ss ≡ false → has_if b ss ≡ true → n ≡ b → ⊥
  not_that n b ss e h same = let k : has_if b ss ≡ false = ap (λ i. has_if i ss) (sym same) ∙ e in absurd cc

  best_branch : (r : Round) (previous : Option Statement) (n : ℕ) (g : Types) (loops : List ℕ → Option ℕ) (flags : Flags) (s : Statement) (e : Expression) (holds : Bool) (p : Statements) (ss : List Step) (change : Change) → slice_get a.setting.sites n ≡ Some (site_of r previous s) → condition_of s ≡ Some e → HasType a.frame g e bool → Sight a.setting r n g loops → FlagsRead a.setting n g flags → AllBefore n r.tests → a.round ≡ round_down (in_branch r n e holds) ss → has_if n ss ≡ false → BestWay a column way f.number ss change → IsBranch s a.name holds e p → AreChain a.fragment a.quiet (numbering_at a loops) flags [] p a.name (fronts a.setting a.numbers ss) (layers_down a.setting a.numbers ss) change → Branched a (BestWay a column way f.number) s loops flags (Into n e holds ∷ ss)
  best_branch r previous n g loops flags s e holds p _ _ get is t sight reads before at fresh (untested ss flat none) branch below =
      ⊎_elim
      (λ number. best_here r previous n g loops flags s e holds p ss get is t sight reads before at fresh flat number branch below)
      (λ other. record {
        change = Takes (element_of_column a.setting column);
        kept = untested (Into n e holds ∷ ss) flat (other_step n f.number ss other none);
        chain = plain_branch a known r previous n g loops flags s e holds p ss (Takes (element_of_column a.setting column)) get is t sight reads (plain.by r previous n s e holds ss get is at other) branch below;
      })
      (cases_eq n f.number)
  best_branch r previous n g loops flags s e holds p _ _ get is t sight reads before at fresh (tested ss has) branch below =
      record {
        change = best_change a column way;
        kept = tested (Into n e holds ∷ ss) (ap (λ b. nat_eq n f.number || b) has ∙ or_true (nat_eq n f.number));
        chain = plain_branch a known r previous n g loops flags s e holds p ss (best_change a column way) get is t sight reads (plain.by r previous n s e holds ss get is at (not_that n f.number ss fresh has)) branch below;
      }

  longer : (xs ys : List ℕ) (n : ℕ) → length xs < length ((xs ++ n ∷ []) ++ ys)
  longer [] ys n = omega arith
  longer (x ∷ xs) ys n = let h = longer xs ys n in omega (arith, h)

  best_loop : (r : Round) (n : ℕ) (ss : List Step) (change : Change) → Leveled r → a.round ≡ round_down (in_loop r n) ss → BestWay a column way f.number ss change → Looped (λ ts ch. BestWay a column way f.number (Through n ∷ ts) ch) ss change
  best_loop r n _ _ leveled at (untested ss flat none) =
      let loops : a.round.loops ≡ (r.loops ++ n ∷ []) ++ loops_down ss = ap (λ (x : Round). x.loops) at ∙ loops_of_down (in_loop r n) ss in
      let deeper : length r.loops < length a.round.loops = subst (λ ls. length r.loops < length ls) (sym loops) (longer r.loops (loops_down ss) n) in
      absurd (conjunct_below a.round (in_loop r n) ss a.name f at (below_more (length r.loops) (length a.round.loops) r.tests deeper leveled.by) best.one none)
  best_loop r n _ _ leveled at (tested ss has) = record { update = updates.Best way (element_of_column a.setting column); opposite = false; is = refl; kept = tested (Through n ∷ ss) has }

  -- The change of a best value.
  pub best_ways : WayRules a (BestWay a column way f.number)
  best_ways =
      record {
        start = λ r previous l g h loops s get sight t. best_start a d known column f way best r previous l g h loops s get sight t;
        branch = λ r previous n g loops flags s e holds p ss change get is t sight reads leveled before at up fresh kept branch below. best_branch r previous n g loops flags s e holds p ss change get is t sight reads before at fresh kept branch below;
        loop = λ r n ss change leveled at kept. best_loop r n ss change leveled at kept;
      }

  -- over the whole way the best value is kept
  pub best_whole : (r : Round) (ss : List Step) (change : Change) → a.round ≡ round_down r ss → r.tests ≡ [] → BestWay a column way f.number ss change → change ≡ best_change a column way
  best_whole r _ _ at flat (untested ss none_down none) = absurd (conjunct_below a.round r ss a.name f at (subst (λ ts. Below (length a.round.loops) ts) (sym flat) tt) best.one none)
  best_whole r _ _ at flat (tested ss has) = refl

-- A statement of a block settles the flags of the block that it sets: each of them has its own chain in that statement.
use Rattle.std.proofs.Common.{◌≡◌, ℕ, ◌<◌, ◌≤◌, Bool, true, false, not, ◌||◌, List, [], ◌∷◌, length, map, take, Option, Some, refl, sym, ap, ◌∙◌, subst, cond, slice_get, bytes_eq, arith, ◌⊎◌, inl, inr, ⊎_elim}
use Rattle.std.specs.List.{AllByRecursion}
use Rattle.std.proofs.lemmas.Bool.{cases_lt, or_parts, or_cases, ne_eqb, false_from_ne_true}
use Rattle.java_ast.specs.Tree.{Statement}
use Rattle.java_mean.specs.declared.types.JavaType.{JavaType}
use Rattle.java_mean.specs.Types.{Types}
use Rattle.java_mean.specs.Typing.{TypedStatement}
use Rattle.java_mean.proofs.Puts.{names_equal}
use Rattle.kernel_lang.specs.declared.parts.Update.TheVariants as updates
use Rattle.kernel_lang.specs.Plain.{Accumulator}
use Rattle.kernel_lang.specs.Running.{Layer}
use Rattle.tor_terms.specs.Truth.{has_loop}
use Rattle.java_loops.specs.Walks.Chains as chains
use Rattle.java_loops.specs.Walks.Chains.{Change, By, declares, IsChain, IsFlag, Settles}
use Rattle.java_loops.specs.Walks.Effects.{sets}
use Rattle.java_loops.specs.Walks.Nests.{is_among}
use Rattle.java_loops.specs.Walks.Numbering.{Numbering, Flag, Flags, Starts, Reads, no_flags, with_flag, IsApart, is_at_other_loops}
use Rattle.java_loops.specs.Lowering.Numbering.{loop_number, flag_number, starts_true}
use Rattle.loop_text.specs.Kernel.KernelForms.{form_of, takes, marks}
use Rattle.java_loops.specs.Lowering.Lowered.{update_with, is_opposite}
use Rattle.loop_text.specs.Statements.Loops.{is_loop}
use Rattle.java_loops.specs.Kernel.Setting.{Setting}
use Rattle.loop_text.specs.declared.sites.bindings.Binding.TheVariants.{Local}
use Rattle.loop_text.specs.Sites.Sites.{Round, Site, RowColumn, binding_at, declared_name, depth}
use Rattle.java_loops.proofs.Chained.ChainAims.{Aim, Aimed, AllBefore, numbering_at, Settled, FlagRules, DownIn}
use Rattle.java_loops.proofs.Chained.ChainDown.{down}
use Rattle.java_loops.proofs.Chained.ChainExcepted.{plain_way}
use Rattle.java_loops.proofs.Chained.ChainFlagForms.{FlagForm, flag_form, flag_opposite, own_loops, HasFlags, flag_loops, is_flag, loop_fronts}
use Rattle.java_loops.proofs.Chained.ChainFlagSites.{FlagUpdate, flag_update, update_at, only_update, flag_accumulator}
use Rattle.java_loops.proofs.Chained.ChainFlags.{Placed, here, branched, outer, LocalAt, OwnFlag, own_flags_kept, hidden_out, Loud, loud_branch, loud_row, loud_declared, loud_reads, not_below}
use Rattle.java_loops.proofs.Chained.ChainQuiet.{OwnName, apart_own, Quiet, quiet_rules, quiet_start}
use Rattle.java_loops.proofs.Chained.ChainSets.{SetWithin, set_within, update_within, UpdateAt, goes_up}
use Rattle.java_loops.proofs.Chained.ChainSight.{Sight, Kept, number_later}
use Rattle.java_loops.proofs.Chained.ChainSites.{at_site}
use Rattle.java_loops.proofs.Chained.ChainSteady.{PlainBut, AimForms, Stays, update_aimed, opposite_aimed, steady_ways}
use Rattle.java_loops.proofs.Chained.ChainSteps.{fronts, layers_down}
use Rattle.java_loops.proofs.Chained.ChainUpdates.{IsSteady}
use Rattle.java_loops.proofs.Nested.NestRules.{loop_sets}
use Rattle.java_loops.proofs.Standing.Standing.{Stands}
use Rattle.java_loops.proofs.Standing.StandingKnown.{Known}
use Rattle.java_loops.proofs.Standing.StandingWithin.{Leveled}

-- ---- One flag

-- the flag of a block that a statement of the block sets has its chain there
record FlaggedAt (a : Aim) (N : Numbering) (flags : Flags) (s : Statement) (b : List ℕ) (d : ℕ) (t : Site) : Type 0 where
  number : ℕ
  acc : Accumulator
  layers : List Layer
  apart : IsApart N b
  flag : IsFlag a.fragment N number acc layers
  start : flags b ≡ Some (Starts acc.opposite)
  chain : IsChain a.fragment true N no_flags s b [] layers (By updates.Mark acc.opposite)
  value : Reads number acc.opposite (take acc.base acc.chain) ≡ Reads (flag_number a.setting d) (starts_true t.statement) (map (loop_number a.setting.sites) t.round.loops)

reads_same : (k : ℕ) (b c : Bool) (ls ms : List ℕ) → b ≡ c → ls ≡ ms → Reads k b ls ≡ Reads k c ms
reads_same k b c ls ms e f = ap (λ z. Reads k z ls) e ∙ ap (Reads k c) f

module _ (a : Aim) (d : Aimed a) (known : AimForms a) (has : HasFlags a.setting a.numbers a.fragment) (sites : (i : ℕ) (s : Site) → slice_get a.setting.sites i ≡ Some s → Known a.setting.sites i s) where
  -- the chain of a flag is asked for so
  abbrev aim_of : (i : ℕ) (b : List ℕ) → FlagUpdate a.setting i b → Aim
  aim_of i b f = record { setting = a.setting; frame = a.frame; fragment = a.fragment; numbers = a.numbers; numbering = a.numbering; quiet = true; name = b; bound = Local i; number = f.number; round = f.site.round }

  abbrev aimed_of : (i : ℕ) (b : List ℕ) → (f : FlagUpdate a.setting i b) → Aimed (aim_of i b f)
  aimed_of i b f = record { unbroken = d.unbroken; numbers = d.numbers; rows = d.rows; first = d.first; first_there = d.first_there; first_flat = d.first_flat; no_row = refl; update = update_at a.setting i b f; round = refl }

  not_taken : (i : ℕ) (b : List ℕ) (t : Site) → (f : FlagUpdate a.setting i b) → (form : FlagForm a.setting i b t f) → (c : RowColumn) → form_of a.setting.sites f.number f.site.statement ≡ takes c → ⊥
  not_taken i b t f form c e = let g : marks form.truth ≡ takes c = sym form.form ∙ e in absurd cc

  flag_plain : (i : ℕ) (b : List ℕ) (t : Site) → (f : FlagUpdate a.setting i b) → FlagForm a.setting i b t f → PlainBut (aim_of i b f) (λ n. ⊥)
  flag_plain i b t f form = plain_way (aim_of i b f) (aimed_of i b f) sites (λ n. ⊥) (λ c z e one. not_taken i b t f form c e)

  flag_down : (i : ℕ) (b : List ℕ) (t : Site) → (f : FlagUpdate a.setting i b) → FlagForm a.setting i b t f → (r : Round) (previous : Option Statement) (s : Statement) (n m : ℕ) → Stands a.setting.sites r previous s n m → (l : Option Types) (g h : Types) (loops : List ℕ → Option ℕ) → TypedStatement a.frame l g s h → Leveled r → AllBefore n r.tests → 0 < length r.loops → Sight a.setting r n g loops → (k : JavaType) → g b ≡ Some k → binding_at a.setting.sites n b ≡ Local i → n ≤ f.number → f.number < m → DownIn (aim_of i b f) (Stays (update_aimed (aim_of i b f) (aimed_of i b f)) (opposite_aimed (aim_of i b f) (aimed_of i b f))) r n loops no_flags s
  flag_down i b t f form r previous s n m stands l g h loops typed leveled before inner sight k seen bound low high =
      let q : Aim = aim_of i b f in
      let known_here : AimForms q = record { atoms = known.atoms; forms = known.forms; elements = known.elements } in
      let steady : IsSteady a.setting b (form_of a.setting.sites f.number f.site.statement) = subst (λ z. IsSteady a.setting b z) (sym form.form) tt in
      down q (aimed_of i b f) (Quiet q) (quiet_rules q (aimed_of i b f) i refl refl) (Stays (update_aimed q (aimed_of i b f)) (opposite_aimed q (aimed_of i b f))) (steady_ways q (aimed_of i b f) known_here (flag_plain i b t f form) steady)
      r previous s n m stands l g h loops no_flags [] typed
      (record { leveled = leveled; before = before; inner = inner; sight = sight; flags_known = quiet_start q r n g; type = k; visible = seen; bound = bound })
      low high

  flagged_at : (r : Round) (previous : Option Statement) (s : Statement) (n m : ℕ) → Stands a.setting.sites r previous s n m → (l : Option Types) (g h : Types) (loops : List ℕ → Option ℕ) (flags : Flags) (bs : List (List ℕ)) → TypedStatement a.frame l g s h → Leveled r → AllBefore n r.tests → 0 < length r.loops → Sight a.setting r n g loops → (b : List ℕ) → (o : OwnName a.setting n g b) → (at : LocalAt a.setting r n flags bs b o.number) → at.site.round ≡ r → sets s b ≡ true → FlaggedAt a (numbering_at a loops) flags s b o.number at.site
  flagged_at r previous s n m stands l g h loops flags bs typed leveled before inner sight b o at same set =
      let w : Setting = a.setting in
      let i : ℕ = o.number in
      let f : FlagUpdate w i b = flag_update w d.unbroken i at.site b at.there at.name in
      let form : FlagForm w i b at.site f = flag_form w d.unbroken i b at.site at.there f in
      let sw : SetWithin w.sites n m b = set_within a.frame w.sites r previous s n m stands l g h typed b o.type o.visible set in
      let number : sw.number ≡ f.number = only_update w d.unbroken i b f sw.number (subst (λ z. UpdateAt w.sites sw.number b z) o.bound (update_within w d.unbroken n m b sw)) in
      let low : n ≤ f.number = let e = sw.low in omega (arith, e, number) in
      let high : f.number < m = let e = sw.high in omega (arith, e, number) in
      let q : DownIn (aim_of i b f) (Stays (update_aimed (aim_of i b f) (aimed_of i b f)) (opposite_aimed (aim_of i b f) (aimed_of i b f))) r n loops no_flags s = flag_down i b at.site f form r previous s n m stands l g h loops typed leveled before inner sight o.type o.visible o.bound low high in
      let loop : is_loop s ≡ true = loop_sets w d.unbroken a.frame r previous s n m stands leveled l g h typed b o.type i at.site o.visible o.bound at.there same set in
      let flat : fronts w a.numbers q.steps ≡ [] = loop_fronts a.fragment true (numbering_at a loops) no_flags s b (fronts w a.numbers q.steps) (layers_down w a.numbers q.steps) q.change q.chain loop in
      let opposite : opposite_aimed (aim_of i b f) (aimed_of i b f) ≡ not form.truth = ap is_opposite form.form in
      let update : update_aimed (aim_of i b f) (aimed_of i b f) ≡ updates.Mark = ap (update_with w b f.site.round) form.form in
      let change : q.change ≡ By updates.Mark (opposite_aimed (aim_of i b f) (aimed_of i b f)) = q.kept ∙ ap (λ u. By u (opposite_aimed (aim_of i b f) (aimed_of i b f))) update in
      let starts : starts_true at.site.statement ≡ not form.truth = flag_opposite w d.unbroken i b at.site at.there at.name f form in
      record {
        number = flag_number w i;
        acc = flag_accumulator w a.numbers has.conditions i b at.site.round f;
        layers = layers_down w a.numbers q.steps;
        apart = apart_own w a.numbering d.numbers r n g loops sight b o;
        flag = is_flag w d.unbroken a.numbers a.fragment a.numbering has r n g loops sight leveled i b at.site at.there at.name same f form q.steps q.is;
        start = at.start f low ∙ ap (λ z. Some (Starts z)) (starts ∙ sym opposite);
        chain =
            subst (λ ch. IsChain a.fragment true (numbering_at a loops) no_flags s b [] (layers_down w a.numbers q.steps) ch) change
            (subst (λ fs. IsChain a.fragment true (numbering_at a loops) no_flags s b fs (layers_down w a.numbers q.steps) q.change) flat q.chain);
        value = reads_same (flag_number w i) (opposite_aimed (aim_of i b f) (aimed_of i b f)) (starts_true at.site.statement) (take (length at.site.round.loops) (map (loop_number w.sites) f.site.round.loops)) (map (loop_number w.sites) at.site.round.loops) (opposite ∙ sym starts) (flag_loops w i b at.site f r q.steps same q.is);
      }

-- ---- All flags of a block

-- a flag of the block isn't set by the statement, or has its chain there
record OneFlag (a : Aim) (N : Numbering) (n : ℕ) (flags : Flags) (s : Statement) (b : List ℕ) : Type 0 where
  declaration : ℕ
  bound : binding_at a.setting.sites n b ≡ Local declaration
  site : Site
  there : slice_get a.setting.sites declaration ≡ Some site
  by : (sets s b ≡ false) ⊎ ((sets s b ≡ true) × FlaggedAt a N flags s b declaration site)

record Settling (a : Aim) (N : Numbering) (n : ℕ) (flags : Flags) (s : Statement) (bs : List (List ℕ)) : Type 0 where
  behind : Flags
  settles : Settles a.fragment false N flags s bs behind
  unset : (x : List ℕ) → sets s x ≡ false → behind x ≡ flags x
  others : (x : List ℕ) → is_among bs x ≡ false → behind x ≡ flags x
  reads : (x : List ℕ) (i : ℕ) (t : Site) → is_among bs x ≡ true → sets s x ≡ true → binding_at a.setting.sites n x ≡ Local i → slice_get a.setting.sites i ≡ Some t → behind x ≡ Some (Reads (flag_number a.setting i) (starts_true t.statement) (map (loop_number a.setting.sites) t.round.loops))

unset_name : (s : Statement) (b x : List ℕ) → bytes_eq b x ≡ true → sets s b ≡ false → sets s x ≡ true → ⊥
unset_name s b x e f h = let g : sets s x ≡ false = ap (sets s) (sym (names_equal b x e)) ∙ f in absurd cc

settle_unset : (a : Aim) (N : Numbering) (n : ℕ) (flags : Flags) (s : Statement) (b : List ℕ) (bs : List (List ℕ)) → sets s b ≡ false → Settling a N n flags s bs → Settling a N n flags s (b ∷ bs)
settle_unset a N n flags s b bs e z =
    record {
      behind = z.behind;
      settles = chains.unset false N flags z.behind s b bs e z.settles;
      unset = z.unset;
      others = λ x h. z.others x (or_parts (bytes_eq b x) (is_among bs x) h).1;
      reads = λ x i t among set bound there. ⊎_elim (λ same. absurd (unset_name s b x same e set)) (λ rest. z.reads x i t rest set bound there) (or_cases (bytes_eq b x) (is_among bs x) among);
    }

put_by : (q : Bool) (o p r : Option Flag) → (q ≡ true → o ≡ r) → (q ≡ false → p ≡ r) → cond q o p ≡ r
put_by true o p r f g = f refl
put_by false o p r f g = g refl

-- the same declaration
same_site_value : (w : Setting) (n i j : ℕ) (b x : List ℕ) (s t : Site) → b ≡ x → binding_at w.sites n b ≡ Local i → binding_at w.sites n x ≡ Local j → slice_get w.sites i ≡ Some s → slice_get w.sites j ≡ Some t → Reads (flag_number w i) (starts_true s.statement) (map (loop_number w.sites) s.round.loops) ≡ Reads (flag_number w j) (starts_true t.statement) (map (loop_number w.sites) t.round.loops)
same_site_value w n i j b x s t e f g h k =
    let bindings : Local i ≡ Local j = sym f ∙ ap (binding_at w.sites n) e ∙ g in
    let number : i ≡ j = cc in
    let sites : Some s ≡ Some t = sym h ∙ ap (slice_get w.sites) number ∙ k in
    let site : s ≡ t = cc in
    ap (λ c. Reads (flag_number w c) (starts_true s.statement) (map (loop_number w.sites) s.round.loops)) number
    ∙ ap (λ (z : Site). Reads (flag_number w j) (starts_true z.statement) (map (loop_number w.sites) z.round.loops)) site

settle_flagged : (a : Aim) (N : Numbering) (n : ℕ) (flags : Flags) (s : Statement) (b : List ℕ) (bs : List (List ℕ)) (i : ℕ) (t : Site) → binding_at a.setting.sites n b ≡ Local i → slice_get a.setting.sites i ≡ Some t → sets s b ≡ true → FlaggedAt a N flags s b i t → Settling a N n flags s bs → Settling a N n flags s (b ∷ bs)
settle_flagged a N n flags s b bs i t bound there set f z =
    let flag : Option Flag = Some (Reads f.number f.acc.opposite (take f.acc.base f.acc.chain)) in
    record {
      behind = with_flag b flag z.behind;
      settles = chains.flagged N flags z.behind s b bs f.number f.acc f.layers f.apart f.flag f.start f.chain z.settles;
      unset = λ x e. put_by (bytes_eq b x) flag (z.behind x) (flags x) (λ same. absurd (set_name b x same set e)) (λ other. z.unset x e);
      others = λ x e. let two = or_parts (bytes_eq b x) (is_among bs x) e in ap (λ q. cond q flag (z.behind x)) two.0 ∙ z.others x two.1;
      reads = λ x j y among set_x bound_x there_x. put_by (bytes_eq b x) flag (z.behind x) (Some (Reads (flag_number a.setting j) (starts_true y.statement) (map (loop_number a.setting.sites) y.round.loops)))
          (λ same. ap Some (f.value ∙ same_site_value a.setting n i j b x t y (names_equal b x same) bound bound_x there there_x))
          (λ other. z.reads x j y (rest_among (bytes_eq b x) (is_among bs x) other among) set_x bound_x there_x);
    }
  where
    set_name : (c x : List ℕ) → bytes_eq c x ≡ true → sets s c ≡ true → sets s x ≡ false → ⊥
    set_name c x e f h = let g : sets s c ≡ false = ap (sets s) (names_equal c x e) ∙ h in absurd cc

    rest_among : (p q : Bool) → p ≡ false → (p || q) ≡ true → q ≡ true
    rest_among true q e h = absurd cc
    rest_among false q e h = h

settle_all : (a : Aim) (N : Numbering) (n : ℕ) (flags : Flags) (s : Statement) (bs : List (List ℕ)) → AllByRecursion (OneFlag a N n flags s) bs → Settling a N n flags s bs
settle_all a N n flags s [] all =
    record { behind = flags; settles = chains.ended false N flags s; unset = λ x e. refl; others = λ x e. refl; reads = λ x i t among set bound there. absurd cc }
settle_all a N n flags s (b ∷ bs) all =
    let o : OneFlag a N n flags s b = all.0 in
    ⊎_elim
    (λ e. settle_unset a N n flags s b bs e (settle_all a N n flags s bs all.1))
    (λ e. settle_flagged a N n flags s b bs o.declaration o.site o.bound o.there e.0 e.1 (settle_all a N n flags s bs all.1))
    o.by

-- ---- The rules

no_loop_from : (sites : List Site) (n j : ℕ) (ls : List ℕ) → AllByRecursion (λ k. loop_number sites k < loop_number sites n) ls → loop_number sites n ≤ j → has_loop (map (loop_number sites) ls) j ≡ false
no_loop_from sites n j [] all h = refl
no_loop_from sites n j (l ∷ ls) all h = ap (λ q. q || has_loop (map (loop_number sites) ls) j) (ne_eqb (loop_number sites l) j (λ e. let f = all.0 in omega (arith, e, f, h))) ∙ no_loop_from sites n j ls all.1 h

module _ (a : Aim) (d : Aimed a) (known : AimForms a) (has : HasFlags a.setting a.numbers a.fragment) (sites : (i : ℕ) (s : Site) → slice_get a.setting.sites i ≡ Some s → Known a.setting.sites i s) (loud : a.quiet ≡ false) where
  one_flag : (r : Round) (previous : Option Statement) (s : Statement) (n m : ℕ) → Stands a.setting.sites r previous s n m → (l : Option Types) (g h : Types) (loops : List ℕ → Option ℕ) (flags : Flags) (bs : List (List ℕ)) → TypedStatement a.frame l g s h → Leveled r → AllBefore n r.tests → 0 < length r.loops → Sight a.setting r n g loops → Loud a r n g flags bs → (b : List ℕ) → OwnFlag a.setting r n g b → (set : Bool) → sets s b ≡ set → OneFlag a (numbering_at a loops) n flags s b
  one_flag r previous s n m stands l g h loops flags bs typed leveled before inner sight q b f set e =
      let o : OwnName a.setting n g b = f.own in
      let at : LocalAt a.setting r n flags bs b o.number = q.locals b o.type o.number o.visible o.bound in
      record {
        declaration = o.number;
        bound = o.bound;
        site = at.site;
        there = at.there;
        by = decide set e;
      }
    where
      decide : (set : Bool) → sets s b ≡ set → (sets s b ≡ false) ⊎ ((sets s b ≡ true) × FlaggedAt a (numbering_at a loops) flags s b f.own.number (q.locals b f.own.type f.own.number f.own.visible f.own.bound).site)
      decide false e = inl e
      decide true e =
          let o : OwnName a.setting n g b = f.own in
          let at : LocalAt a.setting r n flags bs b o.number = q.locals b o.type o.number o.visible o.bound in
          inr (e, flagged_at a d known has sites r previous s n m stands l g h loops flags bs typed leveled before inner sight b o at (f.round at.site at.there) e)

  all_flags : (r : Round) (previous : Option Statement) (s : Statement) (n m : ℕ) → Stands a.setting.sites r previous s n m → (l : Option Types) (g h : Types) (loops : List ℕ → Option ℕ) (flags : Flags) (bs : List (List ℕ)) → TypedStatement a.frame l g s h → Leveled r → AllBefore n r.tests → 0 < length r.loops → Sight a.setting r n g loops → Loud a r n g flags bs → (cs : List (List ℕ)) → AllByRecursion (OwnFlag a.setting r n g) cs → AllByRecursion (OneFlag a (numbering_at a loops) n flags s) cs
  all_flags r previous s n m stands l g h loops flags bs typed leveled before inner sight q [] all = tt
  all_flags r previous s n m stands l g h loops flags bs typed leveled before inner sight q (c ∷ cs) all =
      (one_flag r previous s n m stands l g h loops flags bs typed leveled before inner sight q c all.0 (sets s c) refl, all_flags r previous s n m stands l g h loops flags bs typed leveled before inner sight q cs all.1)

  -- a statement that sets a flag has the site of its update
  in_range : (r : Round) (previous : Option Statement) (s : Statement) (n m : ℕ) → Stands a.setting.sites r previous s n m → (l : Option Types) (g h : Types) → TypedStatement a.frame l g s h → (x : List ℕ) (k : JavaType) (i : ℕ) → g x ≡ Some k → binding_at a.setting.sites n x ≡ Local i → (f : FlagUpdate a.setting i x) → (f.number < n) ⊎ (m ≤ f.number) → sets s x ≡ false
  in_range r previous s n m stands l g h typed x k i seen bound f out =
      false_from_ne_true (sets s x) (λ e.
      let sw : SetWithin a.setting.sites n m x = set_within a.frame a.setting.sites r previous s n m stands l g h typed x k seen e in
      let number : sw.number ≡ f.number = only_update a.setting d.unbroken i x f sw.number (subst (λ z. UpdateAt a.setting.sites sw.number x z) bound (update_within a.setting d.unbroken n m x sw)) in
      let low = sw.low in
      let high = sw.high in
      ⊎_elim (λ before. omega (arith, low, before, number)) (λ behind. omega (arith, high, behind, number)) out)

  local_behind : (r : Round) (previous : Option Statement) (s : Statement) (n m : ℕ) → Stands a.setting.sites r previous s n m → (l : Option Types) (g h : Types) (N : Numbering) (flags : Flags) (bs : List (List ℕ)) → TypedStatement a.frame l g s h → Leveled r → n < m → (z : Settling a N n flags s bs) → (x : List ℕ) (k : JavaType) (i : ℕ) → g x ≡ Some k → binding_at a.setting.sites n x ≡ Local i → LocalAt a.setting r n flags bs x i → LocalAt a.setting r m z.behind bs x i
  local_behind r previous s n m stands l g h N flags bs typed leveled up z x k i seen bound at =
      let w : Setting = a.setting in
      record {
        site = at.site;
        there = at.there;
        name = at.name;
        placed = at.placed;
        start = λ f low. z.unset x (in_range r previous s n m stands l g h typed x k i seen bound f (inr low)) ∙ at.start f (omega (arith, low, up));
        read = λ f high same. ⊎_elim
            (λ before. z.unset x (in_range r previous s n m stands l g h typed x k i seen bound f (inl before)) ∙ at.read f before same)
            (λ behind. now_read at.site at.placed f behind high same at.there at.name)
            (cases_lt f.number n);
      }
    where
      now_read : (t : Site) → Placed r bs t x → (f : FlagUpdate a.setting i x) → n ≤ f.number → f.number < m → depth t ≡ length r.loops → slice_get a.setting.sites i ≡ Some t → declared_name t.statement ≡ Some x → z.behind x ≡ Some (Reads (flag_number a.setting i) (starts_true t.statement) (map (loop_number a.setting.sites) t.round.loops))
      now_read t (here among is) f low high same there name = z.reads x i t among ((at_site a.setting.sites r previous s n m stands f.number f.site low high f.there).sets_it x f.target) bound there
      now_read t (branched level fewer) f low high same there name = absurd (not_below r t f.site leveled (at_site a.setting.sites r previous s n m stands f.number f.site low high f.there).under level fewer ((own_loops a.setting d.unbroken).by i x t there name f))
      now_read t (outer deep) f low high same there name = absurd (omega (arith, deep, same))

  -- a flag behind a statement is read in loops outside of it
  behind_others : (r : Round) (n m : ℕ) (g : Types) (loops : List ℕ → Option ℕ) (N : Numbering) (flags : Flags) (bs : List (List ℕ)) (s : Statement) → n ≤ m → Sight a.setting r n g loops → Loud a r n g flags bs → (z : Settling a N n flags s bs) → (cs : List (List ℕ)) → AllByRecursion (OwnFlag a.setting r n g) cs → (j : ℕ) (x : List ℕ) (flag : Flag) → loop_number a.setting.sites m ≤ j → z.behind x ≡ Some flag → (among set : Bool) → is_among bs x ≡ among → is_among cs x ≡ among → sets s x ≡ set → is_at_other_loops j flag
  behind_others r n m g loops N flags bs s up sight q z cs all j x flag low h false set among_bs among e =
      let k = number_later a.setting.sites n m up in
      q.others j x flag (omega (arith, low, k)) (sym (z.others x among_bs) ∙ h)
  behind_others r n m g loops N flags bs s up sight q z cs all j x flag low h true false among_bs among e =
      let k = number_later a.setting.sites n m up in
      q.others j x flag (omega (arith, low, k)) (sym (z.unset x e) ∙ h)
  behind_others r n m g loops N flags bs s up sight q z cs all j x flag low h true true among_bs among e =
      let f : OwnFlag a.setting r n g x = found_flag cs all x among in
      let o : OwnName a.setting n g x = f.own in
      let at : LocalAt a.setting r n flags bs x o.number = q.locals x o.type o.number o.visible o.bound in
      let reads = z.reads x o.number at.site among_bs e o.bound at.there in
      let same : Some (Reads (flag_number a.setting o.number) (starts_true at.site.statement) (map (loop_number a.setting.sites) at.site.round.loops)) ≡ Some flag = sym reads ∙ h in
      let is : Reads (flag_number a.setting o.number) (starts_true at.site.statement) (map (loop_number a.setting.sites) at.site.round.loops) ≡ flag = cc in
      let k = number_later a.setting.sites n m up in
      let none : has_loop (map (loop_number a.setting.sites) at.site.round.loops) j ≡ false = ap (λ (y : Round). has_loop (map (loop_number a.setting.sites) y.loops) j) (f.round at.site at.there) ∙ no_loop_from a.setting.sites n j r.loops sight.round (omega (arith, low, k)) in
      subst (λ y. is_at_other_loops j y) is none
    where
      found_flag : (cs : List (List ℕ)) → AllByRecursion (OwnFlag a.setting r n g) cs → (x : List ℕ) → is_among cs x ≡ true → OwnFlag a.setting r n g x
      found_flag [] all x e = absurd cc
      found_flag (c ∷ cs) all x e = ⊎_elim (λ same. subst (λ y. OwnFlag a.setting r n g y) (names_equal c x same) all.0) (λ rest. found_flag cs all.1 x rest) (or_cases (bytes_eq c x) (is_among cs x) e)

  loud_settled : (r : Round) (previous : Option Statement) (n m : ℕ) (l : Option Types) (g h : Types) (loops : List ℕ → Option ℕ) (flags : Flags) (bs : List (List ℕ)) (s : Statement) → Loud a r n g flags bs → Leveled r → AllBefore n r.tests → 0 < length r.loops → Sight a.setting r n g loops → Stands a.setting.sites r previous s n m → TypedStatement a.frame l g s h → sets s a.name ≡ false → Kept a.setting n m g → Settled a (Loud a) r m g loops flags s bs
  loud_settled r previous n m l g h loops flags bs s q leveled before inner sight stands typed unset kept =
      let N : Numbering = numbering_at a loops in
      let z : Settling a N n flags s bs = settle_all a N n flags s bs (all_flags r previous s n m stands l g h loops flags bs typed leveled before inner sight q bs q.own) in
      let up = goes_up a.setting.sites r previous s n m stands in
      record {
        behind = z.behind;
        settles = subst (λ b. Settles a.fragment b N flags s bs z.behind) (sym loud) z.settles;
        known = record {
          absent = z.unset a.name unset ∙ q.absent;
          hidden = λ x e. z.others x (hidden_out a.setting r n g bs q.own x e) ∙ q.hidden x e;
          others = λ j x flag low e. behind_others r n m g loops N flags bs s kept.up sight q z bs q.own j x flag low e (is_among bs x) (sets s x) refl refl refl;
          locals = λ x k i seen b. let bound : binding_at a.setting.sites n x ≡ Local i = sym (kept.by x k seen) ∙ b in local_behind r previous s n m stands l g h N flags bs typed leveled up z x k i seen bound (q.locals x k i seen bound);
          own = own_flags_kept a.setting r n m g bs kept q.own;
        };
      }

  -- How flags go on where they are read.
  pub loud_rules : FlagRules a (Loud a)
  loud_rules =
      record {
        absent = λ r n g flags bs q. q.absent;
        hidden = λ r n g flags bs q x e. q.hidden x e;
        others = λ r n g flags bs q x flag e. q.others (loop_number a.setting.sites n) x flag (omega arith) e;
        reads = λ r previous n g flags bs s e holds ss q get is at. loud_reads a d.unbroken r previous n g flags bs s q get;
        declared = λ r previous n m g flags bs at at' x start t q get next new outside other binds. loud_declared a r previous n m g flags bs at at' x start t q get next new outside other binds;
        settled = λ r previous n m l g h loops flags bs s q leveled before inner sight stands t plain unset kept. loud_settled r previous n m l g h loops flags bs s q leveled before inner sight stands t unset kept;
        branch = λ r previous n m g flags bs s e holds q leveled get is up between kept. loud_branch a (own_loops a.setting d.unbroken) r previous n m g flags bs s e holds leveled q get is up between kept;
        row = λ r n m g flags bs x t q next new binds. loud_row a r n m g flags bs x t q next binds;
      }

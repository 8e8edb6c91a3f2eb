-- Where the guards round its declaration hold, a flag is by its run what it is by its postcondition, and
-- where they don't it isn't read.
use Rattle.std.proofs.Common.{◌≡◌, ℕ, ◌<◌, Bool, true, false, cond, ◌||◌, List, [], ◌∷◌, ◌++◌, map, length, take, nat_eq, slice_get, refl, sym, ap, ap₂, ◌∙◌, subst, append_assoc, eqb-true, eq-eqb}
use Rattle.std.specs.declared.option.Option.{Option}
use Rattle.std.specs.declared.option.Option.TheVariants.{Some, None}
use Rattle.qbs_base.specs.declared.scalar.Row.{Row}
use Rattle.tor_terms.specs.declared.term.Atom.{Atom}
use Rattle.tor_terms.specs.Plain.{Form}
use Rattle.tor_terms.specs.Truth.{Datum, World, has_loop}
use Rattle.tor_terms.specs.Value.{value}
use Rattle.kernel_lang.specs.declared.parts.Update.{Update}
use Rattle.kernel_lang.specs.declared.parts.Update.TheVariants.{Mark}
use Rattle.kernel_lang.specs.Plain.{Fragment}
use Rattle.kernel_lang.specs.Pools.{Member}
use Rattle.kernel_lang.specs.Postcondition.{loops_of, start_term, postcondition, flag_by_choice}
use Rattle.kernel_lang.specs.Running.{Layer, outside, inside, placed, passes, started, run, is_set, flag_by_run}
use Rattle.kernel_lang.specs.Validity.{guard_all, reads_no_flag}
use Rattle.vc_gen.proofs.Alike.{at, quiet_same}
use Rattle.vc_gen.proofs.Scope.{Chain, guard_scope}
use Rattle.vc_gen.proofs.Whole.{whole_run, mark_run}
use Rattle.vc_gen.proofs.Uses.{AllCurrent}
use Rattle.vc_gen.proofs.Levels.{AllPass, steady_start, whole_same, chain_inside}

or_true : (b : Bool) → (b || true) ≡ true
or_true true = refl
or_true false = refl

-- the rows of these loops, placed again
placed_same : (rows : ℕ → Row) (ls : List ℕ) (j : ℕ) → has_loop ls j ≡ true → placed ls (map rows ls) j ≡ rows j
placed_same rows [] j h = absurd cc
placed_same rows (l ∷ ls) j h = go (nat_eq l j) refl h (placed_same rows ls j)
  where
    go : (x : Bool) → nat_eq l j ≡ x → (x || has_loop ls j) ≡ true → (has_loop ls j ≡ true → placed ls (map rows ls) j ≡ rows j) → cond x (rows l) (placed ls (map rows ls) j) ≡ rows j
    go true e h ih = ap rows (eqb-true l j e)
    go false e h ih = ih h

loop_left : (ls ms : List ℕ) (j : ℕ) → has_loop ls j ≡ true → has_loop (ls ++ ms) j ≡ true
loop_left [] ms j h = absurd cc
loop_left (l ∷ ls) ms j h = go (nat_eq l j) h (loop_left ls ms j)
  where
    go : (x : Bool) → (x || has_loop ls j) ≡ true → (has_loop ls j ≡ true → has_loop (ls ++ ms) j ≡ true) → (x || has_loop (ls ++ ms) j) ≡ true
    go true h ih = refl
    go false h ih = ih h

-- loops that are current stay so at rows that agree on them
current_same : (w v : World) → w.lists ≡ v.lists → w.turns ≡ v.turns → (ms : List ℕ) → ((j : ℕ) → has_loop ms j ≡ true → w.current j ≡ v.current j) → AllCurrent w ms → AllCurrent v ms
current_same w v e t [] same c = tt
current_same w v e t (m ∷ ms) same c = (
  record {
    below = subst (λ n. n < length (v.lists m)) (ap (λ h. h m) t) (subst (λ rs. w.turns m < length rs) (ap (λ h. h m) e) c.0.below);
    row = ap₂ slice_get (sym (ap (λ h. h m) e)) (sym (ap (λ h. h m) t)) ∙ c.0.row ∙ ap Some (same m (ap (λ b. b || has_loop ms m) (eq-eqb m m refl)));
  },
  current_same w v e t ms (λ j h. same j (ap (λ x. nat_eq m j || x) h ∙ or_true (nat_eq m j))) c.1,
)

abbrev pub Quiet : List Atom → List Layer → Type 0
Quiet atoms [] = Unit {0}
Quiet atoms (y ∷ ys) = (guard_all (reads_no_flag atoms) y.guard ≡ true) × Quiet atoms ys

-- Where the loops outside are current and their guards pass, the run inside ends with the value of the
-- postcondition, in the world w at these rows of loops.
abbrev pub EndsAt : World → List Atom → Member → Type 0
EndsAt w atoms m =
    (turns : ℕ → ℕ) (ls : List ℕ) (rs : List Row) → AllCurrent (at w turns (placed ls rs) w.held) (loops_of (outside m.0)) → AllPass w atoms (placed ls rs) (outside m.0)
    → whole_run w atoms m.0.update (inside m.0) (placed ls rs) (started m.0.start) ≡ value (at w turns (placed ls rs) w.held) atoms (postcondition m)

-- an accumulator and its choice that are known to end so
pub record IsShown (w : World) (atoms : List Atom) (m : Member) : Type 0 where
  pub chain : Chain atoms [] (outside m.0 ++ inside m.0)
  pub ends : EndsAt w atoms m

-- a flag with its choice
pub record IsFlag (w : World) (atoms : List Atom) (m : Member) : Type 0 where
  pub shown : IsShown w atoms m
  pub mark : m.0.update ≡ Mark
  pub loops : take m.0.base m.0.chain ≡ loops_of (outside m.0)
  pub quiet : Quiet atoms (outside m.0)

-- a guard that reads no flag, under two tables
quiet_guard : (w : World) (atoms : List Atom) (f g : ℕ → List Row → Bool) (rows : ℕ → Row) (o : Option Form) → guard_all (reads_no_flag atoms) o ≡ true → passes (record w { flags = f }) atoms rows o ≡ passes (record w { flags = g }) atoms rows o
quiet_guard w atoms f g rows None h = refl
quiet_guard w atoms f g rows (Some q) h = quiet_same (record w { flags = f }) (record w { flags = g }) refl refl atoms rows q h

module _ (w : World) (atoms : List Atom) (f g : ℕ → List Row → Bool) (p q : ℕ → Row) where
  -- guards that hold go on to hold under another table, at rows that agree on their loops
  pass_within : (outer : List ℕ) (zs : List Layer) → Chain atoms outer zs → Quiet atoms zs → ((j : ℕ) → has_loop (outer ++ loops_of zs) j ≡ true → p j ≡ q j) → AllPass (record w { flags = f }) atoms p zs → AllPass (record w { flags = g }) atoms q zs
  pass_within outer [] chain quiet same k = tt
  pass_within outer (z ∷ zs) chain quiet same k = (
    sym (quiet_guard w atoms f g q z.guard quiet.0) ∙ sym (guard_scope (record w { flags = f }) atoms p q (outer ++ z.over ∷ []) (λ j h. same j (further j (loop_left (outer ++ z.over ∷ []) (loops_of zs) j h))) z.guard chain.1) ∙ k.0,
    pass_within (outer ++ z.over ∷ []) zs chain.2 quiet.1 (λ j h. same j (further j h)) k.1,
  )
    where
      further : (j : ℕ) → has_loop ((outer ++ z.over ∷ []) ++ loops_of zs) j ≡ true → has_loop (outer ++ z.over ∷ loops_of zs) j ≡ true
      further j h = subst (λ ls. has_loop ls j ≡ true) (append_assoc outer (z.over ∷ []) (loops_of zs)) h

chain_outside : (atoms : List Atom) (outer : List ℕ) (zs ys : List Layer) → Chain atoms outer (zs ++ ys) → Chain atoms outer zs
chain_outside atoms outer [] ys k = tt
chain_outside atoms outer (z ∷ zs) ys k = (k.0, k.1, chain_outside atoms (outer ++ z.over ∷ []) zs ys k.2)

run_some : (w : World) (atoms : List Atom) (u : Update) → u ≡ Mark → (ys : List Layer) (rows : ℕ → Row) (v : List Datum) → run w atoms u ys rows v ≡ Some (whole_run w atoms u ys rows v)
run_some w atoms u e ys rows v = subst (λ u. run w atoms u ys rows v ≡ Some (whole_run w atoms u ys rows v)) (sym e) (mark_run w atoms ys rows v)

-- where the guards round its declaration hold, under any table
pub tables_agree : (f : Fragment) (w : World) (m : Member) → IsFlag w f.atoms m → (g : ℕ → List Row → Bool) (turns : ℕ → ℕ) (rows : ℕ → Row) → AllCurrent (at (record w { flags = g }) turns rows w.held) (loops_of (outside m.0)) → AllPass (record w { flags = g }) f.atoms rows (outside m.0)
    → flag_by_run w f.atoms (Some m.0) (map rows (loops_of (outside m.0))) ≡ flag_by_choice f w (Some m) (map rows (loops_of (outside m.0)))
tables_agree f w m flag g turns rows now pass =
    ap is_set (run_some w f.atoms m.0.update flag.mark (inside m.0) p (started m.0.start))
    ∙ ap (λ v. is_set (Some v)) (flag.shown.ends turns (take m.0.base m.0.chain) (map rows (loops_of (outside m.0))) there passed)
    ∙ ap (λ v. is_set (Some v)) (whole_same w f.atoms turns w.turns p w.held w.held m.0.update m.1 (loops_of (outside m.0)) (inside m.0) (chain_inside w f.atoms [] (outside m.0) (inside m.0) flag.shown.chain) (start_term m.0.start) (start_term m.0.start)
    ((steady_start w f.atoms m.0.start).same turns w.turns p p w.held))
  where
    ls : List ℕ
    ls = loops_of (outside m.0)

    p : ℕ → Row
    p = placed (take m.0.base m.0.chain) (map rows (loops_of (outside m.0)))

    same : (j : ℕ) → has_loop (loops_of (outside m.0)) j ≡ true → rows j ≡ p j
    same j h = sym (subst (λ ks. placed ks (map rows (loops_of (outside m.0))) j ≡ rows j) (sym flag.loops) (placed_same rows (loops_of (outside m.0)) j h))

    there : AllCurrent (at w turns p w.held) (loops_of (outside m.0))
    there = current_same (at (record w { flags = g }) turns rows w.held) (at w turns p w.held) refl refl (loops_of (outside m.0)) same now

    passed : AllPass w f.atoms p (outside m.0)
    passed = pass_within w f.atoms g w.flags rows p [] (outside m.0) (chain_outside f.atoms [] (outside m.0) (inside m.0) flag.shown.chain) flag.quiet same pass

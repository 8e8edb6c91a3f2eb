-- A run in whole numbers, which a run that ends agrees with.
use Rattle.std.proofs.Common.{◌≡◌, ℕ, Bool, true, false, cond, List, [], ◌∷◌, refl, ap, ◌∙◌, subst}
use Rattle.std.specs.declared.option.Option.{Option}
use Rattle.std.specs.declared.option.Option.TheVariants.{Some, None}
use Rattle.qbs_base.specs.declared.scalar.Row.{Row}
use Rattle.tor_terms.specs.declared.term.Atom.{Atom}
use Rattle.tor_terms.specs.Fits.{number_fits}
use Rattle.tor_terms.specs.Truth.{Datum, World}
use Rattle.tor_terms.specs.Value.{number_in}
use Rattle.kernel_lang.specs.declared.parts.Update.{Update}
use Rattle.kernel_lang.specs.declared.parts.Update.TheVariants.{Push, PushNew, Tick, Plus, Best, Mark}
use Rattle.kernel_lang.specs.Running.{Layer, with_row, passes, updated, within_long, followed_by, each_row, run}

-- where the run ends, it ends with v
abbrev pub EndsWith : Option (List Datum) → List Datum → Type 0
EndsWith None v = Unit {0}
EndsWith (Some x) v = x ≡ v

abbrev pub every_row : List Row → (Row → List Datum → List Datum) → List Datum → List Datum
every_row [] f v = v
every_row (r ∷ rs) f v = every_row rs f (f r v)

abbrev pub whole_run : World → List Atom → Update → List Layer → (ℕ → Row) → List Datum → List Datum
whole_run w atoms u [] rows v = updated u rows v
whole_run w atoms u (y ∷ ys) rows v =
    every_row (w.lists y.over) (λ r x. cond (passes w atoms (with_row rows y.over r) y.guard) (whole_run w atoms u ys (with_row rows y.over r) x) x) v

every_agrees : (rs : List Row) (f : Row → List Datum → Option (List Datum)) (g : Row → List Datum → List Datum) → ((r : Row) (x : List Datum) → EndsWith (f r x) (g r x)) → (v : List Datum) → EndsWith (each_row rs f v) (every_row rs g v)
every_agrees [] f g h v = refl
every_agrees (r ∷ rs) f g h v = go (f r v) (h r v) (every_agrees rs f g h)
  where
    go : (o : Option (List Datum)) → EndsWith o (g r v) → ((x : List Datum) → EndsWith (each_row rs f x) (every_row rs g x)) → EndsWith (followed_by o (each_row rs f)) (every_row rs g (g r v))
    go None e ih = tt
    go (Some x) e ih = subst (λ z. EndsWith (each_row rs f x) (every_row rs g z)) e (ih x)

long_agrees : (v : List Datum) → EndsWith (within_long v) v
long_agrees v = go (number_fits (number_in v))
  where
    go : (b : Bool) → EndsWith (cond b (Some v) None) v
    go true = refl
    go false = tt

-- no number, and so no overflow
every_some : (rs : List Row) (f : Row → List Datum → Option (List Datum)) (g : Row → List Datum → List Datum) → ((r : Row) (x : List Datum) → f r x ≡ Some (g r x)) → (v : List Datum) → each_row rs f v ≡ Some (every_row rs g v)
every_some [] f g h v = refl
every_some (r ∷ rs) f g h v = ap (λ o. followed_by o (each_row rs f)) (h r v) ∙ every_some rs f g h (g r v)

module _ (w : World) (atoms : List Atom) where
  pub run_agrees : (u : Update) (ys : List Layer) (rows : ℕ → Row) (v : List Datum) → EndsWith (run w atoms u ys rows v) (whole_run w atoms u ys rows v)
  run_agrees (Push e) [] rows v = refl
  run_agrees (PushNew e) [] rows v = refl
  run_agrees Tick [] rows v = long_agrees (updated Tick rows v)
  run_agrees (Plus e) [] rows v = long_agrees (updated (Plus e) rows v)
  run_agrees (Best way e) [] rows v = refl
  run_agrees Mark [] rows v = refl
  run_agrees u (y ∷ ys) rows v = every_agrees (w.lists y.over) _ _ (λ r x. go r x (passes w atoms (with_row rows y.over r) y.guard) (run_agrees u ys (with_row rows y.over r) x)) v
    where
      go : (r : Row) (x : List Datum) (b : Bool) → EndsWith (run w atoms u ys (with_row rows y.over r) x) (whole_run w atoms u ys (with_row rows y.over r) x)
          → EndsWith (cond b (run w atoms u ys (with_row rows y.over r) x) (Some x)) (cond b (whole_run w atoms u ys (with_row rows y.over r) x) x)
      go r x true h = h
      go r x false h = refl

  pub mark_run : (ys : List Layer) (rows : ℕ → Row) (v : List Datum) → run w atoms Mark ys rows v ≡ Some (whole_run w atoms Mark ys rows v)
  mark_run [] rows v = refl
  mark_run (y ∷ ys) rows v = every_some (w.lists y.over) _ _ (λ r x. go r x (passes w atoms (with_row rows y.over r) y.guard) (mark_run ys (with_row rows y.over r) x)) v
    where
      go : (r : Row) (x : List Datum) (b : Bool) → run w atoms Mark ys (with_row rows y.over r) x ≡ Some (whole_run w atoms Mark ys (with_row rows y.over r) x)
          → cond b (run w atoms Mark ys (with_row rows y.over r) x) (Some x) ≡ Some (cond b (whole_run w atoms Mark ys (with_row rows y.over r) x) x)
      go r x true h = h
      go r x false h = refl

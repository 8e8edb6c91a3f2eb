-- A turn of a loop over rows.
use Rattle.std.proofs.Common.{◌≡◌, ℕ, ◌+◌, ◌<◌, Bool, true, false, if◌then◌else◌, List, [], ◌∷◌, length, drop, get_or, Bor, Option, Some, None, refl, sym, ap, ◌∙◌, subst}
use Rattle.std.specs.List.{AllByRecursion}
use Rattle.std.proofs.lemmas.List.{at_drop_more}
use Rattle.qbs_base.specs.declared.scalar.Row.{Row}
use Rattle.tor_terms.specs.declared.term.Atom.{Atom}
use Rattle.tor_terms.specs.Plain.{Form}
use Rattle.tor_terms.specs.Truth.{Datum, World}
use Rattle.kernel_lang.specs.declared.parts.Update.{Update}
use Rattle.kernel_lang.specs.Running.{Layer, layer, with_row, passes, run, each_row, followed_by}
use Rattle.kernel_steps.specs.declared.end.Stop.{Stop}
use Rattle.kernel_steps.specs.declared.end.Stop.TheVariants as stops
use Rattle.kernel_interp.specs.Ends.{Stopped}
use Rattle.kernel_interp.specs.Reading.{rows_seen}

-- what a turn makes of a value
abbrev pub step : World → List Atom → Update → ℕ → Option Form → List Layer → (ℕ → Row) → Row → List Datum → Option (List Datum)
step w tests u over guard inner rows r v = if passes w tests (with_row rows over r) guard then run w tests u inner (with_row rows over r) v else Some v

abbrev pub Step : Type 0
Step = Row → List Datum → Option (List Datum)

pub one_more : (rows : List (Bor Row)) (i : ℕ) (row : Bor Row) → i < length rows → row ≡ get_or rows i row → rows_seen (drop i rows) ≡ row.now ∷ rows_seen (drop (i + 1) rows)
one_more rows i row h e = at_drop_more rows_seen rows i row h ∙ ap (λ (r : Bor Row). r.now ∷ rows_seen (drop (i + 1) rows)) (sym e)

pub where_true : {A : Type 0} (b : Bool) (x y z : A) → b ≡ true → x ≡ z → (if b then x else y) ≡ z
where_true true x y z e f = f
where_true false x y z e f = absurd cc

pub where_false : {A : Type 0} (b : Bool) (x y : A) → b ≡ false → (if b then x else y) ≡ y
where_false true x y e = absurd cc
where_false false x y e = refl

-- a turn that gives a value, and one that gives none
pub went_on : (f : Step) (r : Row) (rest all : List Row) (v x : List Datum) (end : Option (List Datum)) → all ≡ r ∷ rest → f r v ≡ Some x → each_row all f v ≡ end → each_row rest f x ≡ end
went_on f r rest all v x end e s h =
    sym (ap (λ (o : Option (List Datum)). followed_by o (each_row rest f)) s) ∙ ap (λ (rs : List Row). each_row rs f v) (sym e) ∙ h

pub went_wrong : (f : Step) (r : Row) (rest all : List Row) (v : List Datum) (end : Option (List Datum)) → all ≡ r ∷ rest → f r v ≡ None → each_row all f v ≡ end → end ≡ None
went_wrong f r rest all v end e s h =
    sym h ∙ ap (λ (rs : List Row). each_row rs f v) e ∙ ap (λ (o : Option (List Datum)). followed_by o (each_row rest f)) s

-- a run over layers of which the first is known
pub run_first : (w : World) (tests : List Atom) (u : Update) (ys : List Layer) (y : Layer) (inner : List Layer) (rows : ℕ → Row) (v : List Datum) → ys ≡ y ∷ inner
    → run w tests u ys rows v ≡ each_row (w.lists y.over) (step w tests u y.over y.guard inner rows) v
run_first w tests u ys y inner rows v e = ap (λ (zs : List Layer). run w tests u zs rows v) e

pub all_tail : {X : Type 0} (P : X → Type 0) (x : X) (rest all : List X) → all ≡ x ∷ rest → AllByRecursion P all → P x × AllByRecursion P rest
all_tail P x rest all e h = let g : AllByRecursion P (x ∷ rest) = subst (AllByRecursion P) e h in (g.0, g.1)

-- a turn that passes the guard, and one that doesn't
pub step_passed : (w : World) (tests : List Atom) (u own : Update) (over : ℕ) (guard : Option Form) (inner : List Layer) (rows : ℕ → Row) (r : Row) (v : List Datum) (o : Option (List Datum)) → own ≡ u
    → passes w tests (with_row rows over r) guard ≡ true → run w tests own inner (with_row rows over r) v ≡ o → step w tests u over guard inner rows r v ≡ o
step_passed w tests u own over guard inner rows r v o e p h =
    where_true (passes w tests (with_row rows over r) guard) (run w tests u inner (with_row rows over r) v) (Some v) o p (ap (λ (x : Update). run w tests x inner (with_row rows over r) v) (sym e) ∙ h)

pub step_left : (w : World) (tests : List Atom) (u : Update) (over : ℕ) (guard : Option Form) (inner : List Layer) (rows : ℕ → Row) (r : Row) (v : List Datum)
    → passes w tests (with_row rows over r) guard ≡ false → step w tests u over guard inner rows r v ≡ Some v
step_left w tests u over guard inner rows r v p = where_false (passes w tests (with_row rows over r) guard) (run w tests u inner (with_row rows over r) v) (Some v) p

-- a reason to stop goes for the whole
pub stopped_more : {A B : Type 0} (stop : Stop) (o : Option A) (p : Option B) → (o ≡ None → p ≡ None) → Stopped stop o → Stopped stop p
stopped_more stops.NoMemory o p h s = tt
stopped_more stops.Overflow o p h s = h s

-- all rows done
pub all_done : (f : Step) (rest : List Row) (v : List Datum) (end : Option (List Datum)) → rest ≡ [] → each_row rest f v ≡ end → end ≡ Some v
all_done f rest v end e h = sym h ∙ ap (λ (rs : List Row). each_row rs f v) e

-- what goes for the first layer goes for all
pub whole_run : (w : World) (tests : List Atom) (u : Update) (ys : List Layer) (over : ℕ) (guard : Option Form) (inner : List Layer) (rows : ℕ → Row) (lent : List Row) (v : List Datum) (o : Option (List Datum)) → ys ≡ layer over guard ∷ inner → lent ≡ w.lists over
    → each_row lent (step w tests u over guard inner rows) v ≡ o → run w tests u ys rows v ≡ o
whole_run w tests u ys over guard inner rows lent v o e l h =
    run_first w tests u ys (layer over guard) inner rows v e ∙ ap (λ (rs : List Row). each_row rs (step w tests u over guard inner rows) v) (sym l) ∙ h

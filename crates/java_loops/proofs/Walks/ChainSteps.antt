-- Steps of a chain: conditions, rows of a list, and the flags of a block.
use Rattle.std.proofs.Common.{◌≡◌, ℕ, ℤ, Bool, true, false, cond, ◌&&◌, ◌||◌, List, [], ◌∷◌, map, Option, Some, None, refl, sym, ap, ap₂, ◌∙◌, subst, arith}
use Rattle.std.specs.Prelude.{bytes_eq, nat_eq}
use Rattle.std.specs.List.{AllByRecursion}
use Rattle.std.proofs.lemmas.Bool.Decides.{nat_tests}
use Rattle.qbs_base.specs.declared.scalar.Row.{Row}
use Rattle.qbs_base.specs.declared.scalar.Scalar.TheVariants as scalars
use Rattle.qbs_base.specs.declared.scalar.Value.TheVariants.{One}
use Rattle.qbs_base.specs.Named.{at_name}
use Rattle.qbs_base.specs.Values.{fits_long}
use Rattle.java_mean.specs.Store.{Store, Variable, put, plainly}
use Rattle.java_mean.specs.World as java
use Rattle.java_mean.proofs.Puts.{names_equal, put_other, put_same}
use Rattle.tor_terms.specs.declared.term.Atom.{Atom}
use Rattle.tor_terms.specs.declared.term.Elem.{Elem}
use Rattle.tor_terms.specs.declared.term.Way.{Way}
use Rattle.tor_terms.specs.Plain.{Form, Both}
use Rattle.tor_terms.specs.Truth.{Datum, World, has_loop, holds, all_hold}
use Rattle.tor_terms.specs.Value.{only_number, only_truth}
use Rattle.kernel_lang.specs.declared.parts.Update.TheVariants as updates
use Rattle.kernel_lang.specs.Running.{passes, placed, followed_by, each_row, is_set}
use Rattle.java_loops.specs.Walks.Chains.{Change, By, joined_to, joined}
use Rattle.java_loops.specs.Walks.Carried.{variable_of, IsTruth, Suits, Carried}
use Rattle.java_loops.specs.Walks.Effects.{and_then, folded, put_flag, became, settled}
use Rattle.java_loops.specs.Walks.Matched.{HoldsRow, HoldsRows, HoldsScalars, turned_truth, HoldsFlag, Matches}
use Rattle.java_loops.specs.Walks.Numbering.{Numbering, Flag, Reads, Flags, with_flag, IsApart}
use Rattle.java_loops.proofs.Walks.ChainPuts.{same_entry, same_flag, matches_flag}
use Rattle.java_loops.proofs.Walks.ChainTests.{and_true, and_first}

-- ---- Conditions

joined_holds : (k : World) (known : List Atom) (rows : ℕ → Row) (f : Form) (fs : List Form) → holds k known rows (joined_to f fs) ≡ (holds k known rows f && all_hold k known rows fs)
joined_holds k known rows f [] = sym (and_true (holds k known rows f) true refl)
joined_holds k known rows f (g ∷ gs) = joined_holds k known rows (Both f g) gs ∙ sym (and_first (holds k known rows f) (holds k known rows g) (all_hold k known rows gs))

-- a guard passes where all its conditions hold
pub guard_passes : (k : World) (known : List Atom) (rows : ℕ → Row) (fs : List Form) → passes k known rows (joined fs) ≡ all_hold k known rows fs
guard_passes k known rows [] = refl
guard_passes k known rows (f ∷ fs) = joined_holds k known rows f fs

-- a condition before others
pub under_step : (ch : Change) (t h r : Bool) (p : Option Variable) (o : Option (List Datum)) (d : List Datum) → h ≡ t → Suits ch d → Carried ch p (cond r o (Some d)) → Carried ch (cond t p (Some (variable_of ch d))) (cond (h && r) o (Some d))
under_step ch true true r p o d e s c = c
under_step ch true false r p o d e s c = absurd cc
under_step ch false true r p o d e s c = absurd cc
under_step ch false false r p o d e s c = record { is = refl; suits = s }

abbrev pub long_variable : ℤ → Variable
long_variable n = plainly (One (scalars.Long n))

better_cases : (way : Way) (e : Elem) (f t g : Bool) (z x : ℤ) → fits_long z ≡ true → fits_long x ≡ true → Carried (By (updates.Best way e) false) (cond (f && t) (cond g (Some (long_variable x)) (Some (long_variable z))) (Some (long_variable z))) (cond (f && g) (Some (only_number (cond t x z))) (Some (only_number z)))
better_cases way e true true true z x i j = record { is = refl; suits = record { number = x; is = refl; fits = j } }
better_cases way e true true false z x i j = record { is = refl; suits = record { number = z; is = refl; fits = i } }
better_cases way e true false true z x i j = record { is = refl; suits = record { number = z; is = refl; fits = i } }
better_cases way e true false false z x i j = record { is = refl; suits = record { number = z; is = refl; fits = i } }
better_cases way e false true g z x i j = record { is = refl; suits = record { number = z; is = refl; fits = i } }
better_cases way e false false g z x i j = record { is = refl; suits = record { number = z; is = refl; fits = i } }

-- the field is taken under conditions f and g, where the comparison t says so
pub better_step : (way : Way) (e : Elem) (f t g s : Bool) (z x y : ℤ) (p : Option Variable) → fits_long z ≡ true → fits_long x ≡ true → s ≡ (f && t) → p ≡ cond g (Some (long_variable x)) (Some (long_variable z)) → cond t x z ≡ y → Carried (By (updates.Best way e) false) (cond s p (Some (long_variable z))) (cond (f && g) (Some (only_number y)) (Some (only_number z)))
better_step way e f t g s z x y p i j q r b =
    let P : ℤ → Type 0 = λ n. Carried (By (updates.Best way e) false) (cond s p (Some (long_variable z))) (cond (f && g) (Some (only_number n)) (Some (only_number z))) in
    let c : Carried (By (updates.Best way e) false) (cond (f && t) (cond g (Some (long_variable x)) (Some (long_variable z))) (Some (long_variable z))) (cond (f && g) (Some (only_number (cond t x z))) (Some (only_number z))) = better_cases way e f t g z x i j in
    subst P b (record { is = ap₂ (λ u v. cond u v (Some (long_variable z))) q r ∙ c.is; suits = c.suits })

-- ---- One step after the other

pub then_carried : (ch : Change) (p : Option Variable) (q : Option (List Datum)) (f : Variable → Option Variable) (g : List Datum → Option (List Datum)) → Carried ch p q → ((d : List Datum) → Suits ch d → Carried ch (f (variable_of ch d)) (g d)) → Carried ch (and_then p f) (followed_by q g)
then_carried ch p None f g c h = record { is = ap (λ o. and_then o f) c.is; suits = tt }
then_carried ch p (Some d) f g c h =
    let r : Carried ch (f (variable_of ch d)) (g d) = h d c.suits in
    record { is = ap (λ o. and_then o f) c.is ∙ r.is; suits = r.suits }

-- The whole loop over a list: row by row the variable becomes what the fragment's list becomes.
pub folded_carried : (ch : Change) (P : Row → Type 0) (rs : List Row) (f : Row → Variable → Option Variable) (g : Row → List Datum → Option (List Datum)) → AllByRecursion P rs → ((r : Row) (d : List Datum) → P r → Suits ch d → Carried ch (f r (variable_of ch d)) (g r d)) → (d : List Datum) → Suits ch d → Carried ch (folded rs f (variable_of ch d)) (each_row rs g d)
folded_carried ch P [] f g all h d s = record { is = refl; suits = s }
folded_carried ch P (r ∷ rs) f g all h d s = then_carried ch (f r (variable_of ch d)) (g r d) (folded rs f) (each_row rs g) (h r d all.0 s) (folded_carried ch P rs f g all.1 h)

-- ---- Flags of a block

abbrev pub or_this : Option Variable → Option Variable → Option Variable
or_this (Some v) o = Some v
or_this None o = o

pub or_same : (r o : Option Variable) → r ≡ o → or_this r o ≡ o
or_same (Some v) o e = e
or_same None o e = refl

pub or_none : (r o : Option Variable) → r ≡ None → or_this r o ≡ o
or_none r o e = ap (λ z. or_this z o) e

flag_other : (b y : List ℕ) (r : Option Variable) (env : Store) → bytes_eq b y ≡ false → at_name (put_flag b r env) y ≡ at_name env y
flag_other b y (Some v) env e = put_other env b y v e
flag_other b y None env e = refl

flag_same : (b : List ℕ) (r : Option Variable) (env : Store) → at_name (put_flag b r env) b ≡ or_this r (at_name env b)
flag_same b (Some v) env = put_same env b v
flag_same b None env = refl

-- a flag of which the statement makes nothing, or what it is, keeps being it
pub settled_stays : (bs : List (List ℕ)) (g : List ℕ → Store → Variable → Option Variable) (env : Store) (b : List ℕ) → or_this (became (at_name env b) (g b env)) (at_name env b) ≡ at_name env b → at_name (settled bs g env) b ≡ at_name env b
settled_stays [] g env b h = refl
settled_stays (c ∷ bs) g env b h = go (bytes_eq c b) refl (settled_stays bs g env b h)
  where
    go : (p : Bool) → bytes_eq c b ≡ p → at_name (settled bs g env) b ≡ at_name env b → at_name (put_flag c (became (at_name env c) (g c env)) (settled bs g env)) b ≡ at_name env b
    go false e ih = flag_other c b (became (at_name env c) (g c env)) (settled bs g env) e ∙ ih
    go true e ih =
        ap (λ (x : List ℕ). at_name (put_flag x (became (at_name env x) (g x env)) (settled bs g env)) b) (names_equal c b e)
        ∙ flag_same b (became (at_name env b) (g b env)) (settled bs g env)
        ∙ ap (or_this (became (at_name env b) (g b env))) ih
        ∙ h

matches_same : (n : Numbering) (flags : Flags) (w : java.World) (k : World) (env env' : Store) (rows : ℕ → Row) → ((y : List ℕ) → at_name env' y ≡ at_name env y) → Matches n flags w k env rows → Matches n flags w k env' rows
matches_same n flags w k env env' rows s m = record {
  schema = m.schema;
  lists = m.lists;
  fetched = m.fetched;
  variables = λ j x e. subst (HoldsRows (k.lists j)) (sym (s x)) (m.variables j x e);
  loops = λ x j e. subst (HoldsRow n j (rows j)) (sym (s x)) (m.loops x j e);
  entries = λ x f i ty e t. same_entry w ty (k.entries i) env env' x f (s x) (m.entries x f i ty e t);
  known = λ x q ty e t. subst (HoldsScalars ty (k.known q)) (sym (s x)) (m.known x q ty e t);
  in_sight = λ b flag e. same_flag k rows flag (at_name env b) (at_name env' b) (s b) (m.in_sight b flag e);
}

put_again : (env : Store) (b y : List ℕ) (v : Variable) (p : Bool) → bytes_eq b y ≡ p → Some v ≡ at_name env b → at_name (put env b v) y ≡ at_name env y
put_again env b y v true e h = ap (at_name (put env b v)) (sym (names_equal b y e)) ∙ put_same env b v ∙ h ∙ ap (at_name env) (names_equal b y e)
put_again env b y v false e h = put_other env b y v e

-- what is there is written again
pub matches_again : (n : Numbering) (flags : Flags) (w : java.World) (k : World) (env : Store) (rows : ℕ → Row) (b : List ℕ) (r : Option Variable) → r ≡ at_name env b → Matches n flags w k env rows → Matches n flags w k (put_flag b r env) rows
matches_again n flags w k env rows b (Some v) e m = matches_same n flags w k env (put env b v) rows (λ y. put_again env b y v (bytes_eq b y) refl e) m
matches_again n flags w k env rows b None e m = m

seen_step : (k : World) (flags : Flags) (env : Store) (rows : ℕ → Row) (b : List ℕ) (o : Option Flag) (y : List ℕ) (flag : Flag) (p : Bool) → bytes_eq b y ≡ p → ((z : Flag) → o ≡ Some z → HoldsFlag k rows z (at_name env b)) → (flags y ≡ Some flag → HoldsFlag k rows flag (at_name env y)) → cond p o (flags y) ≡ Some flag → HoldsFlag k rows flag (at_name env y)
seen_step k flags env rows b o y flag true q new old e = same_flag k rows flag (at_name env b) (at_name env y) (ap (at_name env) (sym (names_equal b y q))) (new flag e)
seen_step k flags env rows b o y flag false q new old e = old e

matches_seen : (n : Numbering) (flags : Flags) (w : java.World) (k : World) (env : Store) (rows : ℕ → Row) (b : List ℕ) (o : Option Flag) → ((z : Flag) → o ≡ Some z → HoldsFlag k rows z (at_name env b)) → Matches n flags w k env rows → Matches n (with_flag b o flags) w k env rows
matches_seen n flags w k env rows b o new m = record {
  schema = m.schema;
  lists = m.lists;
  fetched = m.fetched;
  variables = m.variables;
  loops = m.loops;
  entries = m.entries;
  known = m.known;
  in_sight = λ y flag e. seen_step k flags env rows b o y flag (bytes_eq b y) refl new (m.in_sight y flag) e;
}

nothing_held : (k : World) (rows : ℕ → Row) (o : Option Variable) (z : Flag) → None ≡ Some z → HoldsFlag k rows z o
nothing_held k rows o z e = absurd cc

pub matches_lost : (n : Numbering) (flags : Flags) (w : java.World) (k : World) (env : Store) (rows : ℕ → Row) (b : List ℕ) (r : Option Variable) → IsApart n b → Matches n flags w k env rows → Matches n (with_flag b None flags) w k (put_flag b r env) rows
matches_lost n flags w k env rows b (Some v) p m = matches_flag n flags w k env rows b None v p (nothing_held k rows (Some v)) m
matches_lost n flags w k env rows b None p m = matches_seen n flags w k env rows b None (nothing_held k rows (at_name env b)) m

pub the_flag : (k : World) (rows : ℕ → Row) (o : Option Variable) (flag : Flag) → HoldsFlag k rows flag o → (z : Flag) → Some flag ≡ Some z → HoldsFlag k rows z o
the_flag k rows o flag h z e = let same : flag ≡ z = cc in subst (λ (y : Flag). HoldsFlag k rows y o) same h

pub start_of_flag : (opposite : Bool) → variable_of (By updates.Mark opposite) (only_truth false) ≡ plainly (One (scalars.Bool opposite))
start_of_flag true = refl
start_of_flag false = refl

-- A flag that its statement has set, where its run ends so; where the run has no end the flag is as it was.
pub matches_flagged : (n : Numbering) (flags : Flags) (w : java.World) (k : World) (env : Store) (rows : ℕ → Row) (b : List ℕ) (number : ℕ) (opposite : Bool) (loops : List ℕ) (r : Option Variable) (q : Option (List Datum)) → IsApart n b → Carried (By updates.Mark opposite) r q → (r ≡ None → at_name env b ≡ Some (plainly (One (scalars.Bool opposite)))) → k.flags number (map rows loops) ≡ is_set q → Matches n flags w k env rows → Matches n (with_flag b (Some (Reads number opposite loops)) flags) w k (put_flag b r env) rows
matches_flagged n flags w k env rows b number opposite loops r None p c stays t m =
    let none : r ≡ None = c.is in
    let held : at_name env b ≡ Some (plainly (turned_truth opposite (k.flags number (map rows loops)))) = stays none ∙ ap Some (sym (start_of_flag opposite)) ∙ ap (λ z. Some (plainly (turned_truth opposite z))) (sym t) in
    subst (λ (z : Option Variable). Matches n (with_flag b (Some (Reads number opposite loops)) flags) w k (put_flag b z env) rows) (sym none) (matches_seen n flags w k env rows b (Some (Reads number opposite loops)) (the_flag k rows (at_name env b) (Reads number opposite loops) held) m)
matches_flagged n flags w k env rows b number opposite loops r (Some d) p c stays t m =
    let v : Variable = variable_of (By updates.Mark opposite) d in
    let e : IsTruth d = c.suits in
    let truth : k.flags number (map rows loops) ≡ e.truth = t ∙ ap (λ z. is_set (Some z)) e.is in
    let held : Some v ≡ Some (plainly (turned_truth opposite (k.flags number (map rows loops)))) = ap (λ z. Some (variable_of (By updates.Mark opposite) z)) e.is ∙ ap (λ z. Some (plainly (turned_truth opposite z))) (sym truth) in
    subst (λ (z : Option Variable). Matches n (with_flag b (Some (Reads number opposite loops)) flags) w k (put_flag b z env) rows) (sym c.is) (matches_flag n flags w k env rows b (Some (Reads number opposite loops)) v p (the_flag k rows (Some v) (Reads number opposite loops) held) m)

-- ---- The rows of loops in a flag's own run

placed_step : (rows : ℕ → Row) (j i : ℕ) (js : List ℕ) (p : Bool) → nat_eq j i ≡ p → (has_loop js i ≡ true → placed js (map rows js) i ≡ rows i) → (p || has_loop js i) ≡ true → cond p (rows j) (placed js (map rows js) i) ≡ rows i
placed_step rows j i js true e ih h = let same : j ≡ i = grind (arith, nat_tests, e) in ap rows same
placed_step rows j i js false e ih h = ih h

pub placed_there : (rows : ℕ → Row) (js : List ℕ) (i : ℕ) → has_loop js i ≡ true → placed js (map rows js) i ≡ rows i
placed_there rows [] i h = absurd cc
placed_there rows (j ∷ js) i h = placed_step rows j i js (nat_eq j i) refl (placed_there rows js i) h

-- What a nest of loops makes of a variable is what the fragment's run makes of its list.
use Rattle.std.proofs.Common.{◌≡◌, ℕ, ℤ, Bool, true, false, not, cond, ◌&&◌, List, [], ◌∷◌, ◌++◌, map, take, Option, Some, None, Result, Ok, refl, sym, ap, ap₂, ◌∙◌, subst}
use Rattle.std.specs.Prelude.{bytes_eq, slice_get}
use Rattle.std.specs.Option.{option_map}
use Rattle.qbs_base.specs.declared.scalar.Row.{Row}
use Rattle.qbs_base.specs.declared.scalar.Scalar.{Scalar}
use Rattle.qbs_base.specs.declared.scalar.Scalar.TheVariants as scalars
use Rattle.qbs_base.specs.declared.scalar.Value.{Value}
use Rattle.qbs_base.specs.declared.scalar.Value.TheVariants.{One, Many}
use Rattle.qbs_base.specs.Named.{at_name}
use Rattle.qbs_base.specs.Values.{fits_long, IsRowOf}
use Rattle.qbs_base.specs.Columns.{columns_at}
use Rattle.java_ast.specs.Tree.{Expression, Statement, Statements}
use Rattle.java_mean.specs.declared.ending.Ending.{Ending}
use Rattle.java_mean.specs.Endings.{◌>>=◌, found}
use Rattle.java_mean.specs.Expression.{as_rows, element}
use Rattle.java_mean.specs.Store.{Store, Variable, put, plainly}
use Rattle.java_mean.specs.World as java
use Rattle.java_mean.proofs.Puts.{put_same}
use Rattle.tor_terms.specs.declared.term.Atom.{Atom}
use Rattle.tor_terms.specs.declared.term.Elem.{Elem}
use Rattle.tor_terms.specs.declared.term.Elem.TheVariants as elems
use Rattle.tor_terms.specs.declared.term.Way.{Way}
use Rattle.tor_terms.specs.Plain.{Form}
use Rattle.tor_terms.specs.Truth.{Datum, Element, World, same_bool, all_hold}
use Rattle.tor_terms.specs.Value.{plain_row, only_number, only_truth, better, picked}
use Rattle.kernel_lang.specs.declared.parts.Update.{Update}
use Rattle.kernel_lang.specs.declared.parts.Update.TheVariants as updates
use Rattle.kernel_lang.specs.Plain.{Accumulator, Fragment}
use Rattle.kernel_lang.specs.Running.{Layer, inside, with_row, placed, passes, run, is_set, started, flag_by_run, with_flags}
use Rattle.java_loops.specs.Walks.Carried.{variable_of, Suits, Carried, done_by, done_where, read_in}
use Rattle.java_loops.specs.Walks.Chains.{Change, By, Takes, IsBranch, IsList, fetch, variable, joined, IsFlag, IsChain, update, under, best, over, AreChain, here, declared, later, Settles, ended, unset, lost, flagged}
use Rattle.java_loops.specs.Walks.Effects.{sets, all_set, rows_in, rows_at, folded, became, settled, effect, effects}
use Rattle.java_loops.specs.Walks.Forms.{IsBest, left, right, negated, both_left, both_right, neither_left, neither_right, grouped}
use Rattle.java_loops.specs.Walks.Matched.{HoldsRow, HoldsRows, HoldsFlag, Matches}
use Rattle.java_loops.specs.Walks.Numbering.{Numbering, Flag, Starts, Flags, no_flags, with_flag, with_loop, IsApart}
use Rattle.java_loops.proofs.Walks.ChainBest.{BestHolds, best_holds}
use Rattle.java_loops.proofs.Walks.ChainConjuncts.{all_append, ConjunctsHold, conjuncts_hold}
use Rattle.java_loops.proofs.Walks.ChainOperands.{LongField, long_field}
use Rattle.java_loops.proofs.Walks.ChainPuts.{matches_put, matches_flag, matches_loop, apart_in_loop}
use Rattle.java_loops.proofs.Walks.ChainSets.{unset_effect, passed, alone_sets, chains_set, chain_declares, branch_effect}
use Rattle.java_loops.proofs.Walks.ChainSteps.{guard_passes, under_step, long_variable, better_step, folded_carried, or_same, or_none, settled_stays, matches_again, matches_lost, the_flag, start_of_flag, matches_flagged, placed_there}
use Rattle.java_loops.proofs.Walks.ChainUpdates.{updated}
use Rattle.java_loops.proofs.Walks.ChainTests.{cond_on, cond_off}

-- ---- Equations round a step

carried_is : (ch : Change) (p q : Option Variable) (o : Option (List Datum)) → p ≡ q → Carried ch q o → Carried ch p o
carried_is ch p q o e c = record { is = e ∙ c.is; suits = c.suits }

carried_as : (ch : Change) (p : Option Variable) (q r : Option (List Datum)) → r ≡ q → Carried ch p q → Carried ch p r
carried_as ch p q r e c = subst (Carried ch p) (sym e) c

-- ---- Lists and fields

abbrev rows_of_value : Result Value Ending → List Row
rows_of_value r = rows_in (r >>= as_rows)

list_rows : (n : Numbering) (flags : Flags) (w : java.World) (k : World) (env : Store) (rows : ℕ → Row) (e : Expression) (j : ℕ) → IsList n e j → Matches n flags w k env rows → rows_at e w env ≡ k.lists j
list_rows n flags w k env rows _ _ (fetch at t j e) m = ap (λ o. rows_of_value (found o >>= λ (rs : List Row). Ok (Many rs))) (m.fetched j t e)
list_rows n flags w k env rows _ _ (variable at x j e) m =
    let h : HoldsRows (k.lists j) (at_name env x) = m.variables j x e in
    ap (λ o. rows_of_value (found o >>= λ (held : Variable). Ok held.value)) h.is

-- the field of a comparison with the variable
record LongCell (rows : ℕ → Row) (j c : ℕ) : Type 0 where
  pub number : ℤ
  pub at : slice_get (rows j).cells c ≡ Some (scalars.Long number)
  pub fits : fits_long number ≡ true

cell_of_field : (w : java.World) (k : World) (env : Store) (rows : ℕ → Row) (e : Expression) (j c : ℕ) → LongField w k env rows e j c → LongCell rows j c
cell_of_field w k env rows e j c h = record { number = h.number; at = h.at; fits = h.fits }

best_cell : (known : List Atom) (n : Numbering) (flags : Flags) (a : List ℕ) (way : Way) (j c : ℕ) (polarity : Bool) (e : Expression) (fs : List Form) → IsBest known n flags a way j c polarity e fs → (w : java.World) (k : World) (env : Store) (rows : ℕ → Row) → Matches n flags w k env rows → LongCell rows j c
best_cell known n flags a way j c _ _ _ (left polarity at at' op e q h) w k env rows m = cell_of_field w k env rows e j c (long_field n flags w k env rows e j c h m)
best_cell known n flags a way j c _ _ _ (right polarity at at' op e q h) w k env rows m = cell_of_field w k env rows e j c (long_field n flags w k env rows e j c h m)
best_cell known n flags a way j c _ _ _ (negated polarity at e fs h) w k env rows m = best_cell known n flags a way j c (not polarity) e fs h w k env rows m
best_cell known n flags a way j c _ _ _ (both_left at d e fs g h i) w k env rows m = best_cell known n flags a way j c true d fs h w k env rows m
best_cell known n flags a way j c _ _ _ (both_right at d e f gs h i) w k env rows m = best_cell known n flags a way j c true e gs i w k env rows m
best_cell known n flags a way j c _ _ _ (neither_left at d e fs g h i) w k env rows m = best_cell known n flags a way j c false d fs h w k env rows m
best_cell known n flags a way j c _ _ _ (neither_right at d e f gs h i) w k env rows m = best_cell known n flags a way j c false e gs i w k env rows m
best_cell known n flags a way j c _ _ _ (grouped polarity e f g fs h) w k env rows m = best_cell known n flags a way j c polarity e (f ∷ g ∷ fs) h w k env rows m

taken_cases : (x : Elem) (g : Bool) (n z : ℤ) → option_map (variable_of (Takes x)) (cond g (Some (only_number n)) (Some (only_number z))) ≡ cond g (Some (long_variable n)) (Some (long_variable z))
taken_cases x true n z = refl
taken_cases x false n z = refl

-- ---- Flags

truth_of_flag : (f : Fragment) (n : Numbering) (number : ℕ) (acc : Accumulator) (ys : List Layer) (k : World) (rows : ℕ → Row) → IsFlag f n number acc ys → flag_by_run k f.atoms (slice_get f.accs number) (map rows (take acc.base acc.chain)) ≡ is_set (run k f.atoms updates.Mark ys (placed (take acc.base acc.chain) (map rows (take acc.base acc.chain))) (only_truth false))
truth_of_flag f n number acc ys k rows i =
    ap (λ o. flag_by_run k f.atoms o (map rows (take acc.base acc.chain))) i.there
    ∙ ap (λ u. is_set (run k f.atoms u (inside acc) (placed (take acc.base acc.chain) (map rows (take acc.base acc.chain))) (started acc.start))) i.update
    ∙ ap₂ (λ zs (o : Option Scalar). is_set (run k f.atoms updates.Mark zs (placed (take acc.base acc.chain) (map rows (take acc.base acc.chain))) (started o))) i.inside i.start

-- without flags, and at rows that are the same for the loops in sight
quiet_matches : (f : Fragment) (n : Numbering) (flags : Flags) (w : java.World) (k : World) (env : Store) (rows rows' : ℕ → Row) → ((x : List ℕ) (j : ℕ) → n.loops x ≡ Some j → rows' j ≡ rows j) → Matches n flags w (with_flags f k) env rows → Matches n no_flags w k env rows'
quiet_matches f n flags w k env rows rows' same m = record {
  schema = m.schema;
  lists = m.lists;
  fetched = m.fetched;
  variables = m.variables;
  loops = λ x j e. subst (λ (r : Row). HoldsRow n j r (at_name env x)) (sym (same x j e)) (m.loops x j e);
  entries = m.entries;
  known = m.known;
  in_sight = λ b flag e. none_there b flag e;
}
  where
    none_there : (b : List ℕ) (flag : Flag) → None ≡ Some flag → HoldsFlag k rows' flag (at_name env b)
    none_there b flag e = absurd cc

stays_none : (o : Option Variable) (v : Variable) (g : Variable → Option Variable) → o ≡ Some v → became o g ≡ g v
stays_none o v g e = ap (λ z. became z g) e

unset_became : (s : Statement) (w : java.World) (b : List ℕ) (env : Store) (o : Option Variable) → sets s b ≡ false → became o (effect s w b env) ≡ o
unset_became s w b env (Some v) h = unset_effect s w b env v h
unset_became s w b env None h = refl

-- ---- The chain

module _ (f : Fragment) (w : java.World) (k : World) where
  -- at one row of a loop
  pub at_row : (quiet : Bool) (p : Statements) (a : List ℕ) (gs : List Form) (ys : List Layer) (u : Update) (opposite : Bool) (env : Store) (rows : ℕ → Row) (d : List Datum) → Carried (By u opposite) (effects p [] w a env (variable_of (By u opposite) d)) (done_where (read_in f quiet k) f.atoms (By u opposite) gs ys rows d) → Carried (By u opposite) (effects p [] w a env (variable_of (By u opposite) d)) (cond (passes (read_in f quiet k) f.atoms rows (joined gs)) (run (read_in f quiet k) f.atoms u ys rows d) (Some d))
  at_row quiet p a gs ys u opposite env rows d c = carried_as (By u opposite) _ _ _ (ap (λ b. cond b (run (read_in f quiet k) f.atoms u ys rows d) (Some d)) (guard_passes (read_in f quiet k) f.atoms rows gs)) c

  best_carried : (quiet : Bool) (n : Numbering) (flags : Flags) (s : Statement) (a : List ℕ) (polarity : Bool) (c : Expression) (p : Statements) (way : Way) (j column : ℕ) (fs gs : List Form) (env : Store) (rows : ℕ → Row) (z : ℤ) → IsBranch s a polarity c p → IsBest f.atoms n flags a way j column polarity c fs → all_set p a ≡ true → fits_long z ≡ true → Matches n flags w (read_in f quiet k) (put env a (long_variable z)) rows → Carried (Takes (elems.Field j column)) (effects p [] w a env (long_variable z)) (done_where (read_in f quiet k) f.atoms (Takes (elems.Field j column)) gs [] rows (only_number z)) → Carried (By (updates.Best way (elems.Field j column)) false) (effect s w a env (long_variable z)) (done_where (read_in f quiet k) f.atoms (By (updates.Best way (elems.Field j column)) false) (fs ++ gs) [] rows (only_number z))
  best_carried quiet n flags s a polarity c p way j column fs gs env rows z b i sets_it fits m taken =
      let world : World = read_in f quiet k in
      let e : Elem = elems.Field j column in
      let ch : Change = By (updates.Best way e) false in
      let x : LongCell rows j column = best_cell f.atoms n flags a way j column polarity c fs i w world (put env a (long_variable z)) rows m in
      let held : (found (at_name (put env a (long_variable z)) a) >>= λ (v : Variable). Ok v.value) ≡ Ok (One (scalars.Long z)) = ap (λ o. found o >>= λ (v : Variable). Ok v.value) (put_same env a (long_variable z)) in
      let h : BestHolds w world f.atoms (put env a (long_variable z)) rows polarity c way fs z x.number = best_holds f.atoms n flags a way j column w world (put env a (long_variable z)) rows z x.number m held x.at polarity c fs i in
      let g : Bool = all_hold world f.atoms rows gs in
      let inner : effects p [] w a env (long_variable z) ≡ cond g (Some (long_variable x.number)) (Some (long_variable z)) = taken.is ∙ ap (λ o. option_map (variable_of (Takes e)) (cond g (Some (Element (plain_row o) ∷ [])) (Some (only_number z)))) x.at ∙ taken_cases e g x.number z in
      let step : Carried ch (cond (same_bool polarity h.truth) (effects p [] w a env (long_variable z)) (Some (long_variable z))) (cond (all_hold world f.atoms rows fs && g) (Some (only_number (better way z x.number))) (Some (only_number z))) = better_step way e (all_hold world f.atoms rows fs) h.taken g (same_bool polarity h.truth) z x.number (better way z x.number) (effects p [] w a env (long_variable z)) fits x.fits h.is inner h.better in
      carried_is ch _ _ _ (branch_effect s a polarity c p w env (long_variable z) h.truth b sets_it h.value)
      (carried_as ch _ _ _ (ap₂ (λ t (o : Option Scalar). cond t (Some (picked way (only_number z) (Element (plain_row o) ∷ []))) (Some (only_number z))) (all_append world f.atoms rows fs gs) x.at) step)

  mutual
    pub chain_carried : (quiet : Bool) (n : Numbering) (flags : Flags) (s : Statement) (a : List ℕ) (fs : List Form) (ys : List Layer) (ch : Change) → IsChain f quiet n flags s a fs ys ch → (env : Store) (rows : ℕ → Row) (d : List Datum) → IsApart n a → flags a ≡ None → Matches n flags w (read_in f quiet k) env rows → Suits ch d → Carried ch (effect s w a env (variable_of ch d)) (done_where (read_in f quiet k) f.atoms ch fs ys rows d)
    chain_carried _ _ _ _ _ _ _ _ (update quiet n flags s a ch i) env rows d apart none m suits =
        updated n flags w (read_in f quiet k) f.atoms env rows s a ch i d suits (matches_put n flags w (read_in f quiet k) env rows a (variable_of ch d) apart none m)
    chain_carried _ _ _ _ _ _ _ _ (under quiet n flags s a polarity c p fs gs ys ch b i h) env rows d apart none m suits =
        let v : Variable = variable_of ch d in
        let world : World = read_in f quiet k in
        let x : ConjunctsHold w world f.atoms (put env a v) rows polarity c fs = conjuncts_hold n flags w world f.atoms (put env a v) rows polarity c fs i (matches_put n flags w world env rows a v apart none m) in
        carried_is ch _ _ _ (branch_effect s a polarity c p w env v x.truth b (chains_set f quiet n flags [] p a gs ys ch h) x.value)
        (carried_as ch _ _ _ (ap (λ t. cond t (done_by world f.atoms ch ys rows d) (Some d)) (all_append world f.atoms rows fs gs))
        (under_step ch (same_bool polarity x.truth) (all_hold world f.atoms rows fs) (all_hold world f.atoms rows gs) (effects p [] w a env v) (done_by world f.atoms ch ys rows d) d x.is suits (chains_carried quiet n flags [] p a gs ys ch h env rows d apart none m suits)))
    chain_carried _ _ _ _ _ _ _ _ (best quiet n flags s a polarity c p way j column fs gs b i h) env rows d apart none m suits =
        let ch : Change = By (updates.Best way (elems.Field j column)) false in
        let P : List Datum → Type 0 = λ z. Carried ch (effect s w a env (variable_of ch z)) (done_where (read_in f quiet k) f.atoms ch (fs ++ gs) [] rows z) in
        let z : ℤ = suits.number in
        subst P (sym suits.is) (best_carried quiet n flags s a polarity c p way j column fs gs env rows z b i (chains_set f quiet n flags [] p a gs [] (Takes (elems.Field j column)) h) suits.fits (matches_put n flags w (read_in f quiet k) env rows a (long_variable z) apart none m) (chains_carried quiet n flags [] p a gs [] (Takes (elems.Field j column)) h env rows (only_number z) apart none m (record { number = z; is = refl; fits = suits.fits })))
    chain_carried _ _ _ _ _ _ _ _ (over quiet n flags at ty x e p a j gs ys u opposite l i o other new h) env rows d apart none m suits =
        let ch : Change = By u opposite in
        let v : Variable = variable_of ch d in
        let world : World = read_in f quiet k in
        let body : Row → Variable → Option Variable = λ r. effects p [] w a (put env x (plainly (element r))) in
        let turn : Row → List Datum → Option (List Datum) = λ r y. cond (passes world f.atoms (with_row rows j r) (joined gs)) (run world f.atoms u ys (with_row rows j r) y) (Some y) in
        carried_is ch _ _ _ (cond_on (all_set p a) (folded (rows_at e w (put env a v)) body v) (Some v) (chains_set f quiet (with_loop x j n) flags [] p a gs ys ch h) ∙ ap (λ rs. folded rs body v) (list_rows n flags w world (put env a v) rows e j l (matches_put n flags w world env rows a v apart none m)))
        (folded_carried ch (IsRowOf (n.tables j) (columns_at n.schema (n.tables j))) (world.lists j) body turn (m.lists j) (λ r y typed s. at_row quiet p a gs ys u opposite (put env x (plainly (element r))) (with_row rows j r) y (chains_carried quiet (with_loop x j n) flags [] p a gs ys ch h (put env x (plainly (element r))) (with_row rows j r) y (apart_in_loop n x a j other apart) none (matches_loop n flags w world env rows x j r i o new typed m) s)) d suits)

    pub chains_carried : (quiet : Bool) (n : Numbering) (flags : Flags) (bs : List (List ℕ)) (p : Statements) (a : List ℕ) (fs : List Form) (ys : List Layer) (ch : Change) → AreChain f quiet n flags bs p a fs ys ch → (env : Store) (rows : ℕ → Row) (d : List Datum) → IsApart n a → flags a ≡ None → Matches n flags w (read_in f quiet k) env rows → Suits ch d → Carried ch (effects p bs w a env (variable_of ch d)) (done_where (read_in f quiet k) f.atoms ch fs ys rows d)
    chains_carried _ _ _ _ _ _ _ _ _ (here quiet n flags bs s p a fs ys ch h after) env rows d apart none m suits =
        carried_is ch _ _ _ (alone_sets s p bs w a env (variable_of ch d) (chain_declares f quiet n flags s a fs ys ch h) after) (chain_carried quiet n flags s a fs ys ch h env rows d apart none m suits)
    chains_carried _ _ _ _ _ _ _ _ _ (declared quiet n flags bs at at' b start p a fs ys ch i other h) env rows d apart none m suits =
        let world : World = read_in f quiet k in
        let v : Variable = plainly (One (scalars.Bool start)) in
        chains_carried quiet n (with_flag b (Some (Starts start)) flags) (b ∷ bs) p a fs ys ch h (put env b v) rows d apart (cond_off (bytes_eq b a) (Some (Starts start)) (flags a) other ∙ none) (matches_flag n flags w world env rows b (Some (Starts start)) v i (the_flag world rows (Some v) (Starts start) refl) m) suits
    chains_carried _ _ _ _ _ _ _ _ _ (later quiet n flags flags' bs s p a fs ys ch i other t none' h) env rows d apart none m suits =
        carried_is ch _ _ _ (passed s p bs w a env (variable_of ch d) i other) (chains_carried quiet n flags' bs p a fs ys ch h (settled bs (effect s w) env) rows d apart none' (settles_matches quiet n flags s bs flags' t env rows m) suits)

    -- the flags that a statement sets are as their own runs say
    pub settles_matches : (quiet : Bool) (n : Numbering) (flags : Flags) (s : Statement) (bs : List (List ℕ)) (flags' : Flags) → Settles f quiet n flags s bs flags' → (env : Store) (rows : ℕ → Row) → Matches n flags w (read_in f quiet k) env rows → Matches n flags' w (read_in f quiet k) (settled bs (effect s w) env) rows
    settles_matches _ _ _ _ _ _ (ended quiet n flags s) env rows m = m
    settles_matches _ _ _ _ _ _ (unset quiet n flags flags' s b bs i h) env rows m =
        let same : became (at_name env b) (effect s w b env) ≡ at_name env b = unset_became s w b env (at_name env b) i in
        let stays : at_name (settled bs (effect s w) env) b ≡ at_name env b = settled_stays bs (effect s w) env b (or_same (became (at_name env b) (effect s w b env)) (at_name env b) same) in
        matches_again n flags' w (read_in f quiet k) (settled bs (effect s w) env) rows b (became (at_name env b) (effect s w b env)) (same ∙ sym stays) (settles_matches quiet n flags s bs flags' h env rows m)
    settles_matches _ _ _ _ _ _ (lost quiet n flags flags' s b bs i h) env rows m =
        matches_lost n flags' w (read_in f quiet k) (settled bs (effect s w) env) rows b (became (at_name env b) (effect s w b env)) i (settles_matches quiet n flags s bs flags' h env rows m)
    settles_matches _ _ _ _ _ _ (flagged n flags flags' s b bs number acc ys i flag starts c h) env rows m =
        let loops : List ℕ = take acc.base acc.chain in
        let at : ℕ → Row = placed loops (map rows loops) in
        let q : Option (List Datum) = run k f.atoms updates.Mark ys at (only_truth false) in
        let held : at_name env b ≡ Some (plainly (One (scalars.Bool acc.opposite))) = m.in_sight b (Starts acc.opposite) starts in
        let v : Variable = variable_of (By updates.Mark acc.opposite) (only_truth false) in
        let began : at_name env b ≡ Some v = held ∙ ap Some (sym (start_of_flag acc.opposite)) in
        let ran : Carried (By updates.Mark acc.opposite) (effect s w b env v) q = chain_carried true n no_flags s b [] ys (By updates.Mark acc.opposite) c env at (only_truth false) i refl (quiet_matches f n flags w k env rows at (λ x j e. placed_there rows loops j (flag.loops x j e)) m) (record { truth = false; is = refl }) in
        matches_flagged n flags' w (with_flags f k) (settled bs (effect s w) env) rows b number acc.opposite loops (became (at_name env b) (effect s w b env)) q i
        (carried_is (By updates.Mark acc.opposite) _ _ _ (stays_none (at_name env b) v (effect s w b env) began) ran)
        (λ none. settled_stays bs (effect s w) env b (or_none (became (at_name env b) (effect s w b env)) (at_name env b) none) ∙ held)
        (truth_of_flag f n number acc ys k rows flag) (settles_matches false n flags s bs flags' h env rows m)

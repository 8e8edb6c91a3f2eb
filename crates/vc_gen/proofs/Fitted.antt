-- Conditions are used in environments that their terms fit.
use Rattle.std.proofs.Common.{◌≡◌, ℕ, ◌<◌, ◌≤◌, true, List, [], ◌∷◌, ◌++◌, length, slice_get, nat_lt, inr, refl, sym, ap, ◌∙◌, subst}
use Rattle.std.specs.List.{AllByRecursion}
use Rattle.std.specs.declared.option.Option.{Option}
use Rattle.std.specs.declared.option.Option.TheVariants.{Some, None}
use Rattle.qbs_base.specs.declared.scalar.Row.{Row}
use Rattle.qbs_base.specs.declared.scalar.Scalar.{Scalar}
use Rattle.qbs_base.specs.declared.scalar.Scalar.TheVariants as scalars
use Rattle.qbs_base.specs.declared.scalar.Value.{Value}
use Rattle.qbs_base.specs.declared.scalar.Value.TheVariants.{Many}
use Rattle.tor_terms.specs.declared.env.Env.{Env}
use Rattle.tor_terms.specs.declared.term.Atom.{Atom}
use Rattle.tor_terms.specs.declared.term.Index.{Index}
use Rattle.tor_terms.specs.Fits.{sort, held_sort}
use Rattle.tor_terms.specs.Plain.{Form, Tree, Walk, Top}
use Rattle.tor_terms.specs.Truth.{Datum}
use Rattle.tor_terms.specs.Valid.{IsValidFor}
use Rattle.tor_terms.specs.Value.{plain_row, value}
use Rattle.tor_terms.specs.Worlds.{world_of, held_list}
use Rattle.tor_axioms.specs.declared.facts.Literal.{Literal}
use Rattle.tor_axioms.specs.Decide.{Satisfied}
use Rattle.kernel_lang.specs.declared.parts.Update.{Update}
use Rattle.kernel_lang.specs.declared.parts.Update.TheVariants.{Push, PushNew, Tick, Plus, Best, Mark}
use Rattle.kernel_lang.specs.Plain.{Accumulator, Fragment}
use Rattle.kernel_lang.specs.Postcondition.{loops_of, body, val, effect, start_term}
use Rattle.kernel_lang.specs.Running.{outside, inside, with_row, placed}
use Rattle.kernel_lang.specs.Sentences.{AccumulatorIsValid}
use Rattle.kernel_lang.specs.Validity.{start_is_valid}
use Rattle.vc_gen.specs.Conditions.{facts_of, own_conditions}
use Rattle.tor_axioms.specs.Validity.{IsValid}
use Rattle.vc_gen.proofs.AllOf.{all_left}
use Rattle.vc_gen.proofs.Alike.{at}
use Rattle.vc_gen.proofs.Fit.{lt_from, cut_chain, cut_loops, cut_reads}
use Rattle.vc_gen.proofs.Levels.{steady_start, whole_same, whole-ends, chain_inside}
use Rattle.vc_gen.proofs.Puts.{put, put_long, put_there, turns_in, rows_in, held_in, turns_put, rows_put, held_put, placed_list, placed_rows, placed_long, first_of, first_at, first_long}
use Rattle.vc_gen.proofs.Sorted.{Suits, Fine, fine_fits, Holdable, fine_held, walk_is, top_is, body_is, there, val_fine, effect_fine}
use Rattle.vc_gen.proofs.Tables.{EndsAt}
use Rattle.vc_gen.proofs.Uses.{AllCurrent, IndexOf, turns_with, held_with, Use}

-- turns, current rows and held values that an environment with the lists of another one has
pub record State (base : Env) (t : ℕ → ℕ) (c : ℕ → Row) (h : ℕ → List Datum) : Type 0 where
  pub all_turns : List ℕ
  pub all_rows : List Row
  pub all_held : List Value
  pub turns : turns_in all_turns ≡ t
  pub rows : rows_in all_rows ≡ c
  pub held : held_in all_held ≡ h
  pub many_turns : length base.lists ≤ length all_turns
  pub many_rows : length base.lists ≤ length all_rows

module _ (base : Env) (t : ℕ → ℕ) (c : ℕ → Row) (h : ℕ → List Datum) (s : State base t c h) where
  abbrev pub env_of : Env
  env_of = record base { at = s.all_turns; cur = s.all_rows; holds = s.all_held }

  pub same_world : world_of env_of ≡ at (world_of base) t c h
  same_world =
      ap (λ x. at (world_of base) x (rows_in s.all_rows) (held_in s.all_held)) s.turns ∙ ap (λ x. at (world_of base) t x (held_in s.all_held)) s.rows ∙ ap (λ x. at (world_of base) t c x) s.held

-- what an accumulator starts with
pub start_fine : (u : Update) (o : Option Scalar) → start_is_valid u o ≡ true → (env : Env) (atoms : List Atom) → Fine u (sort env atoms (start_term o)) (value (world_of env) atoms (start_term o))
start_fine (Push e) None h env atoms = (inr refl, tt)
start_fine (PushNew e) None h env atoms = (inr refl, tt)
start_fine (Push e) (Some x) h env atoms = absurd cc
start_fine (PushNew e) (Some x) h env atoms = absurd cc
start_fine Tick (Some (scalars.Long n)) h env atoms = (refl, (n, refl))
start_fine (Plus e) (Some (scalars.Long n)) h env atoms = (refl, (n, refl))
start_fine (Best way e) (Some (scalars.Long n)) h env atoms = (refl, (n, refl))
start_fine Mark (Some (scalars.Bool b)) h env atoms = (refl, (b, refl))
start_fine _ _ h env atoms = absurd cc

module _ (base : Env) (atoms : List Atom) (u : Update) (fs : List Form) (chain : List ℕ) (suits : Suits base.lists atoms u fs chain) where
  abbrev IsFine : (t : ℕ → ℕ) (c : ℕ → Row) (h : ℕ → List Datum) → State base t c h → Tree → Type 0
  IsFine t c h s a = Fine u (sort (env_of base t c h s) atoms a) (value (world_of (env_of base t c h s)) atoms a)

  abbrev another_turn : (t : ℕ → ℕ) (c : ℕ → Row) (h : ℕ → List Datum) → State base t c h → (j m : ℕ) (r : Row) → State base (turns_with t j m) (with_row c j r) h
  another_turn t c h s j m r =
      record {
        all_turns = put j m 0 s.all_turns;
        all_rows = put j r (plain_row None) s.all_rows;
        all_held = s.all_held;
        turns = turns_put s.all_turns t j m s.turns;
        rows = rows_put s.all_rows c j r s.rows;
        held = s.held;
        many_turns = put_long j m 0 s.all_turns (length base.lists) s.many_turns;
        many_rows = put_long j r (plain_row None) s.all_rows (length base.lists) s.many_rows;
      }

  another_start : (t : ℕ → ℕ) (c : ℕ → Row) (h : ℕ → List Datum) (s : State base t c h) (j m : ℕ) (r : Row) (o : Option Scalar) → IsFine t c h s (start_term o) → IsFine (turns_with t j m) (with_row c j r) h (another_turn t c h s j m r) (start_term o)
  another_start t c h s j m r None f = f
  another_start t c h s j m r (Some x) f = f

  holdable : (t : ℕ → ℕ) (c : ℕ → Row) (h : ℕ → List Datum) (s : State base t c h) (a : Tree) → IsFine t c h s a → Holdable u (value (world_of (env_of base t c h s)) atoms a)
  holdable t c h s a f = fine_held u (sort (env_of base t c h s) atoms a) (value (world_of (env_of base t c h s)) atoms a) f

  abbrev holding : (t : ℕ → ℕ) (c : ℕ → Row) (h : ℕ → List Datum) (s : State base t c h) (n : ℕ) (x : List Datum) (a : Tree) → IsFine t c h s a → value (at (world_of base) t c h) atoms a ≡ x → State base t c (held_with h n x)
  holding t c h s n x a f e =
      let k = holdable t c h s a f in
      record {
        all_turns = s.all_turns;
        all_rows = s.all_rows;
        all_held = put n k.kept (Many []) s.all_held;
        turns = s.turns;
        rows = s.rows;
        held = held_put s.all_held h n k.kept x s.held (sym e ∙ ap (λ w. value w atoms a) (sym (same_world base t c h s)) ∙ k.same);
        many_turns = s.many_turns;
        many_rows = s.many_rows;
      }

  holding_fine : (t : ℕ → ℕ) (c : ℕ → Row) (h : ℕ → List Datum) (s : State base t c h) (n : ℕ) (a : Tree) (f : IsFine t c h s a)
      → Fine u (held_sort (slice_get (put n (holdable t c h s a f).kept (Many []) s.all_held) n)) (held_list (slice_get (put n (holdable t c h s a f).kept (Many []) s.all_held) n))
  holding_fine t c h s n a f = let k = holdable t c h s a f in subst (λ o. Fine u (held_sort o) (held_list o)) (sym (put_there n k.kept s.all_held)) k.fine

  module _ (t : ℕ → ℕ) (c : ℕ → Row) (h : ℕ → List Datum) (s : State base t c h) where
    abbrev env : Env
    env = env_of base t c h s

    now_there : (ls : List ℕ) → AllCurrent (at (world_of base) t c h) ls → AllCurrent (world_of env) ls
    now_there ls now = subst (λ w. AllCurrent w ls) (sym (same_world base t c h s)) now

    level_fine : (outer : List ℕ) (j : ℕ) (inner : List ℕ) → outer ++ j ∷ inner ≡ chain → AllCurrent (at (world_of base) t c h) outer → (a : Tree) → IsFine t c h s a → (index : Index) → IndexOf j index → IsFine t c h s (val u a (body fs outer (Top index (Walk j)) inner))
    level_fine outer j inner e now a f index i =
        val_fine env atoms s.many_turns s.many_rows chain (body fs outer (Top index (Walk j)) inner)
        (body_is env atoms s.many_turns s.many_rows u fs chain suits outer j inner e (now_there outer now) (Top index (Walk j)) (top_is env atoms s.many_turns s.many_rows j index i (there env atoms s.many_turns s.many_rows u fs chain suits outer j inner e)))
        u suits.element suits.columns suits.numbers suits.column suits.few a f

    all_fine : (outer : List ℕ) (j : ℕ) (inner : List ℕ) → outer ++ j ∷ inner ≡ chain → AllCurrent (at (world_of base) t c h) outer → (a : Tree) → IsFine t c h s a → IsFine t c h s (val u a (body fs outer (Walk j) inner))
    all_fine outer j inner e now a f =
        val_fine env atoms s.many_turns s.many_rows chain (body fs outer (Walk j) inner)
        (body_is env atoms s.many_turns s.many_rows u fs chain suits outer j inner e (now_there outer now) (Walk j) (walk_is env atoms s.many_turns s.many_rows j (there env atoms s.many_turns s.many_rows u fs chain suits outer j inner e)))
        u suits.element suits.columns suits.numbers suits.column suits.few a f

    last_fine : (outer : List ℕ) → outer ≡ chain → AllCurrent (at (world_of base) t c h) outer → (a : Tree) → IsFine t c h s a → IsFine t c h s (effect u a)
    last_fine outer e now a f =
        effect_fine env atoms s.many_turns s.many_rows chain suits.below (subst (AllCurrent (world_of env)) e (now_there outer now)) u suits.element suits.columns suits.numbers suits.column a f

    used : (facts : List Literal) (l r : Tree) → IsValid (record { atoms = atoms; facts = facts; left = l; right = r }) → IsValidFor (at (world_of base) t c h) l → IsValidFor (at (world_of base) t c h) r → IsFine t c h s l → IsFine t c h s r
        → Satisfied (at (world_of base) t c h) atoms facts → value (at (world_of base) t c h) atoms l ≡ value (at (world_of base) t c h) atoms r
    used facts l r v x y f g k =
        let e = same_world base t c h s in
        subst (λ w. value w atoms l ≡ value w atoms r) e
        (v env (subst (λ w. IsValidFor w l) (sym e) x) (subst (λ w. IsValidFor w r) (sym e) y) (fine_fits u (sort env atoms l) (value (world_of env) atoms l) f) (fine_fits u (sort env atoms r) (value (world_of env) atoms r) g)
        (subst (λ w. Satisfied w atoms facts) (sym e) k))

  abbrev fitting : Use (world_of base) atoms u fs chain
  fitting =
      record {
        Valid = IsValid;
        State = State base;
        Fits = IsFine;
        use_it = λ t c h s F l r v x y f g k. used t c h s (facts_of F) l r v x y f g k;
        turned = another_turn;
        turned_start = another_start;
        turned_hold = λ t c h s j m r n f. f;
        held = holding;
        held_fits = λ t c h s n x a f e. holding_fine t c h s n a f;
        part_fits = λ t c h s outer j inner e now a f index i. level_fine t c h s outer j inner e now a f index i;
        whole_fits = λ t c h s outer j inner e now a f. all_fine t c h s outer j inner e now a f;
        effect_fits = λ t c h s outer e now a f. last_fine t c h s outer e now a f;
      }

-- turns of the first loops alone
first_current : (base : Env) (t : ℕ → ℕ) (c : ℕ → Row) (h : ℕ → List Datum) (ls : List ℕ) → AllByRecursion (λ j. nat_lt j (length base.lists) ≡ true) ls → AllCurrent (at (world_of base) t c h) ls
    → AllCurrent (at (world_of base) (turns_in (first_of (length base.lists) t)) c h) ls
first_current base t c h [] b now = tt
first_current base t c h (j ∷ js) b now =
    let e : turns_in (first_of (length base.lists) t) j ≡ t j = first_at (length base.lists) t j (lt_from j (length base.lists) b.0) in
    (record { below = subst (λ n. n < length ((world_of base).lists j)) (sym e) now.0.below; row = ap (slice_get ((world_of base).lists j)) e ∙ now.0.row }, first_current base t c h js b.1 now.1)

-- where the conditions of an accumulator are valid, it ends so in the world of an environment that suits it
pub fitting-ends : (base : Env) (f : Fragment) (a : Accumulator) (fs : List Form) → AccumulatorIsValid f a → start_is_valid a.update a.start ≡ true → Suits base.lists f.atoms a.update fs a.chain → AllByRecursion IsValid (own_conditions f.atoms (a, fs))
    → EndsAt (world_of base) f.atoms (a, fs)
fitting-ends base f a fs own starts suits valid = λ t ls rs now pass.
    whole-ends (world_of base) f.atoms a.update fs a.start (outside a) (inside a) (cut_chain f a own) (cut_reads f a own) a.chain (fitting base f.atoms a.update fs a.chain suits) (cut_loops a) valid
    (turns_in (first_of (length base.lists) t)) (placed ls rs) (held_in base.holds) (begin t ls rs) (start_fine a.update a.start starts (env_of base (turns_in (first_of (length base.lists) t)) (placed ls rs) (held_in base.holds) (begin t ls rs)) f.atoms)
    (first_current base t (placed ls rs) (held_in base.holds) (loops_of (outside a)) there_outside now) pass
    ∙ whole_same (world_of base) f.atoms (turns_in (first_of (length base.lists) t)) t (placed ls rs) (held_in base.holds) (held_in base.holds) a.update fs (loops_of (outside a)) (inside a) (chain_inside (world_of base) f.atoms [] (outside a) (inside a) (cut_chain f a own))
    (start_term a.start) (start_term a.start) ((steady_start (world_of base) f.atoms a.start).same (turns_in (first_of (length base.lists) t)) t (placed ls rs) (placed ls rs) (held_in base.holds))
  where
    begin : (t : ℕ → ℕ) (ls : List ℕ) (rs : List Row) → State base (turns_in (first_of (length base.lists) t)) (placed ls rs) (held_in base.holds)
    begin t ls rs =
        record {
          all_turns = first_of (length base.lists) t;
          all_rows = placed_list (length base.lists) ls rs;
          all_held = base.holds;
          turns = refl;
          rows = placed_rows (length base.lists) ls rs;
          held = refl;
          many_turns = first_long (length base.lists) t;
          many_rows = placed_long (length base.lists) ls rs;
        }

    there_outside : AllByRecursion (λ j. nat_lt j (length base.lists) ≡ true) (loops_of (outside a))
    there_outside = all_left (λ j. nat_lt j (length base.lists) ≡ true) (loops_of (outside a)) (loops_of (inside a)) (subst (AllByRecursion (λ j. nat_lt j (length base.lists) ≡ true)) (sym (cut_loops a)) suits.below)

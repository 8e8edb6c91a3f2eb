-- What a fragment ends with depends on a known list by membership alone, and so does whether its parts fit.
use Rattle.std.proofs.Common.{◌≡◌, ℕ, zero, suc, Bool, IsTrue, ◌&&◌, ◌||◌, List, [], ◌∷◌, map, take, slice_get, Option, Some, None, refl, sym, ap, ap₂, ◌∙◌, subst, cond}
use Rattle.std.specs.List.{AllByRecursion}
use Rattle.std.specs.Option.{option_map}
use Rattle.qbs_base.specs.declared.scalar.Row.{Row}
use Rattle.qbs_base.specs.declared.scalar.Ty.TheVariants as tys
use Rattle.qbs_base.specs.declared.scalar.Value.{Value}
use Rattle.qbs_base.specs.Scalar.{compared, scalar_same}
use Rattle.qbs_base.specs.Values.{Database, AreOf}
use Rattle.tor_terms.specs.declared.term.Atom.{Atom}
use Rattle.tor_terms.specs.declared.term.Atom.TheVariants as atoms
use Rattle.tor_terms.specs.declared.term.Elem.TheVariants as elems
use Rattle.tor_terms.specs.declared.term.Operand.{Operand}
use Rattle.tor_terms.specs.declared.term.Operand.TheVariants as operands
use Rattle.tor_terms.specs.Plain.{Form, Is, Both, Either}
use Rattle.tor_terms.specs.Truth.{Datum, World, less, is_true, same_bool, same_operand, is_member, operand_at, atom_holds, known_atom_holds, holds}
use Rattle.kernel_lang.specs.declared.parts.Entry.{Entry}
use Rattle.kernel_lang.specs.declared.parts.Update.{Update}
use Rattle.kernel_lang.specs.declared.parts.Update.TheVariants as updates
use Rattle.kernel_lang.specs.Fitting.{is_of, comparable, of_one_variant, of_variant_of_all, atom_fits, AtomFits, UpdateFits, PartsFit}
use Rattle.kernel_lang.specs.Given.{world_given}
use Rattle.kernel_lang.specs.Plain.{Accumulator, Fragment}
use Rattle.kernel_lang.specs.Running.{Layer, with_row, placed, passes, started, followed_by, each_row, run, inside, layers_of, is_set, flag_by_run, with_flags, source_value, ends_as, and_then, ends, all_end, fragment_end}
use Rattle.java_loops.specs.Meant.Members.{HaveSameMembers, SameButForOrder}
use Rattle.java_loops.proofs.Meant.MembersLists.{member_alike, variants_alike, list_alike, count_alike}

-- ---- Worlds

-- worlds that differ by the order of known lists
record Alike (v w : World) : Type 0 where
  lists : (j : ℕ) → v.lists j ≡ w.lists j
  entries : (k : ℕ) → v.entries k ≡ w.entries k
  known : (q : ℕ) → HaveSameMembers (v.known q) (w.known q)
  flags : (k : ℕ) (rows : List Row) → v.flags k rows ≡ w.flags k rows

followed_alike : (o : Option (List Datum)) (f g : List Datum → Option (List Datum)) → ((x : List Datum) → f x ≡ g x) → followed_by o f ≡ followed_by o g
followed_alike None f g h = refl
followed_alike (Some x) f g h = h x

each_alike : (rows : List Row) (f g : Row → List Datum → Option (List Datum)) → ((r : Row) (x : List Datum) → f r x ≡ g r x) → (x : List Datum) → each_row rows f x ≡ each_row rows g x
each_alike [] f g h x = refl
each_alike (r ∷ rows) f g h x = ap (λ o. followed_by o (each_row rows f)) (h r x) ∙ followed_alike (g r x) (each_row rows f) (each_row rows g) (each_alike rows f g h)

module _ (v w : World) (h : Alike v w) where
  operand_alike : (rows : ℕ → Row) (a : Operand) → operand_at v rows a ≡ operand_at w rows a
  operand_alike rows (operands.Field j c) = refl
  operand_alike rows (operands.Entry k) = h.entries k
  operand_alike rows (operands.Lit x) = refl

  atom_alike : (rows : ℕ → Row) (a : Atom) → atom_holds v rows a ≡ atom_holds w rows a
  atom_alike rows (atoms.Less a b) = ap₂ (compared less) (operand_alike rows a) (operand_alike rows b)
  atom_alike rows (atoms.Same a b) = ap (λ t. same_operand a b || t) (ap₂ (compared scalar_same) (operand_alike rows a) (operand_alike rows b))
  atom_alike rows (atoms.Truth a) = ap is_true (operand_alike rows a)
  atom_alike rows (atoms.Member a q) = ap (λ o. is_member o (v.known q)) (operand_alike rows a) ∙ member_alike (operand_at w rows a) (v.known q) (w.known q) (h.known q)
  atom_alike rows (atoms.Flag k loops) = h.flags k (map rows loops)

  found_alike : (rows : ℕ → Row) (o : Option Atom) → known_atom_holds v rows o ≡ known_atom_holds w rows o
  found_alike rows None = refl
  found_alike rows (Some a) = atom_alike rows a

  form_alike : (all : List Atom) (rows : ℕ → Row) (f : Form) → holds v all rows f ≡ holds w all rows f
  form_alike all rows (Is k s) = ap (λ b. same_bool b s) (found_alike rows (slice_get all k))
  form_alike all rows (Both f g) = ap₂ (λ a b. a && b) (form_alike all rows f) (form_alike all rows g)
  form_alike all rows (Either f g) = ap₂ (λ a b. a || b) (form_alike all rows f) (form_alike all rows g)

  guard_alike : (all : List Atom) (rows : ℕ → Row) (o : Option Form) → passes v all rows o ≡ passes w all rows o
  guard_alike all rows None = refl
  guard_alike all rows (Some f) = form_alike all rows f

  turn_alike : (b : Bool) (o p : Option (List Datum)) (x : List Datum) → o ≡ p → cond b o (Some x) ≡ cond b p (Some x)
  turn_alike b o p x e = ap (λ z. cond b z (Some x)) e

  run_alike : (all : List Atom) (u : Update) (ys : List Layer) (rows : ℕ → Row) (x : List Datum) → run v all u ys rows x ≡ run w all u ys rows x
  run_alike all u [] rows x = refl
  run_alike all u (y ∷ ys) rows x =
      each_alike (v.lists y.over)
      (λ r z. cond (passes v all (with_row rows y.over r) y.guard) (run v all u ys (with_row rows y.over r) z) (Some z))
      (λ r z. cond (passes w all (with_row rows y.over r) y.guard) (run w all u ys (with_row rows y.over r) z) (Some z))
      (λ r z. ap (λ b. cond b (run v all u ys (with_row rows y.over r) z) (Some z)) (guard_alike all (with_row rows y.over r) y.guard) ∙ turn_alike (passes w all (with_row rows y.over r) y.guard) (run v all u ys (with_row rows y.over r) z) (run w all u ys (with_row rows y.over r) z) z (run_alike all u ys (with_row rows y.over r) z))
      x
      ∙ ap (λ list. each_row list (λ r z. cond (passes w all (with_row rows y.over r) y.guard) (run w all u ys (with_row rows y.over r) z) (Some z)) x) (h.lists y.over)

  flag_alike : (all : List Atom) (o : Option Accumulator) (rows : List Row) → flag_by_run v all o rows ≡ flag_by_run w all o rows
  flag_alike all None rows = refl
  flag_alike all (Some a) rows = ap is_set (run_alike all a.update (inside a) (placed (take a.base a.chain) rows) (started a.start))

  flagged_alike : (f : Fragment) → Alike (with_flags f v) (with_flags f w)
  flagged_alike f = record { lists = h.lists; entries = h.entries; known = h.known; flags = λ k rows. flag_alike f.atoms (slice_get f.accs k) rows }

  -- whether an atom fits
  fits_alike : (rows : ℕ → Row) (a : Atom) → atom_fits v rows a ≡ atom_fits w rows a
  fits_alike rows (atoms.Less a b) = ap₂ comparable (operand_alike rows a) (operand_alike rows b)
  fits_alike rows (atoms.Same a b) = ap₂ of_one_variant (operand_alike rows a) (operand_alike rows b)
  fits_alike rows (atoms.Truth a) = ap (is_of tys.Bool) (operand_alike rows a)
  fits_alike rows (atoms.Member a q) = ap (λ o. of_variant_of_all o (v.known q)) (operand_alike rows a) ∙ variants_alike (operand_at w rows a) (v.known q) (w.known q) (h.known q)
  fits_alike rows (atoms.Flag k loops) = refl

-- ---- What a fragment is given

given_alike : (f : Fragment) (db : Database) (a b : Entry) → SameButForOrder a b → Alike (world_given f db a) (world_given f db b)
given_alike f db a b s =
    record {
      lists = λ j. refl;
      entries = λ k. ap (λ values. slice_get values k) s.values;
      known = list_alike a.known b.known s.known;
      flags = λ k rows. refl;
    }

module _ (f : Fragment) (db : Database) (a b : Entry) (s : SameButForOrder a b) where
  end_alike : (acc : Accumulator) → ends_as f (world_given f db a) acc ≡ ends_as f (world_given f db b) acc
  end_alike acc =
      ap (option_map (source_value acc.update acc.opposite))
      (run_alike (with_flags f (world_given f db a)) (with_flags f (world_given f db b)) (flagged_alike (world_given f db a) (world_given f db b) (given_alike f db a b s) f) f.atoms acc.update (layers_of acc) (world_given f db a).current (started acc.start))

  one_alike : (base : ℕ) (acc : Accumulator) (o p : Option (List Value)) → o ≡ p → ends f (world_given f db a) base acc o ≡ ends f (world_given f db b) base acc p
  one_alike zero acc o p e = ap₂ and_then (end_alike acc) e
  one_alike (suc base) acc o p e = e

  all_alike : (accs : List Accumulator) → all_end f (world_given f db a) accs ≡ all_end f (world_given f db b) accs
  all_alike [] = refl
  all_alike (acc ∷ accs) = one_alike acc.base acc (all_end f (world_given f db a) accs) (all_end f (world_given f db b) accs) (all_alike accs)

  test_alike : (x : Atom) → AtomFits (world_given f db a) x → AtomFits (world_given f db b) x
  test_alike x h = λ rows there. subst IsTrue (fits_alike (world_given f db a) (world_given f db b) (given_alike f db a b s) rows x) (h rows there)

  tests_alike : (xs : List Atom) → AllByRecursion (AtomFits (world_given f db a)) xs → AllByRecursion (AtomFits (world_given f db b)) xs
  tests_alike [] h = tt
  tests_alike (x ∷ xs) h = (test_alike x h.0, tests_alike xs h.1)

  update_alike : (u : Update) → UpdateFits (world_given f db a) u → UpdateFits (world_given f db b) u
  update_alike (updates.Plus (elems.Field j c)) h = h
  update_alike (updates.Plus (elems.Whole j)) h = tt
  update_alike (updates.Best way (elems.Field j c)) h = h
  update_alike (updates.Best way (elems.Whole j)) h = tt
  update_alike (updates.Push e) h = tt
  update_alike (updates.PushNew e) h = tt
  update_alike updates.Tick h = tt
  update_alike updates.Mark h = tt

  updates_alike : (accs : List Accumulator) → AllByRecursion (λ (acc : Accumulator). UpdateFits (world_given f db a) acc.update) accs → AllByRecursion (λ (acc : Accumulator). UpdateFits (world_given f db b) acc.update) accs
  updates_alike [] h = tt
  updates_alike (acc ∷ accs) h = (update_alike acc.update h.0, updates_alike accs h.1)

-- A fragment ends alike where known lists have the same members.
pub members_decide : (f : Fragment) (db : Database) (a b : Entry) → SameButForOrder a b → fragment_end f db a ≡ fragment_end f db b
members_decide f db a b s = all_alike f db a b s f.accs

-- Its parts fit alike.
pub members_fit : (f : Fragment) (db : Database) (a b : Entry) → SameButForOrder a b → PartsFit f db a → PartsFit f db b
members_fit f db a b s h =
    record {
      tables = h.tables;
      columns = h.columns;
      tests = tests_alike f db a b s f.atoms h.tests;
      numbers = updates_alike f db a b s f.accs h.numbers;
      known = sym (count_alike a.known b.known s.known) ∙ h.known;
      values = subst (AreOf f.entries) s.values h.values;
    }

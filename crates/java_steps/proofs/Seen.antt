-- One row more among those that were met.
use Rattle.std.proofs.Common.{◌≡◌, ℕ, ℤ, ◌+◌, ◌<◌, length, take, get_or, Bool, true, false, cond, not, ◌&&◌, ◌||◌, List, [], ◌∷◌, ◌++◌, map, refl, sym, ap, ap₂, ◌∙◌, IfOk, Result, Ok, Err}
use Rattle.std.specs.Bool.{OnFalse}
use Rattle.std.specs.BTreeSet.{BTreeSet, contains, Updates, IsUnchanged}
use Rattle.std.specs.Cmp.Lexicographic.{slice_cmp}
use Rattle.std.specs.List.{list_any}
use Rattle.std.specs.Ordering.{is_eq, int_cmp, bool_cmp, nat_cmp, ordering_then}
use Rattle.std.specs.declared.cmp.Ordering.{Ordering}
use Rattle.std.specs.declared.cmp.Ordering.TheVariants.{Less, Equal, Greater}
use Rattle.qbs_base.specs.declared.scalar.Row.{Row}
use Rattle.qbs_base.specs.declared.scalar.Scalar.{Scalar}
use Rattle.qbs_base.specs.Scalar.{scalar_same, same_cells}
use Rattle.sql_ast.specs.Grouped.{firsts}
use Rattle.sql_rows.proofs.Finding.{any_append}
use Rattle.sql_rows.proofs.Meeting.{or_swap, not_true, not_false}
use Rattle.sql_ast.proofs.FirstOnes.{firsts_more}
use Rattle.java_mean.specs.Expression.{same_member, is_among}
use Rattle.java_mean.specs.Statement.{added}
use Rattle.java_mean.proofs.Members.{cells_back}
use Rattle.java_steps.specs.declared.met.Atom.{Atom}
use Rattle.java_steps.specs.declared.met.Atom.TheVariants as atoms
use Rattle.java_steps.proofs.Columns.{take_next}
use Rattle.java_steps.specs.Met.{Key, atom_in, cells_in, has, AreMet, IsMet, Meets, AreFirsts, Takes}

-- ---- Keys

-- an order of atoms, as one derives it
pub record ComparesAtoms (cmp : Atom → Atom → Ordering) : Type 0 where
  pub long_long : (a b : ℤ) → is_eq (cmp (atoms.Long a) (atoms.Long b)) ≡ is_eq (int_cmp a b)
  pub long_truth : (a : ℤ) (b : Bool) → is_eq (cmp (atoms.Long a) (atoms.Truth b)) ≡ false
  pub long_text : (a : ℤ) (b : _) → is_eq (cmp (atoms.Long a) (atoms.Text b)) ≡ false
  pub truth_long : (a : Bool) (b : ℤ) → is_eq (cmp (atoms.Truth a) (atoms.Long b)) ≡ false
  pub truth_truth : (a b : Bool) → is_eq (cmp (atoms.Truth a) (atoms.Truth b)) ≡ is_eq (bool_cmp a b)
  pub truth_text : (a : Bool) (b : _) → is_eq (cmp (atoms.Truth a) (atoms.Text b)) ≡ false
  pub text_long : (a : _) (b : ℤ) → is_eq (cmp (atoms.Text a) (atoms.Long b)) ≡ false
  pub text_truth : (a : _) (b : Bool) → is_eq (cmp (atoms.Text a) (atoms.Truth b)) ≡ false
  pub text_text : (a b : _) → is_eq (cmp (atoms.Text a) (atoms.Text b)) ≡ is_eq (slice_cmp nat_cmp a b)

same_atom : (cmp : Atom → Atom → Ordering) → ComparesAtoms cmp → (x y : Atom) → is_eq (cmp x y) ≡ scalar_same (atom_in x) (atom_in y)
same_atom cmp h (atoms.Long a) (atoms.Long b) = h.long_long a b
same_atom cmp h (atoms.Long a) (atoms.Truth b) = h.long_truth a b
same_atom cmp h (atoms.Long a) (atoms.Text b) = h.long_text a b
same_atom cmp h (atoms.Truth a) (atoms.Long b) = h.truth_long a b
same_atom cmp h (atoms.Truth a) (atoms.Truth b) = h.truth_truth a b
same_atom cmp h (atoms.Truth a) (atoms.Text b) = h.truth_text a b
same_atom cmp h (atoms.Text a) (atoms.Long b) = h.text_long a b
same_atom cmp h (atoms.Text a) (atoms.Truth b) = h.text_truth a b
same_atom cmp h (atoms.Text a) (atoms.Text b) = h.text_text a b

eq_then : (o p : Ordering) → is_eq (ordering_then o p) ≡ (is_eq o && is_eq p)
eq_then Less p = refl
eq_then Equal p = refl
eq_then Greater p = refl

pub same_atoms : (cmp : Atom → Atom → Ordering) → ComparesAtoms cmp → (xs ys : List Atom) → is_eq (slice_cmp cmp xs ys) ≡ same_cells (map atom_in xs) (map atom_in ys)
same_atoms cmp h [] [] = refl
same_atoms cmp h [] (y ∷ ys) = refl
same_atoms cmp h (x ∷ xs) [] = refl
same_atoms cmp h (x ∷ xs) (y ∷ ys) = eq_then (cmp x y) (slice_cmp cmp xs ys) ∙ ap₂ (λ (a b : Bool). a && b) (same_atom cmp h x y) (same_atoms cmp h xs ys)

-- ---- What was met

any_same : {X : Type 0} (p q : X → Bool) → ((x : X) → p x ≡ q x) → (xs : List X) → list_any p xs ≡ list_any q xs
any_same p q h [] = refl
any_same p q h (x ∷ xs) = ap₂ (λ (a b : Bool). a || b) (h x) (any_same p q h xs)

pub is_met : (cmp : Key → Key → Ordering) → ((j k : Key) → is_eq (cmp j k) ≡ same_cells (cells_in j) (cells_in k)) → (met : BTreeSet Key) (key : Key) (cells : List Scalar) (found : Bool) → cells_in key ≡ cells → found ≡ contains cmp met key → IsMet met cells found
is_met cmp same met key cells found is e rows a =
    e
    ∙ any_same (λ k. is_eq (cmp key k)) (λ k. same_cells (cells_in key) (cells_in k)) (λ k. same key k) met.keys
    ∙ a key
    ∙ ap (λ cs. list_any (λ row. same_cells cs row.cells) rows) is

-- whether cells are among the rows of a set that knows them
pub met_within : {E : Type 0} (r : Result Bool E) (met : BTreeSet Key) (cells : List Scalar) (rows now : List Row) → AreMet met rows → rows ≡ now → IfOk r (IsMet met cells) → IfOk r (λ found. found ≡ list_any (λ row. same_cells cells row.cells) now)
met_within (Ok found) met cells rows now a e h = h rows a ∙ ap (list_any (λ row. same_cells cells row.cells)) e
met_within (Err u) met cells rows now a e h = tt

on_false : (b : Bool) (P : Type 0) → OnFalse b P → b ≡ false → P
on_false true P h e = absurd cc
on_false false P h e = h

module _ (cmp : Key → Key → Ordering) (same : (j k : Key) → is_eq (cmp j k) ≡ same_cells (cells_in j) (cells_in k)) (s t : BTreeSet Key) (key : Key) (row : Row) (is : cells_in key ≡ row.cells) where
  contains_has : (m : BTreeSet Key) (q : Key) → contains cmp m q ≡ has m q
  contains_has m q = any_same (λ k. is_eq (cmp q k)) (λ k. same_cells (cells_in q) (cells_in k)) (λ k. same q k) m.keys

  met_then : Updates cmp s t key true → (rows : List Row) → AreMet s rows → AreMet t (rows ++ row ∷ [])
  met_then up rows a q =
      sym (contains_has t q)
      ∙ up.0 q
      ∙ ap₂ (λ (b c : Bool). cond b true c) (same key q ∙ cells_back (cells_in key) (cells_in q) ∙ ap (same_cells (cells_in q)) is) (contains_has s q ∙ a q)
      ∙ or_swap (list_any (λ b. same_cells (cells_in q) b.cells) rows) (same_cells (cells_in q) row.cells)
      ∙ sym (any_append (λ b. same_cells (cells_in q) b.cells) rows (row ∷ []))

  pub meets : (new : Bool) → new ≡ not (contains cmp s key) → Updates cmp s t key true → OnFalse new (IsUnchanged s t) → Meets s row new t
  meets new e up un rows a = (
    e ∙ ap not (contains_has s key ∙ a key ∙ ap (λ cs. list_any (λ b. same_cells cs b.cells) rows) is),
    met_then up rows a,
    on_false new (t.keys ≡ s.keys) un,
  )

-- ---- First occurrences

among_back : (rows : List Row) (row : Row) → list_any (λ b. same_member b row) rows ≡ is_among rows row
among_back rows row = any_same (λ b. same_member b row) (same_member row) (λ b. cells_back b.cells row.cells) rows

module _ (s t : BTreeSet Key) (row : Row) (new : Bool) (h : Meets s row new t) where
  firsts_then : (list rows : List Row) (b : Bool) → AreFirsts s list rows → is_among rows row ≡ b → firsts same_member (rows ++ row ∷ []) ≡ cond b list (list ++ row ∷ [])
  firsts_then list rows b a e =
      firsts_more same_member rows row
      ∙ ap₂ (λ (c : Bool) (ks : List Row). cond c ks (ks ++ row ∷ [])) (among_back rows row ∙ e) (sym a.listed)

  pub takes_new : (list more : List Row) → new ≡ true → more ≡ list ++ row ∷ [] → Takes s list row t more
  takes_new list more f g rows a =
      record { listed = g ∙ sym (firsts_then list rows false a (not_true (is_among rows row) new (h rows a.held).0 f)); held = (h rows a.held).1 }

  pub takes_again : (list : List Row) → new ≡ false → Takes s list row t list
  takes_again list f rows a =
      record { listed = sym (firsts_then list rows true a (not_false (is_among rows row) new (h rows a.held).0 f)); held = (h rows a.held).1 }

  -- ---- Members

  pub met_new : (rows more : List Row) → AreMet s rows → more ≡ rows ++ row ∷ [] → AreMet t more
  met_new rows more a g k = (h rows a).1 k ∙ ap (list_any (λ b. same_cells (cells_in k) b.cells)) (sym g)

  pub added_new : (rows more : List Row) → AreMet s rows → new ≡ true → more ≡ rows ++ row ∷ [] → more ≡ added true rows row
  added_new rows more a f g = g ∙ ap (λ b. cond b rows (rows ++ row ∷ [])) (sym (not_true (is_among rows row) new (h rows a).0 f))

  pub met_again : (rows : List Row) → AreMet s rows → new ≡ false → AreMet t rows
  met_again rows a f k = ap (list_any (λ j. same_cells (cells_in k) (cells_in j))) ((h rows a).2 f) ∙ a k

  pub added_again : (rows : List Row) → AreMet s rows → new ≡ false → rows ≡ added true rows row
  added_again rows a f = ap (λ b. cond b rows (rows ++ row ∷ [])) (sym (not_false (is_among rows row) new (h rows a).0 f))

  -- the next of some rows
  pub met_next : (rows : List Row) (i : ℕ) → i < length rows → row ≡ get_or rows i row → AreMet s (take i rows) → AreMet t (take (i + 1) rows)
  met_next rows i lt at a k = (h (take i rows) a).1 k ∙ ap (list_any (λ b. same_cells (cells_in k) b.cells)) (sym (take_next rows i row lt at))

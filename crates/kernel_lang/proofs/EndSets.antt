-- What a set collects is there once.
use Rattle.std.proofs.Common.{◌≡◌, ℕ, Bool, true, false, ◌&&◌, ◌||◌, if◌then◌else◌, List, [], ◌∷◌, ◌++◌, map, slice_get, refl, sym, ap, ap₂, ◌∙◌, subst}
use Rattle.std.specs.List.{AllByRecursion, list_any}
use Rattle.std.specs.Option.{option_map}
use Rattle.std.specs.declared.option.Option.{Option}
use Rattle.std.specs.declared.option.Option.TheVariants.{Some, None}
use Rattle.qbs_base.specs.declared.scalar.Kind.TheVariants as kinds
use Rattle.qbs_base.specs.declared.scalar.Row.{Row}
use Rattle.qbs_base.specs.declared.scalar.Scalar.{Scalar}
use Rattle.qbs_base.specs.declared.scalar.Value.{Value}
use Rattle.qbs_base.specs.declared.scalar.Value.TheVariants as values
use Rattle.qbs_base.specs.Scalar.{scalar_same, same_cells}
use Rattle.tor_terms.specs.declared.term.Elem.TheVariants as elems
use Rattle.tor_terms.specs.Fits.{row_of}
use Rattle.tor_terms.specs.Truth.{Datum, Tup, Element, World}
use Rattle.tor_terms.specs.Value.{plain_row, elem_at, same_kind, same_row, same_datum, inserted}
use Rattle.tor_terms.proofs.Identical.{both}
use Rattle.tor_terms.proofs.Scalars.{scalar_same-true, scalar_same-self}
use Rattle.kernel_lang.specs.declared.parts.Update.TheVariants as updates
use Rattle.kernel_lang.specs.Ends.{AreDistinct}
use Rattle.kernel_lang.specs.Plain.{Accumulator, Fragment}
use Rattle.kernel_lang.specs.Running.{started, checked, layers_of, with_flags, accumulated, source_value, ends_as}
use Rattle.kernel_lang.proofs.Runs.{some_same, run_keeps}

-- ---- the same cells

pub same_cells-true : (xs ys : List Scalar) → same_cells xs ys ≡ true → xs ≡ ys
same_cells-true [] [] h = refl
same_cells-true (x ∷ xs) (y ∷ ys) h = both (λ a b. a ∷ b) (scalar_same x y) (same_cells xs ys) h (scalar_same-true x y) (same_cells-true xs ys)
same_cells-true _ _ h = absurd cc

pub same_cells-self : (xs : List Scalar) → same_cells xs xs ≡ true
same_cells-self [] = refl
same_cells-self (x ∷ xs) = ap₂ (λ a b. a && b) (scalar_same-self x) (same_cells-self xs)

turned_round : (xs ys : List Scalar) → same_cells xs ys ≡ false → same_cells ys xs ≡ false
turned_round xs ys h = go (same_cells ys xs) refl
  where
    go : (b : Bool) → same_cells ys xs ≡ b → same_cells ys xs ≡ false
    go false e = e
    go true e = let k : same_cells xs ys ≡ true = subst (λ zs. same_cells zs ys ≡ true) (same_cells-true ys xs e) (same_cells-self ys) in absurd cc

-- ---- elements of columns

-- a scalar as a row
abbrev IsCell : Datum → Type 0
IsCell (Element r) = r.kind ≡ kinds.Plain
IsCell (Tup t) = ⊥

plain_cell : (o : Option Scalar) → (plain_row o).kind ≡ kinds.Plain
plain_cell (Some x) = refl
plain_cell None = refl

-- what is distinct so far, in a list of such rows
record IsSet (v : List Datum) : Type 0 where
  cells : AllByRecursion IsCell v
  distinct : AreDistinct (map row_of v)

or_left : (a b : Bool) → (a || b) ≡ false → a ≡ false
or_left false b h = refl
or_left true b h = absurd cc

or_right : (a b : Bool) → (a || b) ≡ false → b ≡ false
or_right false b h = h
or_right true b h = absurd cc

-- of two scalars the cells alone tell
cells_tell : (r s : Row) → r.kind ≡ kinds.Plain → s.kind ≡ kinds.Plain → same_row r s ≡ false → same_cells r.cells s.cells ≡ false
cells_tell r s e f h = ap₂ (λ a b. same_kind a b && same_cells r.cells s.cells) (sym e) (sym f) ∙ h

none_more : (r s : Row) (v : List Datum) → same_cells r.cells s.cells ≡ false → list_any (λ x. same_cells r.cells x.cells) (map row_of v) ≡ false → list_any (λ x. same_cells r.cells x.cells) (map row_of (v ++ Element s ∷ [])) ≡ false
none_more r s [] h g = ap (λ b. b || false) h
none_more r s (x ∷ v) h g =
    let a = or_left (same_cells r.cells (row_of x).cells) (list_any (λ x. same_cells r.cells x.cells) (map row_of v)) g in
    let b = or_right (same_cells r.cells (row_of x).cells) (list_any (λ x. same_cells r.cells x.cells) (map row_of v)) g in
    ap₂ (λ p q. p || q) a (none_more r s v h b)

distinct_more : (v : List Datum) (s : Row) → s.kind ≡ kinds.Plain → AllByRecursion IsCell v → AreDistinct (map row_of v) → list_any (same_datum (Element s)) v ≡ false → AreDistinct (map row_of (v ++ Element s ∷ []))
distinct_more [] s k cells h e = (refl, tt)
distinct_more (Tup t ∷ v) s k cells h e = absurd cells.0
distinct_more (Element r ∷ v) s k cells h e =
    let a : same_row s r ≡ false = or_left (same_row s r) (list_any (same_datum (Element s)) v) e in
    let b : list_any (same_datum (Element s)) v ≡ false = or_right (same_row s r) (list_any (same_datum (Element s)) v) e in
    (none_more r s v (turned_round s.cells r.cells (cells_tell s r k cells.0 a)) h.0, distinct_more v s k cells.1 h.1 b)

cells_more : (v : List Datum) (x : Datum) → AllByRecursion IsCell v → IsCell x → AllByRecursion IsCell (v ++ x ∷ [])
cells_more [] x h k = (k, tt)
cells_more (y ∷ v) x h k = (h.0, cells_more v x h.1 k)

set_with : (v : List Datum) (s : Row) → s.kind ≡ kinds.Plain → IsSet v → IsSet (inserted v (Element s))
set_with v s k h = go (list_any (same_datum (Element s)) v) refl
  where
    go : (b : Bool) → list_any (same_datum (Element s)) v ≡ b → IsSet (if b then v else v ++ Element s ∷ [])
    go true e = h
    go false e = record { cells = cells_more v (Element s) h.cells k; distinct = distinct_more v s k h.cells h.distinct e }

-- ---- ends

step_distinct : (j c : ℕ) (rows : ℕ → Row) (v x : List Datum) → IsSet v → checked (updates.PushNew (elems.Field j c)) rows v ≡ Some x → IsSet x
step_distinct j c rows v x h e = subst IsSet (some_same (inserted v (Element (elem_at rows (elems.Field j c)))) x e) (set_with v (elem_at rows (elems.Field j c)) (plain_cell (slice_get (rows j).cells c)) h)

start_distinct : (o : Option Scalar) → IsSet (started o)
start_distinct None = record { cells = tt; distinct = tt }
start_distinct (Some x) = record { cells = (refl, tt); distinct = (refl, tt) }

abbrev AnyRow : Row → Type 0
AnyRow r = Unit {0}

all_any : (rows : List Row) → AllByRecursion AnyRow rows
all_any [] = tt
all_any (r ∷ rows) = (tt, all_any rows)

accumulated_distinct : (f : Fragment) (w : World) (a : Accumulator) (j c : ℕ) → a.update ≡ updates.PushNew (elems.Field j c) → (v : List Datum) → accumulated f w a ≡ Some v → IsSet v
accumulated_distinct f w a j c is v e =
    run_keeps IsSet AnyRow (with_flags f w) f.atoms a.update (λ k. all_any (w.lists k)) (subst (λ u. (rows : ℕ → Row) → ((k : ℕ) → AnyRow (rows k)) → (v x : List Datum) → IsSet v → checked u rows v ≡ Some x → IsSet x) (sym is) (λ rows h. step_distinct j c rows)) (layers_of a) w.current (λ k. tt) (started a.start) v (start_distinct a.start) e

abbrev many_rows : Value → List Row
many_rows (values.Many rows) = rows
many_rows _ = []

pub set-distinct : (f : Fragment) (w : World) (a : Accumulator) (j c : ℕ) (rows : List Row) → a.update ≡ updates.PushNew (elems.Field j c) → ends_as f w a ≡ Some (values.Many rows) → AreDistinct rows
set-distinct f w a j c rows is e = go (accumulated f w a) (accumulated_distinct f w a j c is) e
  where
    go : (o : Option (List Datum)) → ((v : List Datum) → o ≡ Some v → IsSet v) → option_map (source_value a.update a.opposite) o ≡ Some (values.Many rows) → AreDistinct rows
    go None set q = absurd cc
    go (Some v) set q =
        let p : values.Many (map row_of v) ≡ values.Many rows = ap (λ u. source_value u a.opposite v) (sym is) ∙ some_same (source_value a.update a.opposite v) (values.Many rows) q in
        subst AreDistinct (ap many_rows p) (set v refl).distinct

-- Whether two fragments have the same parts, as a test.
use Rattle.std.specs.Prelude.{ℕ, Bool, true, false, ◌&&◌, List, [], ◌∷◌, nat_eq}
use Rattle.std.specs.declared.option.Option.{Option}
use Rattle.std.specs.declared.option.Option.TheVariants.{Some, None}
use Rattle.qbs_base.specs.Columns.{same_ty}
use Rattle.qbs_base.specs.Scalar.{scalar_same}
use Rattle.qbs_base.specs.declared.scalar.Scalar.{Scalar}
use Rattle.qbs_base.specs.declared.scalar.Ty.{Ty}
use Rattle.tor_terms.specs.declared.term.Atom.{Atom}
use Rattle.tor_terms.specs.declared.term.Atom.TheVariants as atoms
use Rattle.tor_terms.specs.Plain.{Form}
use Rattle.tor_terms.specs.Same.{same_elem, same_flag, same_form, same_forms, same_numbers, same_way}
use Rattle.tor_terms.specs.Truth.{same_operand}
use Rattle.kernel_lang.specs.declared.parts.Col.{Col}
use Rattle.kernel_lang.specs.declared.parts.ListDef.{ListDef}
use Rattle.kernel_lang.specs.declared.parts.Update.{Update}
use Rattle.kernel_lang.specs.declared.parts.Update.TheVariants as updates
use Rattle.kernel_lang.specs.Plain.{Accumulator, Fragment}

-- two lists have as many members, and each two at one place pass the test
abbrev pub same_all : {A : Type 0} → (A → A → Bool) → List A → List A → Bool
same_all same [] [] = true
same_all same (x ∷ xs) (y ∷ ys) = same x y && same_all same xs ys
same_all same _ _ = false

abbrev pub same_key : Col → Col → Bool
same_key a b = nat_eq a.column b.column && same_flag a.down b.down

abbrev pub same_limit : Option ℕ → Option ℕ → Bool
same_limit None None = true
same_limit (Some m) (Some n) = nat_eq m n
same_limit _ _ = false

abbrev pub same_list : ListDef → ListDef → Bool
same_list a b = nat_eq a.table b.table && same_limit a.limit b.limit && same_all same_key a.keys b.keys

abbrev pub same_atom : Atom → Atom → Bool
same_atom (atoms.Less a b) (atoms.Less c d) = same_operand a c && same_operand b d
same_atom (atoms.Same a b) (atoms.Same c d) = same_operand a c && same_operand b d
same_atom (atoms.Truth a) (atoms.Truth b) = same_operand a b
same_atom (atoms.Member a m) (atoms.Member b n) = nat_eq m n && same_operand a b
same_atom (atoms.Flag m a) (atoms.Flag n b) = nat_eq m n && same_numbers a b
same_atom _ _ = false

abbrev pub same_update : Update → Update → Bool
same_update (updates.Push d) (updates.Push e) = same_elem d e
same_update (updates.PushNew d) (updates.PushNew e) = same_elem d e
same_update updates.Tick updates.Tick = true
same_update (updates.Plus d) (updates.Plus e) = same_elem d e
same_update (updates.Best v d) (updates.Best w e) = same_way v w && same_elem d e
same_update updates.Mark updates.Mark = true
same_update _ _ = false

abbrev pub same_start : Option Scalar → Option Scalar → Bool
same_start None None = true
same_start (Some x) (Some y) = scalar_same x y
same_start _ _ = false

abbrev pub same_guard : Option Form → Option Form → Bool
same_guard None None = true
same_guard (Some f) (Some g) = same_form f g
same_guard _ _ = false

-- all but guards and formulas
abbrev pub same_frame : Accumulator → Accumulator → Bool
same_frame a b =
    nat_eq a.base b.base && same_flag a.opposite b.opposite && same_update a.update b.update && same_start a.start b.start && same_numbers a.chain b.chain

abbrev pub same_accumulator : Accumulator → Accumulator → Bool
same_accumulator a b = same_frame a b && same_all same_guard a.guards b.guards && same_forms a.pool b.pool

abbrev pub same_types : List Ty → List Ty → Bool
same_types [] [] = true
same_types (x ∷ xs) (y ∷ ys) = same_ty x y && same_types xs ys
same_types _ _ = false

abbrev pub same_fragment : Fragment → Fragment → Bool
same_fragment f g =
    nat_eq f.known g.known && same_types f.entries g.entries && same_all same_list f.lists g.lists && same_all same_atom f.atoms g.atoms && same_all same_accumulator f.accs g.accs

-- The arguments of a known query: they are entry values, and the entries with their numbers have the types of the query's
-- parameters.
use Rattle.std.proofs.Common.{◌≡◌, ℕ, zero, suc, Bool, true, List, [], ◌∷◌, map, Some, refl, sym, ap, ◌∙◌, slice_get}
use Rattle.std.specs.List.{AllByRecursion, list_any}
use Rattle.std.proofs.lemmas.Bool.{and_parts}
use Rattle.qbs_base.specs.declared.columns.Column.{Column}
use Rattle.qbs_base.specs.declared.scalar.Ty.{Ty}
use Rattle.qbs_base.specs.declared.span.Span.{Span}
use Rattle.qbs_base.specs.Values.{Schema}
use Rattle.qbs_base.specs.Columns.{column_number, columns_at}
use Rattle.java_ast.specs.Tree as tree
use Rattle.java_ast.specs.Tree.{Expression, Expressions, Statements}
use Rattle.java_mean.specs.declared.types.JavaType.{JavaType}
use Rattle.java_mean.specs.declared.types.JavaType.TheVariants.{Of}
use Rattle.java_mean.specs.declared.types.Single.TheVariants.{ScalarOf, RowOf}
use Rattle.java_mean.specs.Types.{Types}
use Rattle.java_mean.specs.Typing.{Frame, HasType, var, field, HaveTypes, no_more, and, Extends}
use Rattle.loop_text.specs.Kernel.KernelConditions.{asked_for}
use Rattle.java_ast.specs.Names.{Names}
use Rattle.java_loops.specs.Kernel.KernelConditions.{is_entry, are_entries}
use Rattle.java_loops.specs.Kernel.Setting.{Setting}
use Rattle.java_loops.specs.Lowering.Lowered.{type_of_column, column_type, type_of_scalar, type_of_entry, numbers_of_arguments}
use Rattle.java_loops.specs.Lowering.Numbering.{found_number, with_all_new, same_entry, entries_among, all_leaves, arguments, arguments_asked, with_arguments, known_of, entries_of, entry_number}
use Rattle.java_loops.proofs.Known.KnownGiven.{same_itself}
use Rattle.java_loops.proofs.Numbers.NumberEntries.{IsEntryFrom, from_variable, from_field, entry_from}
use Rattle.java_loops.proofs.Numbers.NumberLists.{Numbered, numbered}
use Rattle.java_loops.proofs.Numbers.NumberSame.{NamesVariable, named, entry_variable, NamesField, named_field, entry_field_named}
use Rattle.java_loops.proofs.Valid.ValidNumbers.{any_with_all, all_added_there}
use Rattle.java_loops.proofs.Valid.ValidThere.{IsEntered}
use Rattle.java_loops.proofs.Valid.ValidVisits.{all_weaker}

-- ---- The type of one entry

variable_type : (c : Frame) (g : Types) (at : Span) (x : List ℕ) (k : JavaType) → HasType c g (tree.Var at x) k → g x ≡ Some k
variable_type c g _ _ _ (var at x k h) = h

-- the field of a row, which is a column of its table
record IsFieldTyped (c : Frame) (g : Types) (e : Expression) (f : List ℕ) (k : JavaType) : Type 0 where
  table : ℕ
  number : ℕ
  column : Column
  row : HasType c g e (Of (RowOf table))
  numbered : column_number (columns_at c.schema table) f ≡ Some number
  there : slice_get (columns_at c.schema table) number ≡ Some column
  type : k ≡ Of (ScalarOf column.ty)

field_typed : (c : Frame) (g : Types) (at : Span) (e : Expression) (f : List ℕ) (k : JavaType) → HasType c g (tree.Field at e f) k → IsFieldTyped c g e f k
field_typed c g _ _ _ _ (field at e f n i column t h u) = record { table = n; number = i; column = column; row = t; numbered = h; there = u; type = refl }

same_scalar : (a b : Ty) → Of (ScalarOf a) ≡ Of (ScalarOf b) → a ≡ b
same_scalar a b e = cc

-- an entry value has the entry's type wherever it is visible
entry_typed : (w : Setting) (c : Frame) (before : Types) (e : Expression) (ty : Ty) → c.schema ≡ w.schema → IsEntryFrom w e → Extends w.types before → HasType c before e (Of (ScalarOf ty)) → type_of_entry w.schema w.types e ≡ ty
entry_typed w c before _ ty same (from_variable at x ty' is updated) extends t = ap type_of_scalar (extends x (Of (ScalarOf ty)) (variable_type c before at x (Of (ScalarOf ty)) t))
entry_typed w c before _ ty same (from_field at at' x f table is updated) extends t =
    let k : IsFieldTyped c before (tree.Var at' x) f (Of (ScalarOf ty)) = field_typed c before at (tree.Var at' x) f (Of (ScalarOf ty)) t in
    ap (λ o. column_type w.schema o f) (extends x (Of (RowOf k.table)) (variable_type c before at' x (Of (RowOf k.table)) k.row))
    ∙ ap (λ z. type_of_column (slice_get (columns_at z k.table) (found_number (column_number (columns_at z k.table) f)))) (sym same)
    ∙ ap (λ o. type_of_column (slice_get (columns_at c.schema k.table) (found_number o))) k.numbered
    ∙ ap type_of_column k.there
    ∙ same_scalar k.column.ty ty (sym k.type)

-- ---- By its number

named_type : (schema : Schema) (types : Types) (x : List ℕ) (e : Expression) → NamesVariable x e → type_of_entry schema types e ≡ type_of_scalar (types x)
named_type schema types x _ (named at) = refl

field_named_type : (schema : Schema) (types : Types) (x f : List ℕ) (e : Expression) → NamesField x f e → type_of_entry schema types e ≡ column_type schema (types x) f
field_named_type schema types x f _ (named_field at at') = refl

-- expressions that are one entry have one type
same_type : (w : Setting) (e d : Expression) → IsEntryFrom w e → same_entry e d ≡ true → type_of_entry w.schema w.types d ≡ type_of_entry w.schema w.types e
same_type w _ d (from_variable at x ty is updated) h = named_type w.schema w.types x d (entry_variable at x d h)
same_type w _ d (from_field at at' x f table is updated) h = field_named_type w.schema w.types x f d (entry_field_named at at' x f d h)

mapped_at : {A B : Type 0} (f : A → B) (xs : List A) (k : ℕ) (x : A) → slice_get xs k ≡ Some x → slice_get (map f xs) k ≡ Some (f x)
mapped_at f [] k x h = absurd cc
mapped_at f (y ∷ xs) zero x h = let e : y ≡ x = cc in ap (λ z. Some (f z)) e
mapped_at f (y ∷ xs) (suc k) x h = mapped_at f xs k x h

-- the types of a fragment's entries
abbrev pub entry_types : Setting → List Ty
entry_types w = map (type_of_entry w.schema w.types) (entries_of w)

type_by_number : (w : Setting) (e : Expression) → IsEntryFrom w e → list_any (same_entry e) (entries_of w) ≡ true → slice_get (entry_types w) (entry_number (entries_of w) e) ≡ Some (type_of_entry w.schema w.types e)
type_by_number w e k h =
    let n : Numbered (same_entry e) (entries_of w) = numbered (same_entry e) (entries_of w) h in
    mapped_at (type_of_entry w.schema w.types) (entries_of w) (entry_number (entries_of w) e) n.item n.there ∙ ap Some (same_type w e n.item k n.passes)

-- ---- All arguments

-- The entries with the numbers of a query's arguments have the types of its parameters.
pub arguments_typed : (w : Setting) (c : Frame) (before : Types) (n : ℕ) (es : Expressions) (types : List Ty) → c.schema ≡ w.schema → are_entries w n es ≡ true → AllByRecursion (IsEntered (entries_of w)) (arguments es) → Extends w.types before → HaveTypes c before es types → map (slice_get (entry_types w)) (numbers_of_arguments (entries_of w) (arguments es)) ≡ map Some types
arguments_typed w c before n _ _ same h there extends no_more = refl
arguments_typed w c before n _ _ same h there extends (and e es ty types t ts) =
    let two = and_parts (is_entry w n e) (are_entries w n es) h in
    let k : IsEntryFrom w e = entry_from w n e two.0 in
    ap (λ o. o ∷ map (slice_get (entry_types w)) (numbers_of_arguments (entries_of w) (arguments es))) (type_by_number w e k (there.0 (same_itself w n e two.0)) ∙ ap Some (entry_typed w c before e ty same k extends t))
    ∙ ap (λ os. Some ty ∷ os) (arguments_typed w c before n es types same two.1 there.1 extends ts)

-- ---- They are entries of the fragment

arguments_kept : (run : Statements) (test : Expression → Bool) (es : List Expression) (xs : Names) → list_any test es ≡ true → list_any test (with_arguments run es xs) ≡ true
arguments_kept run test es [] h = h
arguments_kept run test es (x ∷ xs) h = arguments_kept run test (with_all_new same_entry es (arguments_asked (asked_for run x))) xs (any_with_all test same_entry es (arguments_asked (asked_for run x)) h)

abbrev AreEntered : Statements → List Expression → List ℕ → Type 0
AreEntered run entries x = AllByRecursion (IsEntered entries) (arguments_asked (asked_for run x))

entered_by : (run : Statements) (es : List Expression) (xs : Names) → AllByRecursion (AreEntered run (with_arguments run es xs)) xs
entered_by run es [] = tt
entered_by run es (x ∷ xs) =
    let more : List Expression = with_all_new same_entry es (arguments_asked (asked_for run x)) in
    (all_weaker (IsEntered more) (IsEntered (with_arguments run more xs)) (arguments_asked (asked_for run x)) (λ e h s. arguments_kept run (same_entry e) more xs (h s)) (all_added_there same_entry es (arguments_asked (asked_for run x))), entered_by run more xs)

-- The arguments of known queries are among the fragment's entries.
pub arguments_entered : (w : Setting) → AllByRecursion (λ x. AllByRecursion (IsEntered (entries_of w)) (arguments_asked (asked_for w.fragment.run x))) (known_of w)
arguments_entered w = entered_by w.fragment.run (entries_among w.sites [] (all_leaves w.sites)) (known_of w)

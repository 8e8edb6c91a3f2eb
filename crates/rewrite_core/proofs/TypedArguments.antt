-- The arguments of an ask have the types of the query's parameters.
use Rattle.std.proofs.Common.{◌≡◌, ℕ, zero, suc, true, List, [], ◌∷◌, map, slice_get, Some, refl, sym, ap, ◌∙◌, subst}
use Rattle.std.specs.List.{AllByRecursion}
use Rattle.qbs_base.specs.declared.scalar.Ty.{Ty}
use Rattle.qbs_base.specs.declared.span.Span.{Span}
use Rattle.java_ast.specs.Placed.{placed}
use Rattle.java_ast.specs.Tree as tree
use Rattle.java_ast.specs.Tree.{Expression}
use Rattle.java_mean.specs.declared.types.JavaType.{JavaType}
use Rattle.java_mean.specs.declared.types.JavaType.TheVariants.{Of}
use Rattle.java_mean.specs.declared.types.Single.TheVariants.{ScalarOf, RowOf}
use Rattle.qbs_base.specs.Columns.{column_number, columns_at}
use Rattle.java_mean.specs.Types.{Types}
use Rattle.java_mean.specs.Typing as typing
use Rattle.java_mean.specs.Typing.{Frame, HasType, HaveTypes}
use Rattle.java_mean.proofs.Puts.{name_same}
use Rattle.java_ast.specs.Names.{is_among, names_in, names_read}
use Rattle.java_loops.specs.Kernel.Setting.{Setting}
use Rattle.java_loops.specs.Lowering.Lowered.{type_of_column, column_type, type_of_scalar, type_of_entry}
use Rattle.java_loops.specs.Lowering.Numbering.{found_number}
use Rattle.java_loops.proofs.Known.KnownEntries.{IsColumn, FieldKnown}
use Rattle.java_loops.proofs.Known.KnownNumbers.{IsGoodEntry}
use Rattle.java_loops.proofs.Numbers.NumberEntries.{IsEntryFrom, from_variable, from_field, entry_from}
use Rattle.std.proofs.lemmas.Bool.{or_left}
use Rattle.rewrite_core.specs.Asked.{entry_at, arguments_of}
use Rattle.rewrite_core.proofs.Arguments.{entry_reads}

module _ (w : Setting) where
  -- the expression of an entry with a type
  pub record EntryThere (es : List Expression) (k : ℕ) (ty : Ty) : Type 0 where
    pub entry : Expression
    pub there : slice_get es k ≡ Some entry
    pub good : IsGoodEntry w entry
    pub type : type_of_entry w.schema w.types entry ≡ ty

  pub entry_there : (es : List Expression) → AllByRecursion (IsGoodEntry w) es → (k : ℕ) (ty : Ty) → slice_get (map (type_of_entry w.schema w.types) es) k ≡ Some ty → EntryThere es k ty
  entry_there [] h k ty e = absurd cc
  entry_there (d ∷ ds) h zero ty e = record { entry = d; there = refl; good = h.0; type = cc }
  entry_there (d ∷ ds) h (suc k) ty e = let r : EntryThere ds k ty = entry_there ds h.1 k ty e in record { entry = r.entry; there = r.there; good = r.good; type = r.type }

module _ (w : Setting) (c : Frame) (same : c.schema ≡ w.schema) (g : Types) (at : Span) where
  -- the types agree on what an expression reads
  abbrev Agree : Expression → Type 0
  Agree e = (x : List ℕ) (k : JavaType) → is_among (names_in e) x ≡ true → w.types x ≡ Some k → g x ≡ Some k

  named_first : (x : List ℕ) → is_among (x ∷ []) x ≡ true
  named_first x = or_left _ _ (name_same x)

  -- an entry value has the entry's type
  entry_typed : (e : Expression) → IsEntryFrom w e → FieldKnown w.schema w.types e → Agree e → HasType c g (placed at e) (Of (ScalarOf (type_of_entry w.schema w.types e)))
  entry_typed _ (from_variable at' x ty is steady) known agree =
      subst (λ z. HasType c g (tree.Var at x) (Of (ScalarOf z))) (sym (ap type_of_scalar is)) (typing.var at x (Of (ScalarOf ty)) (agree x (Of (ScalarOf ty)) (named_first x) is))
  entry_typed _ (from_field at' at'' x f n is steady) known agree =
      let k : IsColumn w.schema n f = known n is in
      let type : type_of_entry w.schema w.types (tree.Field at' (tree.Var at'' x) f) ≡ k.column.ty = ap (λ o. column_type w.schema o f) is ∙ ap (λ o. type_of_column (slice_get (columns_at w.schema n) (found_number o))) k.numbered ∙ ap type_of_column k.there in
      subst (λ z. HasType c g (tree.Field at (tree.Var at x) f) (Of (ScalarOf z))) (sym type)
      (typing.field at (tree.Var at x) f n k.number k.column (typing.var at x (Of (RowOf n)) (agree x (Of (RowOf n)) (named_first x) is))
      (ap (λ z. column_number (columns_at z n) f) same ∙ k.numbered) (ap (λ z. slice_get (columns_at z n) k.number) same ∙ k.there))

  good_typed : (e : Expression) → IsGoodEntry w e → Agree e → HasType c g (placed at e) (Of (ScalarOf (type_of_entry w.schema w.types e)))
  good_typed e k agree = entry_typed e (entry_from w k.number e k.entry) k.known agree

  -- Arguments have the types of their entries.
  pub arguments_typed : (es : List Expression) → AllByRecursion (IsGoodEntry w) es → ((x : List ℕ) (k : JavaType) → is_among (names_read es) x ≡ true → w.types x ≡ Some k → g x ≡ Some k) → (ks : List ℕ) (types : List Ty) → map (slice_get (map (type_of_entry w.schema w.types) es)) ks ≡ map Some types → HaveTypes c g (arguments_of at es ks) types
  arguments_typed es h agree [] [] e = typing.no_more
  arguments_typed es h agree [] (ty ∷ types) e = absurd cc
  arguments_typed es h agree (k ∷ ks) [] e = absurd cc
  arguments_typed es h agree (k ∷ ks) (ty ∷ types) e =
      let both : slice_get (map (type_of_entry w.schema w.types) es) k ∷ map (slice_get (map (type_of_entry w.schema w.types) es)) ks ≡ Some ty ∷ map Some types = e in
      let first : slice_get (map (type_of_entry w.schema w.types) es) k ≡ Some ty = cc in
      let rest : map (slice_get (map (type_of_entry w.schema w.types) es)) ks ≡ map Some types = cc in
      let i : EntryThere w es k ty = entry_there w es h k ty first in
      let value : HasType c g (placed at i.entry) (Of (ScalarOf ty)) = subst (λ z. HasType c g (placed at i.entry) (Of (ScalarOf z))) i.type (good_typed i.entry i.good (λ x j a t. agree x j (entry_reads es k i.entry i.there x a) t)) in
      typing.and (entry_at at (slice_get es k)) (arguments_of at es ks) ty types (subst (λ o. HasType c g (entry_at at o) (Of (ScalarOf ty))) (sym i.there) value) (arguments_typed es h agree ks types rest)

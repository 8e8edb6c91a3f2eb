-- The arguments of an ask break no rule where what entry values read is visible with its type.
use Rattle.std.proofs.Common.{◌≡◌, ℕ, true, not, List, [], ◌∷◌, ◌++◌, map, slice_get, Option, Some, refl, sym, ap, ◌∙◌, subst}
use Rattle.std.specs.List.{AllByRecursion}
use Rattle.std.specs.Option.{option_map}
use Rattle.std.proofs.lemmas.Bool.{or_left}
use Rattle.qbs_base.specs.Columns.{column_number, columns_at, same_ty}
use Rattle.qbs_base.specs.declared.columns.Column.{Column}
use Rattle.qbs_base.specs.declared.scalar.Ty.{Ty}
use Rattle.qbs_base.specs.declared.scalar.Ty.TheVariants as tys
use Rattle.qbs_base.specs.declared.span.Span.{Span}
use Rattle.qbs_base.specs.Values.{Schema}
use Rattle.sql_ast.specs.Tree.{PlainQuery}
use Rattle.java_ast.specs.Placed.{placed}
use Rattle.java_ast.specs.Tree as tree
use Rattle.java_ast.specs.Tree.{Spelled, Expression, Expressions}
use Rattle.java_mean.specs.declared.rule.TypeRule.TheVariants as rules
use Rattle.java_mean.specs.declared.rule.TypeFault.{TypeFault}
use Rattle.java_mean.specs.declared.types.JavaType.{JavaType}
use Rattle.java_mean.specs.declared.types.JavaType.TheVariants.{Of}
use Rattle.java_mean.specs.declared.types.Single.TheVariants.{ScalarOf, RowOf}
use Rattle.java_mean.specs.Places.{in_expression, in_expressions}
use Rattle.java_mean.specs.declared.types.Kindred.TheVariants.{Only}
use Rattle.java_mean.specs.Rules.{type_of, column_in, type_at_number, is_none, only_if, unless, at_of, unknown_column, arguments, same_length}
use Rattle.java_mean.specs.Visible.{Visible, is_visible, type_at}
use Rattle.java_mean.specs.WellTyped.{marked, faults_in}
use Rattle.java_mean.proofs.Puts.{name_same}
use Rattle.java_types.proofs.Kept.{faults_in-append}
use Rattle.java_ast.specs.Names.{is_among, names_in, names_read}
use Rattle.java_loops.specs.Kernel.Setting.{Setting}
use Rattle.java_loops.specs.Lowering.Lowered.{type_of_column, column_type, type_of_scalar, type_of_entry}
use Rattle.java_loops.specs.Lowering.Numbering.{found_number}
use Rattle.java_loops.proofs.Known.KnownEntries.{IsColumn, FieldKnown}
use Rattle.java_loops.proofs.Known.KnownNumbers.{IsGoodEntry}
use Rattle.java_loops.proofs.Numbers.NumberEntries.{IsEntryFrom, from_variable, from_field, entry_from}
use Rattle.rewrite_core.specs.Asked.{entry_at, arguments_of}
use Rattle.rewrite_core.proofs.Arguments.{entry_reads}
use Rattle.rewrite_core.proofs.TypedArguments.{EntryThere, entry_there}

pub ty_itself : (ty : Ty) → same_ty ty ty ≡ true
ty_itself tys.Long = refl
ty_itself tys.Bool = refl
ty_itself tys.Text = refl

module _ (schema : Schema) (read : List ℕ → Option PlainQuery) (r : Option Spelled) (vs : Visible) where
  -- an expression is a scalar of the type by its head, and breaks no rule
  record IsFine (e : Expression) (ty : Ty) : Type 0 where
    kind : type_of schema vs e ≡ Some (Only (Of (ScalarOf ty)))
    none : faults_in schema read r (in_expression vs e) ≡ []

  -- arguments break no rule, and are of these types
  pub record AreFine (es : Expressions) (types : List Ty) : Type 0 where
    pub none : faults_in schema read r (in_expressions vs es) ≡ []
    pub match : arguments schema vs types es ≡ []
    pub many : same_length types es ≡ true

  variable_none : (at : Span) (x : List ℕ) → is_visible vs x ≡ true → faults_in schema read r (in_expression vs (tree.Var at x)) ≡ []
  variable_none at x h = ap (λ b. (marked rules.Unknown (only_if (not b) at) ++ []) ++ []) h

  module _ (w : Setting) (same : w.schema ≡ schema) (at : Span) where
    -- what an expression reads is visible, with its type at the loop
    abbrev Sees : Expression → Type 0
    Sees e = (x : List ℕ) (k : JavaType) → is_among (names_in e) x ≡ true → w.types x ≡ Some k → (is_visible vs x ≡ true) × (type_at vs x ≡ Some k)

    named_first : (x : List ℕ) → is_among (x ∷ []) x ≡ true
    named_first x = or_left _ _ (name_same x)

    entry_fine : (e : Expression) → IsEntryFrom w e → FieldKnown w.schema w.types e → Sees e → IsFine (placed at e) (type_of_entry w.schema w.types e)
    entry_fine _ (from_variable at' x ty is steady) known sees =
        let v = sees x (Of (ScalarOf ty)) (named_first x) is in
        record {
          kind = ap (option_map Only) v.1 ∙ ap (λ z. Some (Only (Of (ScalarOf z)))) (sym (ap type_of_scalar is));
          none = variable_none at x v.0;
        }
    entry_fine _ (from_field at' at'' x f n is steady) known sees =
        let v = sees x (Of (RowOf n)) (named_first x) is in
        let k : IsColumn w.schema n f = known n is in
        let row : type_of schema vs (tree.Var at x) ≡ Some (Only (Of (RowOf n))) = ap (option_map Only) v.1 in
        let column : column_in schema (Some (Only (Of (RowOf n)))) f ≡ Some k.column.ty =
        ap (λ z. type_at_number (columns_at z n) (column_number (columns_at z n) f)) (sym same) ∙ ap (type_at_number (columns_at w.schema n)) k.numbered ∙ ap (option_map (λ (c : Column). c.ty)) k.there in
        let type : type_of_entry w.schema w.types (tree.Field at' (tree.Var at'' x) f) ≡ k.column.ty = ap (λ o. column_type w.schema o f) is ∙ ap (λ o. type_of_column (slice_get (columns_at w.schema n) (found_number o))) k.numbered ∙ ap type_of_column k.there in
        let rest : List TypeFault = faults_in schema read r (in_expression vs (tree.Var at x)) in
        record {
          kind =
              ap (λ o. option_map (λ (ty : Ty). Only (Of (ScalarOf ty))) (column_in schema o f)) row
              ∙ ap (option_map (λ (ty : Ty). Only (Of (ScalarOf ty)))) column
              ∙ ap (λ z. Some (Only (Of (ScalarOf z)))) (sym type);
          none =
              ap (λ o. (marked rules.Unknown (unknown_column schema o f at) ++ []) ++ rest) row
              ∙ ap (λ o. (marked rules.Unknown (only_if (is_none o) at) ++ []) ++ rest) column
              ∙ variable_none at x v.0;
        }

    -- Arguments for entries of the parameters' types break no rule.
    pub arguments_fine : (es : List Expression) → AllByRecursion (IsGoodEntry w) es → ((x : List ℕ) (k : JavaType) → is_among (names_read es) x ≡ true → w.types x ≡ Some k → (is_visible vs x ≡ true) × (type_at vs x ≡ Some k)) → (ks : List ℕ) (types : List Ty) → map (slice_get (map (type_of_entry w.schema w.types) es)) ks ≡ map Some types → AreFine (arguments_of at es ks) types
    arguments_fine es h sees [] [] e = record { none = refl; match = refl; many = refl }
    arguments_fine es h sees [] (ty ∷ types) e = absurd cc
    arguments_fine es h sees (k ∷ ks) [] e = absurd cc
    arguments_fine es h sees (k ∷ ks) (ty ∷ types) e =
        let both : slice_get (map (type_of_entry w.schema w.types) es) k ∷ map (slice_get (map (type_of_entry w.schema w.types) es)) ks ≡ Some ty ∷ map Some types = e in
        let first : slice_get (map (type_of_entry w.schema w.types) es) k ≡ Some ty = cc in
        let rest : map (slice_get (map (type_of_entry w.schema w.types) es)) ks ≡ map Some types = cc in
        let i : EntryThere w es k ty = entry_there w es h k ty first in
        let fine : IsFine (placed at i.entry) (type_of_entry w.schema w.types i.entry) = entry_fine i.entry (entry_from w i.good.number i.entry i.good.entry) i.good.known (λ x j a t. sees x j (entry_reads es k i.entry i.there x a) t) in
        let here : IsFine (entry_at at (slice_get es k)) ty = subst (λ o. IsFine (entry_at at o) ty) (sym i.there) (subst (IsFine (placed at i.entry)) i.type fine) in
        let more : AreFine (arguments_of at es ks) types = arguments_fine es h sees ks types rest in
        let a : Expression = entry_at at (slice_get es k) in
        let others : Expressions = arguments_of at es ks in
        record {
          none = faults_in-append schema read r (in_expression vs a) (in_expressions vs others) ∙ ap (λ fs. fs ++ faults_in schema read r (in_expressions vs others)) here.none ∙ more.none;
          match =
              ap (λ o. unless o (Of (ScalarOf ty)) (at_of a) ++ arguments schema vs types others) here.kind
              ∙ ap (λ b. only_if (not b) (at_of a) ++ arguments schema vs types others) (ty_itself ty)
              ∙ more.match;
          many = more.many;
        }

-- Columns of a lowered fragment have the types of the fields that they stand for, where loops walk rows of their tables.
use Rattle.std.proofs.Common.{◌≡◌, ℕ, zero, suc, Bool, true, false, List, [], ◌∷◌, length, take, Some, refl, sym, ap, ◌∙◌, cond, slice_get}
use Rattle.std.specs.List.{filter}
use Rattle.qbs_base.specs.declared.columns.Column.{Column}
use Rattle.qbs_base.specs.declared.scalar.Ty.{Ty}
use Rattle.qbs_base.specs.Values.{Schema}
use Rattle.qbs_base.specs.Columns.{column_number, columns_at}
use Rattle.java_ast.specs.Tree.{Expression}
use Rattle.java_mean.specs.declared.types.JavaType.{JavaType}
use Rattle.java_mean.specs.declared.types.JavaType.TheVariants.{Of}
use Rattle.java_mean.specs.declared.types.Single.TheVariants.{ScalarOf, RowOf}
use Rattle.java_mean.specs.Typing.{Frame, HasType}
use Rattle.kernel_lang.specs.Typed.{column_type, table_column, list_column, operand_type}
use Rattle.java_loops.specs.Kernel.Kernel.{lowering}
use Rattle.loop_text.specs.Kernel.KernelConditions.{is_row_column}
use Rattle.loop_text.specs.Statements.Loops.{is_loop}
use Rattle.java_loops.specs.Lowering.Lowered.{list_of, lists_of}
use Rattle.java_loops.specs.Lowering.Numbering.{loop_number, found_number, table_of_site, table_of_loop, column_of, operand_of, operand_of_column}
use Rattle.java_loops.specs.Kernel.Setting.{Setting}
use Rattle.loop_text.specs.Sites.Sites.{Site, Round, RowColumn}
use Rattle.java_loops.proofs.Valid.ValidLoop.{Checked}
use Rattle.java_loops.proofs.Valid.ValidShapes.{RowSeen, column_seen, ColumnAt, column_at}
use Rattle.java_loops.proofs.Valid.ValidVisits.{Visited}

-- the rows of a loop are those of its table
abbrev pub OfTable : Setting → ℕ → JavaType → Type 0
OfTable w j k = k ≡ Of (RowOf (table_of_site w.schema (slice_get w.sites j)))

-- ---- Lists of loops

here_step : (w : Setting) (s : Site) (ss : List Site) (b : Bool) → is_loop s.statement ≡ b → b ≡ true → slice_get (cond b (list_of w s.statement ∷ lists_of w ss) (lists_of w ss)) 0 ≡ Some (list_of w s.statement)
here_step w s ss true e h = refl
here_step w s ss false e h = absurd cc

later_step : (w : Setting) (t : Site) (ss : List Site) (j : ℕ) (b : Bool) → slice_get (cond b (list_of w t.statement ∷ lists_of w ss) (lists_of w ss)) (length (cond b (t ∷ filter (λ (z : Site). is_loop z.statement) (take j ss)) (filter (λ (z : Site). is_loop z.statement) (take j ss)))) ≡ slice_get (lists_of w ss) (loop_number ss j)
later_step w t ss j true = refl
later_step w t ss j false = refl

-- the list of a loop has the loop's number
pub list_at : (w : Setting) (sites : List Site) (j : ℕ) (s : Site) → slice_get sites j ≡ Some s → is_loop s.statement ≡ true → slice_get (lists_of w sites) (loop_number sites j) ≡ Some (list_of w s.statement)
list_at w [] j s there h = absurd cc
list_at w (t ∷ ss) zero s there h =
    let same : t ≡ s = cc in
    here_step w t ss (is_loop t.statement) refl (ap (λ (z : Site). is_loop z.statement) same ∙ h) ∙ ap (λ (z : Site). Some (list_of w z.statement)) same
list_at w (t ∷ ss) (suc j) s there h = later_step w t ss j (is_loop t.statement) ∙ list_at w ss j s there h

-- ---- Columns of tables

pub column_there : (schema : Schema) (n i : ℕ) (column : Column) → slice_get (columns_at schema n) i ≡ Some column → table_column (slice_get schema n) i ≡ Some column.ty
column_there [] n i column h = absurd cc
column_there (t ∷ ts) zero i column h = ap column_type h
column_there (t ∷ ts) (suc n) i column h = column_there ts n i column h

same_table : (m n : ℕ) → Of (RowOf m) ≡ Of (RowOf n) → m ≡ n
same_table m n h = cc

column_type_at : (w : Setting) (c : Frame) → Checked w c → (r : Round) (q : RowColumn) (k : JavaType) (s : RowSeen (OfTable w) c w.sites r q k) → operand_type w.schema (lowering w).fragment (Rattle.tor_terms.specs.declared.term.Operand.TheVariants.Field (loop_number w.sites q.loop) (column_of w q)) ≡ Some s.column.ty
column_type_at w c is r q k s =
    let table : ℕ = table_of_site w.schema (slice_get w.sites q.loop) in
    let same : s.table ≡ table = same_table s.table table s.rows in
    let found : column_number (columns_at w.schema table) q.column ≡ Some s.number = ap (λ z. column_number (columns_at z table) q.column) (sym is.schema) ∙ ap (λ n. column_number (columns_at c.schema n) q.column) (sym same) ∙ s.found in
    let number : column_of w q ≡ s.number = ap found_number found in
    let there : slice_get (columns_at w.schema table) s.number ≡ Some s.column = ap (λ z. slice_get (columns_at z table) s.number) (sym is.schema) ∙ ap (λ n. slice_get (columns_at c.schema n) s.number) (sym same) ∙ s.there in
    let at : table ≡ table_of_loop w.schema s.walked.site.statement = ap (table_of_site w.schema) s.walked.there in
    ap (λ i. list_column w.schema (slice_get (lists_of w w.sites) (loop_number w.sites q.loop)) i) number
    ∙ ap (λ o. list_column w.schema o s.number) (list_at w w.sites q.loop s.walked.site s.walked.there s.walked.loops)
    ∙ ap (λ n. table_column (slice_get w.schema n) s.number) (sym at)
    ∙ column_there w.schema table s.number s.column there

same_scalar : (a b : Ty) → Of (ScalarOf a) ≡ Of (ScalarOf b) → b ≡ a
same_scalar a b h = cc

-- the operand of a field of a loop's row has the field's type
pub column_typed : (w : Setting) (c : Frame) → Checked w c → (n : ℕ) (v : Visited (OfTable w) c w.types w.sites n) (entries : List Expression) (e : Expression) (ty : Ty) → HasType c v.now e (Of (ScalarOf ty)) → is_row_column w.sites n e ≡ true → operand_type w.schema (lowering w).fragment (operand_of w entries n e) ≡ Some ty
column_typed w c is n v entries e ty t h =
    let q : ColumnAt w.sites n e = column_at w.sites n e h in
    let s : RowSeen (OfTable w) c w.sites v.site.round q.column (Of (ScalarOf ty)) = column_seen (OfTable w) c w.types w.sites n v e (Of (ScalarOf ty)) q.column t q.is in
    ap (λ o. operand_type w.schema (lowering w).fragment (operand_of_column w entries e o)) q.is ∙ column_type_at w c is v.site.round q.column (Of (ScalarOf ty)) s ∙ ap Some (same_scalar ty s.column.ty s.type)

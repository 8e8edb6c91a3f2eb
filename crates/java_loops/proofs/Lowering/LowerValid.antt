-- The lowered fragment of a loop of a well-typed program is valid.
use Rattle.std.proofs.Common.{◌≡◌, ℕ, Bool, true, false, List, Option, Some, None, refl, ap}
use Rattle.qbs_base.specs.Values.{Schema}
use Rattle.sql_ast.specs.Tree.{PlainQuery}
use Rattle.java_ast.specs.Tree.{PlainProgram}
use Rattle.java_mean.specs.Asks.{frame_of}
use Rattle.java_mean.specs.Numbers.{NumbersFit}
use Rattle.java_mean.specs.Types.{Types}
use Rattle.java_mean.specs.WellTyped.{IsWellTyped}
use Rattle.kernel_lang.specs.Validity as validity
use Rattle.kernel_lang.specs.Validity.{takes_a_column}
use Rattle.loop_text.specs.Statements.Fragment.{Fragment}
use Rattle.java_loops.specs.Kernel.Kernel.{broken, lowering, setting_at}
use Rattle.loop_text.specs.Kernel.KernelForms.{whole, column, Form, adds, sums, takes, marks, other, counts, form_of}
use Rattle.java_loops.specs.Kernel.KernelForms.{is_distinct}
use Rattle.java_loops.specs.Lowering.Lowered.{added, element_of, update_with}
use Rattle.java_loops.specs.Kernel.Setting.{Setting, setting_of}
use Rattle.loop_text.specs.Sites.Sites.{Round, RowColumn}
use Rattle.java_loops.proofs.Lowering.LowerChains.{HasType, checked, needed_seen, updated, at_setting}
use Rattle.java_loops.proofs.Placing.PlaceTyped.{FragmentThere}
use Rattle.java_loops.proofs.Valid.ValidFragment.{NeededTyped, lowering_unbroken}

column_added : (w : Setting) (q : RowColumn) (d : Bool) → takes_a_column (added d (element_of w (column q))) ≡ true
column_added w q true = refl
column_added w q false = refl

-- only lists take rows whole
columns_taken : (w : Setting) (x : List ℕ) (r : Round) (form : Form) → ((j : ℕ) → form ≡ adds (whole j) → is_distinct (w.types x) ≡ false) → takes_a_column (update_with w x r form) ≡ true
columns_taken w x r (adds (whole j)) h = ap (λ d. takes_a_column (added d (element_of w (whole j)))) (h j refl)
columns_taken w x r (adds (column q)) h = column_added w q (is_distinct (w.types x))
columns_taken w x r counts h = refl
columns_taken w x r (sums q) h = refl
columns_taken w x r (takes q) h = refl
columns_taken w x r (marks b) h = refl
columns_taken w x r other h = refl

needed_typed : (schema : Schema) (read : List ℕ → Option PlainQuery) (p : PlainProgram) (path : List ℕ) (f : Fragment) (g : Types) → IsWellTyped schema read p → FragmentThere schema read p path f g → broken (setting_of schema read g f) ≡ None → NeededTyped (setting_of schema read g f)
needed_typed schema read p path f g well there rules =
    let w : Setting = setting_of schema read g f in
    record {
      seen = λ x needed. let k : HasType (g x) = needed_seen schema read p path f g well there rules x needed in record { type = k.type; seen = k.is };
      columns = λ x u needed found. columns_taken w x u.site.round (form_of w.sites u.number u.site.statement) (updated schema read p path f g well there rules x u needed found).no_rows;
    }

-- The lowered fragment of one that breaks no rule of the kernel form is valid.
pub fragment_valid : (schema : Schema) (read : List ℕ → Option PlainQuery) (p : PlainProgram) (path : List ℕ) (f : Fragment) (g : Types) → IsWellTyped schema read p → FragmentThere schema read p path f g → broken (setting_of schema read g f) ≡ None → validity.broken (lowering (setting_of schema read g f)).fragment ≡ None
fragment_valid schema read p path f g well there rules =
    lowering_unbroken (setting_of schema read g f) (frame_of schema read there.place.method) (checked schema read p path f g well there rules) (needed_typed schema read p path f g well there rules)

-- The same, of the setting to whose loop a path leads.
pub fragments_valid : (schema : Schema) (read : List ℕ → Option PlainQuery) (p : PlainProgram) (path : List ℕ) (w : Setting) → IsWellTyped schema read p → NumbersFit p → setting_at schema read path p ≡ Some w → broken w ≡ None → validity.broken (lowering w).fragment ≡ None
fragments_valid schema read p path w well fits is rules = at_setting (λ z. validity.broken (lowering z).fragment ≡ None) schema read p path w well fits (λ f g. fragment_valid schema read p path f g well) is rules

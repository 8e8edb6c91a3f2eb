-- The run gives each known list of a loop that breaks no rule the answer of a query, whose text is one.
use Rattle.std.proofs.Common.{◌≡◌, ℕ, Bool, true, ◌&&◌, List, [], ◌∷◌, Option, Some, None, refl, ap, ◌∙◌}
use Rattle.std.specs.List.{AllByRecursion, list_all}
use Rattle.qbs_base.specs.Values.{Schema}
use Rattle.sql_ast.specs.Tree.{PlainQuery}
use Rattle.java_ast.specs.Tree.{PlainProgram}
use Rattle.java_mean.specs.Numbers.{NumbersFit}
use Rattle.java_mean.specs.WellTyped.{IsWellTyped}
use Rattle.java_loops.specs.Kernel.Kernel.{setting_at}
use Rattle.loop_text.specs.Kernel.KernelConditions.{Asked}
use Rattle.java_loops.specs.Kernel.KernelConditions.{is_column_query}
use Rattle.java_loops.specs.Lowering.Lowered.{query_asked}
use Rattle.lowering.specs.InCode.LoweredInCode.{has_query}
use Rattle.java_ast.specs.Names.{Names}
use Rattle.java_loops.specs.Lowering.Numbering.{numbers_of}
use Rattle.java_loops.specs.Kernel.Setting.{Setting, setting_of}
use Rattle.loop_text.specs.Statements.Setting.{is_found}
use Rattle.lowering.specs.InCode.Verdicts.{MayBeLowered}
use Rattle.java_loops.proofs.Known.KnownLists.{IsKnownList, known_list}
use Rattle.java_loops.proofs.Known.KnownNumbers.{IsGoodKnown, known_lists_good}
use Rattle.java_loops.proofs.Listed.ListedRows.{fragment_seen}
use Rattle.java_loops.proofs.Lowering.LowerChains.{at_setting}
use Rattle.java_loops.proofs.Lowering.LowerValid.{fragments_valid}
use Rattle.java_loops.proofs.Placing.PlaceLoop.{kernel_unbroken}

column_found : (o : Option PlainQuery) → is_column_query o ≡ true → is_found o ≡ true
column_found (Some q) h = refl
column_found None h = absurd cc

known_has_query : (w : Setting) (x : List ℕ) → IsGoodKnown w x → has_query w x ≡ true
known_has_query w x k =
    let l : IsKnownList w k.number x = known_list w k.number x k.known in
    ap (λ (o : Option Asked). is_found (query_asked w.read o)) l.is ∙ column_found (w.read l.asked.text) l.column

all_have_queries : (w : Setting) (xs : Names) → AllByRecursion (IsGoodKnown w) xs → list_all (has_query w) xs ≡ true
all_have_queries w [] h = refl
all_have_queries w (x ∷ xs) h = ap (λ (b : Bool). b && list_all (has_query w) xs) (known_has_query w x h.0) ∙ all_have_queries w xs h.1

-- The loop of a well-typed program to which a path leads may be lowered.
pub may_be_lowered : (schema : Schema) (read : List ℕ → Option PlainQuery) (p : PlainProgram) (path : List ℕ) (w : Setting) → IsWellTyped schema read p → NumbersFit p → setting_at schema read path p ≡ Some w → MayBeLowered w
may_be_lowered schema read p path w well fits is =
    record {
      valid = fragments_valid schema read p path w well fits is;
      known =
          at_setting (λ (z : Setting). list_all (has_query z) (numbers_of z).known ≡ true) schema read p path w well fits
          (λ f g there unbroken. all_have_queries (setting_of schema read g f) (numbers_of (setting_of schema read g f)).known (known_lists_good schema read f g (fragment_seen schema read p path f g well there) (kernel_unbroken (setting_of schema read g f) unbroken).conditions)) is;
    }

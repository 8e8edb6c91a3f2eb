-- The known queries of a loop of the kernel form are all found: by the rule for conditions each text has a query.
use Rattle.std.proofs.Common.{◌≡◌, ℕ, true, List, [], ◌∷◌, map, Option, Some, None, refl, sym, ap, ◌∙◌, subst}
use Rattle.std.specs.List.{AllByRecursion}
use Rattle.qbs_base.specs.Values.{Schema}
use Rattle.sql_ast.specs.Tree.{PlainQuery}
use Rattle.java_ast.specs.Names.{Names}
use Rattle.java_ast.specs.Tree.{PlainProgram}
use Rattle.java_mean.specs.Types.{Types}
use Rattle.java_mean.specs.WellTyped.{IsWellTyped}
use Rattle.loop_text.specs.Statements.Fragment.{Fragment}
use Rattle.java_loops.specs.Kernel.Kernel.{broken, lowering}
use Rattle.java_loops.specs.Kernel.KernelConditions.{is_column_query}
use Rattle.java_loops.specs.Kernel.Setting.{Setting, setting_of}
use Rattle.java_loops.specs.Lowering.Lowered.{query_asked}
use Rattle.java_loops.specs.Lowering.Numbering.{known_of}
use Rattle.java_loops.proofs.Known.KnownLists.{IsKnownList, known_list}
use Rattle.java_loops.proofs.Known.KnownNumbers.{IsGoodKnown, known_lists_good}
use Rattle.java_loops.proofs.Listed.ListedRows.{fragment_seen}
use Rattle.java_loops.proofs.Lowering.LowerChains.{at_setting}
use Rattle.java_loops.proofs.Placing.PlaceLoop.{kernel_unbroken}
use Rattle.java_loops.proofs.Placing.PlaceTyped.{FragmentThere}
use Rattle.lowering.specs.Asked.{queries_in, IsKernelLoop}
use Rattle.lowering.proofs.Known.KnownList.{query_for}

column_found : (o : Option PlainQuery) → is_column_query o ≡ true → (q : PlainQuery) × (o ≡ Some q)
column_found None h = absurd cc
column_found (Some q) h = (q, refl)

query_found : (w : Setting) (x : List ℕ) → IsGoodKnown w x → (q : PlainQuery) × (query_for w x ≡ Some q)
query_found w x good =
    let k : IsKnownList w good.number x = known_list w good.number x good.known in
    let found = column_found (w.read k.asked.text) k.column in
    (found.0, ap (query_asked w.read) k.is ∙ found.1)

all_found : (w : Setting) (xs : Names) → AllByRecursion (IsGoodKnown w) xs → map (query_for w) xs ≡ map Some (queries_in (map (query_for w) xs))
all_found w [] good = refl
all_found w (x ∷ xs) good =
    let found = query_found w x good.0 in
    subst (λ o. (o ∷ map (query_for w) xs) ≡ map Some (queries_in (o ∷ map (query_for w) xs))) (sym found.1) (ap (λ os. Some found.0 ∷ os) (all_found w xs good.1))

found_there : (schema : Schema) (read : List ℕ → Option PlainQuery) (p : PlainProgram) (path : List ℕ) (f : Fragment) (g : Types) → IsWellTyped schema read p → FragmentThere schema read p path f g → broken (setting_of schema read g f) ≡ None → (lowering (setting_of schema read g f)).known ≡ map Some (queries_in (lowering (setting_of schema read g f)).known)
found_there schema read p path f g well there rules =
    let w : Setting = setting_of schema read g f in
    all_found w (known_of w) (known_lists_good schema read f g (fragment_seen schema read p path f g well there) (kernel_unbroken w rules).conditions)

pub queries_found : (schema : Schema) (read : List ℕ → Option PlainQuery) (p : PlainProgram) (path : List ℕ) (w : Setting) → IsKernelLoop schema read p path w → (lowering w).known ≡ map Some (queries_in (lowering w).known)
queries_found schema read p path w k =
    at_setting (λ (z : Setting). (lowering z).known ≡ map Some (queries_in (lowering z).known)) schema read p path w k.typed k.numbers (λ f g. found_there schema read p path f g k.typed) k.there k.unbroken

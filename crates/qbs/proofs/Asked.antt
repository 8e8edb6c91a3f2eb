-- A query that a text has is answered, and a text without one is refused.
use Rattle.std.proofs.Common.{◌≡◌, ℕ, ◌<◌, ◌^◌, List, Option, Some, None, Result, Err, length, refl, sym, ap, subst, ◌∙◌}
use Rattle.qbs_base.specs.Values.{Schema}
use Rattle.sql_ast.specs.Tree.{PlainQuery}
use Rattle.sql_ast.specs.Texts.{HasQuery}
use Rattle.sql_ast.proofs.InvertedQuery.{has_query_valid}
use Rattle.sql_exec.specs.Answered.{IsAnswerable}
use Rattle.sql_exec.proofs.Judged.{is_answerable}
use Rattle.java_mean.specs.Rules.{has_order}
use Rattle.java_types.specs.Texts.{read_by}
use Rattle.java_types.proofs.Found.{found_exactly}
use Rattle.deliveries.specs.declared.fetch.Stop.{Stop}
use Rattle.deliveries.specs.declared.plan.Plan.{Plan}
use Rattle.deliveries.specs.Code.{Goes, OrMemory}
use Rattle.plans.specs.Opening.{HasNoQuery}
use Rattle.qbs.specs.Code.{answer_of, answer_ordered}

pub answerable : (schema : Schema) (text : List ℕ) (q : PlainQuery) → length text < 2 ^ 64 → HasQuery schema text q → IsAnswerable q
answerable schema text q short has = is_answerable schema q (has_query_valid schema text q short has)

none_read : (tables : Schema) (text : List ℕ) (read : Option PlainQuery) → read_by tables text ≡ read → ((q : PlainQuery) → HasQuery tables text q → ⊥) → read_by tables text ≡ None
none_read tables text None is none = is
none_read tables text (Some q) is none = absurd (none q ((found_exactly tables text q).0 is))

pub unasked : {A : Type 0} (Is : A → Type 0) (tables : Schema) (texts : List (List ℕ)) (text : List ℕ) (stop : Stop) → Goes {A = A} (Err stop) Is (HasNoQuery tables text) →
    OrMemory (Err stop) (λ plan. plan ≡ answer_of tables texts (read_by tables text))
unasked Is tables texts text (Stop.Due plan) lacks =
    lacks.1 ∙ sym (ap (λ (q : Option PlainQuery). answer_of tables texts q) (none_read tables text (read_by tables text) refl lacks.0))
unasked Is tables texts text Stop.Memory lacks = tt

pub asked : (tables : Schema) (texts : List (List ℕ)) (text : List ℕ) (q : PlainQuery) (result : Result Plan Stop) → HasQuery tables text q →
    OrMemory result (λ plan. plan ≡ answer_ordered tables texts q (has_order (Some q))) → OrMemory result (λ plan. plan ≡ answer_of tables texts (read_by tables text))
asked tables texts text q result has h =
    let read : read_by tables text ≡ Some q = (found_exactly tables text q).1 has in
    subst (λ (found : Option PlainQuery). OrMemory result (λ plan. plan ≡ answer_of tables texts found)) (sym read) h

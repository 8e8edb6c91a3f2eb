-- The canonical text of a query of the schema has that query.
use Rattle.std.proofs.Common.{◌≡◌, ◌<◌, ◌^◌, Bool, true, List, [], ◌∷◌, map, length, Option, Some, None, Result, Ok, Err, refl, ap, ◌∙◌, if◌then◌else◌}
use Rattle.std.specs.List.{AllByRecursion}
use Rattle.qbs_base.specs.declared.scalar.Ty.{Ty}
use Rattle.qbs_base.specs.Values.{Schema}
use Rattle.sql_ast.specs.declared.rule.SqlRule.{SqlRule}
use Rattle.sql_ast.specs.declared.rule.SqlRule.TheVariants as rules
use Rattle.sql_ast.specs.declared.tree.FromItem.{FromItem}
use Rattle.sql_ast.specs.declared.tree.NumberKind.{NumberKind}
use Rattle.sql_ast.specs.declared.tree.NumberKind.TheVariants as kinds
use Rattle.sql_ast.specs.declared.tree.SqlCol.{SqlCol}
use Rattle.sql_ast.specs.declared.tree.SqlItem.{SqlItem}
use Rattle.sql_ast.specs.declared.tree.SqlItem.TheVariants as items
use Rattle.sql_ast.specs.declared.tree.SqlKey.{SqlKey}
use Rattle.sql_ast.specs.Canonical.{canonical}
use Rattle.sql_ast.specs.Names.{◌>>=◌, each_of, Scope, named_item, named_group, named_key, named_kind, outermost, named_query}
use Rattle.sql_ast.specs.Texts.{with_types, judged_named, judged, HasQuery}
use Rattle.sql_ast.specs.Tree.{PlainQuery, Listing, Number, Truth}
use Rattle.sql_ast.specs.Typing.{types_fit, group_fits, params_of, with_params}
use Rattle.sql_ast.specs.Valid.{IsItemOf, IsGroupOf, IsKeyOf, IsKindOf, HasNames, IsQueryOf}
use Rattle.sql_ast.specs.Written.{WrittenQuery}
use Rattle.sql_ast.proofs.Canon.{item_of, group_of, key_of, kind_of, written_of}
use Rattle.sql_ast.proofs.Resolved.{knowns, Found, items_known, froms_known, item_known, col_known, filter_known}
use Rattle.sql_ast.proofs.ShownQuery.{canonical_says}

abbrev scope_of : Schema → List FromItem → Scope
scope_of schema froms = outermost (knowns schema 1 froms)

q_item : (schema : Schema) (froms : List FromItem) (item : SqlItem) → length froms < 2 ^ 64 → IsItemOf schema froms item → named_item (scope_of schema froms) (item_of item) ≡ Some item
q_item schema froms (items.Whole n) few h = ap (λ (o : Option Found). o >>= λ f. (let x : Option SqlItem = Some (items.Whole f.0) in x)) (item_known schema froms (scope_of schema froms) n h.from refl few h.item)
q_item schema froms (items.Column col) few h = let c = col_known schema froms (scope_of schema froms) col refl few h in rw c refl

q_group : (schema : Schema) (froms : List FromItem) (group : Option SqlCol) → length froms < 2 ^ 64 → IsGroupOf schema froms group → named_group (scope_of schema froms) (group_of group) ≡ Some group
q_group schema froms None few h = refl
q_group schema froms (Some col) few h = let c = col_known schema froms (scope_of schema froms) col refl few h in rw c refl

q_keys : (schema : Schema) (froms : List FromItem) (keys : List SqlKey) → length froms < 2 ^ 64 → AllByRecursion (IsKeyOf schema froms) keys → each_of (named_key (scope_of schema froms)) (map key_of keys) ≡ Some keys
q_keys schema froms [] few h = refl
q_keys schema froms (key ∷ keys) few h =
    let c = col_known schema froms (scope_of schema froms) key.col refl few h.0.0 in
    let later = q_keys schema froms keys few h.1 in
    rw (c, later) refl

q_kind : (schema : Schema) (froms : List FromItem) (kind : NumberKind) → length froms < 2 ^ 64 → IsKindOf schema froms kind → named_kind (scope_of schema froms) (kind_of kind) ≡ Some kind
q_kind schema froms kinds.Count few h = refl
q_kind schema froms (kinds.Sum col other) few h = let c = col_known schema froms (scope_of schema froms) col refl few h.1.0 in rw c refl
q_kind schema froms (kinds.Max col other) few h = let c = col_known schema froms (scope_of schema froms) col refl few h.0 in rw c refl
q_kind schema froms (kinds.Min col other) few h = let c = col_known schema froms (scope_of schema froms) col refl few h.0 in rw c refl

-- names are found, without the parameters' types
query_known : (schema : Schema) (q : PlainQuery) → HasNames schema q → named_query schema (written_of q) ≡ (let x : Option PlainQuery = Some (with_params q []) in x)
query_known schema (Listing q) h =
    let few = h.items.few in
    let own = items_known schema [] q.from 0 refl h.items in
    let i = q_item schema q.from q.item few h.item in
    let f = filter_known schema q.from (length q.from) (scope_of schema q.from) q.filter refl refl few h.filter_ in
    let g = q_group schema q.from q.group few h.group in
    let k = q_keys schema q.from q.keys few h.keys in
    rw (own, i, f, g, k, froms_known schema 1 q.from) refl
query_known schema (Number q) h =
    let few = h.items.few in
    let own = items_known schema [] q.from 0 refl h.items in
    let k = q_kind schema q.from q.kind few h.kind in
    let f = filter_known schema q.from (length q.from) (scope_of schema q.from) q.filter refl refl few h.filter_ in
    rw (own, k, f, froms_known schema 1 q.from) refl
query_known schema (Truth q) h =
    let few = h.items.few in
    let own = items_known schema [] q.from 0 refl h.items in
    let f = filter_known schema q.from (length q.from) (scope_of schema q.from) q.filter refl refl few h.filter_ in
    rw (own, f, froms_known schema 1 q.from) refl

abbrev Judged : Type 0
Judged = Result PlainQuery SqlRule

judged_from : (schema : Schema) (w : WrittenQuery) (q : PlainQuery) (params : List Ty) → named_query schema w ≡ (let x : Option PlainQuery = Some q in x) → types_fit schema q ≡ true → group_fits q ≡ true → params_of schema q ≡ (let x : Option (List Ty) = Some params in x) → judged schema w ≡ (let x : Judged = Ok (with_params q params) in x)
judged_from schema w q params named types groups typed =
    ap (λ (o : Option PlainQuery). elim o as (λ _. Judged) [ Some q ↦ judged_named schema q | None ↦ Err rules.Unknown ]) named
    ∙ ap (λ (b : Bool). if b then (if group_fits q then with_types schema q else Err rules.BadGroup) else Err rules.Mismatch) types
    ∙ ap (λ (b : Bool). if b then with_types schema q else Err rules.BadGroup) groups
    ∙ ap (λ (o : Option (List Ty)). elim o as (λ _. Judged) [ Some params ↦ Ok (with_params q params) | None ↦ Err rules.BadParameter ]) typed

canonical_judged : (schema : Schema) (q : PlainQuery) → IsQueryOf schema q → judged schema (written_of q) ≡ Ok q
canonical_judged schema (Listing q) h = judged_from schema (written_of (Listing q)) (with_params (Listing q) []) q.params (query_known schema (Listing q) h.names) h.types h.groups h.params
canonical_judged schema (Number q) h = judged_from schema (written_of (Number q)) (with_params (Number q) []) q.params (query_known schema (Number q) h.names) h.types h.groups h.params
canonical_judged schema (Truth q) h = judged_from schema (written_of (Truth q)) (with_params (Truth q) []) q.params (query_known schema (Truth q) h.names) h.types h.groups h.params

pub canonical_has_query : (schema : Schema) (q : PlainQuery) → IsQueryOf schema q → HasQuery schema (canonical q) q
canonical_has_query schema q h = record { written = written_of q; says = canonical_says schema q h.names; meant = canonical_judged schema q h }

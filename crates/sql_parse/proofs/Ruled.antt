-- The rules that are looked at one after the other.
use Rattle.std.proofs.Common.{◌≡◌, ℕ, true, false, List, Option, Some, None, Result, Ok, Err, refl, sym, ap, ◌∙◌}
use Rattle.qbs_base.specs.declared.scalar.Ty.{Ty}
use Rattle.qbs_base.specs.Values.{Schema}
use Rattle.sql_ast.specs.declared.rule.SqlRule.{SqlRule}
use Rattle.sql_ast.specs.declared.rule.SqlRule.TheVariants as rules
use Rattle.sql_ast.specs.Texts.{judged_named, with_types}
use Rattle.sql_ast.specs.Tree.{PlainQuery, Listing, Number, Truth}
use Rattle.sql_ast.specs.Typing.{types_fit, group_fits, params_of, with_params, ty_of_param, filter_param, tys_up_to}
use Rattle.sql_parse.specs.Types.{from_in, filter_in}

params_are : (schema : Schema) (q : PlainQuery) → params_of schema q ≡ tys_up_to (ty_of_param schema (from_in q) (filter_in q)) (filter_param (filter_in q))
params_are schema (Listing q) = refl
params_are schema (Number q) = refl
params_are schema (Truth q) = refl

params_found : (schema : Schema) (q : PlainQuery) (params : ℕ → Option Ty) (last : ℕ) → params ≡ ty_of_param schema (from_in q) (filter_in q) → last ≡ filter_param (filter_in q) → params_of schema q ≡ tys_up_to params last
params_found schema q params last e h = params_are schema q ∙ sym (ap (λ (f : ℕ → Option Ty). tys_up_to f last) e ∙ ap (tys_up_to (ty_of_param schema (from_in q) (filter_in q))) h)

pub mismatched : (schema : Schema) (q : PlainQuery) → types_fit schema q ≡ false → judged_named schema q ≡ Err rules.Mismatch
mismatched schema q e = rw e refl

pub misgrouped : (schema : Schema) (q : PlainQuery) → types_fit schema q ≡ true → group_fits q ≡ false → judged_named schema q ≡ Err rules.BadGroup
misgrouped schema q e g = rw (e, g) refl

fitting : (schema : Schema) (q : PlainQuery) → types_fit schema q ≡ true → group_fits q ≡ true → judged_named schema q ≡ with_types schema q
fitting schema q e g = rw (e, g) refl

typed_by : (schema : Schema) (q : PlainQuery) (found : Option (List Ty)) → params_of schema q ≡ found → with_types schema q ≡ (elim found as (λ _. Result PlainQuery SqlRule) [ Some tys ↦ Ok (with_params q tys) | None ↦ Err rules.BadParameter ])
typed_by schema q found e = ap (λ (r : Option (List Ty)). elim r as (λ _. Result PlainQuery SqlRule) [ Some tys ↦ Ok (with_params q tys) | None ↦ Err rules.BadParameter ]) e

pub judged_well : (schema : Schema) (q : PlainQuery) (params : ℕ → Option Ty) (last : ℕ) (tys : List Ty) → types_fit schema q ≡ true → group_fits q ≡ true → params ≡ ty_of_param schema (from_in q) (filter_in q) → last ≡ filter_param (filter_in q)
    → tys_up_to params last ≡ Some tys → judged_named schema q ≡ Ok (with_params q tys)
judged_well schema q params last tys e g p h k = fitting schema q e g ∙ typed_by schema q (Some tys) (params_found schema q params last p h ∙ k)

pub untyped : (schema : Schema) (q : PlainQuery) (params : ℕ → Option Ty) (last : ℕ) → types_fit schema q ≡ true → group_fits q ≡ true → params ≡ ty_of_param schema (from_in q) (filter_in q) → last ≡ filter_param (filter_in q)
    → tys_up_to params last ≡ None → judged_named schema q ≡ Err rules.BadParameter
untyped schema q params last e g p h k = fitting schema q e g ∙ typed_by schema q None (params_found schema q params last p h ∙ k)

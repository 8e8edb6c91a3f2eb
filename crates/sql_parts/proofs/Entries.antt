-- The entries of an emitted query are the fragment's, and have the types of its parameters.
use Rattle.std.proofs.Common.{◌≡◌, ℕ, zero, suc, ◌<◌, List, [], ◌∷◌, map, length, slice_get, refl, sym, ap, ap₂, ◌∙◌, subst, arith}
use Rattle.std.specs.List.{AllByRecursion}
use Rattle.std.specs.declared.option.Option.{Option}
use Rattle.std.specs.declared.option.Option.TheVariants.{Some, None}
use Rattle.qbs_base.specs.declared.scalar.Ty.{Ty}
use Rattle.qbs_base.specs.Values.{Schema}
use Rattle.kernel_lang.specs.Plain.{Fragment}
use Rattle.kernel_lang.specs.Sentences.{IsValid}
use Rattle.kernel_lang.specs.Validity.{broken}
use Rattle.kernel_lang.proofs.Sentences.{valid}
use Rattle.sql_ast.specs.Tree.{Filter, PlainQuery, Listing, Number, Truth}
use Rattle.sql_ast.specs.Valid.{params_in}
use Rattle.sql_parts.specs.Emitted.{query_of}
use Rattle.sql_parts.specs.Given.{AreKnownTo, EntriesAreThere}
use Rattle.sql_build.specs.Types.{type_of}
use Rattle.sql_parts.specs.Numbered.{filter_in, filter_uses, first_uses, renumbered_filter, with_filter}
use Rattle.sql_parts.specs.Scopes.{ground}
use Rattle.sql_parts.proofs.Good.{filter_use}
use Rattle.sql_parts.proofs.Numbering.{FilterParam}
use Rattle.sql_parts.proofs.Ordered.{only_used}
use Rattle.sql_parts.proofs.Params.{where_param, filter_is}

lower : (m n : ℕ) → suc m < suc n → m < n
lower m n h = omega (arith, h)

typed_entry : (types : List Ty) (k : ℕ) → k < length types → slice_get types k ≡ Some (type_of (slice_get types k))
typed_entry [] k h = absurd (omega (arith, h))
typed_entry (t ∷ types) zero h = refl
typed_entry (t ∷ types) (suc k) h = typed_entry types k (lower k (length types) h)

typed_entries : (types : List Ty) (order : List ℕ) → AllByRecursion (λ k. k < length types) order → map (slice_get types) order ≡ map Some (map (λ k. type_of (slice_get types k)) order)
typed_entries types [] h = refl
typed_entries types (k ∷ order) h = ap₂ (λ (o : Option Ty) (os : List (Option Ty)). o ∷ os) (typed_entry types k h.0) (typed_entries types order h.1)

params_are : (q : PlainQuery) (f : Filter) (types : List Ty) → params_in (with_filter q f types) ≡ types
params_are (Listing q) f types = refl
params_are (Number q) f types = refl
params_are (Truth q) f types = refl

pub entries_are : (schema : Schema) (f : Fragment) (known : List PlainQuery) (args : List (List ℕ)) → broken f ≡ None → AreKnownTo schema f known args → EntriesAreThere schema f known args
entries_are schema f known args unbroken are cand m =
    let v : IsValid f = valid f unbroken in
    let q : PlainQuery = query_of (ground schema f cand known args) m in
    let order : List ℕ = first_uses [] (filter_uses (filter_in q)) in
    let params : FilterParam (λ k. k < length f.entries) (filter_in q) =
    subst (FilterParam (λ k. k < length f.entries)) (sym (filter_is schema f cand known args v are.each m)) (where_param schema f cand known args v are.each m) in
    let there : AllByRecursion (λ k. k < length f.entries) order = only_used (λ k. k < length f.entries) [] (filter_uses (filter_in q)) tt (filter_use (λ k. k < length f.entries) (filter_in q) params) in
    record {
      there = there;
      types = typed_entries f.entries order there
          ∙ ap (λ (ts : List Ty). map Some ts) (sym (params_are q (renumbered_filter order (filter_in q)) (map (λ k. type_of (slice_get f.entries k)) order)));
    }

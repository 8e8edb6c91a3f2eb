-- Emitted list queries are order complete.
use Rattle.std.proofs.Common.{◌≡◌, ℕ, true, ◌&&◌, List, [], ◌∷◌, length, slice_get, refl, ap₂, nat_eq}
use Rattle.std.specs.Str.{bytes_eq}
use Rattle.std.specs.declared.option.Option.TheVariants.{Some, None}
use Rattle.std.proofs.lemmas.Slice.Eq.{bytes_eq-Decides}
use Rattle.qbs_base.specs.Values.{Schema}
use Rattle.qbs_base.specs.declared.scalar.Ty.{Ty}
use Rattle.tor_terms.specs.declared.term.Elem.{Elem}
use Rattle.tor_terms.specs.declared.term.Elem.TheVariants as elems
use Rattle.kernel_lang.specs.declared.parts.Update.{Update}
use Rattle.kernel_lang.specs.declared.parts.Update.TheVariants as updates
use Rattle.kernel_lang.specs.Plain.{Fragment}
use Rattle.kernel_lang.specs.Pools.{Member, members}
use Rattle.kernel_lang.specs.Validity.{broken, one_unsorted_loop, loops_are_few, takes_a_column}
use Rattle.kernel_lang.proofs.Sentences.{valid}
use Rattle.kernel_lang.proofs.Listing.{all_at}
use Rattle.sql_ast.specs.Answers.{IsOrderComplete}
use Rattle.sql_ast.specs.Keys.{takes_column}
use Rattle.sql_ast.specs.Tree.{Filter, PlainQuery}
use Rattle.sql_parts.specs.Scopes.{Ground, ground, outermost, numbered, number_in, name_of, from_items}
use Rattle.sql_parts.specs.Emitted.{elem_col, item, query_by, query_of}
use Rattle.sql_parts.specs.Numbered.{with_filter, in_order}
use Rattle.sql_parts.proofs.Chosen.{names_all}
use Rattle.sql_parts.proofs.Flags.{column_taken}
use Rattle.sql_parts.proofs.Suited.{loops_few}
use Rattle.sql_parts.proofs.Tools.{eq_itself, or_left}
use Rattle.sql_parts.proofs.Valid.{IsValidMember, all_members}

pub one_loop : (f : Fragment) (js : List ℕ) → one_unsorted_loop f js ≡ true → (j : ℕ) × (js ≡ j ∷ [])
one_loop f [] h = absurd cc
one_loop f (j ∷ []) h = (j, refl)
one_loop f (j ∷ k ∷ js) h = absurd cc

same_itself : (n : ℕ) (name : List ℕ) (k : ℕ) → (nat_eq n n && (bytes_eq name name && nat_eq k k)) ≡ true
same_itself n name k = ap₂ (λ a b. a && b) (eq_itself n) (ap₂ (λ a b. a && b) ((bytes_eq-Decides name name).1 refl) (eq_itself k))

pub takes_itself : (g : Ground) (js : List ℕ) (e : Elem) → takes_a_column (updates.PushNew e) ≡ true → takes_column (elem_col g (outermost js) e) (item g (outermost js) e) ≡ true
takes_itself g js (elems.Whole j) h = absurd cc
takes_itself g js (elems.Field j k) h = same_itself (number_in (numbered 0 js) j) (name_of g j k) k

by_update : (g : Ground) (f : Fragment) (m : Member) (u : Update) (filter_ filter' : Filter) (types : List Ty) → loops_are_few f m.0.chain u ≡ true → takes_a_column u ≡ true → IsOrderComplete (with_filter (query_by u g m filter_) filter' types)
by_update g f m (updates.Push e) filter_ filter' types few takes = names_all g m.0.chain
by_update g f m (updates.PushNew e) filter_ filter' types few takes =
    let one = one_loop f m.0.chain few in
    or_left _ _ (ap₂ (λ (js : List ℕ) b. nat_eq (length (from_items g js)) 1 && b && true) one.1 (takes_itself g m.0.chain e takes))
by_update g f m updates.Tick filter_ filter' types few takes = refl
by_update g f m (updates.Plus e) filter_ filter' types few takes = refl
by_update g f m (updates.Best way e) filter_ filter' types few takes = refl
by_update g f m updates.Mark filter_ filter' types few takes = refl

pub complete : (schema : Schema) (f : Fragment) (cand : List ℕ) (known : List PlainQuery) (args : List (List ℕ)) (acc : ℕ) (m : Member) → broken f ≡ None → slice_get (members f cand) acc ≡ Some m
    → IsOrderComplete (in_order f.entries (query_of (ground schema f cand known args) m)).query
complete schema f cand known args acc m unbroken there =
    let ok : IsValidMember f m = all_at (IsValidMember f) (members f cand) acc m (all_members f cand (valid f unbroken)) there in
    by_update (ground schema f cand known args) f m m.0.update _ _ _ (loops_few f m.0 ok.valid) (column_taken f m.0 ok.valid)

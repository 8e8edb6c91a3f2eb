-- A flag's condition, as the code makes it.
use Rattle.std.proofs.Common.{◌≡◌, ℕ, ◌<◌, List, [], ◌∷◌, ◌++◌, map, length, Option, Result, Ok, Err, IfOk, Some, refl, sym, ap, ap₂, ◌∙◌, subst, arith}
use Rattle.std.specs.Global.{Box}
use Rattle.qbs_base.specs.declared.memory.NoMemory.{NoMemory}
use Rattle.tor_terms.specs.Plain.{Form}
use Rattle.kernel_lang.specs.Pools.{Member}
use Rattle.sql_ast.specs.declared.tree.Cond.{Cond}
use Rattle.sql_ast.specs.declared.tree.FromItem.{FromItem}
use Rattle.sql_ast.specs.Reading.{condition, inner_filter}
use Rattle.sql_ast.specs.Tree.{Filter, Everything, Exists}
use Rattle.sql_parts.specs.Emitted.{formula, joined, limits, best_tests, conditions, no_flag, flag_loops, flag_exists, flag_condition, where_of}
use Rattle.sql_parts.specs.Reading.{scope_by, all_also}
use Rattle.sql_parts.proofs.Also.{also_append, also_joined}
use Rattle.sql_parts.specs.Scopes.{Ground, Scope, outermost, inner, from_items}

inner_is : (own outer : List ℕ) → 0 < length outer → scope_by own outer ≡ inner (outermost outer) own
inner_is own [] h = absurd (omega (arith, h))
inner_is own (j ∷ outer) h = refl

pub exists_ok : (g : Ground) (own outer round : List ℕ) (m : Member) (n : ℕ) (from : List FromItem) (f : Filter) (r : Result (Box Cond) NoMemory) → round ≡ [] → 0 < length outer → own ≡ flag_loops m → n ≡ length outer
    → f ≡ joined (conditions no_flag g (scope_by own outer) n own m) → from ≡ from_items g own → IfOk r (λ c. condition c.value ≡ Exists from f) → IfOk r (λ c. condition c.value ≡ flag_exists g (scope_by outer round) (Some m))
exists_ok g own outer round m n from f (Err e) none some loops number filter_is from_is h = tt
exists_ok g own outer round m n from f (Ok c) none some loops number filter_is from_is h =
    h ∙ ap₂ Exists (from_is ∙ ap (from_items g) loops)
    (filter_is ∙ ap₂ (λ (s : Scope) k. joined (conditions no_flag g s k own m)) (inner_is own outer some) number ∙ ap (λ (ks : List ℕ). joined (conditions no_flag g (inner (outermost outer) ks) (length outer) ks m)) loops)
    ∙ ap (λ (ks : List ℕ). flag_exists g (scope_by outer ks) (Some m)) (sym none)

where_ok : (g : Ground) (m : Member) (f h : Filter) (r : Result (Option (Box Cond)) NoMemory) → f ≡ all_also Everything (limits g 0 m.0.chain) → h ≡ all_also f (map (formula (flag_condition g) g (outermost m.0.chain)) m.1)
    → IfOk r (λ o. inner_filter o ≡ all_also h (best_tests g (outermost m.0.chain) m.0.update m.0.start)) → IfOk r (λ o. inner_filter o ≡ where_of g m)
where_ok g m f h (Err e) first second third = tt
where_ok g m f h (Ok o) first second third =
    third
    ∙ ap (λ (x : Filter). all_also x (best_tests g (outermost m.0.chain) m.0.update m.0.start)) (second ∙ ap (λ (x : Filter). all_also x (map (formula (flag_condition g) g (outermost m.0.chain)) m.1)) first)
    ∙ sym (also_append Everything (limits g 0 m.0.chain) (map (formula (flag_condition g) g (outermost m.0.chain)) m.1 ++ best_tests g (outermost m.0.chain) m.0.update m.0.start)
    ∙ also_append (all_also Everything (limits g 0 m.0.chain)) (map (formula (flag_condition g) g (outermost m.0.chain)) m.1) (best_tests g (outermost m.0.chain) m.0.update m.0.start))
    ∙ also_joined (limits g 0 m.0.chain ++ (map (formula (flag_condition g) g (outermost m.0.chain)) m.1 ++ best_tests g (outermost m.0.chain) m.0.update m.0.start))

pub where_from : (g : Ground) (m : Member) (js : List ℕ) (fs : List Form) (f h : Filter) (r : Result (Option (Box Cond)) NoMemory) → js ≡ m.0.chain → fs ≡ m.1 → f ≡ all_also Everything (limits g 0 js)
    → h ≡ all_also f (map (formula (flag_condition g) g (outermost js)) fs) → IfOk r (λ o. inner_filter o ≡ all_also h (best_tests g (outermost js) m.0.update m.0.start)) → IfOk r (λ o. inner_filter o ≡ where_of g m)
where_from g m js fs f h r loops choice first second third =
    where_ok g m f h r (first ∙ ap (λ (ks : List ℕ). all_also Everything (limits g 0 ks)) loops)
    (second ∙ ap₂ (λ (ks : List ℕ) (xs : List Form). all_also f (map (formula (flag_condition g) g (outermost ks)) xs)) loops choice)
    (subst (λ (ks : List ℕ). IfOk r (λ o. inner_filter o ≡ all_also h (best_tests g (outermost ks) m.0.update m.0.start))) loops third)

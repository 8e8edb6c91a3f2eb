-- Rows in the order of keys.
use Rattle.std.proofs.Common.{◌≡◌, ℕ, ◌+◌, ◌<◌, Bool, false, not, ◌&&◌, ◌||◌, List, [], ◌∷◌, length, drop, get_or, refl, ap, OnOk, Result, Ok, Err}
use Rattle.std.specs.Cmp.{IsStrictWeakOrder}
use Rattle.std.specs.List.Sorted.{IsSortedBy, IsStableBy}
use Rattle.qbs_base.specs.declared.scalar.Row.{Row}
use Rattle.qbs_base.specs.Scalar.{value_before}
use Rattle.qbs_base.specs.Sort.{stable_sort}
use Rattle.qbs_base.specs.Values.{Schema}
use Rattle.qbs_base.proofs.Order.{stable_sort_is}
use Rattle.qbs_base.proofs.Scalars.{value_order}
use Rattle.qbs_base.proofs.Then.{then_order, turned_order}
use Rattle.java_mean.specs.Expression.{cell}
use Rattle.java_mean.specs.Statement.{in_order}
use Rattle.java_steps.proofs.Columns.{next_item}
use Rattle.java_steps.specs.Words.{key_before}

by_column : (schema : Schema) (key : List ℕ) → IsStrictWeakOrder (λ (a b : Row). value_before (cell schema a key) (cell schema b key))
by_column schema key = record { one_way = λ a b. value_order.one_way (cell schema a key) (cell schema b key); chain = λ a b c. value_order.chain (cell schema a key) (cell schema b key) (cell schema c key) }

key_order : (schema : Schema) (key : List ℕ) (down : Bool) → IsStrictWeakOrder (key_before schema key down)
key_order schema key down = turned_order down (λ (a b : Row). value_before (cell schema a key) (cell schema b key)) (by_column schema key)

pub order_of_keys : (schema : Schema) (keys : List (List ℕ)) (downs : List Bool) → IsStrictWeakOrder (in_order schema keys downs)
order_of_keys schema [] downs = record { one_way = λ a b h. refl; chain = λ a b c h k. refl }
order_of_keys schema (key ∷ keys) [] = record { one_way = λ a b h. refl; chain = λ a b c h k. refl }
order_of_keys schema (key ∷ keys) (down ∷ downs) = then_order (key_before schema key down) (in_order schema keys downs) (key_order schema key down) (order_of_keys schema keys downs)

-- without keys, or without more directions, no row is before another
pub no_keys : (schema : Schema) (keys : List (List ℕ)) (downs : List Bool) (a b : Row) → keys ≡ [] → in_order schema keys downs a b ≡ false
no_keys schema keys downs a b e = ap (λ ks. in_order schema ks downs a b) e

pub no_downs : (schema : Schema) (keys : List (List ℕ)) (downs : List Bool) (a b : Row) → downs ≡ [] → in_order schema keys downs a b ≡ false
no_downs schema [] downs a b e = refl
no_downs schema (key ∷ keys) downs a b e = ap (λ ds. in_order schema (key ∷ keys) ds a b) e

-- the keys from the one with this number on
pub in_order_step : (schema : Schema) (keys : List (List ℕ)) (downs : List Bool) (i : ℕ) (key : List ℕ) (down : Bool) (a b : Row) → i < length keys → key ≡ get_or keys i key → i < length downs → down ≡ get_or downs i down → in_order schema (drop i keys) (drop i downs) a b ≡ (key_before schema key down a b || (not (key_before schema key down b a) && in_order schema (drop (i + 1) keys) (drop (i + 1) downs) a b))
in_order_step schema keys downs i key down a b h e g f = rw (next_item keys i key h e, next_item downs i down g f) refl

-- a sort by the order
pub sort_ok : {E S : Type 0} (schema : Schema) (keys : List (List ℕ)) (downs : List Bool) (us vs : List Row) (r : Result (Unit {0}) E) → OnOk r S → (S → IsSortedBy (in_order schema keys downs) vs) → IsStableBy (in_order schema keys downs) us vs → OnOk r (vs ≡ stable_sort (in_order schema keys downs) us)
sort_ok schema keys downs us vs (Ok x) s h t = stable_sort_is (in_order schema keys downs) (order_of_keys schema keys downs) us vs (h s) t
sort_ok schema keys downs us vs (Err e) s h t = tt

-- The order of keys, and the sort of lent rows by it.
use Rattle.std.proofs.Common.{◌≡◌, ℕ, Bool, List, [], ◌∷◌, Bor, Result, OnOk, Ok, Err, slice_get, refl, ap, ◌∙◌}
use Rattle.std.specs.Cmp.{IsStrictWeakOrder}
use Rattle.std.specs.List.Sorted.{IsSortedBy, IsStableBy}
use Rattle.qbs_base.specs.declared.scalar.Row.{Row}
use Rattle.qbs_base.specs.Scalar.{value_before}
use Rattle.qbs_base.specs.Sort.{stable_sort}
use Rattle.qbs_base.proofs.Mapped.{map_sort}
use Rattle.qbs_base.proofs.Order.{stable_sort_is}
use Rattle.qbs_base.proofs.Scalars.{value_order}
use Rattle.qbs_base.proofs.Then.{then_order, turned_order}
use Rattle.kernel_lang.specs.declared.parts.Col.{Col}
use Rattle.kernel_lang.specs.Given.{key_before, before}
use Rattle.kernel_interp.specs.Reading.{rows_seen}

by_column : (c : ℕ) → IsStrictWeakOrder (λ (r s : Row). value_before (slice_get r.cells c) (slice_get s.cells c))
by_column c = record { one_way = λ r s. value_order.one_way (slice_get r.cells c) (slice_get s.cells c); chain = λ r s t. value_order.chain (slice_get r.cells c) (slice_get s.cells c) (slice_get t.cells c) }

key_order : (key : Col) → IsStrictWeakOrder (key_before key)
key_order key = turned_order key.down (λ (r s : Row). value_before (slice_get r.cells key.column) (slice_get s.cells key.column)) (by_column key.column)

before_order : (keys : List Col) → IsStrictWeakOrder (before keys)
before_order [] = record { one_way = λ r s h. refl; chain = λ r s t h k. refl }
before_order (key ∷ keys) = then_order (key_before key) (before keys) (key_order key) (before_order keys)

-- of lent rows
abbrev pub lent_before : List Col → Bor Row → Bor Row → Bool
lent_before keys r s = before keys r.now s.now

pub lent_order : (keys : List Col) → IsStrictWeakOrder (lent_before keys)
lent_order keys = let o : IsStrictWeakOrder (before keys) = before_order keys in record { one_way = λ r s h. o.one_way r.now s.now h; chain = λ r s t h k. o.chain r.now s.now t.now h k }

sorted_is : (keys : List Col) (rs ss : List (Bor Row)) → IsSortedBy (lent_before keys) ss → IsStableBy (lent_before keys) rs ss → rows_seen ss ≡ stable_sort (before keys) (rows_seen rs)
sorted_is keys rs ss s t = ap rows_seen (stable_sort_is (lent_before keys) (lent_order keys) rs ss s t) ∙ map_sort (before keys) (λ (r : Bor Row). r.now) rs

pub sort_ok : {E S : Type 0} (keys : List Col) (rs ss : List (Bor Row)) (r : Result (Unit {0}) E) → OnOk r S → (S → IsSortedBy (lent_before keys) ss) → IsStableBy (lent_before keys) rs ss → OnOk r (rows_seen ss ≡ stable_sort (before keys) (rows_seen rs))
sort_ok keys rs ss (Ok x) s h t = sorted_is keys rs ss (h s) t
sort_ok keys rs ss (Err e) s h t = tt

-- The orders of scalars are orders.
use Rattle.std.proofs.Common.{◌≡◌, Bool, true, false, refl}
use Rattle.std.specs.Cmp.{IsStrictWeakOrder, bool_cmp_total}
use Rattle.std.specs.Cmp.Lexicographic.{nat_list_cmp_total, slice_cmp}
use Rattle.std.specs.Ordering.{nat_cmp, int_cmp, bool_cmp, is_lt, is_eq}
use Rattle.std.specs.declared.option.Option.{Option}
use Rattle.std.specs.declared.option.Option.TheVariants.{Some, None}
use Rattle.std.proofs.lemmas.Cmp.{int_cmp_total}
use Rattle.std.proofs.lemmas.List.MinMax.{ranks_by}
use Rattle.qbs_base.specs.declared.scalar.Scalar.{Scalar}
use Rattle.qbs_base.specs.declared.scalar.Scalar.TheVariants.{Long, Bool as Truth, Text}
use Rattle.qbs_base.specs.Scalar.{scalar_before, value_before}

numbers : IsStrictWeakOrder (λ x y. is_lt (int_cmp x y))
numbers = ranks_by int_cmp_total (λ x. x)

truths : IsStrictWeakOrder (λ x y. is_lt (bool_cmp x y))
truths = ranks_by bool_cmp_total (λ x. x)

texts : IsStrictWeakOrder (λ x y. is_lt (slice_cmp nat_cmp x y))
texts = ranks_by nat_list_cmp_total (λ x. x)

before_one_way : (x y : Scalar) → scalar_before x y ≡ true → scalar_before y x ≡ false
before_one_way (Long x) (Long y) h = numbers.one_way x y h
before_one_way (Long x) (Truth y) h = refl
before_one_way (Long x) (Text y) h = refl
before_one_way (Truth x) (Long y) h = absurd cc
before_one_way (Truth x) (Truth y) h = truths.one_way x y h
before_one_way (Truth x) (Text y) h = refl
before_one_way (Text x) (Long y) h = absurd cc
before_one_way (Text x) (Truth y) h = absurd cc
before_one_way (Text x) (Text y) h = texts.one_way x y h

before_chain : (x y z : Scalar) → scalar_before x y ≡ false → scalar_before y z ≡ false → scalar_before x z ≡ false
before_chain (Long x) (Long y) (Long z) h k = numbers.chain x y z h k
before_chain (Truth x) (Truth y) (Truth z) h k = truths.chain x y z h k
before_chain (Text x) (Text y) (Text z) h k = texts.chain x y z h k
before_chain (Long x) (Long y) (Truth z) h k = absurd cc
before_chain (Long x) (Long y) (Text z) h k = absurd cc
before_chain (Long x) (Truth y) z h k = absurd cc
before_chain (Long x) (Text y) z h k = absurd cc
before_chain (Truth x) (Long y) (Long z) h k = refl
before_chain (Truth x) (Long y) (Truth z) h k = absurd cc
before_chain (Truth x) (Long y) (Text z) h k = absurd cc
before_chain (Truth x) (Truth y) (Long z) h k = refl
before_chain (Truth x) (Truth y) (Text z) h k = absurd cc
before_chain (Truth x) (Text y) z h k = absurd cc
before_chain (Text x) (Long y) (Long z) h k = refl
before_chain (Text x) (Long y) (Truth z) h k = absurd cc
before_chain (Text x) (Long y) (Text z) h k = absurd cc
before_chain (Text x) (Truth y) (Long z) h k = refl
before_chain (Text x) (Truth y) (Truth z) h k = refl
before_chain (Text x) (Truth y) (Text z) h k = absurd cc
before_chain (Text x) (Text y) (Long z) h k = refl
before_chain (Text x) (Text y) (Truth z) h k = refl

pub before_order : IsStrictWeakOrder scalar_before
before_order = record { one_way = before_one_way; chain = before_chain }

value_one_way : (x y : Option Scalar) → value_before x y ≡ true → value_before y x ≡ false
value_one_way None None h = refl
value_one_way None (Some y) h = refl
value_one_way (Some x) None h = absurd cc
value_one_way (Some x) (Some y) h = before_one_way x y h

value_chain : (x y z : Option Scalar) → value_before x y ≡ false → value_before y z ≡ false → value_before x z ≡ false
value_chain None None None h k = refl
value_chain None None (Some z) h k = absurd cc
value_chain None (Some y) z h k = absurd cc
value_chain (Some x) None None h k = refl
value_chain (Some x) None (Some z) h k = absurd cc
value_chain (Some x) (Some y) None h k = refl
value_chain (Some x) (Some y) (Some z) h k = before_chain x y z h k

pub value_order : IsStrictWeakOrder value_before
value_order = record { one_way = value_one_way; chain = value_chain }

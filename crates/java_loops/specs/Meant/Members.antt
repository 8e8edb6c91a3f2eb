-- Lists that are matched member by member, lists with the same members, and what a fragment is given but for the order of its
-- known lists.
use Rattle.std.specs.Prelude.{◌≡◌, List, [], ◌∷◌}
use Rattle.std.specs.List.{list_any}
use Rattle.qbs_base.specs.declared.scalar.Scalar.{Scalar}
use Rattle.qbs_base.specs.Scalar.{scalar_same}
use Rattle.kernel_lang.specs.declared.parts.Entry.{Entry}

-- as many members of both lists, and each of the first is so to that of the second
abbrev pub AreMatched : {A B : Type 0} → (A → B → Type 0) → List A → List B → Type 0
AreMatched r [] [] = Unit {0}
AreMatched r (x ∷ xs) (y ∷ ys) = r x y × AreMatched r xs ys
AreMatched r _ _ = ⊥

-- each scalar is in one list exactly where it is in the other
abbrev pub HaveSameMembers : List Scalar → List Scalar → Type 0
HaveSameMembers xs ys = (x : Scalar) → list_any (scalar_same x) xs ≡ list_any (scalar_same x) ys

-- Both have the same entry values and as many known lists, and each known list has the members of the other's with its
-- number.
pub record SameButForOrder (a b : Entry) : Type 0 where
  pub values : a.values ≡ b.values
  pub known : AreMatched HaveSameMembers a.known b.known

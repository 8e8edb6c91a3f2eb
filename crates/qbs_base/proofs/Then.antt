-- Tests one after the other are an order where each is, and so is a test turned round.
use Rattle.std.proofs.Common.{◌≡◌, Bool, true, false, cond, not, ◌&&◌, ◌||◌, refl}
use Rattle.std.specs.Cmp.{IsStrictWeakOrder}
use Rattle.std.specs.List.Sorted.{ties}
use Rattle.std.proofs.lemmas.List.Sorted.{IsStrictWeakOrder-flip}
use Rattle.qbs_base.specs.Sort.{then_by, turned}

-- a first test, and where it ties a second
module _ {X : Type 0} (a b : X → X → Bool) (p : IsStrictWeakOrder a) (q : IsStrictWeakOrder b) where
  then_one_way : (x y : X) → then_by a b x y ≡ true → then_by a b y x ≡ false
  then_one_way x y = go (a x y) (a y x) (b x y) (b y x) (p.one_way x y) (q.one_way x y)
    where
      go : (s t u v : Bool) → (s ≡ true → t ≡ false) → (u ≡ true → v ≡ false) → (s || (not t && u)) ≡ true → (t || (not s && v)) ≡ false
      go true true u v f g h = f refl
      go true false u v f g h = refl
      go false true u v f g h = cc
      go false false true v f g h = g refl
      go false false false v f g h = cc

  then_chain : (x y z : X) → then_by a b x y ≡ false → then_by a b y z ≡ false → then_by a b x z ≡ false
  then_chain x y z = go (a x y) (a y x) (a y z) (a z y) (a x z) (a z x) (b x y) (b y z) (b x z) (p.chain x y z) (p.chain z x y) (p.chain y z x) (q.chain x y z)
    where
      go : (xy yx yz zy xz zx s t u : Bool) → (xy ≡ false → yz ≡ false → xz ≡ false) → (zx ≡ false → xy ≡ false → zy ≡ false) → (yz ≡ false → zx ≡ false → yx ≡ false) → (s ≡ false → t ≡ false → u ≡ false)
          → (xy || (not yx && s)) ≡ false → (yz || (not zy && t)) ≡ false → (xz || (not zx && u)) ≡ false
      go true yx yz zy xz zx s t u f g i j h k = cc
      go false yx true zy xz zx s t u f g i j h k = cc
      go false yx false zy true zx s t u f g i j h k = f refl refl
      go false yx false zy false true s t u f g i j h k = refl
      go false true false zy false false s t u f g i j h k = let e : true ≡ false = i refl refl in cc
      go false false false true false false s t u f g i j h k = let e : true ≡ false = g refl refl in cc
      go false false false false false false s t u f g i j h k = j h k

  pub then_order : IsStrictWeakOrder (then_by a b)
  then_order = record { one_way = then_one_way; chain = then_chain }

pub ties_then_first : {X : Type 0} (a b : X → X → Bool) (x y : X) → ties (then_by a b) x y ≡ true → ties a x y ≡ true
ties_then_first a b x y = go (a x y) (a y x) (b x y) (b y x)
  where
    go : (s t u v : Bool) → (not (s || (not t && u)) && not (t || (not s && v))) ≡ true → (not s && not t) ≡ true
    go false false u v h = refl
    go true t u v h = cc
    go false true true v h = cc
    go false true false v h = cc

pub ties_then_next : {X : Type 0} (a b : X → X → Bool) (x y : X) → ties (then_by a b) x y ≡ true → ties b x y ≡ true
ties_then_next a b x y = go (a x y) (a y x) (b x y) (b y x)
  where
    go : (s t u v : Bool) → (not (s || (not t && u)) && not (t || (not s && v))) ≡ true → (not u && not v) ≡ true
    go false false u v h = h
    go true t u v h = cc
    go false true u v h = cc

-- a test turned round, where it is down
pub turned_order : {X : Type 0} (down : Bool) (lt : X → X → Bool) → IsStrictWeakOrder lt → IsStrictWeakOrder (turned down lt)
turned_order true lt o = IsStrictWeakOrder-flip lt o
turned_order false lt o = o

-- Numbers of 64 bits.
use Rattle.std.proofs.Common.{◌≡◌, ℤ, Bool, true, false, if◌then◌else◌, Some, None, refl}
use Rattle.qbs_base.specs.Values.{fits_long}
use Rattle.kernel_steps.specs.Stops.{long_or_none}

pub some_long : (n m : ℤ) → Some n ≡ long_or_none m → (n ≡ m) × (fits_long m ≡ true)
some_long n m e = go (fits_long m) refl e
  where
    go : (b : Bool) → fits_long m ≡ b → Some n ≡ (if b then Some m else None) → (n ≡ m) × (fits_long m ≡ true)
    go true f h = (cc, f)
    go false f h = absurd cc

pub no_long : (m : ℤ) → None ≡ long_or_none m → fits_long m ≡ false
no_long m e = go (fits_long m) refl e
  where
    go : (b : Bool) → fits_long m ≡ b → None ≡ (if b then Some m else None) → fits_long m ≡ false
    go true f h = absurd cc
    go false f h = f

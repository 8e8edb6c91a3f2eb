-- Numbers of the code have 64 bits.
use Rattle.std.proofs.Common.{◌≡◌, ◌^◌, ℤ, pos, negsuc, true, w64}
use Rattle.std.proofs.lemmas.Bool.{lt-ltb}
use mir.Val.{SFits}
use Rattle.qbs_base.specs.Values.{fits_long}

pub long_fits : (n : ℤ) → SFits w64 n → fits_long n ≡ true
long_fits (pos n) f = lt-ltb n (2 ^ 63) f.sfits
long_fits (negsuc n) f = lt-ltb n (2 ^ 63) f.sfits

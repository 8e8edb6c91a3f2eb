-- The place of a fault in a text.
use Rattle.std.specs.Prelude.{ℕ}
use Rattle.deriv_check.specs.declared.fault.BundleFault.{BundleFault}

abbrev pub offset_in : BundleFault → ℕ
offset_in fault = fault.offset

use Rattle.std.proofs.Common.{◌≡◌, Some, drop}
use Rattle.std.specs.List.{list_all}
use Rattle.kernel_lang.specs.Typed.{scalar_type, same_type}
use Rattle.kernel_interp.proofs.fits.are_of_type.Given as goal

abbrev pub invariant-loop-x : goal.invariant-loop-x
invariant-loop-x l = list_all (λ x. same_type l.ty (Some (scalar_type x))) l.xs ≡ list_all (λ x. same_type l.ty (Some (scalar_type x))) (drop l.x-index l.xs)

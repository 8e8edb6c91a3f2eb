-- What a fragment ends with, from what its accumulators give.
use Rattle.std.proofs.Common.{◌≡◌, List, Option, sym, ap, ◌∙◌}
use Rattle.std.specs.declared.result.Result.{Result}
use Rattle.std.specs.declared.result.Result.TheVariants.{Ok, Err}
use Rattle.qbs_base.specs.declared.scalar.Value.{Value}
use Rattle.kernel_steps.specs.declared.end.FragmentEnd.{FragmentEnd}
use Rattle.kernel_steps.specs.declared.end.Stop.{Stop}
use Rattle.kernel_steps.specs.declared.end.Stop.TheVariants as stops
use Rattle.kernel_steps.specs.Stops.{EndsWith}
use Rattle.kernel_interp.specs.Ends.{GivesValues, end_of}

pub end_given : (r : Result (List Value) Stop) (end : FragmentEnd) (o : Option (List Value)) → GivesValues r o → EndsWith r end → end_of end ≡ o
end_given (Ok vs) end o h e = ap end_of e ∙ sym h
end_given (Err stops.Overflow) end o h e = ap end_of e ∙ sym h
end_given (Err stops.NoMemory) end o h e = absurd e

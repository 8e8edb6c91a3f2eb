use Rattle.std.proofs.Common.{◌≡◌, drop, map}
use Rattle.std.specs.List.{AllByRecursion}
use Rattle.kernel_lang.specs.Plain.{accumulator}
use Rattle.kernel_lang.specs.Running.{all_end}
use Rattle.kernel_interp.specs.Ends.{IsReady}
use Rattle.kernel_interp.specs.Reading.{world_of, plain_of}
use Rattle.kernel_interp.proofs.Ended.{prefixed}
use Rattle.kernel_interp.proofs.fragment.all_end.Given as goal

abbrev pub invariant-loop-acc : goal.invariant-loop-acc
invariant-loop-acc l = record {
  left : prefixed l.values (all_end (plain_of l.setting) (world_of l.setting) (map accumulator (drop l.acc-index l.accs))) ≡ all_end (plain_of l.setting) (world_of l.setting) (map accumulator l.accs);
  ready : AllByRecursion (IsReady (world_of l.setting)) (map accumulator (drop l.acc-index l.accs));
}

-- What a pruner answers.
use Rattle.std.specs.Prelude.{Bool, true, false}
use Rattle.std.specs.declared.option.Option.{Option}
use Rattle.std.specs.declared.option.Option.TheVariants.{Some, None}
use Rattle.std.specs.declared.result.Result.{Result}
use Rattle.std.specs.declared.result.Result.TheVariants.{Ok, Err}
use Rattle.qbs_base.specs.declared.memory.NoMemory.{NoMemory}
use Rattle.kernel_lang.specs.declared.prune.PruneAnswer.{PruneAnswer}
use Rattle.kernel_lang.specs.declared.prune.PruneAnswer.TheVariants as answers

-- from whether a candidate is refuted; none where it isn't judged
abbrev pub answer_of : Option (Result Bool NoMemory) → PruneAnswer
answer_of None = answers.Keep
answer_of (Some (Ok true)) = answers.Drop
answer_of (Some (Ok false)) = answers.Keep
answer_of (Some (Err e)) = answers.NoMemory

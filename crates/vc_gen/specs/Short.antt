-- Accumulators of at most three loops.
use Rattle.std.specs.Prelude.{◌≤◌, List, length}
use Rattle.std.specs.List.{AllByRecursion}
use Rattle.kernel_lang.specs.declared.parts.Acc.{Acc}

abbrev pub AllShort : List Acc → Type 0
AllShort accs = AllByRecursion (λ a. length a.chain ≤ 3) accs

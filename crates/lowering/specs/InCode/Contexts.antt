-- What a fragment is lowered from, as the code holds it.
use Rattle.lowering.specs.declared.lowering.context.Context.{Context}
use Rattle.lowering.specs.InCode.Counted.{numbers_in_code, AreNumbersOf}
use Rattle.java_loops.specs.Lowering.Numbering.{Numbers}
use Rattle.lowering.specs.InCode.Reading.{setting_in_code}
use Rattle.java_loops.specs.Kernel.Setting.{Setting}
use Rattle.lowering.specs.InCode.Tallied.{AreCountsOf}

abbrev pub setting_given : Context → Setting
setting_given c = setting_in_code c.setting.now

abbrev pub numbers_given : Context → Numbers
numbers_given c = numbers_in_code c.numbers.now

-- the numbers and the counts are those of the setting, and few
pub record IsNumbered (c : Context) : Type 0 where
  pub counted : AreCountsOf (setting_given c) c.counts.now
  pub numbers : AreNumbersOf (setting_given c) (numbers_given c)

-- Loops, accumulators and flags that are few enough for their numbers to have 32 bits, and the numbers of a fragment as the
-- code holds them.
use Rattle.std.specs.Prelude.{◌≡◌, ◌≤◌, ◌<◌, ◌+◌, length}
use Rattle.std.specs.declared.option.Option.{Option}
use Rattle.std.specs.declared.option.Option.TheVariants.{Some, None}
use Rattle.loop_text.specs.Statements.Fragment.{accumulators}
use Rattle.loop_text.specs.Kernel.KernelLists.{count_loops}
use Rattle.java_loops.specs.Lowering.Numbering.{Numbers, numbers_of, count_flags}
use Rattle.loop_text.specs.Sites.Reading.{exprs_lent}
use Rattle.java_ast.specs.Names.{names_lent}
use Rattle.java_loops.specs.Kernel.Setting.{Setting}
use Rattle.lowering.specs.declared.numbering.numbers.Numbers as code

abbrev pub numbers_in_code : code.Numbers → Numbers
numbers_in_code t = record { entries = exprs_lent t.entries; known = names_lent t.known; atoms = t.atoms }

-- at most 256 loops, and 8 accumulators and flags
pub record HasFewLoops (w : Setting) : Type 0 where
  pub loops : count_loops w.sites ≤ 256
  pub accs : length (accumulators w.fragment) + count_flags w.sites ≤ 8

-- the numbers of the setting, of which there are few
pub record AreNumbersOf (w : Setting) (t : Numbers) : Type 0 where
  pub are : t ≡ numbers_of w
  pub entries : length t.entries ≤ 9
  pub known : length t.known ≤ 24
  pub atoms : length t.atoms ≤ 24

-- the numbers of the setting, if there are few
abbrev pub AreFewNumbersOf : Setting → Option code.Numbers → Type 0
AreFewNumbersOf w (Some t) = AreNumbersOf w (numbers_in_code t)
AreFewNumbersOf w None = (length (numbers_of w).entries ≤ 9 → 24 < length (numbers_of w).atoms)

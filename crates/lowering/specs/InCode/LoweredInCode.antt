-- Updates as the code finds them, and what the code gives for the eighth rule.
use Rattle.std.specs.Prelude.{◌≡◌, ℕ, Bool, List, if◌then◌else◌}
use Rattle.std.specs.declared.option.Option.{Option}
use Rattle.std.specs.declared.option.Option.TheVariants.{Some, None}
use Rattle.java_ast.specs.Tree.{Statement}
use Rattle.lowering.specs.declared.lowering.accumulated.UpdateSite.{UpdateSite}
use Rattle.lowering.specs.declared.numbering.numbers.Numbers as code
use Rattle.lowering.specs.InCode.Counted.{numbers_in_code, HasFewLoops, AreNumbersOf}
use Rattle.loop_text.specs.Statements.Fragment.{set_by}
use Rattle.java_loops.specs.Kernel.Kernel.{broken_counts}
use Rattle.loop_text.specs.Kernel.KernelConditions.{asked_for}
use Rattle.loop_text.specs.Kernel.KernelStarts.{Numbered}
use Rattle.java_loops.specs.Lowering.Lowered.{query_asked}
use Rattle.java_ast.specs.Names.{Names, is_among}
use Rattle.java_loops.specs.Lowering.Numbering.{Numbers}
use Rattle.loop_text.specs.Sites.Reading.{site_of}
use Rattle.java_loops.specs.Kernel.Setting.{Setting}
use Rattle.loop_text.specs.Statements.Setting.{is_found}
use Rattle.loop_text.specs.Sites.Sites.{place_of}

abbrev pub update_in_code : UpdateSite → Numbered
update_in_code u = record { number = u.number; site = site_of u.site.now }

-- the numbers of a loop that doesn't break the rule
pub record HasFew (w : Setting) (t : Numbers) : Type 0 where
  pub unbroken : broken_counts w ≡ None
  pub few : HasFewLoops w
  pub numbers : AreNumbersOf w t

-- the numbers of a loop that doesn't break the rule, and none of one that does
abbrev pub IsCounted : Setting → Option code.Numbers → Type 0
IsCounted w (Some t) = HasFew w (numbers_in_code t)
IsCounted w None = (broken_counts w ≡ Some (place_of w.fragment.loop))

-- the name that a statement sets, where it is one of these
abbrev pub set_among : Names → Statement → Option (List ℕ)
set_among xs s = if is_among xs (set_by s) then Some (set_by s) else None

-- the run gives a variable the answer of a query whose text is one
abbrev pub has_query : Setting → List ℕ → Bool
has_query w x = is_found (query_asked w.read (asked_for w.fragment.run x))

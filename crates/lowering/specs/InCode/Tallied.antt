-- How many sites before each one are loops, and how many declare flags.
use Rattle.std.specs.Prelude.{◌≡◌, ℕ, suc, Bool, List, [], ◌∷◌, length, slice_get, if◌then◌else◌}
use Rattle.std.specs.List.{filter}
use Rattle.std.specs.declared.option.Option.{Option}
use Rattle.std.specs.declared.option.Option.TheVariants.{Some, None}
use Rattle.lowering.specs.declared.numbering.tally.Tally.{Tally}
use Rattle.lowering.specs.declared.numbering.counts.Counts.{Counts}
use Rattle.lowering.specs.InCode.Counted.{HasFewLoops}
use Rattle.loop_text.specs.Statements.Fragment.{needed_of}
use Rattle.loop_text.specs.Kernel.KernelStatements.{is_declaration}
use Rattle.loop_text.specs.Statements.Loops.{is_loop}
use Rattle.java_loops.specs.Kernel.Setting.{Setting}
use Rattle.loop_text.specs.Sites.Sites.{Site}

abbrev pub is_loop_site : Site → Bool
is_loop_site s = is_loop s.statement

abbrev pub is_flag_site : Site → Bool
is_flag_site s = is_declaration s.statement

-- for each site, how many of those before it pass a test, where n of those before the first do
abbrev pub passed_before : (Site → Bool) → ℕ → List Site → List ℕ
passed_before test n [] = []
passed_before test n (s ∷ ss) = n ∷ passed_before test (if test s then suc n else n) ss

pub record IsTally (test : Site → Bool) (sites : List Site) (t : Tally) : Type 0 where
  pub before : t.before ≡ passed_before test 0 sites
  pub all : t.all ≡ length (filter test sites)

abbrev pub found_or : ℕ → Option ℕ → ℕ
found_or n (Some m) = m
found_or n None = n

-- how many of the first n sites pass
abbrev pub tally_at : Tally → ℕ → ℕ
tally_at t n = found_or t.all (slice_get t.before n)

-- The loops and flags of a setting, of which there are few, are counted.
pub record AreCountsOf (w : Setting) (c : Counts) : Type 0 where
  pub few : HasFewLoops w
  pub loops : IsTally is_loop_site w.sites c.loops
  pub flags : IsTally is_flag_site w.sites c.flags
  pub needed : c.needed ≡ length (needed_of w.fragment)

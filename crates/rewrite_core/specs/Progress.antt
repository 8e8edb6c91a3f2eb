-- How far the tries of a program's loops have come.
use Rattle.std.specs.Prelude.{◌≡◌, ℕ, Bool, ◌+◌, List, [], ◌++◌}
use Rattle.std.specs.declared.option.Option.{Option}
use Rattle.qbs_base.specs.Values.{Schema}
use Rattle.deriv_check.specs.Bundles.{Entry, entries_of}
use Rattle.kernel_lang.specs.Plain.{Fragment}
use Rattle.java_ast.specs.Reading.{program as plain_program}
use Rattle.java_ast.specs.Tree.{PlainProgram}
use Rattle.java_stretches.specs.Patches.{PlainPatch, plain_patches}
use Rattle.rewrite_core.specs.declared.progress.Report.{Report}
use Rattle.verdicts.specs.declared.verdict.LoopVerdict.{LoopVerdict}
use Rattle.rewrite_core.specs.declared.stage.Stage.{Stage}
use Rattle.rewrite_core.specs.declared.progress.AllTried.{AllTried}
use Rattle.rewrite_core.specs.Patches.{patches_left}
use Rattle.rewrite_core.specs.Pruned.{ArePruned}
use Rattle.rewrite_core.specs.Rewriting.{verdicts_of, bundle_of}
use Rattle.rewrite_core.specs.Searches.{PlainSearch, kept_searches, none_searched, and_searched, searches_of}
use Rattle.rewrite_core.specs.TriedAsking.{AllMayBeAsked, standing_left}
use Rattle.rewrite_core.specs.Trying.{Tried, left_of}

-- The program as it stands, how many of its first loops have been tried and stand, what was said, kept and dropped, the patches of the
-- source, and what was searched, where that is kept.
pub record Progress : Type 0 where
  pub program : PlainProgram
  pub standing : ℕ
  pub verdicts : List LoopVerdict
  pub entries : List Entry
  pub dropped : ℕ
  pub patches : List PlainPatch
  pub searches : Option (List PlainSearch)

abbrev pub progress_in : Stage → Report → Progress
progress_in s r = record { program = plain_program s.typed.program; standing = s.standing; verdicts = r.verdicts; entries = entries_of r.bundle; dropped = r.dropped; patches = plain_patches r.patches; searches = kept_searches r.searches }

-- no loop has been tried
abbrev pub starts_at : PlainProgram → Bool → Progress
starts_at p keep = record { program = p; standing = 0; verdicts = []; entries = []; dropped = 0; patches = []; searches = none_searched keep }

-- all loops have been tried, and so many stand
abbrev pub ends_with : AllTried → ℕ → Progress
ends_with r n = record { program = plain_program r.program; standing = n; verdicts = r.verdicts; entries = entries_of r.bundle; dropped = r.dropped; patches = plain_patches r.patches; searches = kept_searches r.searches }

-- these tries lead from one to another: each loop that gave way may be asked for
pub record Leads (drops keeps : Fragment → List ℕ → Type 0) (schema : Schema) (size : ℕ) (source : List ℕ) (ts : List Tried) (before after : Progress) : Type 0 where
  pub program : after.program ≡ left_of before.program ts
  pub standing : after.standing ≡ standing_left before.standing ts
  pub verdicts : after.verdicts ≡ before.verdicts ++ verdicts_of ts
  pub entries : after.entries ≡ before.entries ++ bundle_of ts
  pub pruned : ℕ
  pub counted : ArePruned drops keeps size ts pruned
  pub dropped : after.dropped ≡ before.dropped + pruned
  pub asked : AllMayBeAsked schema ts
  pub patches : after.patches ≡ patches_left source before.patches ts
  pub searches : after.searches ≡ and_searched before.searches (searches_of ts)

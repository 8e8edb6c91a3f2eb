-- What code finds out about one loop, and what it makes of it.
use Rattle.std.specs.Prelude.{◌≡◌, ℕ, suc, ◌≤◌, List, [], ◌∷◌, map}
use Rattle.std.specs.declared.option.Option.{Option}
use Rattle.std.specs.declared.option.Option.TheVariants.{Some, None}
use Rattle.qbs_base.specs.declared.span.Span.{Span}
use Rattle.qbs_base.specs.Values.{Schema}
use Rattle.tor_axioms.specs.Accepts.{proof_of}
use Rattle.deriv_check.specs.Bundles.{Entry}
use Rattle.kernel_lang.specs.Plain.{Fragment}
use Rattle.java_ast.specs.Path.{last_of, replaced_at}
use Rattle.java_ast.specs.Reading.{statements}
use Rattle.java_ast.specs.Tree.{PlainProgram}
use Rattle.java_stretches.specs.Patches.{PlainPatch, put_patch}
use Rattle.java_loops.specs.Kernel.Kernel.{broken}
use Rattle.java_loops.specs.Kernel.Setting.{Setting}
use Rattle.rewrite_core.specs.declared.outcome.GivesWay.{GivesWay}
use Rattle.rewrite_core.specs.declared.outcome.Outcome.{Outcome}
use Rattle.rewrite_core.specs.Patches.{patches_by}
use Rattle.rewrite_core.specs.Pruned.{IsPrunedBy}
use Rattle.rewrite_core.specs.Rewriting.{verdict_of, entry_for}
use Rattle.rewrite_core.specs.TriedAsking.{MayBeAskedBy}
use Rattle.rewrite_core.specs.Trying.{Tried, answer_unless, program_after, standing_after}

-- the try of a loop with this setting
abbrev pub try_with : ℕ → ℕ → PlainProgram → List ℕ → Setting → Tried
try_with size budget p path w = record { program = p; path = path; setting = w; answer = answer_unless size budget w (broken w) }

-- ---- How a loop gives way

abbrev pub program_with : Option GivesWay → List ℕ → PlainProgram → PlainProgram
program_with None path p = p
program_with (Some way) path p = replaced_at path way.first (statements way.others.items) p

abbrev pub entries_with : Span → Option GivesWay → List Entry
entries_with at None = []
entries_with at (Some way) = record { line = at.line; column = at.column; k = way.k; proofs = map proof_of way.proofs } ∷ []

abbrev pub standing_with : ℕ → Option GivesWay → ℕ
standing_with n None = suc n
standing_with n (Some way) = n

-- the patches of the source behind earlier ones
abbrev pub patches_with : List ℕ → Option GivesWay → List ℕ → PlainProgram → List PlainPatch → List PlainPatch
patches_with source None path p ps = ps
patches_with source (Some way) path p ps = put_patch source path way.first (statements way.others.items) p ps

-- what comes in its place begins no later than the loop
abbrev pub BeginsBefore : List ℕ → Option GivesWay → Type 0
BeginsBefore path None = Unit {0}
BeginsBefore path (Some way) = way.first ≤ last_of path

-- ---- Of a try

-- the outcome is that of the try
pub record IsOutcomeOf (drops keeps : Fragment → List ℕ → Type 0) (schema : Schema) (size : ℕ) (t : Tried) (o : Outcome) : Type 0 where
  pub verdict : verdict_of t ≡ o.verdict
  pub pruned : IsPrunedBy drops keeps size t.answer o.dropped
  pub asked : MayBeAskedBy schema t t.answer
  pub program : program_after t ≡ program_with o.way t.path t.program
  pub entry : entry_for t ≡ entries_with o.verdict.at o.way
  pub standing : (n : ℕ) → standing_after n t.answer ≡ standing_with n o.way
  pub begins : BeginsBefore t.path o.way
  pub patches : (source : List ℕ) (ps : List PlainPatch) → patches_by source t t.answer ps ≡ patches_with source o.way t.path t.program ps

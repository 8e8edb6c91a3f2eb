-- The command `check`: the entries of a bundle are taken in order against a program, each on what those before it made of it.
use Rattle.std.specs.Prelude.{◌≡◌, ℕ, List, [], ◌++◌, codes, length}
use Rattle.std.specs.Fmt.{decimal}
use Rattle.qbs_base.specs.declared.status.Status.{Status}
use Rattle.qbs_base.specs.Values.{Schema}
use Rattle.java_ast.specs.Tree.{PlainProgram}
use Rattle.java_mean.specs.Keeps.{Keeps}
use Rattle.java_mean.specs.WellTyped.{IsWellTyped}
use Rattle.java_types.specs.Texts.{read_by}
use Rattle.deriv_check.specs.Bundles.{Entry}
use Rattle.rewrite_core.specs.Checking.{Checks, All, Refused, checked_from}
use Rattle.plans.specs.Opening.{has_schema, has_program, has_bundle}
use Rattle.verdicts.specs.Lines.{line}
use Rattle.deliveries.specs.Limits.{most_schema, most_source, most_bundle}
use Rattle.deliveries.specs.Plan.{Given}
use Rattle.deliveries.specs.Steps.{Ends, reads}

-- ---- What is written

-- all entries are accepted, and the program that they make is well typed and does what this one does
pub record AreAccepted (tables : Schema) (entries : List Entry) (p q : PlainProgram) : Type 0 where
  pub all : checked_from tables 0 entries p ≡ All (length entries) q
  pub well : IsWellTyped tables (read_by tables) q
  pub keeps : Keeps p q tables

abbrev pub accepted_line : ℕ → List ℕ
accepted_line n = line (codes "ok " ++ decimal n)

abbrev pub refused_line : ℕ → List ℕ
refused_line ordinal = line (codes "refused " ++ decimal ordinal)

-- what is written of a bundle, of which this comes
abbrev pub tells : Schema → List Entry → PlainProgram → Checks → Ends
tells tables entries p (All n q) plan = AreAccepted tables entries p q × (plan ≡ record { status = Status.Ok; out = accepted_line n; rep = [] })
tells tables entries p (Refused ordinal) plan = plan ≡ record { status = Status.Refused; out = refused_line ordinal; rep = [] }

abbrev pub checks : Schema → PlainProgram → List Entry → Ends
checks tables p entries = tells tables entries p (checked_from tables 0 entries p)

-- ---- The command

-- over the bytes of a schema, a source and a bundle
abbrev pub check_of : List ℕ → List ℕ → List ℕ → Ends
check_of schema source bundle =
    has_schema schema (λ tables. has_program tables source (λ p. has_bundle bundle (λ entries. checks tables p entries)))

-- the files of a schema, a source and a bundle are read in this order
abbrev pub reads_evidence : Given → List ℕ → List ℕ → List ℕ → (List ℕ → List ℕ → List ℕ → Ends) → Ends
reads_evidence files schema source bundle next =
    reads files schema most_schema (codes "schema") (λ s. reads files source most_source (codes "source") (λ t.
    reads files bundle most_bundle (codes "bundle") (λ b. next s t b)))

abbrev pub check : Given → List ℕ → List ℕ → List ℕ → Ends
check files schema source bundle = reads_evidence files schema source bundle (λ s t b. check_of s t b)

-- Bundles that are checked: entries are taken in order, and each sees the program as those before it left it.
use Rattle.std.specs.Prelude.{◌≡◌, ℕ, suc, List, [], ◌∷◌, slice_get, Option, Some, None, if◌then◌else◌}
use Rattle.qbs_base.specs.Values.{Schema}
use Rattle.tor_axioms.specs.Accepts.{Proof}
use Rattle.deriv_accept.specs.Accepted.{are_accepted}
use Rattle.deriv_check.specs.Bundles.{Entry}
use Rattle.kernel_lang.specs.Plain.{Fragment}
use Rattle.templates.specs.Numbered.{candidates_of}
use Rattle.vc_gen.specs.Conditions.{conditions}
use Rattle.java_ast.specs.Tree.{PlainProgram}
use Rattle.java_grammar.specs.Placing.{LeadToOnePlace}
use Rattle.loop_text.specs.Statements.Loops.{loops_of}
use Rattle.loop_lists.specs.Places.{path_to}
use Rattle.java_loops.specs.Kernel.Kernel.{Broken, broken, lowering, setting_at}
use Rattle.java_loops.specs.Kernel.Setting.{Setting}
use Rattle.java_types.specs.Texts.{read_by}
use Rattle.rewrite_core.specs.Asked.{Place, replaced}

-- ---- One entry

-- the candidate, where there is one and its conditions have these derivations
abbrev pub accepted_for : Fragment → List Proof → Option (List ℕ) → Option (List ℕ)
accepted_for f proofs None = None
accepted_for f proofs (Some c) = if are_accepted (conditions f c) proofs then Some c else None

-- that with this number, of those of at most eight formulas
abbrev pub candidate_for : Fragment → ℕ → List Proof → Option (List ℕ)
candidate_for f k proofs = accepted_for f proofs (slice_get (candidates_of f 8) k)

abbrev pub shown_with : PlainProgram → List ℕ → Setting → Option (List ℕ) → Option Place
shown_with p path w None = None
shown_with p path w (Some c) = Some (record { program = p; path = path; setting = w; candidate = c })

-- where the loop breaks no rule of the kernel form
abbrev pub shown_unless : PlainProgram → List ℕ → Setting → ℕ → List Proof → Option Broken → Option Place
shown_unless p path w k proofs (Some b) = None
shown_unless p path w k proofs None = shown_with p path w (candidate_for (lowering w).fragment k proofs)

abbrev pub shown_there : PlainProgram → List ℕ → ℕ → List Proof → Option Setting → Option Place
shown_there p path k proofs None = None
shown_there p path k proofs (Some w) = shown_unless p path w k proofs (broken w)

abbrev pub shown_at : Schema → PlainProgram → ℕ → List Proof → Option (List ℕ) → Option Place
shown_at schema p k proofs None = None
shown_at schema p k proofs (Some path) = shown_there p path k proofs (setting_at schema (read_by schema) path p)

-- The loop of an entry that is accepted: it stands at the entry's line and column, has the kernel form, and has a candidate with the entry's
-- number, of at most eight formulas, each of whose conditions has its accepted derivation.
abbrev pub shown : Schema → Entry → PlainProgram → Option Place
shown schema e p = shown_at schema p e.k e.proofs (path_to e.line e.column p (loops_of p))

-- ---- All entries

-- what comes of a bundle: all entries are accepted, so many, and make this program; or that with this number, from 1, is the first that isn't
pub data Checks : Type 0 where
  All : ℕ → PlainProgram → Checks
  Refused : ℕ → Checks

abbrev pub or_refused : ℕ → Option Place → (Place → Checks) → Checks
or_refused n None further = Refused (suc n)
or_refused n (Some l) further = further l

-- entries behind so many accepted ones
unfoldable pub checked_from : Schema → ℕ → List Entry → PlainProgram → Checks
checked_from schema n [] p = All n p
checked_from schema n (e ∷ es) p = or_refused n (shown schema e p) (λ l. checked_from schema (suc n) es (replaced l))

-- ---- Places of loops

-- no two loops of the program stand at the same line and column
abbrev pub LoopsStandApart : PlainProgram → Type 0
LoopsStandApart p = (m n : ℕ) (a b : List ℕ) → slice_get (loops_of p) m ≡ Some a → slice_get (loops_of p) n ≡ Some b → LeadToOnePlace p a b → a ≡ b

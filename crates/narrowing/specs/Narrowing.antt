-- The for-eachs of a program in text order, each narrowed on the program as it stands, but for those that a query stands for anyway.
use Rattle.std.specs.Prelude.{ℕ, zero, suc, List, [], ◌∷◌, Bool, true, false, filter, nat_eq, if◌then◌else◌}
use Rattle.std.specs.List.{list_any}
use Rattle.std.specs.declared.option.Option.{Option}
use Rattle.std.specs.declared.option.Option.TheVariants.{Some, None}
use Rattle.qbs_base.specs.declared.span.Span.{Span}
use Rattle.qbs_base.specs.Values.{Schema}
use Rattle.java_ast.specs.Path.{found_in, behind_of, last_of, statement_at}
use Rattle.java_ast.specs.Spans.{place_of}
use Rattle.java_ast.specs.Tree.{Expression, Declare, ForEach, Statement, Statements, Then, PlainProgram}
use Rattle.java_text.specs.Canonical.{canonical_expression}
use Rattle.java_mean.specs.Rules.{at_of}
use Rattle.loop_text.specs.Statements.Loops.{loops_of}
use Rattle.spreads.specs.Alone.{walks_alone}
use Rattle.spreads.specs.Narrowed.{outer_block_at, query_of_body, narrowed_at}
use Rattle.text_patches.specs.declared.patch.TextPatch.{TextPatch}
use Rattle.narrowing.specs.declared.walk.Reason.{Reason}
use Rattle.narrowing.specs.declared.walk.Reason.TheVariants as reasons
use Rattle.narrowing.specs.declared.walk.Walk.{Walk}
use Rattle.narrowing.specs.Reasons.{reason_at}

-- ---- Walks

abbrev pub is_walk : Option Statement → Bool
is_walk (Some (ForEach at ty x e body)) = true
is_walk s = false

-- the paths to the for-eachs of a program, in text order
abbrev pub walks_of : PlainProgram → List (List ℕ)
walks_of p = filter (λ path. is_walk (statement_at path p)) (loops_of p)

abbrev pub nowhere : Span
nowhere = record { line = 0; column = 0; start = 0; end = 0 }

abbrev pub place_or_none : Option Statement → Span
place_or_none (Some s) = place_of s
place_or_none None = nowhere

-- ---- One query

-- the query in place of the fetch that is the list of the first of these statements
abbrev pub asked_each : Schema → Statements → Option Expression
asked_each schema (Then (ForEach at ty x e body) p) = query_of_body schema e x body
asked_each schema p = None

-- in place of the fetch that the first of these statements declares for the second
abbrev pub asked_pair : Schema → Statements → Option Expression
asked_pair schema (Then (Declare at ty v value) (Then (ForEach at' ty' x e body) p)) =
    if walks_alone v (Then (ForEach at' ty' x e body) p) then query_of_body schema value x body else None
asked_pair schema p = None

abbrev pub asked_before : Schema → ℕ → Statements → Option Expression
asked_before schema zero block = None
asked_before schema (suc n) block = asked_pair schema (behind_of n block)

abbrev pub first_there : {A : Type 0} → Option A → Option A → Option A
first_there (Some a) b = Some a
first_there None b = b

abbrev pub asked_in : Schema → ℕ → Statements → Option Expression
asked_in schema n block = first_there (asked_each schema (behind_of n block)) (asked_before schema n block)

-- the query in place of the fetch of the for-each at this path, at the fetch's place, where the for-each can be narrowed
abbrev pub asked_at : Schema → List ℕ → PlainProgram → Option Expression
asked_at schema path p = found_in (asked_in schema (last_of path)) (outer_block_at path p)

-- its text in place of the bytes of the fetch
abbrev pub patch_of : Expression → TextPatch
patch_of e = record { from = (at_of e).start; to = (at_of e).end; text = canonical_expression 8 e }

-- ---- All walks

-- What is narrowed: the program, what is said of each for-each, and the texts in place of bytes of the source.
pub record AllNarrowed : Type 0 where
  pub program : PlainProgram
  pub walks : List Walk
  pub patches : List TextPatch

-- none are left
abbrev pub no_further : PlainProgram → AllNarrowed
no_further p = record { program = p; walks = []; patches = [] }

abbrev pub after_narrowed : Span → Expression → AllNarrowed → AllNarrowed
after_narrowed at e rest = record { program = rest.program; walks = (let w : Walk = record { at = at; stays = None } in w) ∷ rest.walks; patches = patch_of e ∷ rest.patches }

abbrev pub after_staying : Span → Reason → AllNarrowed → AllNarrowed
after_staying at r rest = record { program = rest.program; walks = (let w : Walk = record { at = at; stays = Some r } in w) ∷ rest.walks; patches = rest.patches }

-- a query stands for the loop that begins at this byte
abbrev pub is_covered : List ℕ → Span → Bool
is_covered covered at = list_any (nat_eq at.start) covered

-- the one that is narrowed, where no query stands for it anyway
abbrev pub unless_covered : Bool → PlainProgram → Option PlainProgram
unless_covered true q = None
unless_covered false q = Some q

abbrev pub reason_for : Bool → Option PlainProgram → List ℕ → PlainProgram → Reason
reason_for true (Some q) path p = reasons.Covered
reason_for covered o path p = reason_at path p

-- the program that is narrowed at this path, where the loop there isn't covered
abbrev pub taken_at : Schema → List ℕ → List ℕ → PlainProgram → Option PlainProgram
taken_at schema covered path p = found_in (unless_covered (is_covered covered (place_or_none (statement_at path p)))) (narrowed_at schema path p)

abbrev pub narrowed_by : Span → Option Expression → AllNarrowed → AllNarrowed
narrowed_by at (Some e) rest = after_narrowed at e rest
narrowed_by at None rest = rest

-- the walks at these paths
unfoldable pub narrowing : Schema → List ℕ → List (List ℕ) → PlainProgram → AllNarrowed
narrowing schema covered [] p = no_further p
narrowing schema covered (path ∷ paths) p =
    elim (taken_at schema covered path p) as (λ _. AllNarrowed) [
      | Some q ↦ narrowed_by (place_or_none (statement_at path p)) (asked_at schema path p) (narrowing schema covered paths q)
      | None ↦
          after_staying (place_or_none (statement_at path p))
          (reason_for (is_covered covered (place_or_none (statement_at path p))) (narrowed_at schema path p) path p)
          (narrowing schema covered paths p)
    ]

-- all walks of a program, but for those that begin at these bytes
abbrev pub all_narrowed : Schema → List ℕ → PlainProgram → AllNarrowed
all_narrowed schema covered p = narrowing schema covered (walks_of p) p

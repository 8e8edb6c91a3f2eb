-- The loops of a program whose spreads are found a candidate for, in text order, each on the program as it stands.
use Rattle.std.specs.Prelude.{ℕ, zero, suc, List, [], ◌∷◌, ◌++◌, length, slice_get}
use Rattle.std.specs.List.{flat_map}
use Rattle.std.specs.Option.{option_map}
use Rattle.std.specs.declared.option.Option.{Option}
use Rattle.std.specs.declared.option.Option.TheVariants.{Some, None}
use Rattle.qbs_base.specs.Values.{Schema}
use Rattle.query_search.specs.Verdicts.{Found, NoneOf, Budget}
use Rattle.java_ast.specs.Path.{found_in, last_of, replaced_at, statement_at}
use Rattle.java_ast.specs.Tree.{Nothing, Then, PlainProgram}
use Rattle.java_types.specs.Texts.{read_by}
use Rattle.loop_text.specs.Statements.Loops.{loops_of}
use Rattle.spreads.specs.Spread.{spread_of}
use Rattle.verdicts.specs.Reports.{verdict_line, unnested_line}
use Rattle.rewrite_core.specs.Rewriting.{verdicts_of}
use Rattle.rewrite_core.specs.Trying.{Answer, Outside, Searched, Tried, tried_at, program_after, left_of}

-- ---- The spread of a loop

-- the program with the spread of a loop in its place
abbrev pub spread_at : Schema → List ℕ → PlainProgram → Option PlainProgram
spread_at schema path p =
    option_map (λ s. replaced_at path (last_of path) (Then s Nothing) p) (found_in (spread_of schema (read_by schema)) (statement_at path p))

abbrev pub if_found : Tried → Answer → Option Tried
if_found t (Searched f (Found h)) = Some t
if_found t (Searched f (NoneOf n)) = None
if_found t (Searched f (Budget b n)) = None
if_found t (Outside b) = None

-- the loop has a spread of the kernel form for which a candidate is found
abbrev pub unnested_at : Schema → ℕ → ℕ → PlainProgram → List ℕ → Option Tried
unnested_at schema size budget p path =
    found_in (λ q. found_in (λ (t : Tried). if_found t t.answer) (tried_at schema size budget q (Some path))) (spread_at schema path p)

-- ---- One loop

-- a program in which a loop gave way, with the number of the candidate that was found
pub record PlainUnnested : Type 0 where
  pub program : PlainProgram
  pub k : ℕ

abbrev pub unnested_by : Tried → Answer → Option PlainUnnested
unnested_by t (Searched f (Found h)) = Some (record { program = program_after t; k = h.k })
unnested_by t (Searched f (NoneOf n)) = None
unnested_by t (Searched f (Budget b n)) = None
unnested_by t (Outside b) = None

-- the program in which the loop gave way, where it does
abbrev pub program_unnested : Schema → ℕ → ℕ → PlainProgram → List ℕ → Option PlainUnnested
program_unnested schema size budget p path = found_in (λ (t : Tried). unnested_by t t.answer) (unnested_at schema size budget p path)

-- ---- All loops

abbrev pub unnesting_next : Option Tried → (Tried → List Tried) → List Tried → List Tried
unnesting_next (Some t) further standing = t ∷ further t
unnesting_next None further standing = standing

abbrev pub unnesting_by : Option (List ℕ) → (List ℕ → Option Tried) → (Tried → List Tried) → List Tried → List Tried
unnesting_by None unnest further standing = []
unnesting_by (Some path) unnest further standing = unnesting_next (unnest path) further standing

-- at most so many loops are tried; the first n stand
unfoldable pub unnesting : ℕ → Schema → ℕ → ℕ → PlainProgram → ℕ → List Tried
unnesting zero schema size budget p n = []
unnesting (suc left) schema size budget p n =
    unnesting_by (slice_get (loops_of p) n) (unnested_at schema size budget p) (λ t. unnesting left schema size budget (program_after t) n) (unnesting left schema size budget p (suc n))

unfoldable pub all_unnested : Schema → ℕ → ℕ → PlainProgram → List Tried
all_unnested schema size budget p = unnesting (length (loops_of p)) schema size budget p 0

abbrev pub unnested : Schema → ℕ → ℕ → PlainProgram → PlainProgram
unnested schema size budget p = left_of p (all_unnested schema size budget p)

abbrev pub unnest_report : List Tried → List ℕ
unnest_report ts = flat_map verdict_line (verdicts_of ts) ++ unnested_line (length ts)

-- What comes in place of loops that gave way. The text of a rewritten program is made of the source's own bytes: statements in canonical
-- layout stand in place of those from the first statement of a loop's run to its end, and all other bytes stay.
use Rattle.std.specs.Prelude.{ℕ, List, [], ◌∷◌, ◌++◌}
use Rattle.java_ast.specs.Names.{names_read}
use Rattle.java_ast.specs.Path.{and_then, replaced_at}
use Rattle.java_ast.specs.Tree.{Statements, PlainProgram}
use Rattle.java_stretches.specs.Patches.{PlainPatch, with_patches, put_patch}
use Rattle.loop_text.specs.Statements.KeptStatements.{with_numbers}
use Rattle.java_loops.specs.Kernel.Kernel.{lowering}
use Rattle.java_loops.specs.Meant.KeptNumbers.{kept_numbers}
use Rattle.java_loops.specs.Walks.Replacing.{asked}
use Rattle.query_search.specs.Verdicts.{Found, NoneOf, Budget}
use Rattle.rewrite_core.specs.Asked.{Place, asks_of, first_of_run}
use Rattle.rewrite_core.specs.Trying.{Answer, Outside, Searched, Tried}

-- the statements that come in place of a loop and its run: those that are kept, and those that ask
abbrev pub instead : Place → Statements
instead l =
    and_then (with_numbers (kept_numbers l.setting.fragment (names_read (lowering l.setting).entries) (first_of_run l) l.setting.fragment.run) (first_of_run l) l.setting.fragment.run) (asked (asks_of l))

-- the patches after a try
abbrev pub patches_by : List ℕ → Tried → Answer → List PlainPatch → List PlainPatch
patches_by source t (Searched f (Found h)) ps =
    let l : Place = record { program = t.program; path = t.path; setting = t.setting; candidate = h.candidate } in
    put_patch source t.path (first_of_run l) (instead l) t.program ps
patches_by source t (Searched f (NoneOf n)) ps = ps
patches_by source t (Searched f (Budget b n)) ps = ps
patches_by source t (Outside b) ps = ps

-- the patches after tries, behind earlier ones
abbrev pub patches_left : List ℕ → List PlainPatch → List Tried → List PlainPatch
patches_left source ps [] = ps
patches_left source ps (t ∷ ts) = patches_left source (patches_by source t t.answer ps) ts

-- the source in which the loops that gave way are replaced
abbrev pub patched_text : List ℕ → List Tried → List ℕ
patched_text source ts = with_patches source 0 (patches_left source [] ts)

-- ---- In order

-- what is put for a loop that gives way: a block in place of the statements of a program from the number first to the loop to which the path leads
pub record Put : Type 0 where
  pub path : List ℕ
  pub first : ℕ
  pub block : Statements

abbrev pub put_by : Tried → Answer → List Put
put_by t (Searched f (Found h)) =
    let l : Place = record { program = t.program; path = t.path; setting = t.setting; candidate = h.candidate } in
    record { path = t.path; first = first_of_run l; block = instead l } ∷ []
put_by t (Searched f (NoneOf n)) = []
put_by t (Searched f (Budget b n)) = []
put_by t (Outside b) = []

-- what is put in tries, one after the other
abbrev pub puts_of : List Tried → List Put
puts_of [] = []
puts_of (t ∷ ts) = put_by t t.answer ++ puts_of ts

-- a program with that put, each in the program as it stands then
abbrev pub with_puts : PlainProgram → List Put → PlainProgram
with_puts p [] = p
with_puts p (x ∷ xs) = with_puts (replaced_at x.path x.first x.block p) xs

-- the patches of the program's source for it, behind earlier ones
abbrev pub patches_for : List ℕ → PlainProgram → List Put → List PlainPatch → List PlainPatch
patches_for source p [] ps = ps
patches_for source p (x ∷ xs) ps = patches_for source (replaced_at x.path x.first x.block p) xs (put_patch source x.path x.first x.block p ps)

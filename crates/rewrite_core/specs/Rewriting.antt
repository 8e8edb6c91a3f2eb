-- What is said of the loops that were tried, what is kept of those that give way, and what is left.
use Rattle.std.specs.Prelude.{◌≡◌, List, [], ◌∷◌, ◌++◌, map}
use Rattle.std.specs.List.{AllByRecursion, flat_map}
use Rattle.std.specs.declared.option.Option.TheVariants.{Some}
use Rattle.qbs_base.specs.declared.span.Span.{Span}
use Rattle.deriv_check.specs.Bundles.{Entry}
use Rattle.query_search.specs.Verdicts.{Found, NoneOf, Budget}
use Rattle.java_ast.specs.Path.{statement_at}
use Rattle.java_ast.specs.Spans.{place_of}
use Rattle.java_ast.specs.Tree.{Statement, PlainProgram}
use Rattle.loop_text.specs.Statements.Loops.{loops_of}
use Rattle.verdicts.specs.declared.verdict.Said.{Said}
use Rattle.verdicts.specs.declared.verdict.Said.TheVariants as says
use Rattle.verdicts.specs.declared.verdict.LoopVerdict.{LoopVerdict}
use Rattle.rewrite_core.specs.TriedAsking.{standing_paths}
use Rattle.rewrite_core.specs.Trying.{Answer, Outside, Searched, Tried}

-- ---- Verdicts

abbrev pub said_by : Answer → Said
said_by (Searched f (Found h)) = says.Found h.k
said_by (Searched f (NoneOf n)) = says.NoneOf n
said_by (Searched f (Budget b n)) = says.Budget b n
said_by (Outside b) = says.Outside b.rule b.at

-- where the loop stands that was tried
abbrev pub loop_place : Tried → Span
loop_place t = place_of t.setting.fragment.loop

abbrev pub verdict_of : Tried → LoopVerdict
verdict_of t = record { at = loop_place t; said = said_by t.answer }

abbrev pub verdicts_of : List Tried → List LoopVerdict
verdicts_of ts = map verdict_of ts

-- ---- Derivations

-- the entry of a loop at a place that gives way, none of one that stands
abbrev pub entry_by : Span → Answer → List Entry
entry_by at (Searched f (Found h)) = record { line = at.line; column = at.column; k = h.k; proofs = h.proofs } ∷ []
entry_by at (Searched f (NoneOf n)) = []
entry_by at (Searched f (Budget b n)) = []
entry_by at (Outside b) = []

abbrev pub entry_for : Tried → List Entry
entry_for t = entry_by (loop_place t) t.answer

abbrev pub bundle_of : List Tried → List Entry
bundle_of ts = flat_map entry_for ts

-- ---- What stands

-- the try, where its loop stands after it
abbrev pub left_standing : Tried → Answer → List Tried
left_standing t (Searched f (Found h)) = []
left_standing t (Searched f (NoneOf n)) = t ∷ []
left_standing t (Searched f (Budget b n)) = t ∷ []
left_standing t (Outside b) = t ∷ []

-- the tries that found no candidate, in their order
abbrev pub standing_tries : List Tried → List Tried
standing_tries [] = []
standing_tries (t ∷ ts) = left_standing t t.answer ++ standing_tries ts

-- the program has a loop at the path of the try, at the place where it was tried
abbrev pub StandsIn : PlainProgram → Tried → Type 0
StandsIn p t = (s : Statement) × (statement_at t.path p ≡ Some s) × (place_of s ≡ loop_place t)

-- The loops of the program are, in text order, those that were tried and found no candidate: they stand at the same paths and places.
-- What is said of each is of the program as it stood when the loop was tried.
pub record StandAsTried (ts : List Tried) (p : PlainProgram) : Type 0 where
  pub paths : loops_of p ≡ standing_paths ts
  pub places : AllByRecursion (StandsIn p) (standing_tries ts)

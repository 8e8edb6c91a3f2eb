-- The texts of derivations and bundles. Each has one text, so that these functions are the grammar.
use Rattle.std.specs.Prelude.{ℕ, List, [], ◌∷◌, ◌++◌, codes}
use Rattle.std.specs.Fmt.{decimal}
use Rattle.std.specs.List.{flat_map}
use Rattle.tor_axioms.specs.declared.derivation.Step.{Step}
use Rattle.tor_axioms.specs.Accepts.{Proof, Steps, Split, Absurd}
use Rattle.deriv_check.specs.Bundles.{Entry}

-- a number of a path behind another
abbrev pub further_text : ℕ → List ℕ
further_text n = codes "." ++ decimal n

-- `-` for the whole term, else the numbers of children joined by `.`
abbrev pub path_text : List ℕ → List ℕ
path_text [] = codes "-"
path_text (n ∷ ns) = decimal n ++ flat_map further_text ns

-- RULE@PATH
abbrev pub step_text : Step → List ℕ
step_text s = decimal s.rule ++ (codes "@" ++ path_text s.path)

abbrev pub left_text : Step → List ℕ
left_text s = step_text s ++ codes " "

abbrev pub right_text : Step → List ℕ
right_text s = codes " " ++ step_text s

-- `s`, the steps on the left term, `/`, and the steps on the right term, with single spaces
abbrev pub steps_text : List Step → List Step → List ℕ
steps_text left right = codes "s " ++ (flat_map left_text left ++ (codes "/" ++ (flat_map right_text right ++ codes "\n")))

-- the line of a split: its atom
abbrev pub split_text : ℕ → List ℕ
split_text atom = codes "? " ++ (decimal atom ++ codes "\n")

-- the lines of a derivation; behind a split's own the branch where its atom holds, and the other
abbrev pub derivation_text : Proof → List ℕ
derivation_text (Steps left right) = steps_text left right
derivation_text (Split atom first second) = split_text atom ++ (derivation_text first ++ derivation_text second)
derivation_text Absurd = codes "!\n"

-- the line of a loop: its line and column, and the number of its candidate
abbrev pub loop_text : ℕ → ℕ → ℕ → List ℕ
loop_text line column k = codes "loop " ++ (decimal line ++ (codes ":" ++ (decimal column ++ (codes " " ++ (decimal k ++ codes "\n")))))

-- a loop, and the derivations of its candidate's conditions
abbrev pub entry_text : Entry → List ℕ
entry_text e = loop_text e.line e.column e.k ++ flat_map derivation_text e.proofs

abbrev pub bundle_text : List Entry → List ℕ
bundle_text entries = codes "qbs 1\n" ++ (flat_map entry_text entries ++ codes "end\n")

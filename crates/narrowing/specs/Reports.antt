-- The report on narrowed walks.
use Rattle.std.specs.Prelude.{ℕ, suc, List, [], ◌∷◌, ◌++◌, codes}
use Rattle.std.specs.Fmt.{decimal}
use Rattle.std.specs.List.{flat_map}
use Rattle.std.specs.declared.option.Option.{Option}
use Rattle.std.specs.declared.option.Option.TheVariants.{Some, None}
use Rattle.verdicts.specs.Lines.{line, place_text}
use Rattle.narrowing.specs.declared.walk.Reason.{Reason}
use Rattle.narrowing.specs.declared.walk.Reason.TheVariants as reasons
use Rattle.narrowing.specs.declared.walk.Walk.{Walk}

abbrev pub reason_name : Reason → List ℕ
reason_name reasons.Inside = codes "Inside"
reason_name reasons.List = codes "List"
reason_name reasons.Body = codes "Body"
reason_name reasons.Condition = codes "Condition"
reason_name reasons.Covered = codes "Covered"

abbrev pub said_text : Option Reason → List ℕ
said_text None = codes "narrowed"
said_text (Some r) = codes "stays " ++ reason_name r

abbrev pub walk_line : Walk → List ℕ
walk_line w = line (codes "loop " ++ place_text w.at ++ codes " " ++ said_text w.stays)

abbrev pub counted : Option Reason → ℕ → ℕ
counted None n = suc n
counted (Some r) n = n

-- how many were narrowed
abbrev pub narrowed_among : List Walk → ℕ
narrowed_among [] = 0
narrowed_among (w ∷ ws) = counted w.stays (narrowed_among ws)

-- a line for each for-each, and how many were narrowed
abbrev pub report_text : List Walk → List ℕ
report_text ws = flat_map walk_line ws ++ line (codes "narrowed " ++ decimal (narrowed_among ws))

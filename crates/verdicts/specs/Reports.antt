-- The lines of reports.
use Rattle.std.specs.Prelude.{ℕ, List, ◌++◌, codes}
use Rattle.std.specs.Fmt.{decimal}
use Rattle.verdicts.specs.declared.verdict.Said.{Said}
use Rattle.verdicts.specs.declared.verdict.Said.TheVariants as says
use Rattle.verdicts.specs.declared.verdict.LoopVerdict.{LoopVerdict}
use Rattle.verdicts.specs.Lines.{line, place_text}

abbrev pub said_text : Said → List ℕ
said_text (says.Found k) = codes "found " ++ decimal k
said_text (says.NoneOf n) = codes "none of " ++ decimal n
said_text (says.Budget b n) = codes "budget " ++ decimal b ++ codes " of " ++ decimal n
said_text (says.Outside rule at) = codes "outside K" ++ decimal rule ++ codes " at " ++ place_text at

-- the line of a loop that was tried
abbrev pub verdict_line : LoopVerdict → List ℕ
verdict_line v = line (codes "loop " ++ place_text v.at ++ codes " " ++ said_text v.said)

abbrev pub pruned_line : ℕ → List ℕ
pruned_line n = line (codes "pruned " ++ decimal n)

-- how many loops were unnested
abbrev pub unnested_line : ℕ → List ℕ
unnested_line n = line (codes "unnested " ++ decimal n)

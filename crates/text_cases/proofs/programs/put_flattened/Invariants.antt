use denote.Text.{Utf8}
use denote.Shadow.{shadow}
use Rattle.text_cases.proofs.programs.put_flattened.Given as goal

-- the text between two words is text
abbrev pub invariant-loop-word : goal.invariant-loop-word
invariant-loop-word l =
    (goal.iterator-loop-word).can_next l.word-iterator ×
    (goal.iterator-loop-word).is_finite l.word-iterator ×
    shadow (Utf8 l.gap)

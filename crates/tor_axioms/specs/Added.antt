-- What is answered where a literal is added to facts.
use Rattle.std.specs.Prelude.{◌≡◌, List}
use Rattle.std.specs.declared.option.Option.{Option}
use Rattle.std.specs.declared.option.Option.TheVariants.{Some, None}
use Rattle.tor_axioms.specs.declared.facts.Literal.{Literal}
use Rattle.tor_axioms.specs.declared.facts.WithAnswer.{WithAnswer}
use Rattle.tor_axioms.specs.declared.facts.WithAnswer.TheVariants as answers

-- the new facts, or a contradiction where there are none; memory may run out
abbrev pub AnswersWith : Option (List Literal) → WithAnswer → Type 0
AnswersWith (Some facts) (answers.Facts got) = got ≡ facts
AnswersWith (Some facts) answers.Contradiction = ⊥
AnswersWith None (answers.Facts got) = ⊥
AnswersWith None answers.Contradiction = Unit {0}
AnswersWith _ answers.NoMemory = Unit {0}

-- What an answer says of the facts with one more.
use Rattle.std.proofs.Common.{◌≡◌, List, Option, Some, None, refl, ap}
use Rattle.tor_axioms.specs.declared.facts.Literal.{Literal}
use Rattle.tor_axioms.specs.declared.facts.WithAnswer.TheVariants as answers
use Rattle.tor_axioms.specs.Added.{AnswersWith}

pub told : (o : Option (List Literal)) (got : List Literal) → AnswersWith o (answers.Facts got) → Some got ≡ o
told (Some facts) got h = ap (λ (fs : List Literal). Some fs) h
told None got h = absurd h

pub refused : (o : Option (List Literal)) → AnswersWith o answers.Contradiction → None ≡ o
refused (Some facts) h = absurd h
refused None h = refl

pub ruleset added = (told, refused)

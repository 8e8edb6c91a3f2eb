use Rattle.narrowings.proofs.Query.{all_asked}
use Rattle.narrowings.proofs.Typed.{narrowed_sound}
use Rattle.narrowings.proofs.laws.narrowed_programs_are_well_typed.Goals as goal

pub returns : goal.returns
returns c = record {
  typed = λ schema reader p q path words well fits h. (let k = narrowed_sound schema (all_asked schema words) reader p q path well fits h in k.typed);
  numbers = λ schema reader p q path words well fits h. (let k = narrowed_sound schema (all_asked schema words) reader p q path well fits h in k.numbers);
}

use Rattle.std.proofs.Common.{refl, arith}
use Rattle.std.specs.List.{IsDistinct}
use Rattle.dump_text.specs.Text.{text_of}
use Rattle.dump_text.proofs.laws.a_schema_with_comments.Goals as goal

pub returns-clause-sound : goal.returns-clause-sound
unfolding IsDistinct
returns-clause-sound c = record {
  schema = record {
    few = omega arith;
    distinct = (tt, tt);
    free = (refl, tt);
    columns = (record { few = omega arith; distinct = ((refl, tt), (tt, tt)); free = (refl, (refl, tt)) }, tt);
  };
  named = record { names = (refl, tt); columns = ((refl, (refl, tt)), tt) };
  some = (omega arith, tt);
}

pub returns-clause-text : goal.returns-clause-text
unfolding text_of
returns-clause-text c = refl

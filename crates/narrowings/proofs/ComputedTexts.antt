-- The worked program.
use Rattle.std.proofs.Common.{[], ◌∷◌, refl}
use Rattle.sql_ast.specs.Worked.{staff_schema}
use Rattle.java_grammar.specs.InGrammar.{IsInGrammar}
use Rattle.java_grammar.specs.Written.{IsWritten}
use Rattle.java_mean.specs.Queries.{Reader}
use Rattle.spreads.specs.WorkedNarrow.{users, users_asked}
use Rattle.narrowings.specs.Worked.{collecting}
use Rattle.narrowings.proofs.Computed.{words, typed, numbers, narrowed}
use Rattle.narrowings.proofs.WrittenProgram.{narrowed_text}

grammar : IsInGrammar (collecting users)
grammar = record {
  «package» = tt;
  imports = tt;
  name = refl;
  methods = (
    record {
      result = tt;
      name = refl;
      params = (tt, refl, (tt, refl, (tt, refl, tt)));
      body = ((refl, refl, tt), ((refl, refl, refl, ((((((refl, refl), ((refl, refl), refl)), refl), (((refl, refl), refl), ((refl, refl), refl))), ((refl, refl), tt)), tt)), tt));
    },
    tt,
  );
}

written : IsWritten (collecting users)
written = record {
  «package» = tt;
  imports = tt;
  name = refl;
  methods = ((tt, refl, (tt, refl, (tt, refl, (tt, refl, tt))), ((refl, refl, tt), ((refl, refl, refl, ((((((refl, refl), ((refl, refl), refl)), refl), (((refl, refl), refl), ((refl, refl), refl))), ((refl, refl), tt)), tt)), tt))), tt);
}

pub before : IsInGrammar (collecting users) × IsWritten (collecting users)
before = (grammar, written)

pub after : Reader staff_schema → IsInGrammar (collecting users_asked) × IsWritten (collecting users_asked)
after reader = narrowed_text staff_schema words reader (collecting users) (typed reader) numbers grammar written (collecting users_asked) (0 ∷ 1 ∷ []) narrowed

-- A worked program is of the grammar and can be written, and so is the one in which its loop has given way.
use Rattle.std.proofs.Common.{[], ◌∷◌, IsUtf8, refl, subst}
use lib.Utf8.{encode}
use Rattle.sql_ast.specs.Worked.{staff_schema}
use Rattle.java_types.specs.Texts.{read_by}
use Rattle.java_types.proofs.Found.{found_exactly}
use Rattle.java_grammar.specs.InGrammar.{IsInGrammar}
use Rattle.java_grammar.specs.Written.{IsWritten}
use Rattle.lowering.specs.AskedWorked.{asked_text, asking}
use Rattle.rewrite_core.specs.Asked.{Place}
use Rattle.rewrite_core.specs.Worked.{loop_at, known_asks, asking_once, GivesWayTo}
use Rattle.rewrite_core.proofs.HasAsks.{has_asks}
use Rattle.rewrite_core.proofs.Computed.{known}
use Rattle.rewrite_core.proofs.Writable.Asks.{replaced_fine}
use Rattle.rewrite_core.proofs.Writable.Replaced.{IsFineProgram}

asking_grammar : IsInGrammar asking
asking_grammar =
    record {
      «package» = tt;
      imports = tt;
      name = refl;
      methods = (
        record {
          result = refl;
          name = refl;
          params = (tt, refl, tt);
          body = ((tt, refl, (tt, (refl, tt))), ((refl, refl, tt), ((refl, refl, refl, (((refl, (refl, refl)), ((refl, refl), tt)), tt)), (refl, tt))));
        },
        tt,
      );
    }

text_utf8 : IsUtf8 asked_text
unfolding encode
text_utf8 = (asked_text, (refl, refl))

asking_written : IsWritten asking
asking_written =
    record {
      «package» = tt;
      imports = tt;
      name = refl;
      methods = (
        (
          refl,
          refl,
          (tt, refl, tt),
          ((tt, refl, (tt, text_utf8, (refl, tt))), ((refl, refl, tt), ((refl, refl, refl, (((refl, (refl, refl)), ((refl, refl), tt)), tt)), (refl, tt)))),
        ),
        tt,
      );
    }

abbrev knowing : Place
knowing = loop_at asking (0 ∷ 2 ∷ []) (0 ∷ [])

-- The program that asks once is of the grammar and can be written.
pub asking_once_fine : IsFineProgram asking_once
asking_once_fine =
    let way : GivesWayTo knowing known_asks asking_once = known in subst IsFineProgram way.becomes (replaced_fine staff_schema (record { read = read_by staff_schema; exact = found_exactly staff_schema }) knowing (has_asks staff_schema (read_by staff_schema) knowing.program knowing.path knowing.setting knowing.candidate way.may) (asking_grammar, asking_written))

use Rattle.java_ast.specs.Reading.{program as plain_program}
use Rattle.rewrite_core.proofs.UnnestEnds.{comes_of_unnesting}
use Rattle.rewrite_core.proofs.UnnestWrittenPrograms.{unnested_fine}
use Rattle.rewrite_core.proofs.UnnestWrittenTexts.{unnested_back}
use Rattle.rewrite_core.proofs.unnesting.unnest_past.Goals as goal

pub returns : goal.returns
returns g c =
    comes_of_unnesting c.args.schema.now c.args.size c.args.budget c.args.source.now (plain_program c.args.typed.now.program) c.requires.typed c.args.typed.now.numbers
    (record {
      written = λ asked grammar written. unnested_fine c.args.schema.now c.args.size c.args.budget (plain_program c.args.typed.now.program) asked (grammar, written);
      read_back = unnested_back c.args.schema.now c.args.size c.args.budget c.args.source.now (plain_program c.args.typed.now.program) c.requires.source;
    })
    c.in_ok-stage.stage.value c.unnest_all.new.given c.in_ok-stage.ensures c.with_output.result c.with_output.ensures.program c.with_output.ensures.verdicts c.with_output.ensures.patches c.with_output.ensures.text

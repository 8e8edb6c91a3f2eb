use Rattle.std.proofs.Common.{subst}
use Rattle.qbs_base.specs.Values.{Schema}
use Rattle.sql_ast.specs.Reader.{query_of_text}
use Rattle.sql_ast.specs.Reading.{query}
use Rattle.sql_parse.specs.Answers.{Answers}
use Rattle.sql_parse.proofs.Exactly.{is_found, is_valid, is_refused, is_read, is_broken, is_again}
use Rattle.sql_parse.proofs.query.parse_query.Goals as goal

pub returns : goal.returns
returns c =
    let found : Answers query c.find.result (query_of_text c.args.schema.now c.args.text.now) = subst (λ (schema : Schema). Answers query c.find.result (query_of_text schema c.args.text.now)) c.tables.ensures.value c.find.ensures in
    record {
      exact = found;
      found = is_found c.args.schema.now c.args.text.now c.find.result found;
      valid = is_valid c.args.schema.now c.args.text.now c.find.result c.read_length.ensures found;
      only = is_read c.args.schema.now c.args.text.now c.find.result found;
      fault = is_refused c.args.schema.now c.args.text.now c.find.result found;
      refused = is_broken c.args.schema.now c.args.text.now c.find.result found;
      again = is_again c.args.schema.now c.args.text.now c.find.result found;
    }

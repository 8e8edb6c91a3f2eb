use Rattle.deriv_check.specs.Answers.{offset_in}
use Rattle.deriv_check.specs.Bundles.{entries_of}
use Rattle.deriv_check.specs.Reading.{read_bundle}
use Rattle.deriv_check.proofs.Bundled.{exact_bundle}
use Rattle.text_readers.proofs.Whole.{answer_found, answer_only, answer_fault}
use Rattle.deriv_check.proofs.parse.parse_bundle.Goals as goal

pub returns-clause-found : goal.returns-clause-found
unfolding read_bundle
returns-clause-found c = answer_found exact_bundle tt offset_in entries_of c.args.bytes.now c.answer_bundle.result c.answer_bundle.ensures

pub returns-clause-only : goal.returns-clause-only
unfolding read_bundle
returns-clause-only c = answer_only exact_bundle tt offset_in entries_of c.args.bytes.now c.answer_bundle.result c.answer_bundle.ensures

pub returns-clause-fault : goal.returns-clause-fault
unfolding read_bundle
returns-clause-fault c = answer_fault exact_bundle tt offset_in entries_of c.args.bytes.now c.answer_bundle.result c.answer_bundle.ensures

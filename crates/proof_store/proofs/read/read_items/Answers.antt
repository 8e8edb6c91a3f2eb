use Rattle.proof_store.proofs.Stores.{store_found, store_only, store_fault}
use Rattle.proof_store.proofs.read.read_items.Goals as goal

pub returns-clause-found : goal.returns-clause-found
returns-clause-found c = store_found (λ e. e.offset) (λ x. x) c.args.schema.now c.args.bytes.now c.answer.result c.answer.ensures

pub returns-clause-only : goal.returns-clause-only
returns-clause-only c = store_only (λ e. e.offset) (λ x. x) c.args.schema.now c.args.bytes.now c.answer.result c.answer.ensures

pub returns-clause-fault : goal.returns-clause-fault
returns-clause-fault c = store_fault (λ e. e.offset) (λ x. x) c.args.schema.now c.args.bytes.now c.answer.result c.answer.ensures

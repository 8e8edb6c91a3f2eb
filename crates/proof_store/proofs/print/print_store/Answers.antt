use Rattle.proof_store.proofs.Printed.{have_few}
use Rattle.proof_store.proofs.print.print_store.Goals as goal

pub push_items-requires : goal.push_items-requires
push_items-requires c = rw c.items.ensures.value (have_few c.args.schema.now c.count.result c.args.bank.now c.count.ensures c.requires)

use Rattle.kernel_lang.specs.Whole.{fragment_of}
use Rattle.small_dbs.proofs.Fitted.{smalls_made, smalls_fit}
use Rattle.small_dbs.proofs.made.small_dbs.Goals as goal

pub returns : goal.returns
returns c = record {
  exact = c.made.ensures;
  databases = smalls_made c.args.schema.now (fragment_of c.args.frag.now) c.made.result c.made.ensures;
  fit = smalls_fit c.args.schema.now (fragment_of c.args.frag.now) c.made.result c.requires c.made.ensures;
}

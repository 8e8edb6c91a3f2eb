use Rattle.java_stretches.proofs.Carried.{one_more}
use Rattle.java_stretches.proofs.sources.one_more_patch_carries_the_program.Goals as goal

pub returns : goal.returns
returns c source ps p path f first one block text h leads begins less to_one m can few = one_more source ps p h path f first leads begins less one to_one block m text can few

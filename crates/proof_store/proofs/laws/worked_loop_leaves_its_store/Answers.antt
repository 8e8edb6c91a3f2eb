use Rattle.std.proofs.Common.{refl}
use Rattle.std.specs.Fmt.{digits}
use Rattle.std.specs.Str.{is_utf8, chars}
use Rattle.std.specs.Char.{encode_utf8}
use Rattle.proof_store.proofs.laws.worked_loop_leaves_its_store.Goals as goal

pub returns : goal.returns
unfolding digits is_utf8 chars encode_utf8
returns c = record { text = refl; within = refl }

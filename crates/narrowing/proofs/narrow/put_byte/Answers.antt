use Rattle.std.proofs.Common.{◌∙◌, ap, nat_eq}
use Rattle.std.specs.List.{list_any}
use Rattle.narrowing.proofs.Bytes.{byte_put}
use Rattle.narrowing.proofs.narrow.put_byte.Goals as goal

pub returns-in-Ok : goal.returns-in-Ok
returns-in-Ok c = λ x. ap (list_any (nat_eq x)) c.in-Ok.ensures.keys ∙ byte_put x c.args.byte c.args.bytes.now.keys

use Rattle.call_reader.proofs.Computed.{class_is_read}
use Rattle.call_reader.proofs.worked.worked_classes_are_read.Goals as goal

pub returns : goal.returns
returns c = class_is_read

use Rattle.std.proofs.Common.{ap}
use Rattle.narrowing.specs.Narrowing.{AllNarrowed}
use Rattle.narrowing.proofs.Computed.{all_walks, declared_walk}
use Rattle.narrowing.proofs.worked.worked_walks_are_narrowed.Goals as goal

pub returns : goal.returns
returns c =
    record {
      program = ap (λ (n : AllNarrowed). n.program) all_walks;
      walks = ap (λ (n : AllNarrowed). n.walks) all_walks;
      patches = ap (λ (n : AllNarrowed). n.patches) all_walks;
      declared = declared_walk;
    }

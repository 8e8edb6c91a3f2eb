use Rattle.std.proofs.Common.{◌≡◌, length, ◌+◌, arith, add-one}
use Rattle.templates.specs.Numbered.{candidates}
use Rattle.templates.proofs.Ranks.{shorter, shorter-none, shorter-more, length-candidates, length-increasing, at_length}
use Rattle.templates.proofs.numbered.place_of.Goals as goal

pub loop-length-init : goal.loop-length-init
loop-length-init c = rw (shorter-none c.args.pool) (omega arith)

pub returns-then-rank-ways-clause-rank : goal.returns-then-rank-ways-clause-rank
returns-then-rank-ways-clause-rank c = rw (length-increasing 0 c.args.pool c.loop-length.length) (omega arith)

pub returns-then-rank-ways-clause-same : goal.returns-then-rank-ways-clause-same
returns-then-rank-ways-clause-same c =
    rw c.loop-length.invariant (at_length c.args.pool 8 c.loop-length.length c.loop-length.rank (omega arith) (omega arith))

pub loop-length-preserved : goal.loop-length-preserved
loop-length-preserved c = rw (add-one c.loop-length.length, shorter-more c.args.pool c.loop-length.length) (omega arith)

pub unreachable-requires : goal.unreachable-requires
unreachable-requires c =
    let e : c.loop-length.length ≡ 9 = omega arith in
    let k : c.args.k ≡ shorter c.args.pool 9 + c.loop-length.rank = rw e at c.loop-length.invariant in
    let l : length (candidates c.args.pool 8) ≡ shorter c.args.pool 9 = length-candidates c.args.pool 8 in
    omega arith

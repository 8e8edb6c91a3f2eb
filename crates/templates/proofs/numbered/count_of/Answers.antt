use Rattle.std.proofs.Common.{◌≡◌, ◌*◌, ◌≤◌, sym, arith, add-one}
use Rattle.templates.specs.Binomial.{binomial}
use Rattle.templates.proofs.Pascal.{binomial_small}
use Rattle.templates.proofs.Ranks.{shorter, shorter-none, shorter-more, shorter_small, length-candidates}
use Rattle.templates.proofs.numbered.count_of.Goals as goal

pub loop-length-init : goal.loop-length-init
loop-length-init c = sym (shorter-none c.args.pool)

pub overflow_add-all : goal.overflow_add-all
overflow_add-all c =
    let a : shorter c.args.pool c.loop-length.length ≤ c.loop-length.length * 72057594037927936 = shorter_small c.args.pool c.loop-length.length (omega arith) (omega arith) in
    let b : binomial c.args.pool c.loop-length.length ≤ 72057594037927936 = binomial_small c.args.pool c.loop-length.length (omega arith) (omega arith) in
    rw (c.loop-length.invariant, c.choose-all.ensures) (omega arith)

pub loop-length-preserved : goal.loop-length-preserved
loop-length-preserved c = rw (c.loop-length.invariant, c.choose-all.ensures, add-one c.loop-length.length) (sym (shorter-more c.args.pool c.loop-length.length))

pub returns-2 : goal.returns-2
returns-2 c =
    let e : c.loop-length.length ≡ c.args.size = omega arith in
    rw (c.loop-length.invariant, c.choose-all.ensures, e, length-candidates c.args.pool c.args.size) (sym (shorter-more c.args.pool c.args.size))

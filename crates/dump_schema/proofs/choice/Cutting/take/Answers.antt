use Rattle.dump_schema.proofs.Steps.{cut, grown}
use Rattle.dump_schema.proofs.choice.Cutting.take.Goals as goal

pub returns-in_ok-push : goal.returns-in_ok-push
returns-in_ok-push c =
    cut c.args.mark c.args.byte c.args.self.now.done c.args.self.now.current _ _ _ _ c.if-byte-mark.true c.replace-piece.ensures.value c.replace-piece.ensures.after c.new.ensures c.in_ok-push.ensures.ok

pub returns-in_ok-push-2 : goal.returns-in_ok-push-2
returns-in_ok-push-2 c = grown c.args.mark c.args.byte c.args.self.now.done c.args.self.now.current _ c.if-byte-mark.false c.in_ok-push-2.ensures.ok

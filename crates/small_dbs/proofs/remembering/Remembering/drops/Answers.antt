use Rattle.std.proofs.Common.{ap₂, ◌∙◌}
use Rattle.kernel_lang.specs.Whole.{fragment_of}
use Rattle.small_dbs.specs.Remembered.{smalls_for}
use Rattle.small_dbs.proofs.Recalled.{dropped}
use Rattle.small_dbs.proofs.remembering.Remembering.drops.Goals as goal

pub returns-clause-exact : goal.returns-clause-exact
returns-clause-exact c =
    dropped c.args.self.now.schema (fragment_of c.args.frag.now) c.args.cand.now c.as_slice.result.now c.one_refutes.result
    (c.as_slice.ensures ∙ c.turn_to.new.self.own ∙ ap₂ smalls_for c.in_ok-turn_to.ensures.schema c.in_ok-turn_to.ensures.frag) c.one_refutes.ensures.exact

use Rattle.std.proofs.Common.{sym, ◌∙◌}
use Rattle.kernel_lang.specs.Whole.{fragment_of}
use Rattle.small_dbs.proofs.Known.{ended, none_refuted, same_or_not}
use Rattle.small_dbs.proofs.endings.refutes_by.Goals as goal

pub ends_as_claimed-requires : goal.ends_as_claimed-requires
ends_as_claimed-requires c = (ended (fragment_of c.args.frag.now) c.args.item.now c.in-Some.ends (sym c.requires.own ∙ c.in-Some.is)).0

pub returns-in-None : goal.returns-in-None
returns-in-None c = record { exact = none_refuted (fragment_of c.args.frag.now) c.args.item.now c.args.cand.now (sym c.in-None.is ∙ c.requires.own) }

pub returns-in_ok-same-in-Some : goal.returns-in_ok-same-in-Some
returns-in_ok-same-in-Some c =
    record { exact = same_or_not (fragment_of c.args.frag.now) c.args.item.now c.args.cand.now c.in-Some.ends c.in_ok-same-in-Some.same (sym c.requires.own ∙ c.in-Some.is) c.in_ok-same-in-Some.ensures.exact }

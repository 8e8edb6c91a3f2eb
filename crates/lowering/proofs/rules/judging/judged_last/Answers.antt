use Rattle.std.proofs.Common.{◌≡◌, Some, sym, ap, ◌∙◌, subst}
use Rattle.java_ast.specs.Reading.{statement}
use Rattle.lowering.specs.InCode.Counted.{numbers_in_code}
use Rattle.java_loops.specs.Kernel.Kernel.{broken_counts}
use Rattle.lowering.specs.InCode.LoweredInCode.{HasFew, IsCounted}
use Rattle.lowering.specs.InCode.Reading.{setting_in_code}
use Rattle.loop_text.specs.Sites.Sites.{place_of}
use Rattle.lowering.proofs.Ruled.Judged.{count_breaks, start_breaks}
use Rattle.loop_text.proofs.Trees.Rounds.{place_is}
use Rattle.lowering.proofs.rules.judging.judged_last.Goals as goal

pub returns-in-None-clause-outside : goal.returns-in-None-clause-outside
returns-in-None-clause-outside c =
    let counts : broken_counts (setting_in_code c.args.w.now) ≡ Some (place_of (statement c.args.w.now.fragment.looped.now)) = subst (IsCounted (setting_in_code c.args.w.now)) c.in-None.is c.in_ok-counted.ensures in
    count_breaks (setting_in_code c.args.w.now) c.args.w.now.fragment.looped.now.span c.requires.first c.requires.middle (counts ∙ ap Some (place_is c.args.w.now.fragment.looped.now))

pub returns-clause-outside : goal.returns-clause-outside
returns-clause-outside c =
    let few : HasFew (setting_in_code c.args.w.now) (numbers_in_code c.in-Some.t) = subst (IsCounted (setting_in_code c.args.w.now)) c.in-Some.is c.in_ok-counted.ensures in
    start_breaks (setting_in_code c.args.w.now) c.in-Some-2.at c.requires.first c.requires.middle few.unbroken (sym c.in_ok-broken_starts-in-Some.ensures ∙ c.in-Some-2.is)

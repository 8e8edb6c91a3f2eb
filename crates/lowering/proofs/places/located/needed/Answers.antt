use Rattle.std.proofs.Common.{◌≡◌, ◌∙◌, ap, subst, Some, None}
use Rattle.std.proofs.lemmas.Result.{IfOk-weaker}
use Rattle.java_ast.specs.Reading.{program}
use Rattle.loop_text.specs.Statements.Fragment.{needed_of, needed_at}
use Rattle.lowering.specs.InCode.Locating.{fragment_located, IsLocatedAt, IsFoundAt}
use Rattle.loop_setting.specs.Reading.{fragment_in_code}
use Rattle.java_loops.proofs.Kept.NeededOnce.{needed_found}
use Rattle.lowering.proofs.places.located.needed.Goals as goal

pub returns-in-None : goal.returns-in-None
returns-in-None c =
    c.new.ensures ∙ needed_found c.args.path.now (program c.args.program.now) None (subst (IsFoundAt None c.args.path.now (program c.args.program.now)) c.in-None.is c.in_ok-located.ensures)

pub returns-in-Some : goal.returns-in-Some
returns-in-Some c =
    let there : IsLocatedAt None c.args.path.now (program c.args.program.now) c.in-Some.there = subst (IsFoundAt None c.args.path.now (program c.args.program.now)) c.in-Some.is c.in_ok-located.ensures in
    IfOk-weaker c.needed_of.result (λ names. names ≡ needed_of (fragment_in_code c.fragment.result)) (λ names. names ≡ needed_at c.args.path.now (program c.args.program.now))
    (λ names e. e ∙ ap needed_of c.fragment.ensures.fragment ∙ needed_found c.args.path.now (program c.args.program.now) (Some (fragment_located c.in-Some.there)) there.fragment)
    c.needed_of.ensures

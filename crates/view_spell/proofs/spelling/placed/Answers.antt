use Rattle.std.proofs.Common.{◌≡◌, true, rules, arith}
use Rattle.view_spell.specs.Placed.{are_apart}
use Rattle.view_spell.proofs.Apart.{apart_from}
use Rattle.view_spell.proofs.spelling.placed.Goals as goal

pub returns-then-are_apart-clause-apart : goal.returns-then-are_apart-clause-apart
returns-then-are_apart-clause-apart c =
    let h : are_apart c.in-Some.at.from c.in-Some.at.to c.args.patches ≡ true = search rules in
    apart_from c.args.last.now c.in-Some.at.from c.in-Some.at.to c.args.patches (omega arith) h

use Rattle.std.proofs.Common.{◌≡◌, ◌++◌, ℕ, List, codes, ◌∙◌}
use Rattle.java_ast.specs.Reading.{expression}
use Rattle.java_text.specs.Canonical.{canonical_expression}
use Rattle.narrowing.proofs.Made.{lines_made, behind_word, before_end}
use Rattle.narrowing.proofs.instead.print_expression.Goals as goal

pub unreachable-requires : goal.unreachable-requires
unreachable-requires c =
    c.in_default.ensures.cases (canonical_expression 8 (expression c.args.e.now) ++ codes ";\n")
    (lines_made c.as_str.result.now c.deref.result.now c.in_ok-block.block.items c.args.e.now (c.as_str.ensures ∙ c.in_ok-lines.ensures) c.deref.ensures.value c.in_ok-block.ensures)

pub unreachable-requires-in-None : goal.unreachable-requires-in-None
unreachable-requires-in-None c =
    let x : List ℕ = canonical_expression 8 (expression c.args.e.now) in
    let k = c.in-Some.ensures.cases in
    let lines : c.as_str.result.now ≡ codes "return " ++ (x ++ codes ";\n") = lines_made c.as_str.result.now c.deref.result.now c.in_ok-block.block.items c.args.e.now (c.as_str.ensures ∙ c.in_ok-lines.ensures) c.deref.ensures.value c.in_ok-block.ensures in
    c.in-None.ensures.cases x (behind_word c.as_str.result.now c.in-Some.rest.now (x ++ codes ";\n") k.0 lines k.1.0 k.2)

pub returns : goal.returns
returns c =
    let x : List ℕ = canonical_expression 8 (expression c.args.e.now) in
    let k = c.in-Some.ensures.cases in
    let j = c.in-Some-strip_suffix.ensures.cases in
    let lines : c.as_str.result.now ≡ codes "return " ++ (x ++ codes ";\n") = lines_made c.as_str.result.now c.deref.result.now c.in_ok-block.block.items c.args.e.now (c.as_str.ensures ∙ c.in_ok-lines.ensures) c.deref.ensures.value c.in_ok-block.ensures in
    let rest : c.in-Some.rest.now ≡ x ++ codes ";\n" = behind_word c.as_str.result.now c.in-Some.rest.now (x ++ codes ";\n") k.0 lines k.1.0 k.2 in
    c.in_ok-owned-in-Some-strip_suffix.ensures ∙ before_end c.in-Some.rest.now c.in-Some-strip_suffix.text.now x j.0 rest j.1.0 j.2

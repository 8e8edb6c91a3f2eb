use Rattle.std.proofs.Common.{◌≡◌, ◌-◌, ◌++◌, ℕ, List, length, take, sym, ap, ◌∙◌}
use Rattle.java_ast.specs.Reading.{statements}
use Rattle.java_text.specs.Canonical.{canonical_statements, line_end}
use Rattle.java_stretches.proofs.PatchesMade.{no_line_end, no_margin}
use Rattle.java_stretches.proofs.patching.joined_lines.Goals as goal

pub returns-in_default : goal.returns-in_default
returns-in_default c =
    no_line_end c.args.margin.now c.in_ok-lines.lines (statements c.args.block.now)
    (c.in_ok-lines.ensures ∙ ap (λ (m : List ℕ). canonical_statements m (statements c.args.block.now)) c.as_str.ensures)
    (λ front e. c.in_default.ensures.cases front (c.as_str-2.ensures ∙ e))

pub unreachable-requires : goal.unreachable-requires
unreachable-requires c =
    let k = c.in-Some.ensures.cases in
    let one : k.0 ≡ 1 = k.1.0 in
    let cut : c.in-Some.front.now ≡ take (length c.as_str-2.result.now - 1) c.as_str-2.result.now = k.2 ∙ ap (λ (n : ℕ). take (length c.as_str-2.result.now - n) c.as_str-2.result.now) one in
    let ends : c.as_str-2.result.now ≡ take (length c.as_str-2.result.now - 1) c.as_str-2.result.now ++ line_end = k.1.1 ∙ ap (λ (n : ℕ). take (length c.as_str-2.result.now - n) c.as_str-2.result.now ++ line_end) one in
    no_margin c.args.margin.now c.as_str-2.result.now c.in-Some.front.now (statements c.args.block.now)
    (c.as_str-2.ensures ∙ c.in_ok-lines.ensures ∙ ap (λ (m : List ℕ). canonical_statements m (statements c.args.block.now)) c.as_str.ensures)
    cut ends
    (λ rest e. c.in-None.ensures.cases rest (e ∙ ap (λ (m : List ℕ). m ++ rest) (sym c.as_str-3.ensures)))

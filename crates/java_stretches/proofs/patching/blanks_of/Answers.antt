use Rattle.std.proofs.Common.{rules, ◌≡◌, take, false, true, sym, ap, ◌∙◌, subst}
use Rattle.std.specs.Str.{IsUtf8}
use Rattle.java_stretches.specs.Patches as specs
use Rattle.java_stretches.proofs.PatchesMade.{blanks_are_text}
use Rattle.java_stretches.proofs.patching.blanks_of.Goals as goal

pub unreachable-requires : goal.unreachable-requires
unreachable-requires c =
    let copy : c.in_ok-blanks.blanks.items ≡ take c.blank_len.result c.args.line.now = search rules in
    let is : c.in_ok-blanks.blanks.items ≡ specs.blanks_of c.args.line.now = copy ∙ ap (λ n. take n c.args.line.now) c.blank_len.ensures.value in
    let no : false ≡ true = c.in-None.ensures.some (subst IsUtf8 (sym is) (blanks_are_text c.args.line.now)) in
    cc

use Rattle.std.proofs.Common.{◌<◌, ◌∙◌, ◌++◌, ◌∷◌, [], List, Option, length, ap, map, arith}
use Rattle.std.proofs.lemmas.List.{map-append}
use Rattle.tor_terms.specs.Plain.{Form}
use Rattle.kernel_lang.specs.Plain.{guard_of}
use Rattle.tor_terms.specs.declared.term.Formula.{Formula}
use Rattle.lowering.specs.InCode.Contexts.{numbers_given, setting_given}
use Rattle.loop_text.specs.Sites.Reading.{round_of}
use Rattle.java_loops.proofs.Lowering.LoweredGuards.{guard_next}
use Rattle.lowering.proofs.lowering.guards.guards_of.Goals as goal

pub loop-level-preserved : goal.loop-level-preserved
loop-level-preserved c =
    let below : c.loop-level.level < length c.args.r.now.loops = omega arith in
    guard_next (setting_given c.args.context.now) (numbers_given c.args.context.now) (round_of c.args.r.now) c.loop-level.level c.args.r.now.loops (map guard_of c.loop-level.guards) (map guard_of c.push.new.self) _ below
    (ap (λ (gs : List (Option Formula)). map guard_of gs) c.in_ok-push.ensures.ok
    ∙ map-append guard_of c.loop-level.guards (c.in_ok-guard_at.field-0 ∷ [])
    ∙ ap (λ (g : Option Form). map guard_of c.loop-level.guards ++ g ∷ []) c.in_ok-guard_at.ensures)
    c.loop-level.invariant

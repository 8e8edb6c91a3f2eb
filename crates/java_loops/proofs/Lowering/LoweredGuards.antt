-- Guards and conditions, one by one.
use Rattle.std.proofs.Common.{◌≡◌, ℕ, suc, ◌+◌, ◌<◌, List, [], ◌∷◌, ◌++◌, length, drop, get_or, drop-cons, add-one, append_assoc, sym, ap, ◌∙◌, arith}
use Rattle.std.specs.declared.option.Option.{Option}
use Rattle.std.proofs.lemmas.List.{map-append}
use Rattle.tor_terms.specs.Plain.{Form}
use Rattle.java_loops.specs.Lowering.Lowered.{guard_at, guards_from}
use Rattle.java_loops.specs.Lowering.Numbering.{Numbers}
use Rattle.java_loops.specs.Kernel.Setting.{Setting}
use Rattle.loop_text.specs.Sites.Sites.{Round}

pub ruleset guards = (map-append, append_assoc)

-- the guard of one loop more
pub guard_next : (w : Setting) (t : Numbers) (r : Round) (level : ℕ) (loops : List ℕ) (pushed next whole : List (Option Form)) → level < length loops → next ≡ pushed ++ guard_at w t r (level + 1) ∷ [] → pushed ++ guards_from w t r (level + 1) (drop level loops) ≡ whole → next ++ guards_from w t r (level + 1 + 1) (drop (level + 1) loops) ≡ whole
guard_next w t r level loops pushed next whole h is all_of =
    let rest = drop (level + 1) loops in
    let e : drop level loops ≡ get_or loops level 0 ∷ rest = rw add-one (drop-cons loops level 0 h) in
    let k : level + 1 + 1 ≡ suc (level + 1) = omega arith in
    ap (λ (gs : List (Option Form)). gs ++ guards_from w t r (level + 1 + 1) rest) is
    ∙ append_assoc pushed (guard_at w t r (level + 1) ∷ []) (guards_from w t r (level + 1 + 1) rest)
    ∙ ap (λ (n : ℕ). pushed ++ guard_at w t r (level + 1) ∷ guards_from w t r n rest) k
    ∙ ap (λ (js : List ℕ). pushed ++ guards_from w t r (level + 1) js) (sym e)
    ∙ all_of

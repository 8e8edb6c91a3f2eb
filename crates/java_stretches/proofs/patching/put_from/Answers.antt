use Rattle.std.proofs.Common.{length, slice_get, ◌-◌, List, ap, ◌∙◌}
use Rattle.std.proofs.lemmas.Result.{on_ok_weaker}
use Rattle.java_ast.specs.Reading.{statements}
use Rattle.java_stretches.specs.declared.patch.Patch.{Patch}
use Rattle.java_stretches.specs.Patches.{plain_patches}
use Rattle.java_stretches.proofs.PatchesMade.{patch_is}
use Rattle.java_stretches.proofs.patching.put_from.Goals as goal

pub returns : goal.returns
returns c =
    on_ok_weaker c.push.result
    (λ e. patch_is c.args.source.now (plain_patches c.args.patches.now) c.keep_earlier.new.patches c.args.from c.args.to c.args.path.now c.args.first (statements c.args.block.now) _ c.in_ok-margin.margin c.in_ok-text.text c.in_ok-path.path c.from_vec.result
    c.keep_earlier.ensures (c.last.ensures.value ∙ ap (λ (ps : List Patch). slice_get ps (length ps - 1)) c.as_slice.ensures) c.in_ok-margin.ensures c.in_ok-text.ensures c.in_ok-path.ensures (ap statements c.from_vec.ensures ∙ c.in_ok-block.ensures) c.push.new.self e)
    c.push.ensures.ok

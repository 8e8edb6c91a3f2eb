use Rattle.std.proofs.Common.{◌≡◌, drop}
use Rattle.java_stretches.specs.Patches as specs
use Rattle.java_stretches.proofs.patching.begins_at.Given as goal

-- no patch so far has the byte
abbrev pub invariant-loop-p : goal.invariant-loop-p
invariant-loop-p l = specs.begins_at (specs.plain_patches l.patches) l.start ≡ specs.begins_at (specs.plain_patches (drop l.p-index l.patches)) l.start

use Rattle.std.proofs.Common.{◌≡◌, drop}
use Rattle.view_rules.specs.Setting.{within_of}
use Rattle.view_rules.specs.Spelled.{class_among}
use Rattle.view_rules.proofs.spelled.class_among.Given as goal

-- no class before this one has the name
abbrev pub invariant-loop-n : goal.invariant-loop-n
invariant-loop-n l = class_among (within_of l.w) l.classes l.word ≡ class_among (within_of l.w) (drop l.n-index l.classes) l.word

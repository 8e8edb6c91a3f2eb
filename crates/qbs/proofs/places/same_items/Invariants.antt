use Rattle.std.proofs.Common.{◌≡◌, drop}
use Rattle.qbs.specs.SeenAgain.{words_of}
use Rattle.qbs.proofs.places.same_items.Given as goal

-- where the items that are left are the same words, all are
abbrev pub invariant-loop-item : goal.invariant-loop-item
invariant-loop-item l = words_of (drop l.item-index l.a) ≡ words_of l.rest → words_of l.a ≡ words_of l.b

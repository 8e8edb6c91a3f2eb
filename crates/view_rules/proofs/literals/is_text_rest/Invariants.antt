use Rattle.std.proofs.Common.{◌≡◌, length}
use Rattle.view_rules.specs.Literals.{is_text_rest}
use Rattle.view_rules.proofs.literals.is_text_rest.Given as goal

-- the bytes are a text's as far as those that are left are
abbrev pub invariant-loop-rest : goal.invariant-loop-rest
invariant-loop-rest l = is_text_rest l.bytes ≡ is_text_rest l.rest

abbrev pub decreases-loop-rest : goal.decreases-loop-rest
decreases-loop-rest l = length l.rest

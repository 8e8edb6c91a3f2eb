use Rattle.std.proofs.Common.{◌≡◌, drop, length, nat_lt}
use Rattle.std.specs.List.{list_all}
use Rattle.tor_eval.proofs.eval_lists.have_rows.Given as goal

abbrev pub invariant-loop-j : goal.invariant-loop-j
invariant-loop-j l = list_all (λ j. nat_lt j (length l.env.cur)) l.loops ≡ list_all (λ j. nat_lt j (length l.env.cur)) (drop l.j-index l.loops)

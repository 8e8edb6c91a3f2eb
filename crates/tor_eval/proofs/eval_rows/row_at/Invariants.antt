use Rattle.std.proofs.Common.{◌≡◌, ℕ, map, drop}
use Rattle.qbs_base.specs.declared.scalar.Row.{Row}
use Rattle.tor_terms.specs.Truth as truths
use Rattle.tor_terms.specs.Worlds.{world_of}
use Rattle.tor_eval.proofs.eval_rows.row_at.Given as goal

abbrev pub invariant-loop-own : goal.invariant-loop-own
invariant-loop-own l =
    record {
      row : truths.row_at (world_of l.env).current l.tuple l.j ≡ truths.row_at (world_of l.env).current (drop l.own-index l.tuple) l.j;
      there : truths.has_loop (map (λ (own : ℕ × Row). own.0) l.tuple) l.j ≡ truths.has_loop (map (λ (own : ℕ × Row). own.0) (drop l.own-index l.tuple)) l.j;
    }

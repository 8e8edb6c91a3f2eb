-- All statements of the run of the worked example are kept.
use Rattle.std.specs.Prelude.{[]}
use Rattle.std.proofs.Common.{refl}
use Rattle.qbs_base.specs.declared.span.Span.{Span}
use Rattle.java_ast.specs.Tree.{Long, Var, Declare, Statement}
use Rattle.loop_text.specs.Statements.Fragment.{StandsIn, first, after, IsWanted, mentioned, IsKept}
use Rattle.java_loops.proofs.Kept.Least.{live_wanted}
use Rattle.java_loops.specs.Kernel.Worked.{u, v, w, moved, moved_run}

v_wanted : (at : Span) → IsWanted (moved at) [] v
v_wanted at = live_wanted (moved at) [] v refl

u_wanted : (at : Span) → IsWanted (moved at) [] u
u_wanted at = mentioned (Declare at Long v (Var at u)) u (after (Declare at Long v (Var at u)) (Declare at Long u (Var at w)) _ (first (Declare at Long v (Var at u)) _)) refl (v_wanted at) refl

pub all_kept : (at : Span) (s : Statement) → StandsIn s (moved_run at) → IsKept (moved at) [] s
all_kept at _ (first _ _) = record { not_dropped = refl; wanted = u_wanted at }
all_kept at _ (after _ _ _ (first _ _)) = record { not_dropped = refl; wanted = v_wanted at }
all_kept at _ (after _ _ _ (after _ _ _ (first _ _))) = record { not_dropped = refl; wanted = u_wanted at }
all_kept at _ (after _ _ _ (after _ _ _ (after _ _ _ h))) = elim h [ ]

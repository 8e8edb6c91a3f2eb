-- A loop that may be asked for has asks, and one with asks may be asked for where the candidate's postconditions hold.
use Rattle.std.specs.Prelude.{ℕ, List}
use Rattle.std.specs.declared.option.Option.{Option}
use Rattle.qbs_base.specs.Values.{Schema}
use Rattle.sql_ast.specs.Tree.{PlainQuery}
use Rattle.vc_gen.specs.Soundness.{EndsAnywhere}
use Rattle.java_ast.specs.Tree.{PlainProgram}
use Rattle.java_loops.specs.Kernel.Kernel.{lowering}
use Rattle.java_loops.specs.Kernel.Setting.{Setting}
use Rattle.rewrite_core.specs.Asking.{HasAsks, MayBeAsked}

pub has_asks : (schema : Schema) (read : List ℕ → Option PlainQuery) (p : PlainProgram) (path : List ℕ) (w : Setting) (candidate : List ℕ) → MayBeAsked schema read p path w candidate → HasAsks schema read p path w candidate
has_asks schema read p path w candidate may = record { loop = may.loop; known = may.known; emitted = may.emitted }

pub may_with : (schema : Schema) (read : List ℕ → Option PlainQuery) (p : PlainProgram) (path : List ℕ) (w : Setting) (candidate : List ℕ) → HasAsks schema read p path w candidate → EndsAnywhere (lowering w).fragment candidate → MayBeAsked schema read p path w candidate
may_with schema read p path w candidate has ends = record { loop = has.loop; known = has.known; emitted = has.emitted; ends = ends }

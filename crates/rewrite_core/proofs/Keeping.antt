-- A program keeps what it does where a loop gives way to the asks that stand for it.
use Rattle.std.proofs.Common.{◌≡◌, ℕ, Some, sym, ap, subst}
use Rattle.qbs_base.specs.Values.{Schema}
use Rattle.java_ast.specs.Tree.{PlainProgram}
use Rattle.java_mean.specs.Keeps.{Keeps}
use Rattle.java_mean.specs.Numbers.{NumbersFit}
use Rattle.java_mean.specs.Queries.{Reader}
use Rattle.java_mean.specs.WellTyped.{IsWellTyped}
use Rattle.loop_text.specs.Statements.KeptStatements.{first_at}
use Rattle.java_loops.specs.Kernel.Kernel.{lowering}
use Rattle.java_ast.specs.Names.{names_read}
use Rattle.java_loops.specs.Meant.Asking.{rewritten_at}
use Rattle.java_loops.specs.Meant.KeptNumbers.{kept_numbers}
use Rattle.java_loops.proofs.Kept.KeptPath.{loops_give_way}
use Rattle.java_loops.proofs.Kept.KeptRuns.{kept_numbers_kept}
use Rattle.rewrite_core.specs.Asked.{Place, asks_of, number_of, replaced}
use Rattle.rewrite_core.specs.Asking.{MayBeAsked}
use Rattle.rewrite_core.proofs.Asked.{asks_are_for_loops}

-- the program with the statements from this number on replaced
abbrev replaced_from : Place → ℕ → PlainProgram
replaced_from l first = rewritten_at l.path first (kept_numbers l.setting.fragment (names_read (lowering l.setting).entries) first l.setting.fragment.run) l.setting (asks_of l) l.program

-- The program with the asks in place of the loop keeps what the program does, if it stays well typed.
pub replaced_keeps : (schema : Schema) (reader : Reader schema) (l : Place) (first : ℕ) → MayBeAsked schema reader.read l.program l.path l.setting l.candidate → first_at l.path l.program ≡ Some first → IsWellTyped schema reader.read (replaced l) → NumbersFit (replaced l) → Keeps l.program (replaced l) schema
replaced_keeps schema reader l first may begins well numbers =
    let begin : number_of (first_at l.path l.program) ≡ first = ap number_of begins in
    subst (λ n. Keeps l.program (replaced_from l n) schema) (sym begin)
    (loops_give_way schema reader l.program l.path l.setting first (kept_numbers l.setting.fragment (names_read (lowering l.setting).entries) first l.setting.fragment.run) (asks_of l) may.loop.typed may.loop.numbers may.loop.there may.loop.unbroken begins
    (kept_numbers_kept l.setting.fragment (names_read (lowering l.setting).entries) first l.setting.fragment.run) (asks_are_for_loops schema reader l may)
    (subst (λ n. IsWellTyped schema reader.read (replaced_from l n)) begin well) (subst (λ n. NumbersFit (replaced_from l n)) begin numbers))

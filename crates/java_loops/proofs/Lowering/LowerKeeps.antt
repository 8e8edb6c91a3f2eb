-- Text in place of the loop of a fragment keeps a program.
use Rattle.std.proofs.Common.{◌≡◌, ℕ, List, None}
use Rattle.qbs_base.specs.Values.{Schema}
use Rattle.java_ast.specs.Tree.{PlainProgram}
use Rattle.java_mean.specs.Asks.{frame_of}
use Rattle.java_mean.specs.Keeps.{Keeps}
use Rattle.java_mean.specs.Numbers.{NumbersFit}
use Rattle.java_mean.specs.Queries.{Reader}
use Rattle.java_mean.specs.Types.{Types}
use Rattle.java_mean.specs.WellTyped.{IsWellTyped}
use Rattle.java_loops.specs.Walks.Reads.{Set}
use Rattle.java_loops.specs.Walks.Replacing.{Ask, replacement}
use Rattle.loop_text.specs.Statements.Fragment.{Fragment}
use Rattle.java_loops.specs.Meant.GivesWay.{MayStandForLoop}
use Rattle.java_loops.specs.Kernel.Kernel.{broken}
use Rattle.java_loops.specs.Kernel.Setting.{setting_of}
use Rattle.java_loops.proofs.Lowering.LowerChains.{fragment_chains}
use Rattle.java_loops.proofs.Meant.MeanReplaced.{with_statements, text_keeps_program}
use Rattle.java_loops.proofs.Placing.PlaceTyped.{types_before, FragmentThere}

-- A well-typed program keeps what it does with text in place of the run and the loop of a fragment that breaks no rule of the
-- kernel form, where the text may stand for the loop, and the program stays well typed and its literals have 64 bits.
pub fragment_text_keeps : (schema : Schema) (reader : Reader schema) (p : PlainProgram) (path : List ℕ) (f : Fragment) (g : Types) → IsWellTyped schema reader.read p → NumbersFit p → (there : FragmentThere schema reader.read p path f g) → broken (setting_of schema reader.read g f) ≡ None → (r : Set) (ks : List Ask) → MayStandForLoop (frame_of schema reader.read there.place.method) (types_before schema p path f there.place) (setting_of schema reader.read g f) r ks → IsWellTyped schema reader.read (with_statements p there.place.number there.place.placed.hole (replacement r f.run ks)) → NumbersFit (with_statements p there.place.number there.place.placed.hole (replacement r f.run ks)) → Keeps p (with_statements p there.place.number there.place.placed.hole (replacement r f.run ks)) schema
fragment_text_keeps schema reader p path f g well fits there rules r ks stands well' fits' =
    text_keeps_program schema reader p path f g well fits there rules (fragment_chains schema reader.read p path f g well there rules) r ks stands well' fits'

-- Where the run has passed, the lowered fragment begins.
use Rattle.std.proofs.Common.{◌≡◌, ℕ, List, Option, refl, length}
use Rattle.qbs_base.specs.Values.{Schema, AreOf}
use Rattle.sql_ast.specs.Tree.{PlainQuery}
use Rattle.java_ast.specs.Tree.{PlainMethod}
use Rattle.java_mean.specs.Asks.{frame_of}
use Rattle.java_mean.specs.Statement.{State}
use Rattle.java_mean.specs.Types.{Types}
use Rattle.java_mean.specs.Typing.{IsWorld}
use Rattle.java_mean.specs.World.{World}
use Rattle.kernel_lang.specs.declared.parts.Entry.{Entry}
use Rattle.java_loops.specs.Walks.ChainStarts.{Begins}
use Rattle.loop_text.specs.Statements.Fragment.{Fragment}
use Rattle.java_loops.specs.Kernel.Kernel.{lowering}
use Rattle.java_loops.specs.Meant.Members.{AreMatched}
use Rattle.java_loops.specs.Meant.Means.{HasScalar, HasScalars, IsAnswered}
use Rattle.java_loops.specs.Lowering.Numbering.{numbers_of, known_of}
use Rattle.java_loops.specs.Kernel.Setting.{Setting, setting_of}
use Rattle.java_loops.proofs.Meant.AnswersKnown.{known_answered}
use Rattle.java_loops.proofs.Listed.ListedRows.{IsSeenFragment}
use Rattle.java_loops.proofs.Meant.MeanGiven.{entries_matched, entry_held, HaveKnown, known_given, known_at, entry_given}
use Rattle.java_loops.proofs.Meant.MeanLists.{list_table, variable_holds, table_whole}
use Rattle.java_loops.proofs.Numbers.Numberings.{numbering}
use Rattle.java_loops.proofs.Placing.PlaceLoop.{IsEstablished}

-- An entry that the fragment is given at its loop, with which it begins.
pub record BeginsThere (w : Setting) (world : World) (t : State) : Type 0 where
  pub entry : Entry
  pub entries : AreMatched (HasScalar world t.store) (lowering w).entries entry.values
  pub typed : AreOf (lowering w).fragment.entries entry.values
  pub known : AreMatched (HasScalars t.store) (numbers_of w).known entry.known
  pub answered : AreMatched (IsAnswered world t.store w.fragment.run) (numbers_of w).known entry.known
  pub begins : Begins (numbering w) (lowering w).fragment world t.store entry
  pub count : length entry.known ≡ (lowering w).fragment.known

-- from what holds at the loop of a fragment that is seen
pub begins_there : (schema : Schema) (read : List ℕ → Option PlainQuery) (f : Fragment) (g : Types) → IsSeenFragment schema read f g → (m : PlainMethod) (world : World) → IsWorld (frame_of schema read m) world → (t : State) → IsEstablished (setting_of schema read g f) world t → BeginsThere (setting_of schema read g f) world t
begins_there schema read f g k m world is_world t h =
    let w : Setting = setting_of schema read g f in
    let lists : HaveKnown w t (known_of w) = known_given w world t h.store h.given in
    record {
      entry = entry_given w world t h.given lists;
      entries = entries_matched w world t h.given;
      typed = h.given.entries.typed;
      known = lists.matched;
      answered = known_answered w world t h.given.entries.values (known_of w) lists.lists h.given.known lists.matched;
      begins = record {
        schema = is_world.schema;
        database = is_world.tables;
        tables = λ j d e. list_table w j d e;
        fetched = λ j n e. table_whole schema read f g k j n e;
        variables = λ j x e. variable_holds w world t h.lists j x e;
        loops = λ x. refl;
        entries = λ x o n ty e i. entry_held w world t h.given x o n ty e i;
        known = λ x n ty e i. known_at w t lists x n ty e i;
      };
      count = lists.count;
    }

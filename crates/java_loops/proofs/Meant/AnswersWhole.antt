-- Asks that answer for a loop by the whole answers of the known lists' queries answer for it by the lists that are there.
use Rattle.std.proofs.Common.{ℕ, List, [], ◌∷◌, refl, sym, ◌∙◌}
use Rattle.qbs_base.specs.declared.scalar.Scalar.{Scalar}
use Rattle.java_ast.specs.Tree.{Statements}
use Rattle.java_mean.specs.Store.{Store}
use Rattle.java_mean.specs.Types.{Types}
use Rattle.java_mean.specs.Typing.{Frame}
use Rattle.java_mean.specs.World.{World}
use Rattle.java_loops.specs.Walks.Replacing.{Ask}
use Rattle.kernel_lang.specs.declared.parts.Entry.{Entry}
use Rattle.java_loops.specs.Meant.GivesWay.{AnswersItsFragment, AnswersWithAnswers}
use Rattle.java_loops.specs.Kernel.Kernel.{lowering}
use Rattle.java_loops.specs.Meant.Members.{AreMatched, HaveSameMembers, SameButForOrder}
use Rattle.java_loops.specs.Meant.Means.{IsAnswered, IsWholeAnswer}
use Rattle.java_ast.specs.Names.{Names}
use Rattle.java_loops.specs.Lowering.Numbering.{numbers_of}
use Rattle.java_loops.specs.Kernel.Setting.{Setting}
use Rattle.java_loops.proofs.Meant.MembersWorlds.{members_decide, members_fit}

-- The whole answers of the variables' queries, with the members of these lists.
record HaveAnswers (w : World) (s : Store) (run : Statements) (ids : Names) (lists : List (List Scalar)) : Type 0 where
  answers : List (List Scalar)
  whole : AreMatched (IsWholeAnswer w s run) ids answers
  members : AreMatched HaveSameMembers lists answers

whole_answer : (w : World) (s : Store) (run : Statements) (x : List ℕ) (xs : List Scalar) (k : IsAnswered w s run x xs) → IsWholeAnswer w s run x k.answer
whole_answer w s run x xs k = record { asked = k.asked; found = k.found; values = k.values; arguments = k.arguments; answered = k.answered }

have_answers : (w : World) (s : Store) (run : Statements) (ids : Names) (lists : List (List Scalar)) → AreMatched (IsAnswered w s run) ids lists → HaveAnswers w s run ids lists
have_answers w s run [] [] h = record { answers = []; whole = tt; members = tt }
have_answers w s run [] (xs ∷ lists) h = absurd h
have_answers w s run (x ∷ ids) [] h = absurd h
have_answers w s run (x ∷ ids) (xs ∷ lists) h =
    let rest : HaveAnswers w s run ids lists = have_answers w s run ids lists h.1 in
    record { answers = h.0.answer ∷ rest.answers; whole = (whole_answer w s run x xs h.0, rest.whole); members = (h.0.members, rest.members) }

pub answers_suffice : (c : Frame) (before : Types) (w : Setting) (ks : List Ask) → AnswersWithAnswers c before w ks → AnswersItsFragment c before w ks
answers_suffice c before w ks by world is_world s t typed passes entry entries types known answered fits values ends =
    let k : HaveAnswers world t.store w.fragment.run (numbers_of w).known entry.known = have_answers world t.store w.fragment.run (numbers_of w).known entry.known answered in
    let whole : Entry = record { values = entry.values; known = k.answers } in
    let same : SameButForOrder entry whole = record { values = refl; known = k.members } in
    by world is_world s t typed passes whole entries types k.whole (members_fit (lowering w).fragment world.db entry whole same fits) values
    (sym (members_decide (lowering w).fragment world.db entry whole same) ∙ ends)

-- The loops of a program give way one after the other, and the program keeps what it does.
use Rattle.std.proofs.Common.{ℕ, zero, suc, List, length, slice_get, Option, Some, None}
use Rattle.qbs_base.specs.Values.{Schema}
use Rattle.query_search.specs.Verdicts.{Found, NoneOf, Budget}
use Rattle.java_ast.specs.Tree.{PlainProgram}
use Rattle.java_mean.specs.Keeps.{Keeps}
use Rattle.java_mean.specs.Numbers.{NumbersFit}
use Rattle.java_mean.specs.Queries.{Reader}
use Rattle.java_mean.specs.WellTyped.{IsWellTyped}
use Rattle.java_mean.proofs.Kept.{keeps_itself, keeps_through}
use Rattle.java_grammar.specs.InGrammar.{IsInGrammar}
use Rattle.java_grammar.specs.Written.{IsWritten}
use Rattle.java_types.specs.Texts.{read_by}
use Rattle.java_types.proofs.Found.{found_exactly}
use Rattle.loop_text.specs.Statements.Loops.{loops_of}
use Rattle.java_loops.specs.Kernel.Kernel.{broken, setting_at}
use Rattle.java_loops.specs.Kernel.Setting.{Setting}
use Rattle.rewrite_core.specs.Trying.{Answer, Outside, Searched, answer_unless, Tried, tried_in, tried_at, program_by, program_after, standing_after, and_further, trying, left_of, rewritten, all_tried}
use Rattle.rewrite_core.specs.TriedAsking.{MayBeAskedBy, AllMayBeAsked}
use Rattle.rewrite_core.proofs.HasAsks.{has_asks}
use Rattle.rewrite_core.proofs.StaysTyped.{replaced_well, replaced_numbers_fit, loops_give_way}
use Rattle.rewrite_core.proofs.Writable.Asks.{replaced_fine}

-- the second program keeps what the first does, and is as well typed
pub record Follows (schema : Schema) (p q : PlainProgram) : Type 0 where
  pub keeps : Keeps p q schema
  pub typed : IsWellTyped schema (read_by schema) p → IsWellTyped schema (read_by schema) q
  pub numbers : NumbersFit p → NumbersFit q
  pub written : IsInGrammar p × IsWritten p → IsInGrammar q × IsWritten q

module _ (schema : Schema) where
  abbrev reader : Reader schema
  reader = record { read = read_by schema; exact = found_exactly schema }

  itself : (p : PlainProgram) → Follows schema p p
  itself p = record { keeps = keeps_itself schema p; typed = λ h. h; numbers = λ h. h; written = λ h. h }

  through : (p q r : PlainProgram) → Follows schema p q → Follows schema q r → Follows schema p r
  through p q r h k = record { keeps = keeps_through schema p q r h.keeps k.keeps; typed = λ t. k.typed (h.typed t); numbers = λ n. k.numbers (h.numbers n); written = λ w. k.written (h.written w) }

  -- one try
  pub one_follows : (t : Tried) (a : Answer) → MayBeAskedBy schema t a → Follows schema t.program (program_by t a)
  one_follows t (Searched f (Found h)) may =
      record {
        keeps = loops_give_way schema reader (record { program = t.program; path = t.path; setting = t.setting; candidate = h.candidate }) may;
        typed = λ old. replaced_well schema reader (record { program = t.program; path = t.path; setting = t.setting; candidate = h.candidate }) (has_asks schema reader.read t.program t.path t.setting h.candidate may);
        numbers = λ old. replaced_numbers_fit schema reader (record { program = t.program; path = t.path; setting = t.setting; candidate = h.candidate }) (has_asks schema reader.read t.program t.path t.setting h.candidate may);
        written = λ old.
            replaced_fine schema reader (record { program = t.program; path = t.path; setting = t.setting; candidate = h.candidate })
            (has_asks schema reader.read t.program t.path t.setting h.candidate may) old;
      }
  one_follows t (Searched f (NoneOf n)) may = itself t.program
  one_follows t (Searched f (Budget b n)) may = itself t.program
  one_follows t (Outside b) may = itself t.program

  module _ (size budget : ℕ) where
    module _ (p : PlainProgram) (n : ℕ) (further : PlainProgram → ℕ → List Tried) (ih : (q : PlainProgram) (m : ℕ) → AllMayBeAsked schema (further q m) → Follows schema q (left_of q (further q m))) where
      -- the tries from one on
      abbrev tries : Option Tried → List Tried
      tries o = and_further o (λ t. further (program_after t) (standing_after n t.answer))

      by_setting : (path : List ℕ) (o : Option Setting) → AllMayBeAsked schema (tries (tried_in size budget p path o)) → Follows schema p (left_of p (tries (tried_in size budget p path o)))
      by_setting path None h = itself p
      by_setting path (Some w) h =
          let t : Tried = record { program = p; path = path; setting = w; answer = answer_unless size budget w (broken w) } in
          through p (program_after t) (left_of (program_after t) (further (program_after t) (standing_after n t.answer))) (one_follows t t.answer h.0) (ih (program_after t) (standing_after n t.answer) h.1)

      by_path : (o : Option (List ℕ)) → AllMayBeAsked schema (tries (tried_at schema size budget p o)) → Follows schema p (left_of p (tries (tried_at schema size budget p o)))
      by_path None h = itself p
      by_path (Some path) h = by_setting path (setting_at schema (read_by schema) path p) h

    pub all_follow : (left : ℕ) (p : PlainProgram) (n : ℕ) → AllMayBeAsked schema (trying left schema size budget p n) → Follows schema p (left_of p (trying left schema size budget p n))
    unfolding trying
    all_follow zero p n h = itself p
    all_follow (suc left) p n h = by_path p n (λ q m. trying left schema size budget q m) (λ q m k. all_follow left q m k) (slice_get (loops_of p) n) h

    pub rewritten_follows : (p : PlainProgram) → AllMayBeAsked schema (all_tried schema size budget p) → Follows schema p (rewritten schema size budget p)
    unfolding all_tried
    rewritten_follows p h = all_follow (length (loops_of p)) p 0 h

-- The program after all tries keeps what the program does, is well typed, and has literals of 64 bits.
pub rewritten_keeps : (schema : Schema) (size budget : ℕ) (p : PlainProgram) → AllMayBeAsked schema (all_tried schema size budget p) → Keeps p (rewritten schema size budget p) schema
rewritten_keeps schema size budget p h = (rewritten_follows schema size budget p h).keeps

pub rewritten_typed : (schema : Schema) (size budget : ℕ) (p : PlainProgram) → AllMayBeAsked schema (all_tried schema size budget p) → IsWellTyped schema (read_by schema) p → IsWellTyped schema (read_by schema) (rewritten schema size budget p)
rewritten_typed schema size budget p h = (rewritten_follows schema size budget p h).typed

pub rewritten_fits : (schema : Schema) (size budget : ℕ) (p : PlainProgram) → AllMayBeAsked schema (all_tried schema size budget p) → NumbersFit p → NumbersFit (rewritten schema size budget p)
rewritten_fits schema size budget p h = (rewritten_follows schema size budget p h).numbers

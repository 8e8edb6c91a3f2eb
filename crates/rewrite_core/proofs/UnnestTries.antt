-- The loops of a program give way one after the other to the asks for their spreads, and the program keeps what it does.
use Rattle.std.proofs.Common.{◌≡◌, ℕ, zero, suc, List, length, slice_get, Option, Some, None, refl}
use Rattle.std.specs.Option.{option_map}
use Rattle.qbs_base.specs.Values.{Schema}
use Rattle.query_search.specs.Verdicts.{Found, NoneOf, Budget}
use Rattle.java_ast.specs.Path.{found_in, last_of, replaced_at, statement_at}
use Rattle.java_ast.specs.Tree.{Statement, Nothing, Then, PlainProgram}
use Rattle.java_mean.specs.Keeps.{Keeps}
use Rattle.java_mean.specs.Numbers.{NumbersFit}
use Rattle.java_mean.specs.Queries.{Reader}
use Rattle.java_mean.specs.WellTyped.{IsWellTyped}
use Rattle.java_mean.proofs.Kept.{keeps_itself, keeps_through}
use Rattle.java_types.specs.Texts.{read_by}
use Rattle.java_types.proofs.Found.{found_exactly}
use Rattle.loop_text.specs.Statements.Loops.{loops_of}
use Rattle.java_loops.specs.Kernel.Kernel.{broken, setting_at}
use Rattle.java_loops.specs.Kernel.Setting.{Setting}
use Rattle.spreads.specs.Spread.{spread_of}
use Rattle.rewrite_core.specs.Asked.{Place, replaced}
use Rattle.rewrite_core.specs.Asking.{MayBeAsked}
use Rattle.rewrite_core.specs.Trying.{Answer, Outside, Searched, answer_unless, Tried, tried_in, tried_at, program_after, left_of}
use Rattle.rewrite_core.specs.TriedAsking.{AllMayBeAsked}
use Rattle.rewrite_core.specs.Unnesting.{if_found, unnested_at, unnesting_next, unnesting_by, unnesting, all_unnested, unnested}
use Rattle.rewrite_core.proofs.HasAsks.{has_asks}
use Rattle.rewrite_core.proofs.StaysTyped.{replaced_well, replaced_numbers_fit}
use Rattle.rewrite_core.proofs.UnnestGives.{unnested_loop_keeps}

-- the second program keeps what the first does, is well typed, and has literals of 64 bits
pub record IsKept (schema : Schema) (p q : PlainProgram) : Type 0 where
  pub keeps : Keeps p q schema
  pub typed : IsWellTyped schema (read_by schema) q
  pub numbers : NumbersFit q

module _ (schema : Schema) where
  abbrev reader : Reader schema
  reader = record { read = read_by schema; exact = found_exactly schema }

  itself : (p : PlainProgram) → IsWellTyped schema (read_by schema) p → NumbersFit p → IsKept schema p p
  itself p well numbers = record { keeps = keeps_itself schema p; typed = well; numbers = numbers }

  through : (p q r : PlainProgram) → IsKept schema p q → IsKept schema q r → IsKept schema p r
  through p q r h k = record { keeps = keeps_through schema p q r h.keeps k.keeps; typed = k.typed; numbers = k.numbers }

  -- one loop
  pub one_kept : (l : Place) (p : PlainProgram) (s z : Statement) → IsWellTyped schema (read_by schema) p → NumbersFit p → statement_at l.path p ≡ Some s → spread_of schema (read_by schema) s ≡ Some z → l.program ≡ replaced_at l.path (last_of l.path) (Then z Nothing) p → MayBeAsked schema (read_by schema) l.program l.path l.setting l.candidate → IsKept schema p (replaced l)
  one_kept l p s z well numbers leads spread is may =
      let has = has_asks schema (read_by schema) l.program l.path l.setting l.candidate may in
      record { keeps = unnested_loop_keeps schema reader l p s z well numbers leads spread is may; typed = replaced_well schema reader l has; numbers = replaced_numbers_fit schema reader l has }

  module _ (size budget : ℕ) where
    module _ (p : PlainProgram) (n : ℕ) (further : PlainProgram → ℕ → List Tried) (ih : (q : PlainProgram) (m : ℕ) → IsWellTyped schema (read_by schema) q → NumbersFit q → AllMayBeAsked schema (further q m) → IsKept schema q (left_of q (further q m))) (well : IsWellTyped schema (read_by schema) p) (numbers : NumbersFit p) where
      -- the tries from one on, where it finds a candidate, and those of the loops behind it
      abbrev tries : Option Tried → List Tried
      tries o = unnesting_next o (λ t. further (program_after t) n) (further p (suc n))

      abbrev Fine : List Tried → Type 0
      Fine ts = AllMayBeAsked schema ts → IsKept schema p (left_of p ts)

      stands : Fine (tries None)
      stands h = ih p (suc n) well numbers h

      module _ (path : List ℕ) (s z : Statement) (leads : statement_at path p ≡ Some s) (spread : spread_of schema (read_by schema) s ≡ Some z) where
        abbrev with_spread : PlainProgram
        with_spread = replaced_at path (last_of path) (Then z Nothing) p

        by_answer : (w : Setting) (a : Answer) → Fine (tries (if_found (record { program = with_spread; path = path; setting = w; answer = a }) a))
        by_answer w (Searched f (Found c)) h =
            let t : Tried = record { program = with_spread; path = path; setting = w; answer = Searched f (Found c) } in
            let one : IsKept schema p (program_after t) = one_kept (record { program = with_spread; path = path; setting = w; candidate = c.candidate }) p s z well numbers leads spread refl h.0 in
            through p (program_after t) (left_of (program_after t) (further (program_after t) n)) one (ih (program_after t) n one.typed one.numbers h.1)
        by_answer w (Searched f (NoneOf m)) h = stands h
        by_answer w (Searched f (Budget b m)) h = stands h
        by_answer w (Outside b) h = stands h

        by_setting : (o : Option Setting) → Fine (tries (found_in (λ (t : Tried). if_found t t.answer) (tried_in size budget with_spread path o)))
        by_setting None h = stands h
        by_setting (Some w) h = by_answer w (answer_unless size budget w (broken w)) h

      -- where this is the spread of the loop
      abbrev tried_with : List ℕ → Option Statement → Option Tried
      tried_with path o = found_in (λ q. found_in (λ (t : Tried). if_found t t.answer) (tried_at schema size budget q (Some path))) (option_map (λ z. replaced_at path (last_of path) (Then z Nothing) p) o)

      by_spread : (path : List ℕ) (s : Statement) → statement_at path p ≡ Some s → (o : Option Statement) → spread_of schema (read_by schema) s ≡ o → Fine (tries (tried_with path o))
      by_spread path s leads None e h = stands h
      by_spread path s leads (Some z) e h = by_setting path s z leads e (setting_at schema (read_by schema) path (replaced_at path (last_of path) (Then z Nothing) p)) h

      by_statement : (path : List ℕ) (o : Option Statement) → statement_at path p ≡ o → Fine (tries (tried_with path (found_in (spread_of schema (read_by schema)) o)))
      by_statement path None e h = stands h
      by_statement path (Some s) e h = by_spread path s e (spread_of schema (read_by schema) s) refl h

      by_path : (o : Option (List ℕ)) → Fine (unnesting_by o (unnested_at schema size budget p) (λ t. further (program_after t) n) (further p (suc n)))
      by_path None h = itself p well numbers
      by_path (Some path) h = by_statement path (statement_at path p) refl h

    pub all_kept : (left : ℕ) (p : PlainProgram) (n : ℕ) → IsWellTyped schema (read_by schema) p → NumbersFit p → AllMayBeAsked schema (unnesting left schema size budget p n) → IsKept schema p (left_of p (unnesting left schema size budget p n))
    unfolding unnesting
    all_kept zero p n well numbers h = itself p well numbers
    all_kept (suc left) p n well numbers h = by_path p n (λ q m. unnesting left schema size budget q m) (λ q m t k a. all_kept left q m t k a) well numbers (slice_get (loops_of p) n) h

    pub unnested_kept : (p : PlainProgram) → IsWellTyped schema (read_by schema) p → NumbersFit p → AllMayBeAsked schema (all_unnested schema size budget p) → IsKept schema p (unnested schema size budget p)
    unfolding all_unnested
    unnested_kept p well numbers h = all_kept (length (loops_of p)) p 0 well numbers h

-- The program after all tries keeps what the program does, is well typed, and has literals of 64 bits.
pub unnesting_keeps : (schema : Schema) (size budget : ℕ) (p : PlainProgram) → IsWellTyped schema (read_by schema) p → NumbersFit p → AllMayBeAsked schema (all_unnested schema size budget p) → Keeps p (unnested schema size budget p) schema
unnesting_keeps schema size budget p well numbers h = (unnested_kept schema size budget p well numbers h).keeps

pub unnesting_typed : (schema : Schema) (size budget : ℕ) (p : PlainProgram) → IsWellTyped schema (read_by schema) p → NumbersFit p → AllMayBeAsked schema (all_unnested schema size budget p) → IsWellTyped schema (read_by schema) (unnested schema size budget p)
unnesting_typed schema size budget p well numbers h = (unnested_kept schema size budget p well numbers h).typed

pub unnesting_fits : (schema : Schema) (size budget : ℕ) (p : PlainProgram) → IsWellTyped schema (read_by schema) p → NumbersFit p → AllMayBeAsked schema (all_unnested schema size budget p) → NumbersFit (unnested schema size budget p)
unnesting_fits schema size budget p well numbers h = (unnested_kept schema size budget p well numbers h).numbers

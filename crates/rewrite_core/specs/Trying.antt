-- The loops of a program are tried in text order, an outer one before those inside it, each on the program as it stands. One for whose
-- lowered fragment a candidate is found gives way to its queries, and vanishes with all inside it.
use Rattle.std.specs.Prelude.{ℕ, zero, suc, List, [], ◌∷◌, length, slice_get}
use Rattle.std.specs.declared.option.Option.{Option}
use Rattle.std.specs.declared.option.Option.TheVariants.{Some, None}
use Rattle.qbs_base.specs.Values.{Schema}
use Rattle.kernel_lang.specs.Plain.{Fragment}
use Rattle.query_search.specs.Verdicts.{Verdict, Found, NoneOf, Budget, verdict}
use Rattle.java_ast.specs.Tree.{PlainProgram}
use Rattle.java_types.specs.Texts.{read_by}
use Rattle.loop_text.specs.Statements.Loops.{loops_of}
use Rattle.java_loops.specs.Kernel.Kernel.{Broken, broken, lowering, setting_at}
use Rattle.java_loops.specs.Kernel.Setting.{Setting}
use Rattle.rewrite_core.specs.Asked.{replaced}

-- ---- One loop

-- what is said of a loop: the rule of the kernel form that it breaks first, or what the search says of its lowered fragment
pub data Answer : Type 0 where
  Outside : Broken → Answer
  Searched : Fragment → Verdict → Answer

abbrev pub answer_unless : ℕ → ℕ → Setting → Option Broken → Answer
answer_unless size budget w (Some b) = Outside b
answer_unless size budget w None = Searched (lowering w).fragment (verdict (lowering w).fragment size budget)

-- a loop that was tried: the program as it stood then, the path to the loop, its setting there, and what is said of it
pub record Tried : Type 0 where
  pub program : PlainProgram
  pub path : List ℕ
  pub setting : Setting
  pub answer : Answer

abbrev pub tried_in : ℕ → ℕ → PlainProgram → List ℕ → Option Setting → Option Tried
tried_in size budget p path (Some w) = Some (record { program = p; path = path; setting = w; answer = answer_unless size budget w (broken w) })
tried_in size budget p path None = None

-- the try of the loop to which a path leads, where there is one
abbrev pub tried_at : Schema → ℕ → ℕ → PlainProgram → Option (List ℕ) → Option Tried
tried_at schema size budget p (Some path) = tried_in size budget p path (setting_at schema (read_by schema) path p)
tried_at schema size budget p None = None

-- the program after a try: where a candidate was found the loop gave way
abbrev pub program_by : Tried → Answer → PlainProgram
program_by t (Searched f (Found h)) = replaced (record { program = t.program; path = t.path; setting = t.setting; candidate = h.candidate })
program_by t (Searched f (NoneOf n)) = t.program
program_by t (Searched f (Budget b n)) = t.program
program_by t (Outside b) = t.program

abbrev pub program_after : Tried → PlainProgram
program_after t = program_by t t.answer

-- how many loops have been tried and stand after a try, of so many before it
abbrev pub standing_after : ℕ → Answer → ℕ
standing_after n (Searched f (Found h)) = n
standing_after n (Searched f (NoneOf m)) = suc n
standing_after n (Searched f (Budget b m)) = suc n
standing_after n (Outside b) = suc n

-- ---- All loops

abbrev pub and_further : Option Tried → (Tried → List Tried) → List Tried
and_further None further = []
and_further (Some t) further = t ∷ further t

-- The tries from here on, at most so many: the first n loops in text order have been tried and stand, so that the next one is the
-- loop with the number n.
unfoldable pub trying : ℕ → Schema → ℕ → ℕ → PlainProgram → ℕ → List Tried
trying zero schema size budget p n = []
trying (suc left) schema size budget p n =
    and_further (tried_at schema size budget p (slice_get (loops_of p) n)) (λ t. trying left schema size budget (program_after t) (standing_after n t.answer))

-- all tries of a program: no more than it has loops
unfoldable pub all_tried : Schema → ℕ → ℕ → PlainProgram → List Tried
all_tried schema size budget p = trying (length (loops_of p)) schema size budget p 0

abbrev pub left_of : PlainProgram → List Tried → PlainProgram
left_of p [] = p
left_of p (t ∷ ts) = left_of (program_after t) ts

-- the program after all tries
abbrev pub rewritten : Schema → ℕ → ℕ → PlainProgram → PlainProgram
rewritten schema size budget p = left_of p (all_tried schema size budget p)

-- What comes of one loop by its spread.
use Rattle.std.proofs.Common.{◌≡◌, ℕ, List, Option, Some, None, Result, Ok, Err, IfOk, refl, sym, ap, ◌∙◌, subst}
use Rattle.std.specs.Prelude.{IfSome}
use Rattle.std.specs.Option.{option_map}
use Rattle.qbs_base.specs.Values.{Schema}
use Rattle.query_search.specs.Verdicts.{Found, NoneOf, Budget}
use Rattle.java_ast.specs.Path.{last_of, replaced_at, statement_at}
use Rattle.java_ast.specs.Reading.{program as plain_program}
use Rattle.java_ast.specs.Tree.{Statement, Statements, Nothing, Then, PlainProgram}
use Rattle.java_grammar.specs.InGrammar.{IsInGrammar}
use Rattle.java_grammar.specs.Written.{IsWritten}
use Rattle.java_mean.specs.Keeps.{Keeps}
use Rattle.java_mean.specs.Numbers.{NumbersFit}
use Rattle.java_mean.specs.WellTyped.{IsWellTyped}
use Rattle.java_types.specs.Texts.{read_by}
use Rattle.java_loops.specs.Kernel.Kernel.{broken}
use Rattle.java_loops.specs.Kernel.Setting.{Setting}
use Rattle.spreads.specs.Spread.{spread_of}
use Rattle.rewrite_core.specs.declared.unnested.Unnested.{Unnested}
use Rattle.rewrite_core.specs.Asked.{Place, replaced}
use Rattle.rewrite_core.specs.Asking.{MayBeAsked}
use Rattle.rewrite_core.specs.TriedAsking.{MayBeAskedBy}
use Rattle.rewrite_core.specs.Trying.{Answer, Outside, Searched, answer_unless, Tried}
use Rattle.rewrite_core.specs.Unnesting.{PlainUnnested, unnested_by, program_unnested}
use Rattle.rewrite_core.specs.UnnestingSteps.{IsSpreadThere, plain_unnested, IsUnnestedIn}
use Rattle.rewrite_core.proofs.UnnestSteps.{LoopAndSpread, loop_of_spread, program_tried}
use Rattle.rewrite_core.proofs.UnnestTries.{IsKept, one_kept}

-- ---- The candidate

record GivesWayTo (schema : Schema) (q : PlainProgram) (path : List ℕ) (w : Setting) (u : Unnested) : Type 0 where
  candidate : List ℕ
  is : plain_program u.program ≡ replaced (record { program = q; path = path; setting = w; candidate = candidate })
  may : MayBeAsked schema (read_by schema) q path w candidate

gives_to : (schema : Schema) (q : PlainProgram) (path : List ℕ) (w : Setting) (u : Unnested) (a : Answer) → Some (plain_unnested u) ≡ unnested_by (record { program = q; path = path; setting = w; answer = a }) a → MayBeAskedBy schema (record { program = q; path = path; setting = w; answer = a }) a
    → GivesWayTo schema q path w u
gives_to schema q path w u (Searched f (Found h)) e may =
    let same : plain_unnested u ≡ record { program = replaced (record { program = q; path = path; setting = w; candidate = h.candidate }); k = h.k } = cc in
    record { candidate = h.candidate; is = ap (λ (x : PlainUnnested). x.program) same; may = may }
gives_to schema q path w u (Searched f (NoneOf n)) e may = absurd cc
gives_to schema q path w u (Searched f (Budget b n)) e may = absurd cc
gives_to schema q path w u (Outside b) e may = absurd cc

-- ---- What is said of it

-- what the law of unnesting says of what is written
abbrev pub WritesOne : Schema → PlainProgram → Type 0
WritesOne schema p =
    (l : Place) (s z : Statement) → statement_at l.path p ≡ Some s → spread_of schema (read_by schema) s ≡ Some z → l.program ≡ replaced_at l.path (last_of l.path) (Then z Nothing) p → MayBeAsked schema (read_by schema) l.program l.path l.setting l.candidate
    → IsInGrammar p → IsWritten p → IsInGrammar (replaced l) × IsWritten (replaced l)

module _ (schema : Schema) (size budget : ℕ) (p : PlainProgram) (path : List ℕ) (block : Statements) (there : IsSpreadThere schema p path block) where
  abbrev with_spread : PlainProgram
  with_spread = replaced_at path (last_of path) block p

  found_at : LoopAndSpread schema p path there.spread
  found_at = loop_of_spread schema p path block there

  is_put : with_spread ≡ replaced_at path (last_of path) (Then there.spread Nothing) p
  is_put = ap (λ (b : Statements). replaced_at path (last_of path) b p) there.block_is

  abbrev place : Setting → List ℕ → Place
  place w candidate = record { program = with_spread; path = path; setting = w; candidate = candidate }

  module _ {E : Type 0} where
    pub one_exact : (r : Result (Option Unnested) E) → IfOk r (IsUnnestedIn schema size budget path with_spread) → IfOk r (λ o. option_map plain_unnested o ≡ program_unnested schema size budget p path)
    one_exact (Ok o) k = k.exact ∙ sym (program_tried schema size budget p path block there k.setting k.there)
    one_exact (Err e) k = tt

    -- it keeps what the program does, and is well typed
    pub one_keeps : (r : Result (Option Unnested) E) → IsWellTyped schema (read_by schema) p → NumbersFit p → IfOk r (IsUnnestedIn schema size budget path with_spread) → IfOk r (λ o. IfSome o (λ u. Keeps p (plain_program u.program) schema))
    one_keeps (Ok None) typed numbers k = tt
    one_keeps (Ok (Some u)) typed numbers k =
        let g : GivesWayTo schema with_spread path k.setting u = gives_to schema with_spread path k.setting u (answer_unless size budget k.setting (broken k.setting)) k.exact k.asked in
        subst (λ (q : PlainProgram). Keeps p q schema) (sym g.is) (one_kept schema (place k.setting g.candidate) p found_at.loop there.spread typed numbers found_at.there found_at.spread is_put g.may).keeps
    one_keeps (Err e) typed numbers k = tt

    pub one_typed : (r : Result (Option Unnested) E) → IsWellTyped schema (read_by schema) p → NumbersFit p → IfOk r (IsUnnestedIn schema size budget path with_spread) → IfOk r (λ o. IfSome o (λ u. IsWellTyped schema (read_by schema) (plain_program u.program)))
    one_typed (Ok None) typed numbers k = tt
    one_typed (Ok (Some u)) typed numbers k =
        let g : GivesWayTo schema with_spread path k.setting u = gives_to schema with_spread path k.setting u (answer_unless size budget k.setting (broken k.setting)) k.exact k.asked in
        subst (IsWellTyped schema (read_by schema)) (sym g.is) (one_kept schema (place k.setting g.candidate) p found_at.loop there.spread typed numbers found_at.there found_at.spread is_put g.may).typed
    one_typed (Err e) typed numbers k = tt

    pub one_written : (r : Result (Option Unnested) E) → WritesOne schema p → IfOk r (IsUnnestedIn schema size budget path with_spread)
        → IfOk r (λ o. IfSome o (λ u. IsInGrammar p → IsWritten p → IsInGrammar (plain_program u.program) × IsWritten (plain_program u.program)))
    one_written (Ok None) law k = tt
    one_written (Ok (Some u)) law k =
        let g : GivesWayTo schema with_spread path k.setting u = gives_to schema with_spread path k.setting u (answer_unless size budget k.setting (broken k.setting)) k.exact k.asked in
        λ grammar written. subst (λ (q : PlainProgram). IsInGrammar q × IsWritten q) (sym g.is) (law (place k.setting g.candidate) found_at.loop there.spread found_at.there found_at.spread is_put g.may grammar written)
    one_written (Err e) law k = tt

-- A stage with the spread of its next loop in the loop's place.
use Rattle.std.proofs.Common.{◌≡◌, ℕ, List, length, take, slice_get, ◌-◌, Option, Some, Result, Ok, Err, IfOk, refl, sym, ap, ◌∙◌, subst}
use Rattle.qbs_base.specs.Values.{Schema}
use Rattle.java_ast.specs.Path.{last_of, replaced_at, statement_at}
use Rattle.java_ast.specs.Reading.{program as plain_program}
use Rattle.java_ast.specs.Tree.{Statement, Statements, Nothing, Then, PlainProgram}
use Rattle.java_mean.specs.Numbers.{NumbersFit}
use Rattle.java_mean.specs.WellTyped.{IsWellTyped}
use Rattle.java_types.specs.Texts.{read_by}
use Rattle.loop_lists.specs.declared.listing.Listed.{Listed}
use Rattle.loop_lists.specs.Lists.{Lists}
use Rattle.loop_text.specs.Statements.Loops.{loops_of_methods}
use Rattle.loop_text.specs.Statements.Walking.{IsLoopOf}
use Rattle.rewrite_core.specs.declared.stage.Stage.{Stage}
use Rattle.rewrite_core.specs.declared.unnesting.GaveWay.{GaveWay}
use Rattle.rewrite_core.specs.Outcome.{try_with}
use Rattle.rewrite_core.specs.Trying.{Tried}
use Rattle.rewrite_core.specs.Unnesting.{if_found}
use Rattle.rewrite_core.specs.Stages.{IsStage, next_of}
use Rattle.rewrite_core.specs.UnnestingSteps.{alone_or_nothing, MayBeTried, GoesBack, LeavesBefore, standing_past, PassesSpread, UnnestingProgress, unnesting_in}
use Rattle.rewrite_core.proofs.MethodsBefore.{methods_before_block}
use Rattle.rewrite_core.proofs.UnnestReplaced.{put_back}

-- s is the stage before, v the one with the spread
module _ (s v : Stage) (listed : v.listed ≡ s.listed) (standing : v.standing ≡ s.standing) where
  pub same_next : next_of v ≡ next_of s
  same_next = ap (λ (l : Listed). slice_get l.paths ((v.standing - l.before) - l.from)) listed ∙ ap (λ (n : ℕ). slice_get s.listed.paths ((n - s.listed.before) - s.listed.from)) standing

  module _ (lists : IsStage s) (path : List ℕ) (next : next_of v ≡ Some path) where
    next_there : next_of s ≡ Some path
    next_there = sym same_next ∙ next

    module _ (block : Statements) (is : (q : List ℕ) → next_of s ≡ Some q → plain_program v.typed.program ≡ replaced_at q (last_of q) block (plain_program s.typed.program)) where
      put : plain_program v.typed.program ≡ replaced_at path (last_of path) block (plain_program s.typed.program)
      put = is path next_there

      pub leaves_before : LeavesBefore v path
      leaves_before first others =
          ap (λ (l : Listed). l.before) listed
          ∙ methods_before_block (plain_program s.typed.program).methods s.standing s.listed (plain_program s.typed.program) (plain_program v.typed.program) path (last_of path) block refl lists next_there put first others
          ∙ ap (λ (l : Listed). length (loops_of_methods 0 (take l.number (replaced_at path first others (plain_program v.typed.program)).methods))) (sym listed)

      pub spread_is_loop_there : (schema : Schema) → MayBeTried schema path block (plain_program s.typed.program) → IsLoopOf (plain_program v.typed.program) path
      spread_is_loop_there schema may = subst (λ (q : PlainProgram). IsLoopOf q path) (sym put) may.loops

      pub spread_is_typed : (schema : Schema) → MayBeTried schema path block (plain_program s.typed.program) → IsWellTyped schema (read_by schema) (plain_program v.typed.program)
      spread_is_typed schema may = subst (IsWellTyped schema (read_by schema)) (sym put) may.typed

      module _ (z loop : Statement) (alone : block ≡ Then z Nothing) (there : statement_at path (plain_program s.typed.program) ≡ Some loop) (old : Statements) (copied : (q : List ℕ) → next_of s ≡ Some q → old ≡ alone_or_nothing (statement_at q (plain_program s.typed.program))) where
        pub comes_back : replaced_at path (last_of path) old (plain_program v.typed.program) ≡ plain_program s.typed.program
        comes_back =
            ap (λ (b : Statements). replaced_at path (last_of path) b (plain_program v.typed.program)) (copied path next_there ∙ ap alone_or_nothing there)
            ∙ ap (replaced_at path (last_of path) (Then loop Nothing)) (put ∙ ap (λ (b : Statements). replaced_at path (last_of path) b (plain_program s.typed.program)) alone)
            ∙ put_back (plain_program s.typed.program) path z loop there

        pub goes_back : NumbersFit (plain_program s.typed.program) → GoesBack old v path
        goes_back numbers =
            record {
              lists =
                  subst (λ (q : PlainProgram). Lists q.methods v.standing v.listed) (sym comes_back)
                  (subst (λ (n : ℕ). Lists (plain_program s.typed.program).methods n v.listed) (sym standing) (subst (λ (l : Listed). Lists (plain_program s.typed.program).methods s.standing l) (sym listed) lists));
              numbers = subst NumbersFit (sym comes_back) numbers;
            }

-- What the spread's try leads to is what the loop's leads to.
pub tried_by : (schema : Schema) (size budget : ℕ) (source : List ℕ) (s v : Stage) → v.listed ≡ s.listed → v.standing ≡ s.standing → (block : Statements) → ((q : List ℕ) → next_of s ≡ Some q → plain_program v.typed.program ≡ replaced_at q (last_of q) block (plain_program s.typed.program)) → (old : Statements)
    → ((q : List ℕ) → next_of s ≡ Some q → replaced_at q (last_of q) old (plain_program v.typed.program) ≡ plain_program s.typed.program) → (g : GaveWay) {A E : Type 0} (r : Result A E) (u : A → UnnestingProgress)
    → IfOk r (λ x. (q : List ℕ) → next_of v ≡ Some q → PassesSpread schema size budget source q (replaced_at q (last_of q) old (plain_program v.typed.program)) (plain_program v.typed.program) (unnesting_in v g) (u x))
    → IfOk r (λ x. (q : List ℕ) → next_of s ≡ Some q → PassesSpread schema size budget source q (plain_program s.typed.program) (replaced_at q (last_of q) block (plain_program s.typed.program)) (unnesting_in s g) (u x))
tried_by schema size budget source s v listed standing block is old back g (Ok x) u h = λ q next.
    let k : PassesSpread schema size budget source q (plain_program s.typed.program) (replaced_at q (last_of q) block (plain_program s.typed.program)) (unnesting_in v g) (u x) =
    subst (λ (z : PlainProgram). PassesSpread schema size budget source q (plain_program s.typed.program) z (unnesting_in v g) (u x)) (is q next)
    (subst (λ (z : PlainProgram). PassesSpread schema size budget source q z (plain_program v.typed.program) (unnesting_in v g) (u x)) (back q next) (h q (same_next s v listed standing ∙ next))) in
    let t : Tried = try_with size budget (replaced_at q (last_of q) block (plain_program s.typed.program)) q k.setting in
    record {
      setting = k.setting;
      there = k.there;
      passes =
          record {
            program = k.passes.program;
            standing = k.passes.standing ∙ ap (λ (n : ℕ). standing_past n (if_found t t.answer)) standing;
            verdicts = k.passes.verdicts;
            patches = k.passes.patches;
            asked = k.passes.asked;
          };
    }
tried_by schema size budget source s v listed standing block is old back g (Err e) u h = tt

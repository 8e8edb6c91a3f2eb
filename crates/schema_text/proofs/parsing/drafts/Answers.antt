use Rattle.std.proofs.Common.{◌≡◌, true, false, List, [], ◌∷◌, length, sym, ◌∙◌, refl, arith}
use Rattle.std.specs.Bool.{◌==◌}
use Rattle.std.proofs.lemmas.Bool.{eqb-true}
use Rattle.std.proofs.lemmas.Result.{err_from_is_err_and}
use Rattle.std.proofs.lemmas.List.{length-map}
use Rattle.readers.specs.Reading.{is_over}
use Rattle.schema.specs.declared.token.Token.{Token}
use Rattle.schema.specs.Tokens.{kinds_of}
use Rattle.schema.specs.Reading.{never, draft_at, drafts_at}
use Rattle.readers.proofs.Loops.{many_begin, many_go_on, many_fail, many_stop, many_run_out}
use Rattle.schema_text.proofs.parsing.drafts.Goals as goal
use Rattle.schema_text.proofs.parsing.drafts.Goals.{else-loop-test, then-loop-test+then-is_empty}

over : (ts : List Token) → ◌==◌ (length ts) 0 ≡ true → is_over never (kinds_of ts) ≡ true
over [] e = refl
over (t ∷ ts) e = let none : length (t ∷ ts) ≡ 0 = eqb-true _ _ e in absurd (omega arith)

going : (ts : List Token) → ◌==◌ (length ts) 0 ≡ false → is_over never (kinds_of ts) ≡ false
going [] e = absurd cc
going (t ∷ ts) e = refl

pub loop-init : goal.loop-init
unfolding drafts_at
loop-init c = rw c.new-drafts.ensures.items (many_begin never draft_at (length c.args.tokens.now) (kinds_of c.args.tokens.now) (length-map c.args.tokens.now (λ t. t.kind)))

pub returns-in_err-draft : goal.returns-in_err-draft
returns-in_err-draft c =
    let p = err_from_is_err_and c.from_residual.result c.from_residual.ensures.1 in
    rw (p.1, p.2) (many_fail never draft_at c.loop.drafts.items (length c.args.tokens.now) c.loop.counter (kinds_of c.loop.rest.now) (drafts_at (kinds_of c.args.tokens.now)) c.in_err-draft.field-0.0 c.loop-test.true (going c.loop.rest.now (sym c.is_empty.ensures ∙ c.if-is_empty.false)) c.in_err-draft.ensures c.loop.invariant)

pub loop-preserved : goal.loop-preserved
loop-preserved c =
    rw c.in_ok-push.ensures.items (many_go_on never draft_at c.loop.drafts.items (length c.args.tokens.now) c.loop.counter (kinds_of c.loop.rest.now) (drafts_at (kinds_of c.args.tokens.now)) c.in_ok-draft.draft (kinds_of c.in_ok-draft.after.now) c.loop-test.true (going c.loop.rest.now (sym c.is_empty.ensures ∙ c.if-is_empty.false)) c.in_ok-draft.ensures c.loop.invariant)

pub returns : goal.returns
returns c =
    elim c.loop-test.branch [
      | else-loop-test w ↦ many_run_out never draft_at c.loop.drafts.items (length c.args.tokens.now) c.loop.counter (kinds_of c.loop.rest.now) (drafts_at (kinds_of c.args.tokens.now)) w.loop-test.false c.loop.invariant
      | then-loop-test+then-is_empty w ↦ many_stop never draft_at c.loop.drafts.items (length c.args.tokens.now) c.loop.counter (kinds_of c.loop.rest.now) (drafts_at (kinds_of c.args.tokens.now)) w.loop-test.true (over c.loop.rest.now (sym w.is_empty.ensures ∙ w.if-is_empty.true)) c.loop.invariant
    ]

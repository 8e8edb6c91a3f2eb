use Rattle.std.specs.Prelude.{[], ◌∷◌, ◌++◌, Some, None, Box}
use Rattle.std.proofs.Common.{◌≡◌, ◌∙◌, sym, ap, append-nil}
use Rattle.std.specs.Option.{option_map}
use Rattle.std.specs.declared.alloc.Global.{Global}
use Rattle.std.proofs.lemmas.Result.{IfOk-weaker, on_ok_weaker}
use Rattle.java_ast.specs.declared.tree.Program.{Program}
use Rattle.java_ast.specs.Path.{replaced_at, statement_at}
use Rattle.java_ast.specs.Reading.{statements, program}
use Rattle.narrowing.specs.declared.instead.Instead.{Instead}
use Rattle.narrowing.specs.declared.walk.Reason.{Reason}
use Rattle.narrowing.specs.Narrowing.{place_or_none}
use Rattle.narrowing.specs.Reasons.{reason_at}
use Rattle.narrowing.specs.Replacing.{replacement, replaced_for, said_at, OneNarrowed, one_narrowed}
use Rattle.narrowing.proofs.Replaced.{first_within}
use Rattle.narrowing.proofs.Steps.{one_stays, one_covered, one_replaced}
use Rattle.narrowing.proofs.narrow.narrow_one.Goals as goal

pub returns-in_ok-push-in-None-clause-program : goal.returns-in_ok-push-in-None-clause-program
returns-in_ok-push-in-None-clause-program c =
    ap (λ (o : OneNarrowed). o.program)
    (one_stays c.args.schema.now c.args.covered c.args.path.now (program c.args.program.value) c.place_at-at.result
    (c.place_at-at.ensures ∙ ap (λ (q : Program). place_or_none (statement_at c.args.path.now (program q))) c.deref-read.ensures)
    (ap (option_map (λ (i : Box Instead Global). replacement i.value)) (sym c.in-None.is) ∙ c.in_ok-found.ensures ∙ ap (λ (q : Program). replaced_for c.args.schema.now c.args.path.now (program q)) c.deref-read.ensures))

pub returns-in_ok-push-in-None-clause-walks : goal.returns-in_ok-push-in-None-clause-walks
returns-in_ok-push-in-None-clause-walks c =
    c.in_ok-push-in-None.ensures.ok
    ∙ ap (λ (r : Reason). c.args.walks.now ++ said_at c.place_at-at.result (Some r) ∷ []) (c.reason_at.ensures ∙ ap (λ (q : Program). reason_at c.args.path.now (program q)) c.deref-read.ensures)
    ∙ ap (λ (o : OneNarrowed). c.args.walks.now ++ o.walk ∷ [])
    (one_stays c.args.schema.now c.args.covered c.args.path.now (program c.args.program.value) c.place_at-at.result
    (c.place_at-at.ensures ∙ ap (λ (q : Program). place_or_none (statement_at c.args.path.now (program q))) c.deref-read.ensures)
    (ap (option_map (λ (i : Box Instead Global). replacement i.value)) (sym c.in-None.is) ∙ c.in_ok-found.ensures ∙ ap (λ (q : Program). replaced_for c.args.schema.now c.args.path.now (program q)) c.deref-read.ensures))

pub returns-in_ok-push-in-None-clause-patches : goal.returns-in_ok-push-in-None-clause-patches
returns-in_ok-push-in-None-clause-patches c =
    sym (append-nil c.args.patches.now)
    ∙ ap (λ (o : OneNarrowed). c.args.patches.now ++ o.patches)
    (one_stays c.args.schema.now c.args.covered c.args.path.now (program c.args.program.value) c.place_at-at.result
    (c.place_at-at.ensures ∙ ap (λ (q : Program). place_or_none (statement_at c.args.path.now (program q))) c.deref-read.ensures)
    (ap (option_map (λ (i : Box Instead Global). replacement i.value)) (sym c.in-None.is) ∙ c.in_ok-found.ensures ∙ ap (λ (q : Program). replaced_for c.args.schema.now c.args.path.now (program q)) c.deref-read.ensures))

pub returns-in_ok-push-in-Some-clause-program : goal.returns-in_ok-push-in-Some-clause-program
returns-in_ok-push-in-Some-clause-program c =
    ap (λ (o : OneNarrowed). o.program)
    (one_covered c.args.schema.now c.args.covered c.args.path.now (program c.args.program.value) c.place_at-at.result (replacement c.in-Some.instead.value) c.if-covered.true
    (c.place_at-at.ensures ∙ ap (λ (q : Program). place_or_none (statement_at c.args.path.now (program q))) c.deref-read.ensures)
    (ap (option_map (λ (i : Box Instead Global). replacement i.value)) (sym c.in-Some.is) ∙ c.in_ok-found.ensures ∙ ap (λ (q : Program). replaced_for c.args.schema.now c.args.path.now (program q)) c.deref-read.ensures))

pub returns-in_ok-push-in-Some-clause-walks : goal.returns-in_ok-push-in-Some-clause-walks
returns-in_ok-push-in-Some-clause-walks c =
    c.in_ok-push-in-Some.ensures.ok
    ∙ ap (λ (o : OneNarrowed). c.args.walks.now ++ o.walk ∷ [])
    (one_covered c.args.schema.now c.args.covered c.args.path.now (program c.args.program.value) c.place_at-at.result (replacement c.in-Some.instead.value) c.if-covered.true
    (c.place_at-at.ensures ∙ ap (λ (q : Program). place_or_none (statement_at c.args.path.now (program q))) c.deref-read.ensures)
    (ap (option_map (λ (i : Box Instead Global). replacement i.value)) (sym c.in-Some.is) ∙ c.in_ok-found.ensures ∙ ap (λ (q : Program). replaced_for c.args.schema.now c.args.path.now (program q)) c.deref-read.ensures))

pub returns-in_ok-push-in-Some-clause-patches : goal.returns-in_ok-push-in-Some-clause-patches
returns-in_ok-push-in-Some-clause-patches c =
    sym (append-nil c.args.patches.now)
    ∙ ap (λ (o : OneNarrowed). c.args.patches.now ++ o.patches)
    (one_covered c.args.schema.now c.args.covered c.args.path.now (program c.args.program.value) c.place_at-at.result (replacement c.in-Some.instead.value) c.if-covered.true
    (c.place_at-at.ensures ∙ ap (λ (q : Program). place_or_none (statement_at c.args.path.now (program q))) c.deref-read.ensures)
    (ap (option_map (λ (i : Box Instead Global). replacement i.value)) (sym c.in-Some.is) ∙ c.in_ok-found.ensures ∙ ap (λ (q : Program). replaced_for c.args.schema.now c.args.path.now (program q)) c.deref-read.ensures))

pub put_instead-requires : goal.put_instead-requires
put_instead-requires c =
    first_within c.args.schema.now c.args.path.now (program c.args.program.value) (replacement c.in-Some.instead.value)
    (ap (option_map (λ (i : Box Instead Global). replacement i.value)) (sym c.in-Some.is) ∙ c.in_ok-found.ensures ∙ ap (λ (q : Program). replaced_for c.args.schema.now c.args.path.now (program q)) c.deref-read.ensures)

pub returns-else-covered-clause-program : goal.returns-else-covered-clause-program
returns-else-covered-clause-program c =
    IfOk-weaker c.put_instead.result
    (λ (q : Box Program Global). program q.value ≡ replaced_at c.args.path.now c.in-Some.instead.value.first (statements c.in-Some.instead.value.others.items) (program c.args.program.value))
    (λ (q : Box Program Global). program q.value ≡ (one_narrowed c.args.schema.now c.args.covered c.args.path.now (program c.args.program.value)).program)
    (λ q h. h ∙ ap (λ (o : OneNarrowed). o.program)
    (one_replaced c.args.schema.now c.args.covered c.args.path.now (program c.args.program.value) c.place_at-at.result (replacement c.in-Some.instead.value) c.if-covered.false
    (c.place_at-at.ensures ∙ ap (λ (q : Program). place_or_none (statement_at c.args.path.now (program q))) c.deref-read.ensures)
    (ap (option_map (λ (i : Box Instead Global). replacement i.value)) (sym c.in-Some.is) ∙ c.in_ok-found.ensures ∙ ap (λ (q : Program). replaced_for c.args.schema.now c.args.path.now (program q)) c.deref-read.ensures)))
    c.put_instead.ensures.program

pub returns-else-covered-clause-walks : goal.returns-else-covered-clause-walks
returns-else-covered-clause-walks c =
    let then : c.put_instead.new.walks ≡ c.args.walks.now ++ said_at c.place_at-at.result None ∷ [] → c.put_instead.new.walks ≡ c.args.walks.now ++ (one_narrowed c.args.schema.now c.args.covered c.args.path.now (program c.args.program.value)).walk ∷ [] =
    (λ h. h ∙ ap (λ (o : OneNarrowed). c.args.walks.now ++ o.walk ∷ [])
    (one_replaced c.args.schema.now c.args.covered c.args.path.now (program c.args.program.value) c.place_at-at.result (replacement c.in-Some.instead.value) c.if-covered.false
    (c.place_at-at.ensures ∙ ap (λ (q : Program). place_or_none (statement_at c.args.path.now (program q))) c.deref-read.ensures)
    (ap (option_map (λ (i : Box Instead Global). replacement i.value)) (sym c.in-Some.is) ∙ c.in_ok-found.ensures ∙ ap (λ (q : Program). replaced_for c.args.schema.now c.args.path.now (program q)) c.deref-read.ensures)))
    in
    on_ok_weaker c.put_instead.result then c.put_instead.ensures.walks

pub returns-else-covered-clause-patches : goal.returns-else-covered-clause-patches
returns-else-covered-clause-patches c =
    let then : c.put_instead.new.patches ≡ c.args.patches.now ++ c.in-Some.instead.value.patch ∷ [] → c.put_instead.new.patches ≡ c.args.patches.now ++ (one_narrowed c.args.schema.now c.args.covered c.args.path.now (program c.args.program.value)).patches =
    (λ h. h ∙ ap (λ (o : OneNarrowed). c.args.patches.now ++ o.patches)
    (one_replaced c.args.schema.now c.args.covered c.args.path.now (program c.args.program.value) c.place_at-at.result (replacement c.in-Some.instead.value) c.if-covered.false
    (c.place_at-at.ensures ∙ ap (λ (q : Program). place_or_none (statement_at c.args.path.now (program q))) c.deref-read.ensures)
    (ap (option_map (λ (i : Box Instead Global). replacement i.value)) (sym c.in-Some.is) ∙ c.in_ok-found.ensures ∙ ap (λ (q : Program). replaced_for c.args.schema.now c.args.path.now (program q)) c.deref-read.ensures)))
    in
    on_ok_weaker c.put_instead.result then c.put_instead.ensures.patches

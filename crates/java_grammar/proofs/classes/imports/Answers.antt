use Rattle.std.proofs.Common.{length, sym, ◌∙◌}
use Rattle.std.proofs.lemmas.Result.{err_from_is_err_and}
use Rattle.std.proofs.lemmas.List.{length-map}
use Rattle.std.proofs.Common.{true, codes}
use Rattle.java_grammar.specs.ReadingPrograms.{is_no_import, dotted_name_at, imports_at}
use Rattle.java_grammar.specs.Marks.{Tok, strictly, all_strict}
use Rattle.readers.proofs.Loops.{many_begin, many_go_on, many_fail, many_stop, many_run_out}
use Rattle.java_grammar.proofs.classes.imports.Goals as goal
use Rattle.java_grammar.proofs.classes.imports.Goals.{else-loop-test, then-loop-test+then-ends_before_word}

pub loop-init : goal.loop-init
unfolding imports_at
loop-init c = rw c.new-names.ensures.items (many_begin (λ (t : Tok). is_no_import t.token.node) (dotted_name_at (codes "import") true) (length c.args.tokens.now) (all_strict c.args.tokens.now) (length-map c.args.tokens.now strictly))

pub returns-in_err-name : goal.returns-in_err-name
returns-in_err-name c =
    let p = err_from_is_err_and c.from_residual.result c.from_residual.ensures.1 in
    rw (p.1, p.2) (many_fail (λ (t : Tok). is_no_import t.token.node) (dotted_name_at (codes "import") true) c.loop.names.items (length c.args.tokens.now) c.loop.counter (all_strict c.loop.rest.now) (imports_at (all_strict c.args.tokens.now))
    c.in_err-name.field-0.0 c.loop-test.true (sym c.ends_before_word.ensures ∙ c.if-ends_before_word.false) c.in_err-name.ensures c.loop.invariant)

pub loop-preserved : goal.loop-preserved
loop-preserved c =
    rw c.in_ok-push.ensures.items (many_go_on (λ (t : Tok). is_no_import t.token.node) (dotted_name_at (codes "import") true) c.loop.names.items (length c.args.tokens.now) c.loop.counter (all_strict c.loop.rest.now) (imports_at (all_strict c.args.tokens.now))
    c.in_ok-name.name (all_strict c.in_ok-name.after.now) c.loop-test.true (sym c.ends_before_word.ensures ∙ c.if-ends_before_word.false) c.in_ok-name.ensures c.loop.invariant)

pub returns : goal.returns
returns c =
    elim c.loop-test.branch [
      | else-loop-test w ↦ many_run_out (λ (t : Tok). is_no_import t.token.node) (dotted_name_at (codes "import") true) c.loop.names.items (length c.args.tokens.now) c.loop.counter (all_strict c.loop.rest.now) (imports_at (all_strict c.args.tokens.now)) w.loop-test.false c.loop.invariant
      | then-loop-test+then-ends_before_word w ↦ many_stop (λ (t : Tok). is_no_import t.token.node) (dotted_name_at (codes "import") true) c.loop.names.items (length c.args.tokens.now) c.loop.counter (all_strict c.loop.rest.now) (imports_at (all_strict c.args.tokens.now)) w.loop-test.true (sym w.ends_before_word.ensures ∙ w.if-ends_before_word.true) c.loop.invariant
    ]

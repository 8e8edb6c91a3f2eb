use Rattle.std.proofs.Common.{◌≡◌, suc, ◌-◌, ◌+◌, length, List, Bor, refl, sym, ap, ◌∙◌, subst, codes, arith}
use Rattle.std.specs.Global.{Box}
use Rattle.std.proofs.lemmas.Result.{err_from_is_err_and}
use Rattle.std.proofs.lemmas.List.{length-map}
use Rattle.sql_ast.specs.Reader.{Read, joined_from, negation_at, atom_at, conjunction_at, condition_at}
use Rattle.sql_ast.specs.Tokens as plain
use Rattle.sql_ast.specs.Written.{WrittenCondition, Both, Either, Compare, Bare}
use Rattle.sql_parse.specs.declared.raw.RawCond.{RawCond}
use Rattle.sql_parse.specs.declared.token.Token.{Token}
use Rattle.sql_parse.specs.Begins.{begun_of}
use Rattle.sql_parse.specs.ReadNames.{read_col_of, read_opnd_of}
use Rattle.sql_parse.specs.Said.{condition_of, source_of}
use Rattle.sql_parse.specs.Seen.{Gives, token_of, tokens_of}
use Rattle.sql_parse.proofs.Beginning.{begun_fails, group_fails, group_gives, exists_fails, exists_gives, within_fails, within_gives, compared_gives, bare_gives}
use Rattle.sql_parse.proofs.Loops.{chain_begins, chain_goes_on, chain_fails_by, chain_stops, chain_runs_out, negation_fails, negation_gives, no_room, room_more, conjunction_is, joined_fails}
use Rattle.sql_parse.proofs.conditions.+condition.Goals as goal

abbrev seen : Box RawCond × Bor (List Token) → WrittenCondition × List plain.Token
seen x = (condition_of x.0.value, tokens_of x.1.now)

pub atom-returns-in_err-rest : goal.atom-returns-in_err-rest
atom-returns-in_err-rest t c =
    let p = err_from_is_err_and c.from_residual.result c.from_residual.ensures.1 in
    rw (p.1, p.2) (begun_fails (condition_at c.args.room) (tokens_of c.args.tokens.now) c.in_err-rest.field-0.0 c.in_err-rest.ensures)

pub atom-returns-in_err-cond-in-Group : goal.atom-returns-in_err-cond-in-Group
atom-returns-in_err-cond-in-Group t c =
    let p = err_from_is_err_and c.from_residual-in_err-cond-in-Group.result c.from_residual-in_err-cond-in-Group.ensures.1 in
    rw (p.1, p.2) (group_fails (condition_at c.args.room) (tokens_of c.args.tokens.now) (begun_of c.in_ok-rest.field-0) c.in_ok-rest.ensures (tokens_of c.in-Group.rest.now) c.in_err-cond-in-Group.field-0.0 (ap begun_of c.in-Group.is) c.in_err-cond-in-Group.ensures)

pub atom-returns-in_err-source-in-Exists : goal.atom-returns-in_err-source-in-Exists
atom-returns-in_err-source-in-Exists t c =
    let p = err_from_is_err_and c.from_residual-in_err-source-in-Exists.result c.from_residual-in_err-source-in-Exists.ensures.1 in
    rw (p.1, p.2) (exists_fails (condition_at c.args.room) (tokens_of c.args.tokens.now) (begun_of c.in_ok-rest.field-0) c.in_ok-rest.ensures (tokens_of c.in-Exists.rest.now) c.in_err-source-in-Exists.field-0.0 (ap begun_of c.in-Exists.is) c.in_err-source-in-Exists.ensures)

pub atom-returns-in_err-source-in-Within : goal.atom-returns-in_err-source-in-Within
atom-returns-in_err-source-in-Within t c =
    let p = err_from_is_err_and c.from_residual-in_err-source-in-Within.result c.from_residual-in_err-source-in-Within.ensures.1 in
    rw (p.1, p.2) (within_fails (condition_at c.args.room) (tokens_of c.args.tokens.now) (begun_of c.in_ok-rest.field-0) c.in_ok-rest.ensures (read_opnd_of c.in-Within.opnd) c.in-Within.negated (read_col_of c.in-Within.col) (tokens_of c.in-Within.rest.now) c.in_err-source-in-Within.field-0.0 (ap begun_of c.in-Within.is) c.in_err-source-in-Within.ensures)

pub atom-returns-in_ok-cond-in-Group : goal.atom-returns-in_ok-cond-in-Group
atom-returns-in_ok-cond-in-Group t c =
    subst (λ (r : Read WrittenCondition). Gives seen c.closed.result r)
    (sym (group_gives (condition_at c.args.room) (tokens_of c.args.tokens.now) (begun_of c.in_ok-rest.field-0) c.in_ok-rest.ensures (tokens_of c.in-Group.rest.now) (tokens_of c.in_ok-cond-in-Group.rest.now) (condition_of c.in_ok-cond-in-Group.cond.value) (ap begun_of c.in-Group.is) c.in_ok-cond-in-Group.ensures))
    c.closed.ensures

pub atom-returns-in_ok-source-in-Exists : goal.atom-returns-in_ok-source-in-Exists
atom-returns-in_ok-source-in-Exists t c =
    subst (λ (r : Read WrittenCondition). Gives seen c.exists.result r)
    (sym (exists_gives (condition_at c.args.room) (tokens_of c.args.tokens.now) (begun_of c.in_ok-rest.field-0) c.in_ok-rest.ensures (tokens_of c.in-Exists.rest.now) (tokens_of c.in_ok-source-in-Exists.rest.now) (source_of c.in_ok-source-in-Exists.source) (ap begun_of c.in-Exists.is) c.in_ok-source-in-Exists.ensures))
    c.exists.ensures

pub atom-returns-in_ok-source-in-Within : goal.atom-returns-in_ok-source-in-Within
atom-returns-in_ok-source-in-Within t c =
    subst (λ (r : Read WrittenCondition). Gives seen c.within.result r)
    (sym (within_gives (condition_at c.args.room) (tokens_of c.args.tokens.now) (begun_of c.in_ok-rest.field-0) c.in_ok-rest.ensures (read_opnd_of c.in-Within.opnd) c.in-Within.negated (read_col_of c.in-Within.col) (tokens_of c.in-Within.rest.now) (tokens_of c.in_ok-source-in-Within.rest.now) (source_of c.in_ok-source-in-Within.source) (ap begun_of c.in-Within.is) c.in_ok-source-in-Within.ensures))
    c.within.ensures

pub atom-returns-in-Compared : goal.atom-returns-in-Compared
atom-returns-in-Compared t c =
    subst (λ (r : Read WrittenCondition). Gives seen c.compared.result r)
    (sym (compared_gives (condition_at c.args.room) (tokens_of c.args.tokens.now) (begun_of c.in_ok-rest.field-0) c.in_ok-rest.ensures c.in-Compared.cmp (read_opnd_of c.in-Compared.first) (read_opnd_of c.in-Compared.second) (tokens_of c.in-Compared.rest.now) (Compare c.in-Compared.cmp (read_opnd_of c.in-Compared.first) (read_opnd_of c.in-Compared.second)) (ap begun_of c.in-Compared.is) refl))
    c.compared.ensures

pub atom-returns-in-Bare : goal.atom-returns-in-Bare
atom-returns-in-Bare t c =
    subst (λ (r : Read WrittenCondition). Gives seen c.bare.result r)
    (sym (bare_gives (condition_at c.args.room) (tokens_of c.args.tokens.now) (begun_of c.in_ok-rest.field-0) c.in_ok-rest.ensures (read_col_of c.in-Bare.col) (tokens_of c.in-Bare.rest.now) (Bare (read_col_of c.in-Bare.col)) (ap begun_of c.in-Bare.is) refl))
    c.bare.ensures

pub condition-returns-in_default : goal.condition-returns-in_default
condition-returns-in_default t c = no_room c.args.room (tokens_of c.args.tokens.now) (omega (arith, c.in_default.ensures))

pub condition-returns-in_err-left : goal.condition-returns-in_err-left
condition-returns-in_err-left t c =
    let p = err_from_is_err_and c.from_residual.result c.from_residual.ensures.1 in
    let more : c.args.room ≡ suc c.in-Some.room = omega (arith, c.in-Some.ensures) in
    rw (p.1, p.2) (joined_fails (codes "OR") Either (conjunction_at (condition_at c.in-Some.room)) (tokens_of c.args.tokens.now) (condition_at c.args.room (tokens_of c.args.tokens.now)) c.in_err-left.field-0.0 (room_more c.args.room c.in-Some.room (tokens_of c.args.tokens.now) more) c.in_err-left.ensures)

pub condition-loop-init : goal.condition-loop-init
condition-loop-init t c =
    let more : c.args.room ≡ suc c.in-Some.room = omega (arith, c.in-Some.ensures) in
    chain_begins (codes "OR") Either (conjunction_at (condition_at c.in-Some.room)) (tokens_of c.args.tokens.now) (tokens_of c.in_ok-left.rest.now) (condition_of c.in_ok-left.left.value) (length c.in_ok-left.rest.now) c.in_ok-left.ensures (sym (length-map c.in_ok-left.rest.now token_of))
    ∙ sym (room_more c.args.room c.in-Some.room (tokens_of c.args.tokens.now) more)

pub condition-returns-in_err-right : goal.condition-returns-in_err-right
condition-returns-in_err-right t c =
    let p = err_from_is_err_and c.from_residual-in_err-right.result c.from_residual-in_err-right.ensures.1 in
    rw (p.1, p.2) (chain_fails_by (codes "OR") Either (conjunction_at (condition_at c.in-Some.room)) (length c.in_ok-left.rest.now) c.loop.counter (condition_of c.loop.left.value) (tokens_of c.loop.rest.now) (tokens_of c.in-Some-after_word.behind.now) (condition_at c.args.room (tokens_of c.args.tokens.now)) c.in_err-right.field-0.0 c.loop-test.true (sym c.in-Some-after_word.ensures) c.in_err-right.ensures c.loop.invariant)

pub condition-loop-preserved : goal.condition-loop-preserved
condition-loop-preserved t c =
    ap (λ (a : WrittenCondition). joined_from (codes "OR") Either (conjunction_at (condition_at c.in-Some.room)) (length c.in_ok-left.rest.now - (c.loop.counter + 1)) a (tokens_of c.in_ok-right.after.now)) c.in_ok-joined.ensures
    ∙ chain_goes_on (codes "OR") Either (conjunction_at (condition_at c.in-Some.room)) (length c.in_ok-left.rest.now) c.loop.counter (condition_of c.loop.left.value) (condition_of c.in_ok-right.right.value) (tokens_of c.loop.rest.now) (tokens_of c.in-Some-after_word.behind.now) (tokens_of c.in_ok-right.after.now) (condition_at c.args.room (tokens_of c.args.tokens.now)) c.loop-test.true (sym c.in-Some-after_word.ensures) c.in_ok-right.ensures c.loop.invariant

pub condition-returns : goal.condition-returns
condition-returns t c =
    chain_runs_out (codes "OR") Either (conjunction_at (condition_at c.in-Some.room)) (length c.in_ok-left.rest.now) c.loop.counter (condition_of c.loop.left.value) (tokens_of c.loop.rest.now) (condition_at c.args.room (tokens_of c.args.tokens.now)) c.loop-test.false c.loop.invariant

pub conjunction-returns-in_err-left : goal.conjunction-returns-in_err-left
conjunction-returns-in_err-left t c =
    let p = err_from_is_err_and c.from_residual.result c.from_residual.ensures.1 in
    rw (p.1, p.2) (joined_fails (codes "AND") Both (negation_at (atom_at (condition_at c.args.room))) (tokens_of c.args.tokens.now) (conjunction_at (condition_at c.args.room) (tokens_of c.args.tokens.now)) c.in_err-left.field-0.0 (conjunction_is (condition_at c.args.room) (tokens_of c.args.tokens.now)) c.in_err-left.ensures)

pub conjunction-loop-init : goal.conjunction-loop-init
conjunction-loop-init t c =
    chain_begins (codes "AND") Both (negation_at (atom_at (condition_at c.args.room))) (tokens_of c.args.tokens.now) (tokens_of c.in_ok-left.rest.now) (condition_of c.in_ok-left.left.value) (length c.in_ok-left.rest.now) c.in_ok-left.ensures (sym (length-map c.in_ok-left.rest.now token_of))
    ∙ sym (conjunction_is (condition_at c.args.room) (tokens_of c.args.tokens.now))

pub conjunction-returns-in_err-right : goal.conjunction-returns-in_err-right
conjunction-returns-in_err-right t c =
    let p = err_from_is_err_and c.from_residual-in_err-right.result c.from_residual-in_err-right.ensures.1 in
    rw (p.1, p.2) (chain_fails_by (codes "AND") Both (negation_at (atom_at (condition_at c.args.room))) (length c.in_ok-left.rest.now) c.loop.counter (condition_of c.loop.left.value) (tokens_of c.loop.rest.now) (tokens_of c.in-Some.behind.now) (conjunction_at (condition_at c.args.room) (tokens_of c.args.tokens.now)) c.in_err-right.field-0.0 c.loop-test.true (sym c.in-Some.ensures) c.in_err-right.ensures c.loop.invariant)

pub conjunction-loop-preserved : goal.conjunction-loop-preserved
conjunction-loop-preserved t c =
    ap (λ (a : WrittenCondition). joined_from (codes "AND") Both (negation_at (atom_at (condition_at c.args.room))) (length c.in_ok-left.rest.now - (c.loop.counter + 1)) a (tokens_of c.in_ok-right.after.now)) c.in_ok-joined.ensures
    ∙ chain_goes_on (codes "AND") Both (negation_at (atom_at (condition_at c.args.room))) (length c.in_ok-left.rest.now) c.loop.counter (condition_of c.loop.left.value) (condition_of c.in_ok-right.right.value) (tokens_of c.loop.rest.now) (tokens_of c.in-Some.behind.now) (tokens_of c.in_ok-right.after.now) (conjunction_at (condition_at c.args.room) (tokens_of c.args.tokens.now)) c.loop-test.true (sym c.in-Some.ensures) c.in_ok-right.ensures c.loop.invariant

pub conjunction-returns : goal.conjunction-returns
conjunction-returns t c =
    chain_runs_out (codes "AND") Both (negation_at (atom_at (condition_at c.args.room))) (length c.in_ok-left.rest.now) c.loop.counter (condition_of c.loop.left.value) (tokens_of c.loop.rest.now) (conjunction_at (condition_at c.args.room) (tokens_of c.args.tokens.now)) c.loop-test.false c.loop.invariant

pub negation-returns-in_err-cond : goal.negation-returns-in_err-cond
negation-returns-in_err-cond t c =
    let p = err_from_is_err_and c.from_residual.result c.from_residual.ensures.1 in
    rw (p.1, p.2) (negation_fails (condition_at c.args.room) (tokens_of c.args.tokens.now) c.skip_nots-count.result.0 (tokens_of c.skip_nots-count.result.1.now) c.in_err-cond.field-0.0 c.skip_nots-count.ensures c.in_err-cond.ensures)

pub negation-returns : goal.negation-returns
negation-returns t c =
    negation_gives (condition_at c.args.room) (tokens_of c.args.tokens.now) c.skip_nots-count.result.0 (tokens_of c.skip_nots-count.result.1.now) (tokens_of c.in_ok-cond.rest.now) (condition_of c.in_ok-cond.cond.value) (condition_of c.in_ok-whole.whole.value) c.skip_nots-count.ensures c.in_ok-cond.ensures c.in_ok-whole.ensures

pub condition-returns-in_default-after_word : goal.condition-returns-in_default-after_word
condition-returns-in_default-after_word t c =
    chain_stops (codes "OR") Either (conjunction_at (condition_at c.in-Some.room)) (length c.in_ok-left.rest.now) c.loop.counter (condition_of c.loop.left.value) (tokens_of c.loop.rest.now) (condition_at c.args.room (tokens_of c.args.tokens.now)) c.loop-test.true (sym c.in_default-after_word.ensures) c.loop.invariant

pub conjunction-returns-in_default : goal.conjunction-returns-in_default
conjunction-returns-in_default t c =
    chain_stops (codes "AND") Both (negation_at (atom_at (condition_at c.args.room))) (length c.in_ok-left.rest.now) c.loop.counter (condition_of c.loop.left.value) (tokens_of c.loop.rest.now) (conjunction_at (condition_at c.args.room) (tokens_of c.args.tokens.now)) c.loop-test.true (sym c.in_default.ensures) c.loop.invariant

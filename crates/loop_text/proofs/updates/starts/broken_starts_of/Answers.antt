use Rattle.std.specs.Prelude.{Some}
use Rattle.std.specs.Borrow.{Bor}
use Rattle.std.proofs.Common.{◌∙◌, ◌+◌, ℕ, sym, ap, true, false, List, drop, map}
use Rattle.java_ast.specs.declared.tree.Stmt.{Stmt}
use Rattle.java_ast.specs.Reading.{statement, statements}
use Rattle.loop_text.specs.Kernel.KernelStarts.{broken_starts_of}
use Rattle.java_ast.specs.Names.{Names, names_lent}
use Rattle.loop_text.specs.Sites.Reading.{site_of}
use Rattle.loop_text.proofs.Trees.Rounds.{place_is}
use Rattle.loop_text.proofs.Trees.Started.{spoils, untouched, start_taken}
use Rattle.loop_text.proofs.Trees.Walked.{next_item}
use Rattle.loop_text.proofs.updates.starts.broken_starts_of.Goals as goal

pub returns-then-spoils_one : goal.returns-then-spoils_one
returns-then-spoils_one c =
    let behind = drop (c.loop-i.i + 1) c.args.run.now in
    ap Some (sym (place_is c.index-run-i.result))
    ∙ start_taken (map site_of c.args.all.now) c.args.at (names_lent c.loop-i.left) (statements (drop c.loop-i.i c.args.run.now)) (statements behind) (statement c.index-run-i.result) true _
    (ap statements (next_item c.args.run.now c.loop-i.i c.index-run-i.result c.loop-i-test.true c.index-run-i.is))
    (sym (c.spoils_one.ensures ∙ ap (λ (l : List Stmt). spoils (map site_of c.args.all.now) (statement c.index-run-i.result) (statements l) (names_lent c.as_slice.result.now)) c.behind_number-behind.ensures ∙ ap (λ (l : List (Bor (List ℕ))). spoils (map site_of c.args.all.now) (statement c.index-run-i.result) (statements behind) (names_lent l)) c.as_slice.ensures) ∙ c.if-spoils_one.true)
    c.loop-i.invariant

pub loop-i-preserved : goal.loop-i-preserved
loop-i-preserved c =
    let behind = drop (c.loop-i.i + 1) c.args.run.now in
    ap (λ (xs : Names). broken_starts_of (map site_of c.args.all.now) c.args.at xs (statements behind))
    (c.in_ok-left.ensures ∙ ap (λ (l : List (Bor (List ℕ))). untouched (statement c.index-run-i.result) (names_lent l)) c.as_slice-in-loop-i.ensures)
    ∙ start_taken (map site_of c.args.all.now) c.args.at (names_lent c.loop-i.left) (statements (drop c.loop-i.i c.args.run.now)) (statements behind) (statement c.index-run-i.result) false _
    (ap statements (next_item c.args.run.now c.loop-i.i c.index-run-i.result c.loop-i-test.true c.index-run-i.is))
    (sym (c.spoils_one.ensures ∙ ap (λ (l : List Stmt). spoils (map site_of c.args.all.now) (statement c.index-run-i.result) (statements l) (names_lent c.as_slice.result.now)) c.behind_number-behind.ensures ∙ ap (λ (l : List (Bor (List ℕ))). spoils (map site_of c.args.all.now) (statement c.index-run-i.result) (statements behind) (names_lent l)) c.as_slice.ensures) ∙ c.if-spoils_one.false)
    c.loop-i.invariant

-- Methods whose bodies are walked.
use Rattle.std.proofs.Common.{◌≡◌, ℕ, List, ap, ◌∙◌, subst}
use Rattle.java_ast.specs.declared.tree.Method.{Method}
use Rattle.java_ast.specs.declared.tree.Stmt.{Stmt}
use Rattle.java_ast.specs.Path.{with_body}
use Rattle.java_ast.specs.Reading.{method, statements}
use Rattle.java_ast.specs.Tree.{Statements, Nothing, PlainMethod, PlainProgram}
use Rattle.java_calls.specs.Renaming.{as_they_are}
use Rattle.inlining.specs.declared.counts.Counts.{Counts}
use Rattle.inlining.specs.declared.counts.Walked.{Walked}
use Rattle.inlining.specs.declared.counts.Walked.TheVariants as answers
use Rattle.inlining.specs.Walked.{block_makes, IsPushed, IsPast, IsWalked, IsMethod}
use Rattle.inlining.proofs.Arms.{walked_full, walked_pushed, pushed_alone}

module _ (w : Walked) (room : ℕ) (p : PlainProgram) (m : Method) (list : List Stmt) (old new : Counts) (before after : Statements) (lent : list ≡ m.body) where
  pub method_full : w ≡ answers.Full → IsWalked w room (block_makes p as_they_are old.taken (statements list)) old new before after → IsPast room (block_makes p as_they_are old.taken (statements m.body)) old.left
  method_full is h = subst (λ (l : List Stmt). IsPast room (block_makes p as_they_are old.taken (statements l)) old.left) lent (walked_full w room (block_makes p as_they_are old.taken (statements list)) old new before after is h)

  pub method_pushed : w ≡ answers.Pushed → IsWalked w room (block_makes p as_they_are old.taken (statements list)) old new before after → before ≡ Nothing → (made : PlainMethod) → made ≡ with_body (method m) after → IsMethod room (block_makes p as_they_are old.taken (statements m.body)) (method m) made old new
  method_pushed is h none made same =
      let i : IsPushed room (block_makes p as_they_are old.taken (statements m.body)) old new Nothing after =
      subst (λ (l : List Stmt). IsPushed room (block_makes p as_they_are old.taken (statements l)) old new Nothing after) lent
      (pushed_alone room (block_makes p as_they_are old.taken (statements list)) old new before after none (walked_pushed w room (block_makes p as_they_are old.taken (statements list)) old new before after is h)) in
      record {
        block = i.block;
        makes_it = i.made;
        is = same ∙ ap (with_body (method m)) i.pushed;
        spent = i.spent;
      }

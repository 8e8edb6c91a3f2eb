-- What is walked in each arm of a statement's node.
use Rattle.std.proofs.Common.{◌≡◌, ℕ, List, Option, Some, None, Vec, refl, sym, ap, ◌∙◌, option_map}
use Rattle.std.specs.Prelude.{Bool}
use Rattle.std.specs.declared.alloc.Global.{Global}
use Rattle.java_ast.specs.declared.tree.Expr.{Expr}
use Rattle.java_ast.specs.declared.tree.JTy.{JTy}
use Rattle.java_ast.specs.declared.tree.Stmt.{Stmt, out-Stmt}
use Rattle.java_ast.specs.declared.tree.StmtNode as nodes
use Rattle.java_ast.specs.Reading.{spelled, expression, node_statement, statement, statements}
use Rattle.java_ast.specs.Tree as plain
use Rattle.java_ast.specs.Tree.{Statement, Statements, PlainProgram}
use Rattle.java_ast.proofs.Nodes.{if_is, if_else_is, for_each_is, while_is}
use Rattle.java_calls.specs.Inlining.{inlined}
use Rattle.java_calls.specs.Renaming.{Renaming, renamed}
use Rattle.inlining.specs.declared.counts.Counts.{Counts}
use Rattle.inlining.specs.declared.counts.Walked.{Walked}
use Rattle.inlining.specs.Walked.{statement_makes, IsWalked, IsOne, giving}
use Rattle.inlining.proofs.Pushing.{walked_at, one_walked}

module _ (p : PlainProgram) (f : Renaming) (room : ℕ) (s : Stmt) (old new : Counts) (before after : Statements) where
  abbrev at_node : nodes.StmtNode → Statement
  at_node n = node_statement n (out-Stmt s).span

  abbrev WalkedAt : Walked → Statement → Type 0
  WalkedAt w t = IsWalked w room (statement_makes p f old.taken t) old new before after

  pub declare_walked : (w : Walked) (ty : JTy) (name : List ℕ) (value : Expr) → (out-Stmt s).node ≡ nodes.Declare ty name value → WalkedAt w (giving (out-Stmt s).span (Some (spelled ty)) name (expression value)) → WalkedAt w (statement s)
  declare_walked w ty name value is h = walked_at w p f room (statement s) (plain.Declare (out-Stmt s).span (spelled ty) name (expression value)) old new before after (ap at_node is) h

  pub assign_walked : (w : Walked) (name : List ℕ) (value : Expr) → (out-Stmt s).node ≡ nodes.Assign name value → WalkedAt w (giving (out-Stmt s).span None name (expression value)) → WalkedAt w (statement s)
  assign_walked w name value is h = walked_at w p f room (statement s) (plain.Assign (out-Stmt s).span name (expression value)) old new before after (ap at_node is) h

  pub add_walked : (w : Walked) (name : List ℕ) (value : Expr) → (out-Stmt s).node ≡ nodes.Add name value → IsOne w (plain.Add (out-Stmt s).span (f name) (renamed f (expression value))) old new before after → WalkedAt w (statement s)
  add_walked w name value is h = one_walked w p f room (statement s) (plain.Add (out-Stmt s).span (f name) (renamed f (expression value))) old new before after (λ expand. ap (λ (n : nodes.StmtNode). inlined expand f old.taken (at_node n)) is) refl h

  pub sort_walked : (w : Walked) (name : List ℕ) (keys : List (List ℕ)) (down : List Bool) → (out-Stmt s).node ≡ nodes.Sort name keys down → IsOne w (plain.Sort (out-Stmt s).span (f name) keys down) old new before after → WalkedAt w (statement s)
  sort_walked w name keys down is h = one_walked w p f room (statement s) (plain.Sort (out-Stmt s).span (f name) keys down) old new before after (λ expand. ap (λ (n : nodes.StmtNode). inlined expand f old.taken (at_node n)) is) refl h

  pub print_walked : (w : Walked) (value : Expr) → (out-Stmt s).node ≡ nodes.Print value → IsOne w (plain.Print (out-Stmt s).span (renamed f (expression value))) old new before after → WalkedAt w (statement s)
  print_walked w value is h = one_walked w p f room (statement s) (plain.Print (out-Stmt s).span (renamed f (expression value))) old new before after (λ expand. ap (λ (n : nodes.StmtNode). inlined expand f old.taken (at_node n)) is) refl h

  pub return_walked : (w : Walked) (value : Option Expr) → (out-Stmt s).node ≡ nodes.Return value → IsOne w (plain.Return (out-Stmt s).span (option_map (renamed f) (option_map expression value))) old new before after → WalkedAt w (statement s)
  return_walked w value is h = one_walked w p f room (statement s) (plain.Return (out-Stmt s).span (option_map (renamed f) (option_map expression value))) old new before after (λ expand. ap (λ (n : nodes.StmtNode). inlined expand f old.taken (at_node n)) is) refl h

  pub break_walked : (w : Walked) → (out-Stmt s).node ≡ nodes.Break → IsOne w (plain.Break (out-Stmt s).span) old new before after → WalkedAt w (statement s)
  break_walked w is h = one_walked w p f room (statement s) (plain.Break (out-Stmt s).span) old new before after (λ expand. ap (λ (n : nodes.StmtNode). inlined expand f old.taken (at_node n)) is) refl h

  pub if_walked : (w : Walked) (cond : Expr) (v : Vec Stmt Global) (o : Option (Vec Stmt Global)) (list : List Stmt) → (out-Stmt s).node ≡ nodes.If cond v o → o ≡ None → list ≡ v.items → WalkedAt w (plain.If (out-Stmt s).span (expression cond) (statements list)) → WalkedAt w (statement s)
  if_walked w cond v o list is none lent h =
      walked_at w p f room (statement s) (plain.If (out-Stmt s).span (expression cond) (statements list)) old new before after
      (if_is s cond v o is none ∙ ap (λ (l : List Stmt). plain.If (out-Stmt s).span (expression cond) (statements l)) (sym lent)) h

  pub if_else_walked : (w : Walked) (cond : Expr) (v u : Vec Stmt Global) (o : Option (Vec Stmt Global)) (list others : List Stmt) → (out-Stmt s).node ≡ nodes.If cond v o → o ≡ Some u → list ≡ v.items → others ≡ u.items
      → WalkedAt w (plain.IfElse (out-Stmt s).span (expression cond) (statements list) (statements others)) → WalkedAt w (statement s)
  if_else_walked w cond v u o list others is some lent lent' h =
      walked_at w p f room (statement s) (plain.IfElse (out-Stmt s).span (expression cond) (statements list) (statements others)) old new before after
      (if_else_is s cond v u o is some
      ∙ ap (λ (l : List Stmt). plain.IfElse (out-Stmt s).span (expression cond) (statements l) (statements u.items)) (sym lent)
      ∙ ap (λ (l : List Stmt). plain.IfElse (out-Stmt s).span (expression cond) (statements list) (statements l)) (sym lent')) h

  pub for_each_walked : (w : Walked) (ty : JTy) (name : List ℕ) (e : Expr) (v : Vec Stmt Global) (list : List Stmt) → (out-Stmt s).node ≡ nodes.ForEach ty name e v → list ≡ v.items
      → WalkedAt w (plain.ForEach (out-Stmt s).span (spelled ty) name (expression e) (statements list)) → WalkedAt w (statement s)
  for_each_walked w ty name e v list is lent h =
      walked_at w p f room (statement s) (plain.ForEach (out-Stmt s).span (spelled ty) name (expression e) (statements list)) old new before after
      (for_each_is s ty name e v is ∙ ap (λ (l : List Stmt). plain.ForEach (out-Stmt s).span (spelled ty) name (expression e) (statements l)) (sym lent)) h

  pub while_walked : (w : Walked) (cond : Expr) (v : Vec Stmt Global) (list : List Stmt) → (out-Stmt s).node ≡ nodes.While cond v → list ≡ v.items → WalkedAt w (plain.While (out-Stmt s).span (expression cond) (statements list)) → WalkedAt w (statement s)
  while_walked w cond v list is lent h =
      walked_at w p f room (statement s) (plain.While (out-Stmt s).span (expression cond) (statements list)) old new before after
      (while_is s cond v is ∙ ap (λ (l : List Stmt). plain.While (out-Stmt s).span (expression cond) (statements l)) (sym lent)) h

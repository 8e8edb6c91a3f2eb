-- What is known in an arm of a match on what a walk answered.
use Rattle.std.proofs.Common.{◌≡◌, ℕ, suc, ◌<◌, ◌≤◌, Option, Some, None, Vec, Box, sym, subst, arith}
use Rattle.std.specs.declared.alloc.Global.{Global}
use Rattle.java_ast.specs.declared.tree.Method.{Method}
use Rattle.java_ast.specs.declared.tree.Stmt.{Stmt}
use Rattle.java_ast.specs.Reading.{method, statements}
use Rattle.java_ast.specs.Tree.{Statement, Statements, Nothing, PlainMethod}
use Rattle.java_calls.specs.Inlining.{Made}
use Rattle.java_calls.specs.Rules.{total_of}
use Rattle.inlining.specs.declared.counts.Counts.{Counts}
use Rattle.inlining.specs.declared.counts.Walked.{Walked}
use Rattle.inlining.specs.declared.counts.Walked.TheVariants as answers
use Rattle.inlining.specs.Walked.{Makes, IsPushed, IsPast, IsWalked, IsPut, IsOne, IsMadeOf, IsBodyOf, IsMethod, IsMethodOf}

pub walked_full : (w : Walked) (room : ℕ) (makes : Makes) (old new : Counts) (before after : Statements) → w ≡ answers.Full → IsWalked w room makes old new before after → IsPast room makes old.left
walked_full w room makes old new before after is h = subst (λ (w : Walked). IsWalked w room makes old new before after) is h

pub walked_pushed : (w : Walked) (room : ℕ) (makes : Makes) (old new : Counts) (before after : Statements) → w ≡ answers.Pushed → IsWalked w room makes old new before after → IsPushed room makes old new before after
walked_pushed w room makes old new before after is h = subst (λ (w : Walked). IsWalked w room makes old new before after) is h

pub put_full_is : (w : Walked) (block : Statements) (old new : Counts) (before after : Statements) → w ≡ answers.Full → IsPut w block old new before after → IsPut answers.Full block old new before after
put_full_is w block old new before after is h = subst (λ (w : Walked). IsPut w block old new before after) is h

pub put_pushed_is : (w : Walked) (block : Statements) (old new : Counts) (before after : Statements) → w ≡ answers.Pushed → IsPut w block old new before after → IsPut answers.Pushed block old new before after
put_pushed_is w block old new before after is h = subst (λ (w : Walked). IsPut w block old new before after) is h

pub one_full : (w : Walked) (s : Statement) (old new : Counts) (before after : Statements) → w ≡ answers.Full → IsOne w s old new before after → old.left ≡ 0
one_full w s old new before after is h = subst (λ (w : Walked). IsOne w s old new before after) is h

pub one_pushed : (w : Walked) (s : Statement) (old new : Counts) (before after : Statements) → w ≡ answers.Pushed → IsOne w s old new before after → IsOne answers.Pushed s old new before after
one_pushed w s old new before after is h = subst (λ (w : Walked). IsOne w s old new before after) is h

pub made_none : (o : Option (Vec Stmt Global)) (room : ℕ) (makes : Makes) (old new : Counts) → o ≡ None → IsMadeOf o room makes old new → IsPast room makes old.left
made_none o room makes old new is h = subst (λ (o : Option (Vec Stmt Global)). IsMadeOf o room makes old new) is h

pub made_some : (o : Option (Vec Stmt Global)) (v : Vec Stmt Global) (room : ℕ) (makes : Makes) (old new : Counts) → o ≡ Some v → IsMadeOf o room makes old new → IsPushed room makes old new Nothing (statements v.items)
made_some o v room makes old new is h = subst (λ (o : Option (Vec Stmt Global)). IsMadeOf o room makes old new) is h

pub body_none : (o : Option (Vec Stmt Global)) (room : ℕ) (makes : Makes) (old new : Counts) → o ≡ None → IsBodyOf o room makes old new → IsBodyOf None room makes old new
body_none o room makes old new is h = subst (λ (o : Option (Vec Stmt Global)). IsBodyOf o room makes old new) is h

pub body_some : (o : Option (Vec Stmt Global)) (v : Vec Stmt Global) (room : ℕ) (makes : Makes) (old new : Counts) → o ≡ Some v → IsBodyOf o room makes old new → IsBodyOf (Some v) room makes old new
body_some o v room makes old new is h = subst (λ (o : Option (Vec Stmt Global)). IsBodyOf o room makes old new) is h

pub method_none : (o : Option (Box Method Global)) (room : ℕ) (makes : Makes) (m : PlainMethod) (old new : Counts) → o ≡ None → IsMethodOf o room makes m old new → IsPast room makes old.left
method_none o room makes m old new is h = subst (λ (o : Option (Box Method Global)). IsMethodOf o room makes m old new) is h

pub method_some : (o : Option (Box Method Global)) (b : Box Method Global) (room : ℕ) (makes : Makes) (m : PlainMethod) (old new : Counts) → o ≡ Some b → IsMethodOf o room makes m old new → IsMethod room makes m (method b.value) old new
method_some o b room makes m old new is h = subst (λ (o : Option (Box Method Global)). IsMethodOf o room makes m old new) is h

-- what is pushed behind nothing
pub pushed_alone : (room : ℕ) (makes : Makes) (old new : Counts) (before after : Statements) → before ≡ Nothing → IsPushed room makes old new before after → IsPushed room makes old new Nothing after
pushed_alone room makes old new before after none h = subst (λ (b : Statements). IsPushed room makes old new b after) none h

-- counts with so many more blocks that may stand in one another
abbrev pub at_depth : Counts → ℕ → Counts
at_depth c d = record { taken = c.taken; left = c.left; deep = d }

-- how many these are is nothing to what is pushed
pub restored : (room : ℕ) (makes : Makes) (old new : Counts) (d e : ℕ) (before after : Statements) → IsPushed room makes (at_depth old d) new before after → IsPushed room makes old (at_depth new e) before after
restored room makes old new d e before after h = record { block = h.block; made = h.made; pushed = h.pushed; spent = h.spent }

-- a body, one statement less
pub body_of : (o : Option (Vec Stmt Global)) (room : ℕ) (makes : ℕ → Makes) (old middle new : Counts) → old.left ≡ suc middle.left → middle.taken ≡ old.taken → IsMadeOf o room (makes middle.taken) middle new → IsBodyOf o room (makes old.taken) old new
body_of (Some v) room makes old middle new less same h = (middle, less, subst (λ (k : ℕ). IsPushed room (makes k) middle new Nothing (statements v.items)) same h)
body_of None room makes old middle new less same h = λ d le made e. past d le made (subst (λ (k : ℕ). makes k d ≡ Some made) (sym same) e)
  where
    past : (d : ℕ) → room ≤ d → (made : Made) → makes middle.taken d ≡ Some made → old.left < suc (total_of made.block)
    past d le made e = let lt : middle.left < total_of made.block = h.past d le made e in omega arith

pub none_body : (room : ℕ) (makes : Makes) (old new : Counts) → old.left ≡ 0 → IsBodyOf None room makes old new
none_body room makes old new none = λ d le made e. omega arith

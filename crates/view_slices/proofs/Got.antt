-- A body holds `get`, or one of two.
use Rattle.std.proofs.Common.{◌≡◌, ℕ, Bool, true, false, ◌||◌, List, refl, sym, ap, ◌∙◌}
use Rattle.std.specs.Prelude.{Box, Vec}
use Rattle.std.specs.declared.alloc.Global.{Global}
use Rattle.view_rules.specs.declared.expression.Expression.{Expression}
use Rattle.view_rules.specs.declared.java_type.JavaType.{JavaType}
use Rattle.view_rules.specs.Setting.{Within}
use Rattle.view_statements.specs.declared.statement.Statement.{Statement}
use Rattle.view_statements.specs.declared.statement.Statement as stmts
use Rattle.view_statements.specs.Reading.{statement, statements}
use Rattle.view_statements.proofs.Nodes.{if_is, if_else_is, for_each_is, for_index_is, for_iterator_is, while_is, skip_is}
use Rattle.view_slices.specs.Slices.{got_by, got_by_some}

first_of : (a b r : Bool) → r ≡ a → r ≡ true → r ≡ (a || b)
first_of a b r is so = rw (sym is, so) refl

second_of : (a b r s : Bool) → r ≡ a → r ≡ false → s ≡ b → s ≡ (a || b)
second_of a b r s is so other = rw (sym is, so, sym other) refl

pub first_got : (w : Within) (x : List ℕ) (st : Statement) (at : ℕ) (c : Box Expression Global) (close : ℕ) (braces : Bool) (v : Vec Statement Global) (other_at : ℕ)
    (other_braces : Bool) (u : Vec Statement Global) (end : ℕ) (r : Bool)
    → st ≡ stmts.IfElse at c close braces v other_at other_braces u end → r ≡ got_by_some w x (statements v.items) → r ≡ true → r ≡ got_by w x (statement st)
first_got w x st at c close braces v other_at other_braces u end r node is so =
    first_of (got_by_some w x (statements v.items)) (got_by_some w x (statements u.items)) r is so
    ∙ sym (ap (got_by w x) (if_else_is st at c close braces v other_at other_braces u end node))

pub second_got : (w : Within) (x : List ℕ) (st : Statement) (at : ℕ) (c : Box Expression Global) (close : ℕ) (braces : Bool) (v : Vec Statement Global) (other_at : ℕ)
    (other_braces : Bool) (u : Vec Statement Global) (end : ℕ) (r s : Bool)
    → st ≡ stmts.IfElse at c close braces v other_at other_braces u end → r ≡ got_by_some w x (statements v.items) → r ≡ false
    → s ≡ got_by_some w x (statements u.items) → s ≡ got_by w x (statement st)
second_got w x st at c close braces v other_at other_braces u end r s node is so other =
    second_of (got_by_some w x (statements v.items)) (got_by_some w x (statements u.items)) r s is so other
    ∙ sym (ap (got_by w x) (if_else_is st at c close braces v other_at other_braces u end node))

pub if_got : (w : Within) (x : List ℕ) (st : Statement) (at : ℕ) (c : Box Expression Global) (close : ℕ) (braces : Bool) (v : Vec Statement Global) (end : ℕ) (r : Bool)
    → st ≡ stmts.If at c close braces v end → r ≡ got_by_some w x (statements v.items) → r ≡ got_by w x (statement st)
if_got w x st at c close braces v end r node is = is ∙ sym (ap (got_by w x) (if_is st at c close braces v end node))

pub each_got : (w : Within) (x : List ℕ) (st : Statement) (at : ℕ) (inferred : Bool) (name : ℕ) (java : JavaType) (e : Box Expression Global) (close : ℕ) (braces : Bool) (v : Vec Statement Global) (end : ℕ) (r : Bool)
    → st ≡ stmts.ForEach at inferred name java e close braces v end → r ≡ got_by_some w x (statements v.items) → r ≡ got_by w x (statement st)
each_got w x st at inferred name java e close braces v end r node is = is ∙ sym (ap (got_by w x) (for_each_is st at inferred name java e close braces v end node))

pub index_got : (w : Within) (x : List ℕ) (st : Statement) (at : ℕ) (list : ℕ) (first : Bool) (name : ℕ) (java : JavaType) (v : Vec Statement Global) (close : ℕ) (end : ℕ) (r : Bool)
    → st ≡ stmts.ForIndex at list first name java v close end → r ≡ got_by_some w x (statements v.items) → r ≡ got_by w x (statement st)
index_got w x st at list first name java v close end r node is = is ∙ sym (ap (got_by w x) (for_index_is st at list first name java v close end node))

pub iterator_got : (w : Within) (x : List ℕ) (st : Statement) (at : ℕ) (list : ℕ) (name : ℕ) (java : JavaType) (v : Vec Statement Global) (close : ℕ) (end : ℕ) (r : Bool)
    → st ≡ stmts.ForIterator at list name java v close end → r ≡ got_by_some w x (statements v.items) → r ≡ got_by w x (statement st)
iterator_got w x st at list name java v close end r node is = is ∙ sym (ap (got_by w x) (for_iterator_is st at list name java v close end node))

pub while_got : (w : Within) (x : List ℕ) (st : Statement) (at : ℕ) (c : Box Expression Global) (close : ℕ) (braces : Bool) (v : Vec Statement Global) (end : ℕ) (r : Bool)
    → st ≡ stmts.While at c close braces v end → r ≡ got_by_some w x (statements v.items) → r ≡ got_by w x (statement st)
while_got w x st at c close braces v end r node is = is ∙ sym (ap (got_by w x) (while_is st at c close braces v end node))

pub skip_got : (w : Within) (x : List ℕ) (st : Statement) (at : ℕ) (c : Box Expression Global) (close : ℕ) (braces : Bool) (v : Vec Statement Global) (end : ℕ) (r : Bool)
    → st ≡ stmts.Skip at c close braces v end → r ≡ got_by_some w x (statements v.items) → r ≡ got_by w x (statement st)
skip_got w x st at c close braces v end r node is = is ∙ sym (ap (got_by w x) (skip_is st at c close braces v end node))

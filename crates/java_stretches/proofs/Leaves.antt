-- Statements end with a semicolon or a brace, and their place is that of their tokens.
use Rattle.std.proofs.Common.{◌≡◌, ℕ, List, ◌++◌, Bool, Option, Some, None, codes, refl, sym, subst, inl, inr}
use Rattle.qbs_base.specs.declared.span.Span.{Span}
use Rattle.java_ast.specs.Path.{branch_of}
use Rattle.java_ast.specs.Spans.{place_of}
use Rattle.java_ast.specs.Tree.{Expression, Statement, Statements, Declare, Return, Break}
use Rattle.java_grammar.specs.Marks.{Tok, extent}
use Rattle.java_grammar.specs.Rules.{Rule, Sign, Or, Made}
use Rattle.java_grammar.specs.Statements.{Value, Increase, Increment, MemberCall, NamedRest, Plain, Declaration, HasStatement, plain, if_alone, if_else, for_each, while, HasBody, block, single, HasBlock, braces}
use Rattle.java_stretches.proofs.Ends.{Ends, ends_behind}

pub record Stands (us : List Tok) (x : Statement) : Type 0 where
  pub place : place_of x ≡ extent us
  pub ends : Ends us

-- ---- what ends

pub ends_sign : (us : List Tok) (u : Unit {0}) → Sign (codes ";") us u → Ends us
ends_sign us u h = subst Ends (sym h.1) (59, inr (inr refl), h.2)

pub ends_brace : (us : List Tok) (u : Unit {0}) → Sign (codes "}") us u → Ends us
ends_brace us u h = subst Ends (sym h.1) (125, inr (inl refl), h.2)

pub ends_seq : (us front back : List Tok) → us ≡ front ++ back → Ends back → Ends us
ends_seq us front back e h = subst Ends (sym e) (ends_behind front back h)

ends_value : (room : ℕ) (us : List Tok) (x : Expression) → Value room us x → Ends us
ends_value room us x h = ends_seq us h.1.0 h.1.1 h.1.2 (ends_sign h.1.1 h.0.1 h.1.4)

-- ---- statements without bodies

record Leaf (us : List Tok) (f : Span → Statement) : Type 0 where
  place : (at : Span) → place_of (f at) ≡ at
  none : (at : Span) (b : ℕ) → branch_of b (f at) ≡ None
  ends : Ends us

leaf : (us : List Tok) (f g : Span → Statement) → f ≡ g → ((at : Span) → place_of (g at) ≡ at) → ((at : Span) (b : ℕ) → branch_of b (g at) ≡ None) → Ends us → Leaf us f
leaf us f g e place none ends = subst (Leaf us) (sym e) (record { place = place; none = none; ends = ends })

-- behind another part
leaf_behind : (us front back : List Tok) (f g : Span → Statement) → us ≡ front ++ back → f ≡ g → Leaf back g → Leaf us f
leaf_behind us front back f g e is l = leaf us f g is l.place l.none (ends_seq us front back e l.ends)

member_leaf : (room : ℕ) (w : List ℕ) (us : List Tok) (f : Span → Statement) → MemberCall room w us f → Leaf us f
member_leaf room w us f (inl h) =
    let a = h.1 in let b = a.4 in
    leaf us f _ h.2 (λ at. refl) (λ at n. refl) (ends_seq us a.0 a.1 a.2 (ends_seq a.1 b.0 b.1 b.2 (ends_sign b.1 h.0.1.1 b.4)))
member_leaf room w us f (inr (inl h)) =
    let a = h.1 in let b = a.4 in
    leaf us f _ h.2 (λ at. refl) (λ at n. refl) (ends_seq us a.0 a.1 a.2 (ends_seq a.1 b.0 b.1 b.2 (ends_sign b.1 h.0.1.1 b.4)))
member_leaf room w us f (inr (inr h)) =
    let a = h.1.1 in let b = a.4 in let c = b.4 in let d = c.4 in
    leaf us f _ h.1.2 (λ at. refl) (λ at n. refl)
    (ends_seq us a.0 a.1 a.2 (ends_seq a.1 b.0 b.1 b.2 (ends_seq b.1 c.0 c.1 c.2 (ends_seq c.1 d.0 d.1 d.2 (ends_sign d.1 h.1.0.1.1.1.1 d.4)))))

counting_leaf : (room : ℕ) (w : List ℕ) (us : List Tok) (f : Span → Statement) → Or (Increase room w) (Increment w) us f → Leaf us f
counting_leaf room w us f (inl h) = leaf us f _ h.2 (λ at. refl) (λ at n. refl) (ends_seq us h.1.0 h.1.1 h.1.2 (ends_value room h.1.1 h.0.1 h.1.4))
counting_leaf room w us f (inr h) = leaf us f _ h.2 (λ at. refl) (λ at n. refl) (ends_seq us h.1.0 h.1.1 h.1.2 (ends_sign h.1.1 h.0.1 h.1.4))

rest_leaf : (room : ℕ) (w : List ℕ) (us : List Tok) (f : Span → Statement) → NamedRest room w us f → Leaf us f
rest_leaf room w us f (inl h) = leaf us f _ h.2 (λ at. refl) (λ at n. refl) (ends_seq us h.1.0 h.1.1 h.1.2 (ends_value room h.1.1 h.0.1 h.1.4))
rest_leaf room w us f (inr (inl h)) = leaf_behind us h.1.0 h.1.1 f h.0.1 h.1.2 h.2 (member_leaf room w h.1.1 h.0.1 h.1.4)
rest_leaf room w us f (inr (inr h)) = counting_leaf room w us f h.1

pub record Alone (us : List Tok) (x : Statement) : Type 0 where
  pub stands : Stands us x
  pub none : (b : ℕ) → branch_of b x ≡ None

alone : (us : List Tok) (x y : Statement) → x ≡ y → place_of y ≡ extent us → ((b : ℕ) → branch_of b y ≡ None) → Ends us → Alone us x
alone us x y e place none ends = subst (Alone us) (sym e) (record { stands = record { place = place; ends = ends }; none = none })

abbrev ReturnEnd : ℕ → Rule (Option Expression)
ReturnEnd room = Or (Made (λ x. None) (Sign (codes ";"))) (Made (λ x. Some x) (Value room))

pub plain_alone : (room : ℕ) (us : List Tok) (x : Statement) → Plain room us x → Alone us x
plain_alone room us x (inl h) = alone us x (Return (extent us) h.0.1) h.2 refl (λ b. refl) (ends_seq us h.1.0 h.1.1 h.1.2 (by h.1.1 h.0.1 h.1.4))
  where
    by : (vs : List Tok) (y : Option Expression) → ReturnEnd room vs y → Ends vs
    by vs y (inl k) = ends_sign vs k.0 k.1
    by vs y (inr k) = ends_value room vs k.0 k.1
plain_alone room us x (inr (inl h)) = alone us x (Break (extent us)) h.2 refl (λ b. refl) (ends_seq us h.1.0 h.1.1 h.1.2 (ends_sign h.1.1 h.0.1 h.1.4))
plain_alone room us x (inr (inr h)) =
    let l : Leaf h.1.1 h.0.1 = rest_leaf room h.0.0 h.1.1 h.0.1 h.1.4 in
    alone us x (h.0.1 (extent us)) h.2 (l.place (extent us)) (l.none (extent us)) (ends_seq us h.1.0 h.1.1 h.1.2 l.ends)

pub declaration_alone : (room : ℕ) (us : List Tok) (x : Statement) → Declaration room us x → Alone us x
declaration_alone room us x h =
    let a = h.1 in let b = a.4 in let c = b.4 in
    alone us x (Declare (extent us) h.0.0 h.0.1.0 h.0.1.1.1) h.2 refl (λ b. refl) (ends_seq us a.0 a.1 a.2 (ends_seq a.1 b.0 b.1 b.2 (ends_seq b.1 c.0 c.1 c.2 (ends_value room c.1 h.0.1.1.1 c.4))))

-- ---- all statements

mutual
  pub statement_stands : {room : ℕ} {open_if : Bool} {us : List Tok} {x : Statement} → HasStatement room open_if us x → Stands us x
  statement_stands (plain {room} {us} {x} h) = (plain_alone room us x h).stands
  statement_stands (if_alone {us} {vs} h b) = record { place = refl; ends = ends_behind us vs (body_ends b) }
  statement_stands (if_else {us} {vs} {ws} {zs} h b e c) = record { place = refl; ends = ends_behind us (vs ++ (ws ++ zs)) (ends_behind vs (ws ++ zs) (ends_behind ws zs (body_ends c))) }
  statement_stands (for_each {us} {vs} h b) = record { place = refl; ends = ends_behind us vs (body_ends b) }
  statement_stands (while {us} {vs} h b) = record { place = refl; ends = ends_behind us vs (body_ends b) }

  body_ends : {room : ℕ} {open_if : Bool} {us : List Tok} {xs : Statements} → HasBody room open_if us xs → Ends us
  body_ends (block h) = block_ends h
  body_ends (single o h) = (statement_stands h).ends

  block_ends : {room : ℕ} {us : List Tok} {xs : Statements} → HasBlock room us xs → Ends us
  block_ends (braces {us} {vs} {ws} o h c) = ends_behind us (vs ++ ws) (ends_behind vs ws (ends_brace ws tt c))

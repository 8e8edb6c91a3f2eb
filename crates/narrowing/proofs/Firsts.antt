-- Arguments of which the first ones are kept.
use Rattle.std.specs.Prelude.{ℕ, ◌≤◌, ◌<◌, Bool, true, false, List, [], ◌∷◌, ◌++◌, length, take, if◌then◌else◌, min}
use Rattle.std.specs.List.{list_any}
use Rattle.std.proofs.Common.{◌≡◌, refl, sym, ap, ◌∙◌, append_assoc, arith, ◌⊎◌, inl, inr}
use Rattle.std.proofs.lemmas.Bool.{cases_lt}
use Rattle.std.proofs.lemmas.List.{append-nil, take_all, take-take, take-append-le, length-take, length-take-le, length-append}
use Rattle.std.proofs.Math.Seq.{take-append_seam}
use Rattle.std.specs.Prelude.{Box}
use Rattle.std.specs.declared.alloc.Global.{Global}
use Rattle.java_ast.specs.declared.tree.Expr.{Expr, out-Expr}
use Rattle.java_ast.specs.declared.tree.ExprNode.{ExprNode}
use Rattle.java_ast.specs.declared.tree.ExprNode as node
use Rattle.java_ast.specs.declared.tree.Op.{Op}
use Rattle.java_ast.specs.declared.tree.Op.TheVariants as ops
use Rattle.java_ast.specs.Reading.{expression, node_expression}
use Rattle.java_ast.specs.Tree.{Expression, Lit, Binary, Not, Equals}
use Rattle.spreads.specs.Narrowed.{Arguments, is_column, same_argument, with_argument, with_operand, with_part}

-- ---- Arguments only grow

pub record Grows (old new : Arguments) : Type 0 where
  pub more : Arguments
  pub is : new ≡ old ++ more

none : (args : Arguments) → Grows args args
none args = record { more = []; is = sym (append-nil args) }

then_more : (a b c : Arguments) → Grows a b → Grows b c → Grows a c
then_more a b c g h = record { more = g.more ++ h.more; is = h.is ∙ ap (λ (l : Arguments). l ++ h.more) g.is ∙ append_assoc a g.more h.more }

if_not : (b : Bool) (old new : Arguments) → Grows old new → Grows old (if b then old else new)
if_not true old new g = none old
if_not false old new g = g

pub argument_grows : (e : Expression) (args : Arguments) → Grows args (with_argument args e)
argument_grows e args = if_not (list_any (same_argument e) args) args (args ++ e ∷ []) (record { more = e ∷ []; is = refl })

pub operand_grows : (x : List ℕ) (e : Expression) (args : Arguments) → Grows args (with_operand x args e)
operand_grows x (Lit at value) args = none args
operand_grows x e args = if_not (is_column x e) args (with_argument args e) (argument_grows e args)

operands_grow : (x : List ℕ) (a b : Expression) (args : Arguments) → Grows args (with_operand x (with_operand x args a) b)
operands_grow x a b args = then_more args (with_operand x args a) (with_operand x (with_operand x args a) b) (operand_grows x a args) (operand_grows x b (with_operand x args a))

pub part_grows : (x : List ℕ) (e : Expression) (args : Arguments) → Grows args (with_part x args e)
part_grows x (Binary at ops.And a b) args = then_more args (with_part x args a) (with_part x (with_part x args a) b) (part_grows x a args) (part_grows x b (with_part x args a))
part_grows x (Binary at ops.Or a b) args = then_more args (with_part x args a) (with_part x (with_part x args a) b) (part_grows x a args) (part_grows x b (with_part x args a))
part_grows x (Binary at op a b) args = operands_grow x a b args
part_grows x (Not at a) args = part_grows x a args
part_grows x (Equals at a b) args = operands_grow x a b args
part_grows x e args = none args

-- ---- The first ones of what is put behind arguments depend on the first ones of these

full : (n : ℕ) (old new : Arguments) → n ≤ length old → Grows old new → take n new ≡ take n old
full n old new h g = ap (take n) g.is ∙ take-append-le n old g.more h

capped_by : (n : ℕ) (f : Arguments → Arguments) → ((args : Arguments) → Grows args (f args)) → (args : Arguments) → (length args < n) ⊎ (n ≤ length args) → take n (f (take n args)) ≡ take n (f args)
capped_by n f g args (inl h) = ap (λ (l : Arguments). take n (f l)) (take_all n args (omega arith))
capped_by n f g args (inr h) =
    let len : length (take n args) ≡ n = length-take-le n args h in
    let short : length (take n args) ≤ n = omega (arith, len) in
    let long : n ≤ length (take n args) = omega (arith, len) in
    full n (take n args) (f (take n args)) long (g (take n args)) ∙ take_all n (take n args) short ∙ sym (full n args (f args) h (g args))

capped : (n : ℕ) (f : Arguments → Arguments) → ((args : Arguments) → Grows args (f args)) → (args : Arguments) → take n (f (take n args)) ≡ take n (f args)
capped n f g args = capped_by n f g args (cases_lt (length args) n)

two_by : (n : ℕ) (f : Arguments → Arguments) → ((args : Arguments) → Grows args (f args)) → (first middle new : Arguments) → middle ≡ take n first → new ≡ take n (f middle) → new ≡ take n (f first)
two_by n f g first middle new e h = h ∙ ap (λ (l : Arguments). take n (f l)) e ∙ capped n f g first

pub two_operands : (n : ℕ) (x : List ℕ) (a b : Expression) (old middle new : Arguments) → middle ≡ take n (with_operand x old a) → new ≡ take n (with_operand x middle b) → new ≡ take n (with_operand x (with_operand x old a) b)
two_operands n x a b old middle new = two_by n (λ (l : Arguments). with_operand x l b) (operand_grows x b) (with_operand x old a) middle new

pub two_parts : (n : ℕ) (x : List ℕ) (a b : Expression) (old middle new : Arguments) → middle ≡ take n (with_part x old a) → new ≡ take n (with_part x middle b) → new ≡ take n (with_part x (with_part x old a) b)
two_parts n x a b old middle new = two_by n (λ (l : Arguments). with_part x l b) (part_grows x b) (with_part x old a) middle new

-- ---- One argument

pub put_full : (n : ℕ) (args : Arguments) (e : Expression) → length args ≤ n → n ≤ length args → args ≡ take n (with_argument args e)
put_full n args e h k = sym (full n args (with_argument args e) k (argument_grows e args) ∙ take_all n args h)

pub put_there : (n : ℕ) (args : Arguments) (e : Expression) → length args ≤ n → list_any (same_argument e) args ≡ true → args ≡ take n (with_argument args e)
put_there n args e h k = sym (ap (λ (b : Bool). take n (if b then args else args ++ e ∷ [])) k ∙ take_all n args h)

pub put_one : (n : ℕ) (args : Arguments) (e : Expression) → length args < n → list_any (same_argument e) args ≡ false → args ++ e ∷ [] ≡ take n (with_argument args e)
put_one n args e h k =
    let fits : length (args ++ e ∷ []) ≤ n = grind (arith, length-append) in
    sym (ap (λ (b : Bool). take n (if b then args else args ++ e ∷ [])) k ∙ take_all n (args ++ e ∷ []) fits)

-- ---- An operand that isn't an argument, and parts

pub operand_none : (n : ℕ) (x : List ℕ) (e : Expression) (args : Arguments) → length args ≤ n → is_column x e ≡ true → args ≡ take n (with_operand x args e)
operand_none n x (Lit at value) args h k = sym (take_all n args h)
operand_none n x e args h k = sym (ap (λ (b : Bool). take n (if b then args else with_argument args e)) k ∙ take_all n args h)

pub part_none : (n : ℕ) (x : List ℕ) (e : Expression) (args : Arguments) → length args ≤ n → with_part x args e ≡ args → args ≡ take n (with_part x args e)
part_none n x e args h k = sym (ap (take n) k ∙ take_all n args h)

pub both_put : (n : ℕ) (x : List ℕ) (e : Expr) (op : Op) (a b : Box Expr Global) (a' b' : Expr) (old middle new : Arguments) → (out-Expr e).node ≡ node.Binary op a b → (op ≡ ops.And) ⊎ (op ≡ ops.Or) → a' ≡ a.value → b' ≡ b.value
    → middle ≡ take n (with_part x old (expression a')) → new ≡ take n (with_part x middle (expression b')) → new ≡ take n (with_part x old (expression e))
both_put n x e op a b a' b' old middle new is joins la lb h k =
    two_parts n x (expression a.value) (expression b.value) old middle new
    (h ∙ ap (λ (c : Expr). take n (with_part x old (expression c))) la) (k ∙ ap (λ (c : Expr). take n (with_part x middle (expression c))) lb)
    ∙ joined_as op (expression a.value) (expression b.value) joins
    ∙ ap (λ (d : Expression). take n (with_part x old d)) (sym (ap (λ (d : ExprNode). node_expression d (out-Expr e).span) is))
  where
    joined_as : (op : Op) (c d : Expression) → (op ≡ ops.And) ⊎ (op ≡ ops.Or) → take n (with_part x (with_part x old c) d) ≡ take n (with_part x old (Binary (out-Expr e).span op c d))
    joined_as op c d (inl q) = ap (λ (o : Op). take n (with_part x old (Binary (out-Expr e).span o c d))) (sym q)
    joined_as op c d (inr q) = ap (λ (o : Op). take n (with_part x old (Binary (out-Expr e).span o c d))) (sym q)

-- ---- All of them, or none

pub all_fit : (n : ℕ) (new found : Arguments) → found ≡ take n new → length found < n → found ≡ new
all_fit n new found e h = all_by (cases_lt (length new) n)
  where
    all_by : (length new < n) ⊎ (n ≤ length new) → found ≡ new
    all_by (inl k) = e ∙ take_all n new (omega arith)
    all_by (inr k) = let len : length (take n new) ≡ n = length-take-le n new k in let same : length found ≡ length (take n new) = ap length e in absurd (omega (arith, len, same))

pub too_many : (n : ℕ) (new found : Arguments) → found ≡ take n new → n ≤ length found → n ≤ length new
too_many n new found e h = let len : length (take n new) ≡ min n (length new) = length-take n new in let same : length found ≡ length (take n new) = ap length e in omega (arith, len, same)

pub cut_back : (n : ℕ) (old new found : Arguments) → length old ≤ n → Grows old new → found ≡ take n new → take (length old) found ≡ old
cut_back n old new found h g e = ap (take (length old)) e ∙ take-take (length old) n new h ∙ ap (take (length old)) g.is ∙ take-append_seam old g.more

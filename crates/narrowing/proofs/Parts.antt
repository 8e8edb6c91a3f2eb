-- The parts that are taken of two lists of parts.
use Rattle.std.specs.Prelude.{ℕ, Bool, true, false, List, [], ◌∷◌, ◌++◌, if◌then◌else◌}
use Rattle.std.proofs.Common.{◌≡◌, refl, sym, ap, ap₂, ◌∙◌, append_assoc}
use Rattle.std.proofs.lemmas.List.{append-nil}
use Rattle.std.specs.Prelude.{Box}
use Rattle.std.specs.declared.alloc.Global.{Global}
use Rattle.java_ast.specs.declared.tree.Expr.{Expr, out-Expr}
use Rattle.java_ast.specs.declared.tree.ExprNode.{ExprNode}
use Rattle.java_ast.specs.declared.tree.ExprNode as node
use Rattle.java_ast.specs.declared.tree.Op.{Op}
use Rattle.java_ast.specs.declared.tree.Op.TheVariants as ops
use Rattle.java_ast.specs.Names.{Names}
use Rattle.java_ast.specs.Reading.{expression, node_expression}
use Rattle.java_ast.specs.Tree.{Expression}
use Rattle.spreads.specs.Narrowed.{Arguments, with_part, is_taken, taken, all_read, parts_of}

taken_by : (b : Bool) (A : Names) (x : List ℕ) (args more : Arguments) (e : Expression) (es fs : List Expression)
    → taken A x more (es ++ fs) ≡ taken A x more es ++ taken A x (all_read x more (taken A x more es)) fs
    → taken A x args (es ++ fs) ≡ taken A x args es ++ taken A x (all_read x args (taken A x args es)) fs
    → more ≡ with_part x args e
    → (if b then e ∷ taken A x more (es ++ fs) else taken A x args (es ++ fs))
    ≡ (if b then e ∷ taken A x more es else taken A x args es) ++ taken A x (all_read x args (if b then e ∷ taken A x more es else taken A x args es)) fs
taken_by true A x args more e es fs p q r =
    ap (λ (l : List Expression). e ∷ l) (p ∙ ap (λ (m : Arguments). taken A x more es ++ taken A x (all_read x m (taken A x more es)) fs) r)
taken_by false A x args more e es fs p q r = q

taken_append : (A : Names) (x : List ℕ) (args : Arguments) (es fs : List Expression) → taken A x args (es ++ fs) ≡ taken A x args es ++ taken A x (all_read x args (taken A x args es)) fs
taken_append A x args [] fs = refl
taken_append A x args (e ∷ es) fs = taken_by (is_taken A x args e) A x args (with_part x args e) e es fs (taken_append A x (with_part x args e) es fs) (taken_append A x args es fs) refl

read_append : (x : List ℕ) (args : Arguments) (es fs : List Expression) → all_read x args (es ++ fs) ≡ all_read x (all_read x args es) fs
read_append x args [] fs = refl
read_append x args (e ∷ es) fs = read_append x (with_part x args e) es fs

pub both_taken : (A : Names) (x : List ℕ) (pa pb : List Expression) (args0 args1 : Arguments) (parts0 parts1 parts2 : List Expression)
    → parts1 ≡ parts0 ++ taken A x args0 pa → args1 ≡ all_read x args0 (taken A x args0 pa) → parts2 ≡ parts1 ++ taken A x args1 pb → parts2 ≡ parts0 ++ taken A x args0 (pa ++ pb)
both_taken A x pa pb args0 args1 parts0 parts1 parts2 p a q =
    q
    ∙ ap₂ (λ (l : List Expression) (m : Arguments). l ++ taken A x m pb) p a
    ∙ append_assoc parts0 (taken A x args0 pa) (taken A x (all_read x args0 (taken A x args0 pa)) pb)
    ∙ ap (λ (l : List Expression). parts0 ++ l) (sym (taken_append A x args0 pa pb))

pub both_read : (A : Names) (x : List ℕ) (pa pb : List Expression) (args0 args1 args2 : Arguments)
    → args1 ≡ all_read x args0 (taken A x args0 pa) → args2 ≡ all_read x args1 (taken A x args1 pb) → args2 ≡ all_read x args0 (taken A x args0 (pa ++ pb))
both_read A x pa pb args0 args1 args2 a b =
    b
    ∙ ap (λ (m : Arguments). all_read x m (taken A x m pb)) a
    ∙ sym (read_append x args0 (taken A x args0 pa) (taken A x (all_read x args0 (taken A x args0 pa)) pb))
    ∙ ap (all_read x args0) (sym (taken_append A x args0 pa pb))

-- ---- One part

abbrev one : Bool → Expression → List Expression
one b e = if b then e ∷ [] else []

pub one_not_taken : (A : Names) (x : List ℕ) (e : Expression) (args : Arguments) (parts : List Expression) → is_taken A x args e ≡ false → parts ≡ parts ++ taken A x args (e ∷ [])
one_not_taken A x e args parts h = sym (append-nil parts) ∙ ap (λ (b : Bool). parts ++ one b e) (sym h)

pub none_read : (A : Names) (x : List ℕ) (e : Expression) (args : Arguments) → is_taken A x args e ≡ false → args ≡ all_read x args (taken A x args (e ∷ []))
none_read A x e args h = ap (λ (b : Bool). all_read x args (one b e)) (sym h)

pub one_taken : (A : Names) (x : List ℕ) (e : Expression) (args : Arguments) (parts : List Expression) → is_taken A x args e ≡ true → parts ++ e ∷ [] ≡ parts ++ taken A x args (e ∷ [])
one_taken A x e args parts h = ap (λ (b : Bool). parts ++ one b e) (sym h)

pub one_read : (A : Names) (x : List ℕ) (e : Expression) (args : Arguments) → is_taken A x args e ≡ true → with_part x args e ≡ all_read x args (taken A x args (e ∷ []))
one_read A x e args h = ap (λ (b : Bool). all_read x args (one b e)) (sym h)

-- ---- Both sides of `&&`

parts_joined : (e : Expr) (op : Op) (a b : Box Expr Global) (a' b' : Expr) → (out-Expr e).node ≡ node.Binary op a b → op ≡ ops.And → a' ≡ a.value → b' ≡ b.value → parts_of (expression a') ++ parts_of (expression b') ≡ parts_of (expression e)
parts_joined e op a b a' b' is joins la lb =
    ap₂ (λ (c d : Expr). parts_of (expression c) ++ parts_of (expression d)) la lb
    ∙ sym (ap (λ (n : ExprNode). parts_of (node_expression n (out-Expr e).span)) (is ∙ ap (λ (o : Op). node.Binary o a b) joins))

pub and_taken : (A : Names) (x : List ℕ) (e : Expr) (op : Op) (a b : Box Expr Global) (a' b' : Expr) (args0 args1 : Arguments) (parts0 parts1 parts2 : List Expression)
    → (out-Expr e).node ≡ node.Binary op a b → op ≡ ops.And → a' ≡ a.value → b' ≡ b.value
    → parts1 ≡ parts0 ++ taken A x args0 (parts_of (expression a')) → args1 ≡ all_read x args0 (taken A x args0 (parts_of (expression a')))
    → parts2 ≡ parts1 ++ taken A x args1 (parts_of (expression b')) → parts2 ≡ parts0 ++ taken A x args0 (parts_of (expression e))
and_taken A x e op a b a' b' args0 args1 parts0 parts1 parts2 is joins la lb p r q =
    both_taken A x (parts_of (expression a')) (parts_of (expression b')) args0 args1 parts0 parts1 parts2 p r q
    ∙ ap (λ (l : List Expression). parts0 ++ taken A x args0 l) (parts_joined e op a b a' b' is joins la lb)

pub and_read : (A : Names) (x : List ℕ) (e : Expr) (op : Op) (a b : Box Expr Global) (a' b' : Expr) (args0 args1 args2 : Arguments)
    → (out-Expr e).node ≡ node.Binary op a b → op ≡ ops.And → a' ≡ a.value → b' ≡ b.value
    → args1 ≡ all_read x args0 (taken A x args0 (parts_of (expression a'))) → args2 ≡ all_read x args1 (taken A x args1 (parts_of (expression b')))
    → args2 ≡ all_read x args0 (taken A x args0 (parts_of (expression e)))
and_read A x e op a b a' b' args0 args1 args2 is joins la lb r q =
    both_read A x (parts_of (expression a')) (parts_of (expression b')) args0 args1 args2 r q
    ∙ ap (λ (l : List Expression). all_read x args0 (taken A x args0 l)) (parts_joined e op a b a' b' is joins la lb)

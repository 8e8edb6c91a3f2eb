-- What fits, within wider bounds and by the numbers of statements.
use Rattle.std.proofs.Common.{◌≡◌, ℕ, zero, suc, ◌≤◌, Bool, true, false, cond, eqb-true, Some, None, refl, sym, ap, subst, ◌∙◌, arith}
use Rattle.std.specs.Prelude.{◌==◌}
use Rattle.qbs_base.specs.declared.span.Span.{Span}
use Rattle.java_ast.specs.Path.{numbered, branch_of, and_then, with_numbered, with_branch}
use Rattle.java_ast.specs.Spans.{place_of}
use Rattle.java_ast.specs.Tree.{Statement, Declare, Assign, Add, Sort, If, IfElse, ForEach, While, Print, Return, Break, Statements, Then}
use Rattle.loop_text.specs.Statements.Fragment.{is_simple}
use Rattle.java_stretches.specs.Fit.{SameStart, Spot, FitStatement, alone, if_alone, if_else, for_each, while, FitBlock, nothing, followed}

-- ---- Bounds

mutual
  pub statement_order : {lo hi : ℕ} {t s : Statement} → FitStatement lo hi t s → lo ≤ hi
  statement_order (alone from to n m e) = omega (arith, from, to)
  statement_order (if_alone from h) = block_order h
  statement_order (if_else from h k) = omega (arith, block_order h, block_order k)
  statement_order (for_each from grows to h) = omega (arith, from, grows, to)
  statement_order (while from grows to h) = omega (arith, from, grows, to)

  pub block_order : {lo hi : ℕ} {behind : Bool} {ts ss : Statements} → FitBlock lo hi behind ts ss → lo ≤ hi
  block_order (nothing h) = h
  block_order (followed p h k) = omega (arith, statement_order h, block_order k)

mutual
  pub wider_statement : {lo hi : ℕ} {t s : Statement} (q r : ℕ) → q ≤ lo → hi ≤ r → FitStatement lo hi t s → FitStatement q r t s
  wider_statement q r a b (alone from to n m e) = alone (omega (arith, a, from)) (omega (arith, b, to)) n m e
  wider_statement q r a b (if_alone from h) = if_alone (omega (arith, a, from)) (wider q r a b h)
  wider_statement q r a b (if_else {m} from h k) = if_else (omega (arith, a, from)) (wider q m a (omega arith) h) (wider m r (omega arith) b k)
  wider_statement q r a b (for_each from grows to h) = for_each (omega (arith, a, from)) grows (omega (arith, b, to)) h
  wider_statement q r a b (while from grows to h) = while (omega (arith, a, from)) grows (omega (arith, b, to)) h

  pub wider : {lo hi : ℕ} {behind : Bool} {ts ss : Statements} (q r : ℕ) → q ≤ lo → hi ≤ r → FitBlock lo hi behind ts ss → FitBlock q r behind ts ss
  wider q r a b (nothing h) = nothing (omega (arith, a, b, h))
  wider q r a b (followed {m} p h k) = followed p (wider_statement q m a (omega arith) h) (wider m r (omega arith) b k)

-- what may stand behind any statement may stand behind one of a run
pub loosened : {lo hi : ℕ} {ts ss : Statements} (behind : Bool) → FitBlock lo hi false ts ss → FitBlock lo hi behind ts ss
loosened behind (nothing h) = nothing h
loosened behind (followed p h k) = followed (record { starts = λ e. p.starts refl; ends = p.ends; lined = p.lined }) h k

-- statements one behind the other
pub joined : {lo m hi : ℕ} {behind : Bool} {ts ss us vs : Statements} → FitBlock lo m behind ts ss → FitBlock m hi false us vs → FitBlock lo hi behind (and_then ts us) (and_then ss vs)
joined {lo} {m} {hi} {behind} (nothing h) k = loosened behind (wider lo hi h (omega arith) k)
joined (followed p h l) k = followed p h (joined l k)

-- ---- Statements by their numbers

-- The statement of this number, and one that stands for it. Where others that fit take their places, all fits.
pub record Numbered (lo hi : ℕ) (behind : Bool) (ts ss : Statements) (n : ℕ) (s : Statement) : Type 0 where
  pub t : Statement
  pub there : numbered n ts ≡ Some t
  pub low : ℕ
  pub high : ℕ
  pub fits : FitStatement low high t s
  pub put : (g f : Statement → Statement) → FitStatement low high (g t) (f s) → place_of (g t) ≡ place_of t → place_of (f s) ≡ place_of s → is_simple (f s) ≡ is_simple s → FitBlock lo hi behind (with_numbered n g ts) (with_numbered n f ss)

moved_spot : (behind : Bool) (t s u v : Statement) → place_of u ≡ place_of t → place_of v ≡ place_of s → is_simple v ≡ is_simple s → Spot behind t s → Spot behind u v
moved_spot behind t s u v e f g p = record {
  starts = λ h. subst (λ at. SameStart at (place_of v)) (sym e) (subst (SameStart (place_of t)) (sym f) (p.starts h));
  ends = λ h. ap (λ (at : Span). at.end) e ∙ (p.ends (sym g ∙ h) ∙ sym (ap (λ (at : Span). at.end) f));
  lined = λ h. p.lined (sym (ap (λ (at : Span). at.line) f) ∙ h);
}

pub at_number : {lo hi : ℕ} {behind : Bool} {ts ss : Statements} → FitBlock lo hi behind ts ss → (n : ℕ) (s : Statement) → numbered n ss ≡ Some s → Numbered lo hi behind ts ss n s
at_number (nothing h) n s e = absurd cc
at_number {lo} {hi} {behind} (followed {m} {t} {s = r} {ts} {ss} p h k) zero s e =
    let is : r ≡ s = cc in
    subst (Numbered lo hi behind (Then t ts) (Then r ss) zero) is
    (record {
      t = t;
      there = refl;
      low = lo;
      high = m;
      fits = h;
      put = λ g f fit same place simple. followed (moved_spot behind t r (g t) (f r) same place simple p) fit (subst (λ (b : Bool). FitBlock m hi b ts ss) (sym simple) k);
    })
at_number {lo} {hi} {behind} (followed {m} {t} {s = r} {ts} {ss} p h k) (suc n) s e =
    let it : Numbered m hi (is_simple r) ts ss n s = at_number k n s e in
    record {
      t = it.t;
      there = it.there;
      low = it.low;
      high = it.high;
      fits = it.fits;
      put = λ g f fit same place simple. followed p h (it.put g f fit same place simple);
    }

-- ---- Branches

-- The statements of a branch, and those that stand for them.
pub record Branch (lo hi : ℕ) (t s : Statement) (b : ℕ) (ss : Statements) : Type 0 where
  pub ts : Statements
  pub there : branch_of b t ≡ Some ts
  pub low : ℕ
  pub high : ℕ
  pub fits : FitBlock low high false ts ss
  pub put : (g f : Statements → Statements) → FitBlock low high false (g ts) (f ss) → FitStatement lo hi (with_branch b g t) (with_branch b f s)

module _ (lo hi : ℕ) (t s : Statement) where
  -- with one branch
  one_branch : {low high : ℕ} {x y : Statements} (b : ℕ) → FitBlock low high false x y
      → (k : (v : Bool) → branch_of b t ≡ cond (b == 0) (Some x) None)
      → ((g f : Statements → Statements) → FitBlock low high false (cond (b == 0) (g x) x) (cond (b == 0) (f y) y) → FitStatement lo hi (with_branch b g t) (with_branch b f s))
      → (ss : Statements) → cond (b == 0) (Some y) None ≡ Some ss → Branch lo hi t s b ss
  one_branch {low} {high} {x} {y} b h there put ss e = by (b == 0) (there true) put e
    where
      by : (v : Bool) → branch_of b t ≡ cond v (Some x) None → ((g f : Statements → Statements) → FitBlock low high false (cond v (g x) x) (cond v (f y) y) → FitStatement lo hi (with_branch b g t) (with_branch b f s))
          → cond v (Some y) None ≡ Some ss → Branch lo hi t s b ss
      by true found change e =
          let is : y ≡ ss = cc in
          subst (λ (zs : Statements). Branch lo hi t s b zs) is (record { ts = x; there = found; low = low; high = high; fits = h; put = λ g f fit. change g f fit })
      by false found change e = absurd cc

  -- with two
  two_branches : {low m high : ℕ} {x y v w : Statements} (b : ℕ) → FitBlock low m false x y → FitBlock m high false v w
      → (c d : Bool) → branch_of b t ≡ cond c (Some x) (cond d (Some v) None) → (c ≡ true → d ≡ true → ⊥)
      → ((g f : Statements → Statements) → FitBlock low m false (cond c (g x) x) (cond c (f y) y) → FitBlock m high false (cond d (g v) v) (cond d (f w) w) → FitStatement lo hi (with_branch b g t) (with_branch b f s))
      → (ss : Statements) → cond c (Some y) (cond d (Some w) None) ≡ Some ss → Branch lo hi t s b ss
  two_branches b h k true true there apart put ss e = absurd (apart refl refl)
  two_branches {low} {m} {x} {y} b h k true false there apart put ss e =
      let is : y ≡ ss = cc in
      subst (λ (zs : Statements). Branch lo hi t s b zs) is (record { ts = x; there = there; low = low; high = m; fits = h; put = λ g f fit. put g f fit k })
  two_branches {m} {high} {v} {w} b h k false true there apart put ss e =
      let is : w ≡ ss = cc in
      subst (λ (zs : Statements). Branch lo hi t s b zs) is (record { ts = v; there = there; low = m; high = high; fits = k; put = λ g f fit. put g f h fit })
  two_branches b h k false false there apart put ss e = absurd cc

apart : (b : ℕ) → (b == 0) ≡ true → (b == 1) ≡ true → ⊥
apart b e f = omega (arith, eqb-true b 0 e, eqb-true b 1 f)

pub at_branch : {lo hi : ℕ} {t s : Statement} → FitStatement lo hi t s → (b : ℕ) (ss : Statements) → branch_of b s ≡ Some ss → Branch lo hi t s b ss
at_branch (alone from to n m e) b ss h = let none : None ≡ Some ss = sym (m b) ∙ h in absurd cc
at_branch {lo} {hi} (if_alone {to} {at} {c} {d} {x} {y} from h) b ss e =
    one_branch lo hi (If to c x) (If at d y) b h (λ v. refl) (λ g f fit. if_alone from fit) ss e
at_branch {lo} {hi} (if_else {to} {at} {c} {d} {x} {y} {v} {w} from h k) b ss e =
    two_branches lo hi (IfElse to c x v) (IfElse at d y w) b h k (b == 0) (b == 1) refl (apart b) (λ g f fit fits. if_else from fit fits) ss e
at_branch {lo} {hi} (for_each {to} {at} {a} {b = ty} {f = p} {g = q} {c} {d} {x} {y} from grows end h) b ss e =
    one_branch lo hi (ForEach to a p c x) (ForEach at ty q d y) b h (λ v. refl) (λ g f fit. for_each from grows end fit) ss e
at_branch {lo} {hi} (while {to} {at} {c} {d} {x} {y} from grows end h) b ss e =
    one_branch lo hi (While to c x) (While at d y) b h (λ v. refl) (λ g f fit. while from grows end fit) ss e

-- what is done in a branch moves no statement
pub branch_place : (b : ℕ) (f : Statements → Statements) (s : Statement) → place_of (with_branch b f s) ≡ place_of s
branch_place b f (Declare at ty name value) = refl
branch_place b f (Assign at name value) = refl
branch_place b f (Add at name value) = refl
branch_place b f (Sort at name keys downs) = refl
branch_place b f (If at test first) = refl
branch_place b f (IfElse at test first other) = refl
branch_place b f (ForEach at ty name list body) = refl
branch_place b f (While at test body) = refl
branch_place b f (Print at value) = refl
branch_place b f (Return at value) = refl
branch_place b f (Break at) = refl

pub branch_simple : (b : ℕ) (f : Statements → Statements) (s : Statement) → is_simple (with_branch b f s) ≡ is_simple s
branch_simple b f (Declare at ty name value) = refl
branch_simple b f (Assign at name value) = refl
branch_simple b f (Add at name value) = refl
branch_simple b f (Sort at name keys downs) = refl
branch_simple b f (If at test first) = refl
branch_simple b f (IfElse at test first other) = refl
branch_simple b f (ForEach at ty name list body) = refl
branch_simple b f (While at test body) = refl
branch_simple b f (Print at value) = refl
branch_simple b f (Return at value) = refl
branch_simple b f (Break at) = refl

-- How many candidates were dropped in all tries.
use Rattle.std.proofs.Common.{◌≡◌, ℕ, ◌+◌, List, [], ◌∷◌, Result, Ok, Err, IfOk, refl, subst, arith}
use Rattle.qbs_base.specs.Values.{Schema}
use Rattle.java_ast.specs.Tree.{PlainProgram}
use Rattle.kernel_lang.specs.Plain.{Fragment}
use Rattle.query_search.specs.Asking.{OfCandidate}
use Rattle.query_search.specs.Counted.{AreCounted, none, counted, passed, OneIs}
use Rattle.query_search.specs.Verdicts.{before}
use Rattle.query_search.proofs.Counts.{counts-map}
use Rattle.rewrite_core.specs.declared.rewritten.Rewritten.{Rewritten}
use Rattle.rewrite_core.specs.Pruned.{IsPrunedBy, ArePruned}
use Rattle.rewrite_core.specs.Results.{IsRewritingOf}
use Rattle.rewrite_core.specs.Trying.{Answer, Outside, Searched, Tried, all_tried}

-- ---- By other causes

module _ (D K E L : Fragment → List ℕ → Type 0) (d : (f : Fragment) (c : List ℕ) → D f c → E f c) (k : (f : Fragment) (c : List ℕ) → K f c → L f c) (size : ℕ) where
  one_pruned : (a : Answer) (n : ℕ) → IsPrunedBy D K size a n → IsPrunedBy E L size a n
  one_pruned (Searched f v) n h =
      let drops : (i : ℕ) → OfCandidate f size (D f) i → OfCandidate f size (E f) i = λ i x. (x.0, x.1, d f x.0 x.2) in
      let keeps : (i : ℕ) → OfCandidate f size (K f) i → OfCandidate f size (L f) i = λ i x. (x.0, x.1, k f x.0 x.2) in
      counts-map drops keeps 0 (before v) n h
  one_pruned (Outside b) n h = h

  pub are_pruned : (ts : List Tried) (n : ℕ) → ArePruned D K size ts n → ArePruned E L size ts n
  are_pruned [] n h = h
  are_pruned (t ∷ ts) n h = (h.0, h.1, one_pruned t.answer h.0 h.2, are_pruned ts h.1 h.3, h.4)

pub pruned_by : (D K E L : Fragment → List ℕ → Type 0) {X : Type 0} (schema : Schema) (size budget : ℕ) (source : List ℕ) (p : PlainProgram) (r : Result Rewritten X) → IfOk r (IsRewritingOf D K schema size budget source p)
    → ((f : Fragment) (c : List ℕ) → D f c → E f c) → ((f : Fragment) (c : List ℕ) → K f c → L f c) → IfOk r (IsRewritingOf E L schema size budget source p)
pruned_by D K E L schema size budget source p (Ok x) h d k =
    record {
      exact = h.exact;
      verdicts = h.verdicts;
      bundle = h.bundle;
      dropped = are_pruned D K E L d k size (all_tried schema size budget p) x.dropped h.dropped;
      typed = h.typed;
      keeps = h.keeps;
      written = h.written;
      standing = h.standing;
      patches = h.patches;
      text = h.text;
      read_back = h.read_back;
    }
pruned_by D K E L schema size budget source p (Err e) h d k = tt

-- ---- By no pruner

no_count : (D K : ℕ → Type 0) → ((k : ℕ) → D k → ⊥) → (k end n : ℕ) → AreCounted D K k end n → n ≡ 0
no_count D K never k _ _ (none _) = refl
no_count D K never k end _ (counted _ _ n d h) = absurd (never k d)
no_count D K never k end n (passed _ _ _ p h) = no_count D K never (k + 1) end n h

module _ (D K : Fragment → List ℕ → Type 0) (never : (f : Fragment) (c : List ℕ) → D f c → ⊥) (size : ℕ) where
  none_by : (a : Answer) (n : ℕ) → IsPrunedBy D K size a n → n ≡ 0
  none_by (Searched f v) n h = no_count (OfCandidate f size (D f)) (OfCandidate f size (K f)) (λ k d. never f d.0 d.2) 0 (before v) n h
  none_by (Outside b) n h = h

  none_in : (ts : List Tried) (n : ℕ) → ArePruned D K size ts n → n ≡ 0
  none_in [] n h = h
  none_in (t ∷ ts) n h =
      let one : h.0 ≡ 0 = none_by t.answer h.0 h.2 in
      let rest : h.1 ≡ 0 = none_in ts h.1 h.3 in
      let sum : n ≡ h.0 + h.1 = h.4 in
      omega arith

-- With no pruners nothing is dropped.
pub none_pruned : {P : Type 0} (D : P → Fragment → List ℕ → Type 0) (K : Fragment → List ℕ → Type 0) (ps : List P) → ps ≡ [] → (size : ℕ) (ts : List Tried) (n : ℕ) → ArePruned (λ f c. OneIs (λ p. D p f c) ps) K size ts n → n ≡ 0
none_pruned D K ps empty size ts n h = none_in (λ f c. OneIs (λ p. D p f c) ps) K (λ f c d. subst (OneIs (λ p. D p f c)) empty d) size ts n h

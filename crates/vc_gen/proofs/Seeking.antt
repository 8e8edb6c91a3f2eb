-- Conditions by their numbers, in lists one after the other.
use Rattle.std.proofs.Common.{◌≡◌, ℕ, zero, suc, ◌+◌, ◌-◌, ◌<◌, ◌≤◌, true, List, [], ◌∷◌, ◌++◌, drop, length, slice_get, get_or, refl, sym, ap, ◌∙◌, arith}
use Rattle.std.specs.List.{flat_map}
use Rattle.std.specs.declared.option.Option.{Option}
use Rattle.std.specs.declared.option.Option.TheVariants.{Some, None}
use Rattle.std.proofs.lemmas.List.{at_drop_more}
use Rattle.tor_terms.specs.declared.term.Atom.{Atom}
use Rattle.tor_terms.specs.Plain.{Form, Tree, Hold}
use Rattle.tor_axioms.specs.Accepts.{Claim}
use Rattle.kernel_lang.specs.declared.parts.Update.{Update}
use Rattle.kernel_lang.specs.Paths.{Path, each_with, guard_paths}
use Rattle.kernel_lang.specs.Running.{Layer}
use Rattle.vc_gen.specs.Conditions.{claim, by_paths, conditions_in}
use Rattle.vc_gen.specs.Sought.{Sought, Here, Left, sought, or_among}

pub sought-append : (xs ys : List Claim) (n : ℕ) → sought (xs ++ ys) n ≡ or_among ys (sought xs n)
sought-append [] ys n = refl
sought-append (x ∷ xs) ys zero = refl
sought-append (x ∷ xs) ys (suc n) = sought-append xs ys n

-- found among the first, or to be looked for among the others
pub here_first : (xs ys : List Claim) (n : ℕ) (c : Claim) → Here c ≡ sought xs n → Here c ≡ sought (xs ++ ys) n
here_first xs ys n c h = sym (sought-append xs ys n ∙ ap (or_among ys) (sym h))

pub left_then : (xs ys : List Claim) (n m : ℕ) → Left m ≡ sought xs n → sought ys m ≡ sought (xs ++ ys) n
left_then xs ys n m h = sym (sought-append xs ys n ∙ ap (or_among ys) (sym h))

-- one condition, then some, then others, and one more
module _ (e x : Claim) (ts fs : List Claim) (n m : ℕ) (start : Left m ≡ sought (e ∷ []) n) where
  pub here_true : (c : Claim) → Here c ≡ sought ts m → Here c ≡ sought (e ∷ (ts ++ (fs ++ x ∷ []))) n
  here_true c h = here_first ts (fs ++ x ∷ []) m c h ∙ left_then (e ∷ []) (ts ++ (fs ++ x ∷ [])) n m start

  pub here_false : (k : ℕ) (c : Claim) → Left k ≡ sought ts m → Here c ≡ sought fs k → Here c ≡ sought (e ∷ (ts ++ (fs ++ x ∷ []))) n
  here_false k c t h = here_first fs (x ∷ []) k c h ∙ left_then ts (fs ++ x ∷ []) m k t ∙ left_then (e ∷ []) (ts ++ (fs ++ x ∷ [])) n m start

  pub at_exit : (k i : ℕ) → Left k ≡ sought ts m → Left i ≡ sought fs k → sought (x ∷ []) i ≡ sought (e ∷ (ts ++ (fs ++ x ∷ []))) n
  at_exit k i t f = left_then fs (x ∷ []) k i f ∙ left_then ts (fs ++ x ∷ []) m k t ∙ left_then (e ∷ []) (ts ++ (fs ++ x ∷ [])) n m start

-- those of one way after the other, with a number that is left at one of them
module _ (g : Path → List Claim) (ways : List Path) (i n m : ℕ) (way : Path) (there : i < length ways) (is : way ≡ get_or ways i way) (so_far : sought (flat_map g ways) n ≡ sought (flat_map g (drop i ways)) m) where
  opened : sought (flat_map g ways) n ≡ sought (g way ++ flat_map g (drop (i + 1) ways)) m
  opened = so_far ∙ at_drop_more (λ ds. sought (flat_map g ds) m) ways i way there ∙ ap (λ x. sought (g x ++ flat_map g (drop (i + 1) ways)) m) (sym is)

  pub here_by_way : (c : Claim) → Here c ≡ sought (g way) m → Here c ≡ sought (flat_map g ways) n
  here_by_way c h = here_first (g way) (flat_map g (drop (i + 1) ways)) m c h ∙ sym opened

  pub left_by_way : (k : ℕ) → Left k ≡ sought (g way) m → sought (flat_map g ways) n ≡ sought (flat_map g (drop (i + 1) ways)) k
  left_by_way k h = opened ∙ sym (left_then (g way) (flat_map g (drop (i + 1) ways)) m k h)

module _ (atoms : List Atom) (F : Path) (l r : Tree) where
  by_path : (ps : List Path) (n : ℕ) (p : Path) → n < length ps → p ≡ get_or ps n p → Here (claim atoms (F ++ p) l r) ≡ sought (by_paths atoms F l r ps) n
  by_path [] n p h e = absurd (omega arith)
  by_path (q ∷ ps) zero p h e = ap (λ x. Here (claim atoms (F ++ x) l r)) e
  by_path (q ∷ ps) (suc n) p h e = by_path ps n p (omega arith) e

  past_paths : (ps : List Path) (n : ℕ) → length ps ≤ n → Left (n - length ps) ≡ sought (by_paths atoms F l r ps) n
  past_paths [] n h = let e : n - 0 ≡ n = omega arith in rw e refl
  past_paths (q ∷ ps) zero h = absurd (omega arith)
  past_paths (q ∷ ps) (suc n) h = let e : suc n - length (q ∷ ps) ≡ n - length ps = omega arith in rw e (past_paths ps n (omega arith))

  -- the condition of a path that is there, and what is left where it isn't
  pub here_by_path : (ps all : List Path) (n : ℕ) (p tests : Path) (c : Claim) → n < length all → p ≡ get_or all n p → all ≡ ps → tests ≡ F ++ p → c ≡ claim atoms tests l r → Here c ≡ sought (by_paths atoms F l r ps) n
  here_by_path ps all n p tests c h e same t is =
      ap Here is ∙ ap (λ x. Here (claim atoms x l r)) t ∙ by_path all n p h e ∙ ap (λ x. sought (by_paths atoms F l r x) n) same

  pub left_by_paths : (ps all : List Path) (n count : ℕ) → length all ≤ n → all ≡ ps → count ≡ length all → Left (n - count) ≡ sought (by_paths atoms F l r ps) n
  left_by_paths ps all n count h same e = ap (λ k. Left (n - k)) e ∙ past_paths all n h ∙ ap (λ x. sought (by_paths atoms F l r x) n) same

-- the conditions of the levels inside, as they are come to
pub inside_level : (atoms : List Atom) (u : Update) (fs : List Form) (outer inner : List ℕ) (Fs more : List Path) (v : Tree) (y : Layer) (ys : List Layer) → inner ≡ outer ++ y.over ∷ [] → more ≡ each_with Fs (guard_paths y.guard true) → v ≡ Hold (length outer + 2)
    → conditions_in atoms u fs inner more v ys ≡ conditions_in atoms u fs (outer ++ y.over ∷ []) (each_with Fs (guard_paths y.guard true)) (Hold (length outer + 2)) ys
inside_level atoms u fs outer inner Fs more v y ys a b c = rw (a, b, c) refl

abbrev found : Sought → Option Claim
found (Here c) = Some c
found (Left n) = None

sought-get : (cs : List Claim) (n : ℕ) → found (sought cs n) ≡ slice_get cs n
sought-get [] n = refl
sought-get (c ∷ cs) zero = refl
sought-get (c ∷ cs) (suc n) = sought-get cs n

pub here-get : (cs : List Claim) (n : ℕ) (c : Claim) → Here c ≡ sought cs n → Some c ≡ slice_get cs n
here-get cs n c h = ap found h ∙ sought-get cs n

pub left-get : (cs : List Claim) (n m : ℕ) → Left m ≡ sought cs n → None ≡ slice_get cs n
left-get cs n m h = ap found h ∙ sought-get cs n

-- What stands behind a prefix.
use Rattle.std.proofs.Common.{◌≡◌, ◌≢◌, ℕ, Bool, true, false, if◌then◌else◌, List, ◌++◌, refl, sym, ap, ◌∙◌, subst, length, take, drop, Some, None, Bor, ◌+◌}
use Rattle.std.specs.Str.{bytes_eq}
use Rattle.std.specs.Str.Pattern.{FindsTextPrefix}
use Rattle.std.specs.declared.option.Option.{Option}
use Rattle.std.specs.Prelude.{MatchOption}
use Rattle.std.proofs.Math.Seq.{take-append_seam, drop-append_seam}
use Rattle.std.proofs.lemmas.List.{take-append-drop}
use Rattle.word_values.specs.Values.{behind}
use Rattle.word_values.proofs.Numbers.{bytes_equal, equal_bytes}

pub behind_prefix : (p v : List ℕ) → behind p (p ++ v) ≡ Some v
behind_prefix p v =
    let e : bytes_eq (take (length p) (p ++ v)) p ≡ true = equal_bytes (take (length p) (p ++ v)) p (take-append_seam p v) in
    rw e (ap Some (drop-append_seam p v))

pub behind_some : (p w x : List ℕ) (k : ℕ) → k ≡ length p → w ≡ p ++ drop k w → x ≡ drop k w → behind p w ≡ Some x
behind_some p w x k e parts is = subst (λ u. behind p u ≡ Some x) (sym parts) (behind_prefix p (drop k w) ∙ ap Some (sym is))

take_drop : (n : ℕ) (w : List ℕ) → w ≡ take n w ++ drop n w
take_drop n w = sym (take-append-drop n w)

pub behind_none : (p w : List ℕ) → ((rest : List ℕ) → w ≢ p ++ rest) → behind p w ≡ None
behind_none p w never = go (bytes_eq (take (length p) w) p) (bytes_equal (take (length p) w) p)
  where
    go : (b : Bool) → (b ≡ true → take (length p) w ≡ p) → (if b then Some (drop (length p) w) else None) ≡ None
    go true f = absurd (never (drop (length p) w) (take_drop (length p) w ∙ ap (λ u. u ++ drop (length p) w) (f refl)))
    go false f = refl

pub behind_is : (p w v : List ℕ) → behind p w ≡ Some v → w ≡ p ++ v
behind_is p w v = go (bytes_eq (take (length p) w) p) (bytes_equal (take (length p) w) p)
  where
    go : (b : Bool) → (b ≡ true → take (length p) w ≡ p) → (if b then Some (drop (length p) w) else None) ≡ Some v → w ≡ p ++ v
    go true f e = let same : drop (length p) w ≡ v = cc in take_drop (length p) w ∙ (ap (λ u. u ++ drop (length p) w) (f refl) ∙ ap (λ u. p ++ u) same)
    go false f e = absurd cc

-- what a text without a prefix is
pub strips : (p w : List ℕ) (r : Option (Bor (List ℕ))) →
    MatchOption r (FindsTextPrefix p w None) (λ x. (k : ℕ) × FindsTextPrefix p w (Some k) × (x.now ≡ drop k w) × (length x.now + k ≡ length w)) →
    MatchOption r (behind p w ≡ None) (λ v. behind p w ≡ Some v.now)
strips p w None h = behind_none p w h
strips p w (Some x) h = behind_some p w x.now h.0 h.1.0 h.1.1 h.2

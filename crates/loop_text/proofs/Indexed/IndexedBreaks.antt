-- The `break`s of the loops round a site.
use Rattle.std.specs.List.{list_any}
use Rattle.std.proofs.Common.{◌≡◌, ℕ, suc, Bool, true, false, ◌&&◌, ◌||◌, List, [], ◌∷◌, Option, Some, None, nat_eq, refl, sym, ap, ◌∙◌, cond}
use Rattle.loop_text.specs.Sites.Indexed.{passing, is_number, ends, is_other, ends_elsewhere}
use Rattle.loop_text.specs.Kernel.KernelStatements.{is_break, is_innermost_of, is_beside_some_break}
use Rattle.loop_text.specs.Sites.Sites.{Site, has_number, innermost, any_site}
use Rattle.loop_text.proofs.Indexed.GroupedNumbers.{both_same}
use Rattle.loop_text.proofs.Indexed.IndexedSites.{any_where}

-- a `break` whose innermost loop is among some, and that has a number of a kind
abbrev beside : (ℕ → Bool) → List ℕ → ℕ → Site → Bool
beside c loops m t = is_break t.statement && (is_innermost_of loops (innermost t.round.loops) && c m)

no_loop : (b : Bool) (o : Option ℕ) (c : Bool) → (b && (is_innermost_of [] o && c)) ≡ false
no_loop true (Some n) c = refl
no_loop true None c = refl
no_loop false o c = refl

or_and : (a b c : Bool) → ((a || b) && c) ≡ ((a && c) || (b && c))
or_and true true true = refl
or_and true true false = refl
or_and true false true = refl
or_and true false false = refl
or_and false b c = refl

loop_by : (l : ℕ) (ls : List ℕ) (o : Option ℕ) (c : Bool) → (is_innermost_of (l ∷ ls) o && c) ≡ ((is_number o l && c) || (is_innermost_of ls o && c))
loop_by l ls None c = refl
loop_by l ls (Some n) c = ap (λ (b : Bool). (b || has_number ls n) && c) (both_same n l) ∙ or_and (nat_eq l n) (has_number ls n) c

one_loop : (b : Bool) (l : ℕ) (ls : List ℕ) (o : Option ℕ) (c : Bool) → (b && (is_innermost_of (l ∷ ls) o && c)) ≡ ((is_number (cond b o None) l && c) || (b && (is_innermost_of ls o && c)))
one_loop true l ls o c = loop_by l ls o c
one_loop false l ls o c = refl

or_apart : (a b c d : Bool) → ((a || b) || (c || d)) ≡ ((a || c) || (b || d))
or_apart true b c d = refl
or_apart false true true d = refl
or_apart false true false d = refl
or_apart false false c d = refl

either_of : (f g h : ℕ → Site → Bool) → ((m : ℕ) (t : Site) → f m t ≡ (g m t || h m t)) → (k : ℕ) (ss : List Site) → any_site f k ss ≡ (any_site g k ss || any_site h k ss)
either_of f g h e k [] = refl
either_of f g h e k (s ∷ ss) =
    ap (λ (b : Bool). b || any_site f (suc k) ss) (e k s)
    ∙ ap (λ (b : Bool). (g k s || h k s) || b) (either_of f g h e (suc k) ss)
    ∙ or_apart (g k s) (h k s) (any_site g (suc k) ss) (any_site h (suc k) ss)

never : (f : ℕ → Site → Bool) (k : ℕ) (ss : List Site) → ((m : ℕ) (t : Site) → f m t ≡ false) → any_site f k ss ≡ false
never f k [] h = refl
never f k (s ∷ ss) h = ap (λ b. b || any_site f (suc k) ss) (h k s) ∙ never f (suc k) ss h

beside_loops : (c : ℕ → Bool) (loops : List ℕ) (sites : List Site) → any_site (beside c loops) 0 sites ≡ list_any (λ l. list_any c (passing (ends l) 0 sites)) loops
beside_loops c [] sites = never (beside c []) 0 sites (λ m t. no_loop (is_break t.statement) (innermost t.round.loops) (c m))
beside_loops c (l ∷ ls) sites =
    either_of (beside c (l ∷ ls)) (λ m t. ends l m t && c m) (beside c ls) (λ m t. one_loop (is_break t.statement) l ls (innermost t.round.loops) (c m)) 0 sites
    ∙ ap (λ (b : Bool). b || any_site (beside c ls) 0 sites) (any_where (λ m t. ends l m t && c m) (ends l) c (λ m t. refl) 0 sites)
    ∙ ap (λ (b : Bool). list_any c (passing (ends l) 0 sites) || b) (beside_loops c ls sites)

pub besides : (sites : List Site) (n : ℕ) (s : Site) (loops : List ℕ) (b : Bool) → loops ≡ s.round.loops → b ≡ list_any (ends_elsewhere sites n) loops → b ≡ is_beside_some_break sites n s
besides sites n s loops b lent is = is ∙ ap (list_any (ends_elsewhere sites n)) lent ∙ sym (beside_loops (is_other (suc n)) s.round.loops sites)

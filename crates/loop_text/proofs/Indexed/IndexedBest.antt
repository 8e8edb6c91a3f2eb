-- The best values under an `if`, name by name.
use Rattle.std.specs.List.{list_any}
use Rattle.std.proofs.Common.{◌≡◌, ℕ, suc, Bool, true, false, ◌&&◌, ◌||◌, List, [], ◌∷◌, ◌++◌, Option, Some, None, bytes_eq, nat_eq, refl, sym, ap, ◌∙◌}
use Rattle.std.proofs.lemmas.List.Folds.{list_any-append}
use Rattle.loop_text.specs.Statements.Fragment.{is_name}
use Rattle.loop_text.specs.Sites.Indexed.{with_number, passing, takes_there, takes_at}
use Rattle.loop_text.specs.Kernel.KernelConditions.{name_where, is_taking, best_under, all_best_under}
use Rattle.loop_text.specs.Kernel.KernelForms.{form_of}
use Rattle.loop_text.specs.Kernel.KernelStarts.{updates_name}
use Rattle.java_ast.specs.Names.{Names, is_among}
use Rattle.loop_text.specs.Sites.Sites.{Test, Site, inner_tests, target_of}
use Rattle.loop_text.proofs.Indexed.GroupedNames.{same_both}
use Rattle.loop_text.proofs.Indexed.IndexedFirst.{Stand, stand_further, stands_here, all_stand}
use Rattle.java_ast.proofs.Among.{among_both}

or_false : (b : Bool) → (b || false) ≡ b
or_false true = refl
or_false false = refl

named_by : (t u : Bool) (x m : List ℕ) → bytes_eq x m ≡ u → is_among (name_where t (Some m)) x ≡ (u && t)
named_by true true x m e = or_false (bytes_eq x m) ∙ e
named_by true false x m e = or_false (bytes_eq x m) ∙ e
named_by false true x m e = refl
named_by false false x m e = refl

named_where : (t : Bool) (x : List ℕ) (o : Option (List ℕ)) → is_among (name_where t o) x ≡ (is_name o x && t)
named_where true x None = refl
named_where false x None = refl
named_where t x (Some m) = named_by t (bytes_eq x m) x m refl

taken_step : (t u : Bool) (c : ℕ → Bool) (k : ℕ) (rest : List ℕ) (b : Bool) → c k ≡ t → b ≡ list_any c rest → ((u && t) || b) ≡ list_any c (with_number u k rest)
taken_step t true c k rest b e h = ap (λ d. d || b) (sym e) ∙ ap (λ d. c k || d) h
taken_step t false c k rest b e h = h

best_from : (sites : List Site) (i : ℕ) (x : List ℕ) (k : ℕ) (ss : List Site) → Stand sites k ss → is_among (all_best_under sites i k ss) x ≡ list_any (takes_at sites i) (passing (updates_name x) k ss)
best_from sites i x k [] h = refl
best_from sites i x k (s ∷ ss) h =
    let t = list_any (λ (t : Test). nat_eq i t.number) (inner_tests s.round) && is_taking (form_of sites k s.statement) in
    among_both (best_under sites i k s) (all_best_under sites i (suc k) ss) x
    ∙ ap (λ (b : Bool). b || is_among (all_best_under sites i (suc k) ss) x) (named_where t x (target_of s.statement))
    ∙ taken_step t (is_name (target_of s.statement) x) (takes_at sites i) k (passing (updates_name x) (suc k) ss) (is_among (all_best_under sites i (suc k) ss) x)
    (ap (takes_there sites i k) (stands_here sites k s ss h))
    (best_from sites i x (suc k) ss (stand_further sites k s ss h))

-- a name is that of a best value where one of its updates takes it
pub best_named : (sites : List Site) (i : ℕ) (x : List ℕ) (ns : List ℕ) (b : Bool) → ns ≡ passing (updates_name x) 0 sites → b ≡ list_any (takes_at sites i) ns → b ≡ is_among (all_best_under sites i 0 sites) x
best_named sites i x ns b is found = found ∙ ap (list_any (takes_at sites i)) is ∙ sym (best_from sites i x 0 sites (all_stand sites))

-- ---- The names of both kinds

none_of : (ms : Names) → list_any (λ m. false) ms ≡ false
none_of [] = refl
none_of (m ∷ ms) = none_of ms

or_apart : (a b c d : Bool) → ((a || b) || (c || d)) ≡ ((a || c) || (b || d))
or_apart true b c d = refl
or_apart false true true d = refl
or_apart false true false d = refl
or_apart false false c d = refl

either_name : (x : List ℕ) (xs ms : Names) → list_any (λ m. is_among (x ∷ xs) m) ms ≡ (is_among ms x || list_any (λ m. is_among xs m) ms)
either_name x xs [] = refl
either_name x xs (m ∷ ms) =
    ap (λ (b : Bool). (b || is_among xs m) || list_any (λ m. is_among (x ∷ xs) m) ms) (same_both m x)
    ∙ ap (λ (b : Bool). (bytes_eq x m || is_among xs m) || b) (either_name x xs ms)
    ∙ or_apart (bytes_eq x m) (is_among xs m) (is_among ms x) (list_any (λ m. is_among xs m) ms)

pub names_turned : (xs ms : Names) → list_any (is_among ms) xs ≡ list_any (λ m. is_among xs m) ms
names_turned [] ms = sym (none_of ms)
names_turned (x ∷ xs) ms = ap (λ (b : Bool). is_among ms x || b) (names_turned xs ms) ∙ sym (either_name x xs ms)

pub best_both : (ms xs ys : Names) → list_any (is_among ms) (xs ++ ys) ≡ (list_any (is_among ms) xs || list_any (is_among ms) ys)
best_both ms xs ys = list_any-append (is_among ms) xs ys

pub ruleset best = (best_both)

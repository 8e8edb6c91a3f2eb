-- Names that are put behind others one by one.
use Rattle.std.specs.Prelude.{ℕ, Bool, true, false, ◌||◌, List, [], ◌∷◌, ◌++◌}
use Rattle.std.proofs.Common.{◌≡◌, refl, sym, ap, ◌∙◌}
use Rattle.java_mean.specs.Visible.{Visible, is_visible, names_seen}
use Rattle.java_ast.specs.Names.{Names, is_among, with_name, with_names}
use Rattle.java_mean.proofs.Sets.{among_seen}

pub names_both : (xs ys zs : Names) → with_names xs (ys ++ zs) ≡ with_names (with_names xs ys) zs
names_both xs [] zs = refl
names_both xs (y ∷ ys) zs = names_both (with_name xs y) ys zs

-- the first of the names that are left are put
pub piece_put : (old mid all left piece rest : Names) → left ≡ piece ++ rest → mid ≡ with_names old piece → with_names old left ≡ all → with_names mid rest ≡ all
piece_put old mid all left piece rest is put whole =
    ap (λ (m : Names). with_names m rest) put ∙ sym (names_both old piece rest) ∙ ap (with_names old) (sym is) ∙ whole

-- a list finds the names that it holds
pub found_among : (vs : Visible) (names all : Names) (x : List ℕ) → names_seen vs ≡ names → names ≡ all → is_visible vs x ≡ is_among all x
found_among vs names all x listed is = sym (among_seen vs x) ∙ ap (λ (l : Names). is_among l x) (listed ∙ is)

-- the first of two tests holds, or the second one answers
pub first_holds : (r a b : Bool) → r ≡ a → r ≡ true → r ≡ (a || b)
first_holds r a b is holds = holds ∙ ap (λ (c : Bool). c || b) (sym holds ∙ is)

pub second_answers : (r a b : Bool) → a ≡ false → r ≡ b → r ≡ (a || b)
second_answers r a b fails is = is ∙ ap (λ (c : Bool). c || b) (sym fails)

pub ruleset gathered = (names_both)

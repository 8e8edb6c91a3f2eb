-- Keys that name positions, one by one and all of them.
use Rattle.std.proofs.Common.{◌≡◌, ℕ, suc, ◌+◌, ◌<◌, Bool, true, false, IsTrue, List, add-one, refl, sym, subst, ap, ◌∙◌}
use Rattle.std.specs.Bool.{Decides}
use Rattle.std.specs.List.{list_any}
use Rattle.std.proofs.lemmas.Bool.Decides.{Decides-below_and}
use Rattle.sql_ast.specs.declared.tree.SqlKey.{SqlKey}
use Rattle.sql_ast.specs.Keys.{names_position, name_positions}

pub positions_decided : (keys : List SqlKey) (n : ℕ) → Decides (name_positions n keys) ((i : ℕ) → i < n → IsTrue (list_any (names_position (suc i)) keys))
positions_decided keys n = Decides-below_and (λ i. list_any (names_position (suc i)) keys) (λ i. IsTrue (list_any (names_position (suc i)) keys)) (λ m. name_positions m keys) (λ i. (λ e. e, λ e. e)) refl (λ _. refl) n

-- one that no key names
pub one_missing : (own keys : List SqlKey) (i n m : ℕ) → i < n → n ≡ m → keys ≡ own → false ≡ list_any (names_position (i + 1)) keys → false ≡ name_positions m own
one_missing own keys i n m below e k none = go (name_positions m own) refl
  where
    go : (b : Bool) → name_positions m own ≡ b → false ≡ b
    go false h = refl
    go true h =
        let here : list_any (names_position (suc i)) own ≡ false = ap (λ (ks : List SqlKey). list_any (names_position (suc i)) ks) (sym k) ∙ ap (λ j. list_any (names_position j) keys) (sym (add-one i)) ∙ sym none in
        sym here ∙ (positions_decided own m).0 h i (subst (λ j. i < j) e below)

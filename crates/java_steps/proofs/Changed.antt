-- A list that is taken out of its variable, changed and put back.
use Rattle.std.proofs.Common.{◌≡◌, ℕ, Bool, true, false, List, [], ◌∷◌, Some, Result, Ok, refl, sym, ap, ◌∙◌}
use Rattle.std.specs.Prelude.{bytes_eq, if◌then◌else◌}
use Rattle.qbs_base.specs.declared.scalar.Row.{Row}
use Rattle.qbs_base.specs.declared.scalar.Value.TheVariants.{Many}
use Rattle.qbs_base.specs.Named.{at_name}
use Rattle.java_mean.specs.declared.ending.Ending.{Ending}
use Rattle.java_mean.specs.Endings.{◌>>=◌, found}
use Rattle.java_mean.specs.Expression.{as_rows}
use Rattle.java_mean.specs.Statement.{State, Passed, GoesOn, done, with_value}
use Rattle.java_mean.specs.Store as meant
use Rattle.java_mean.specs.Store.{Store, put}
use Rattle.java_mean.proofs.Puts.{name_same}

put_twice : (s : Store) (x : List ℕ) (a b : meant.Variable) → put (put s x a) x b ≡ put s x b
put_twice [] x a b = rw (name_same x) refl
put_twice (e ∷ es) x a b = go (bytes_eq e.0 x) refl (put_twice es x a b)
  where
    go : (p : Bool) → bytes_eq e.0 x ≡ p → put (put es x a) x b ≡ put es x b → put (if p then ((e.0, a) ∷ es) else (e ∷ put es x a)) x b ≡ (if p then ((e.0, b) ∷ es) else (e ∷ put es x b))
    go true h ih = rw h refl
    go false h ih = rw h (ap (λ (l : Store). e ∷ l) ih)

-- a change of the rows of a variable
abbrev pub changed : (Bool → List Row → List Row) → State → List ℕ → Result Passed Ending
changed f s x = do
  held ← found (at_name s.store x)
  rows ← as_rows held.value
  done (with_value s x held (Many (f held.is_set rows)))

pub changed_is : (f : Bool → List Row → List Row) (s : State) (x : List ℕ) (old : meant.Variable) (rows new : List Row) (mid store : Store) (nothing : meant.Variable) → Some old ≡ at_name s.store x → as_rows old.value ≡ Ok rows → mid ≡ put s.store x nothing → new ≡ f old.is_set rows → store ≡ put mid x (record { value = Many new; is_set = old.is_set }) → changed f s x ≡ Ok (GoesOn (record { store = store; lines = s.lines; turns = s.turns }))
changed_is f s x old rows new mid store nothing there are m n p =
    ap (λ o. found o >>= λ held. as_rows held.value >>= λ rs. done (with_value s x held (Many (f held.is_set rs)))) (sym there)
    ∙ ap (λ (r : Result (List Row) Ending). r >>= λ rs. done (with_value s x old (Many (f old.is_set rs)))) are
    ∙ ap (λ (l : Store). Ok (GoesOn (record { store = l; lines = s.lines; turns = s.turns })))
    (ap (λ (rs : List Row). put s.store x (record { value = Many rs; is_set = old.is_set })) (sym n)
    ∙ sym (put_twice s.store x nothing (record { value = Many new; is_set = old.is_set }))
    ∙ ap (λ (l : Store). put l x (record { value = Many new; is_set = old.is_set })) (sym m)
    ∙ sym p)

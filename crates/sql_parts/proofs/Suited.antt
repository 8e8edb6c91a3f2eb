-- Limits stand where they may: what a valid fragment says of the lists of a chain.
use Rattle.std.proofs.Common.{◌≡◌, ℕ, zero, suc, ◌<◌, Bool, true, false, not, ◌||◌, List, [], ◌∷◌, length, slice_get, refl, sym, ap, ◌∙◌, subst, arith, nat_lt, ◌⊎◌, inl, inr, is_none}
use Rattle.std.specs.List.{AllByRecursion, list_all, list_any}
use Rattle.std.specs.declared.option.Option.{Option}
use Rattle.std.specs.declared.option.Option.TheVariants.{Some, None}
use Rattle.tor_terms.specs.Plain.{Form}
use Rattle.kernel_lang.specs.declared.parts.Col.{Col}
use Rattle.kernel_lang.specs.declared.parts.ListDef.{ListDef}
use Rattle.kernel_lang.specs.Plain.{Accumulator, Fragment}
use Rattle.kernel_lang.specs.Pools.{Member}
use Rattle.kernel_lang.specs.Sentences.{AccumulatorIsValid, IsValid}
use Rattle.kernel_lang.specs.Validity.{is_push, is_empty, is_sorted_and_cut, only_appends, loops_are_few, suits_the_lists}
use Rattle.kernel_lang.proofs.Listing.{and_left, and_right, and_three}
use Rattle.sql_parts.specs.Scopes.{Ground, def_of, list_of}
use Rattle.sql_parts.proofs.Flags.{unlimited_lists, every_unlimited, two_lists, limits_hold}
use Rattle.sql_parts.proofs.Limits.{Limited, Uncut}
use Rattle.sql_parts.proofs.Nest.{list_there}
use Rattle.sql_parts.proofs.Tools.{or_right}
use Rattle.sql_parts.proofs.Valid.{IsValidMember, chain_parts, chain_there}

cut_there : (ds : List ListDef) (j : ℕ) → nat_lt j (length ds) ≡ true → is_sorted_and_cut (def_of (slice_get ds j)) ≡ true → list_any is_sorted_and_cut ds ≡ true
cut_there ds j h e = go ds j (def_of (slice_get ds j)) (list_there ds j h) e
  where
    go : (ds : List ListDef) (j : ℕ) (d : ListDef) → slice_get ds j ≡ Some d → is_sorted_and_cut d ≡ true → list_any is_sorted_and_cut ds ≡ true
    go [] j d is e = absurd cc
    go (x ∷ ds) zero d is e = let same : x ≡ d = cc in ap (λ b. b || list_any is_sorted_and_cut ds) (ap is_sorted_and_cut same ∙ e)
    go (x ∷ ds) (suc j) d is e = or_right (is_sorted_and_cut x) (list_any is_sorted_and_cut ds) (go ds j d is e)

pub suits : (f : Fragment) (a : Accumulator) → AccumulatorIsValid f a → (not (list_any is_sorted_and_cut f.lists) || only_appends a) ≡ true
unfolding suits_the_lists
suits f a v = and_right (loops_are_few f a.chain a.update) (not (list_any is_sorted_and_cut f.lists) || only_appends a) v.lists

pub loops_few : (f : Fragment) (a : Accumulator) → AccumulatorIsValid f a → loops_are_few f a.chain a.update ≡ true
unfolding suits_the_lists
loops_few f a v = and_left (loops_are_few f a.chain a.update) (not (list_any is_sorted_and_cut f.lists) || only_appends a) v.lists

appends : (b c : Bool) → (not b || c) ≡ true → b ≡ true → c ≡ true
appends true c h e = h
appends false c h e = absurd cc

empty_is : (fs : List Form) → is_empty fs ≡ true → fs ≡ []
empty_is [] h = refl
empty_is (f ∷ fs) h = absurd cc

-- a list that is sorted and cut leaves nothing to choose, and is only appended
abbrev Alone : Ground → ℕ → Member → Type 0
Alone g j m = (((list_of g j).keys ≡ []) ⊎ ((list_of g j).limit ≡ None)) ⊎ ((m.1 ≡ []) × (is_push m.0.update ≡ true))

module _ (f : Fragment) (valid : IsValid f) (g : Ground) (lists : g.lists ≡ f.lists) (m : Member) (v : IsValidMember f m) where
  alone : (j : ℕ) → nat_lt j (length f.lists) ≡ true → Alone g j m
  alone j h = go (list_of g j) refl
    where
      own : (d : ListDef) → list_of g j ≡ d → is_sorted_and_cut d ≡ true → (m.1 ≡ []) × (is_push m.0.update ≡ true)
      own d is e =
          let some : list_any is_sorted_and_cut f.lists ≡ true = cut_there f.lists j h (ap (λ (ds : List ListDef). is_sorted_and_cut (def_of (slice_get ds j))) (sym lists) ∙ ap is_sorted_and_cut is ∙ e) in
          let only : only_appends m.0 ≡ true = appends (list_any is_sorted_and_cut f.lists) (only_appends m.0) (suits f m.0 v.valid) some in
          let parts = and_three (is_push m.0.update) (list_all is_none m.0.guards) (is_empty m.0.pool) only in
          (v.empty (empty_is m.0.pool parts.2), parts.0)

      by : (keys : List Col) (limit : Option ℕ) (table : ℕ) → list_of g j ≡ record { table = table; keys = keys; limit = limit } → Alone g j m
      by [] limit table is = inl (inl (ap (λ (d : ListDef). d.keys) is))
      by (k ∷ keys) None table is = inl (inr (ap (λ (d : ListDef). d.limit) is))
      by (k ∷ keys) (Some n) table is = inr (own (record { table = table; keys = k ∷ keys; limit = Some n }) is refl)

      go : (d : ListDef) → list_of g j ≡ d → Alone g j m
      go d is = by d.keys d.limit d.table is

  many : (js : List ℕ) → m.0.chain ≡ js → 1 < length js → AllByRecursion (λ j. (list_of g j).limit ≡ None) js
  many js e h =
      let r = chain_parts f m.0 v.valid in
      let n : 1 < length f.lists = two_lists m.0.chain (length f.lists) (subst (λ ks. 1 < length ks) (sym e) h) r.1 (chain_there f m.0 v.valid) in
      every_unlimited g (subst (λ (ds : List ListDef). AllByRecursion (λ d. d.limit ≡ None) ds) (sym lists) (unlimited_lists (length f.lists) f.lists n (limits_hold f valid))) js

  first_there : (j : ℕ) (js : List ℕ) → m.0.chain ≡ j ∷ js → nat_lt j (length f.lists) ≡ true
  first_there j js e = and_left (nat_lt j (length f.lists)) (list_all (λ j. nat_lt j (length f.lists)) js) (subst (λ ks. list_all (λ j. nat_lt j (length f.lists)) ks ≡ true) e (chain_there f m.0 v.valid))

  no_chain : m.0.chain ≡ [] → ⊥
  no_chain e = let l : m.0.base < length m.0.chain = (chain_parts f m.0 v.valid).2 in let n : length m.0.chain ≡ 0 = ap length e in omega (arith, l, n)

  limited_from : (js : List ℕ) → m.0.chain ≡ js → Limited g js m.1
  limited_from [] e = absurd (no_chain e)
  limited_from (j ∷ k ∷ js) e = Limited.unlimited (j ∷ k ∷ js) m.1 (many (j ∷ k ∷ js) e (omega arith))
  limited_from (j ∷ []) e = go (alone j (first_there j [] e))
    where
      go : Alone g j m → Limited g (j ∷ []) m.1
      go (inl (inl keys)) = Limited.unsorted j m.1 keys
      go (inl (inr none)) = Limited.unlimited (j ∷ []) m.1 (none, tt)
      go (inr h) = subst (Limited g (j ∷ [])) (sym h.0) (Limited.whole j)

  pub is_limited : Limited g m.0.chain m.1
  is_limited = limited_from m.0.chain refl

  uncut_from : is_push m.0.update ≡ false → (js : List ℕ) → m.0.chain ≡ js → Uncut g js
  uncut_from p [] e = absurd (no_chain e)
  uncut_from p (j ∷ k ∷ js) e = Uncut.unlimited (j ∷ k ∷ js) (many (j ∷ k ∷ js) e (omega arith))
  uncut_from p (j ∷ []) e = go (alone j (first_there j [] e))
    where
      go : Alone g j m → Uncut g (j ∷ [])
      go (inl (inl keys)) = Uncut.unsorted j keys
      go (inl (inr none)) = Uncut.unlimited (j ∷ []) (none, tt)
      go (inr h) = let no : true ≡ false = sym h.1 ∙ p in absurd cc

  pub is_uncut : is_push m.0.update ≡ false → Uncut g m.0.chain
  is_uncut p = uncut_from p m.0.chain refl

-- A store that is told is read in one way, and holds one bank.
use Rattle.std.proofs.Common.{◌≡◌, ℕ, List, Option, Some, None, sym, refl, ap, ◌∙◌, codes}
use Rattle.std.specs.Prelude.{IsSome}
use Rattle.text_readers.proofs.Whole.{all_read, one_offset}
use Rattle.qbs_base.specs.Values.{Schema}
use Rattle.small_dbs.specs.declared.small.SmallDb.{SmallDb}
use Rattle.proof_store.specs.Grammar.{HasStore}
use Rattle.proof_store.proofs.ExactStores.{exact_store}
use Rattle.proof_store.proofs.Stores.{store_of}
use Rattle.deliveries.specs.Limits.{most_store}
use Rattle.deliveries.specs.Plan.{Given}
use Rattle.qbs.specs.Store.{IsStoreName, IsStoreRead, IsStoreUnread, IsBankOf, HasNoBank, store_refusal}
use Rattle.qbs.proofs.OneRead.{read_one}
use Rattle.qbs.proofs.OneStep.{IsOne, ok_same}

-- ---- reading it

pub store_read_one : (files : Given) (name : Option (List ℕ)) → ((other : List ℕ) → IsStoreName name other → IsSome (files.told other)) → ((other : List ℕ) → files.failed other → ⊥) →
    IsOne {B = Option (List ℕ)} (IsStoreRead files name) (IsStoreUnread files name)
store_read_one files None told calm = record { same = λ b c x y. x ∙ sym y; stops = λ p q x y. absurd x; apart = λ b p x y. y }
store_read_one files (Some name) told calm =
    let one = read_one files name most_store (codes "store") (told name refl) calm in
    record {
      same = λ b c x y. x.2 ∙ ap (λ (bytes : List ℕ). Some bytes) (one.same x.0 y.0 x.1 y.1) ∙ sym y.2;
      stops = λ p q x y. one.stops p q x y;
      apart = λ b p x y. one.apart x.0 p x.1 y;
    }

-- ---- what it holds

one_store : (tables : Schema) (bytes : List ℕ) (a b : List SmallDb) → HasStore tables bytes a → HasStore tables bytes b → a ≡ b
one_store tables bytes a b x y = ok_same _ a b (all_read (exact_store tables) tt bytes a (store_of tables bytes a x)) (all_read (exact_store tables) tt bytes b (store_of tables bytes b y))

pub bank_one : (tables : Schema) (store : Option (List ℕ)) → IsOne {B = Option (List SmallDb)} (IsBankOf tables store) (HasNoBank tables store)
bank_one tables None = record { same = λ b c x y. x ∙ sym y; stops = λ p q x y. absurd x; apart = λ b p x y. y }
bank_one tables (Some bytes) = record {
  same = λ b c x y. x.2 ∙ ap (λ (items : List SmallDb). Some items) (one_store tables bytes x.0 y.0 x.1 y.1) ∙ sym y.2;
  stops = λ p q x y. x.2 ∙ ap (λ (n : ℕ). store_refusal (record { offset = n })) (one_offset (HasStore tables) bytes x.0.offset y.0.offset x.1 y.1) ∙ sym y.2;
  apart = λ b p x y. y.1.no_member x.0 x.1;
}

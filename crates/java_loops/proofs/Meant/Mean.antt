-- From what holds at a loop to what its fragment ends with.
use Rattle.std.proofs.Common.{◌≡◌, ℕ, zero, suc, true, List, [], ◌∷◌, Option, Some, refl, sym, ap, ◌∙◌}
use Rattle.std.specs.Prelude.{slice_get}
use Rattle.std.specs.Option.{option_map}
use Rattle.qbs_base.specs.declared.scalar.Row.{Row}
use Rattle.qbs_base.specs.declared.scalar.Value.{Value}
use Rattle.qbs_base.specs.Named.{at_name}
use Rattle.java_ast.specs.Tree.{Statements}
use Rattle.java_mean.specs.Statement.{State}
use Rattle.java_mean.specs.Store.{Store, Variable}
use Rattle.java_mean.specs.World as java
use Rattle.tor_terms.specs.Plain.{Form}
use Rattle.tor_terms.specs.Truth.{World}
use Rattle.kernel_lang.specs.declared.parts.Entry.{Entry}
use Rattle.kernel_lang.specs.Given.{list_at, world_given}
use Rattle.kernel_lang.specs.Plain.{Accumulator, Fragment}
use Rattle.kernel_lang.specs.Running.{Layer, ends_as, and_then, ends, all_end}
use Rattle.java_loops.specs.Walks.ChainLaws.{start_of, value_in, IsTurned}
use Rattle.java_loops.specs.Walks.ChainStarts.{Begins}
use Rattle.java_loops.specs.Walks.Left.{Became, Left}
use Rattle.java_loops.specs.Walks.Numbering.{Numbering}
use Rattle.java_loops.specs.Walks.Reads.{Set}
use Rattle.java_loops.proofs.Walks.Becoming.{over_rows}
use Rattle.java_loops.proofs.Walks.ChainEnds.{turns_end}
use Rattle.java_loops.specs.Meant.Members.{AreMatched}
use Rattle.java_loops.specs.Meant.Means.{HasValue}

-- Each accumulator outside all loops is that of one of the variables, which starts as it does; flags stand in between.
pub data AreStarted (f : Fragment) (n : Numbering) (x : List ℕ) (p : Statements) (a : Set) (s : Store) : List (List ℕ) → List Accumulator → Type 0 where
  no_more : AreStarted f n x p a s [] []
  outer : (y : List ℕ) (acc : Accumulator) (ys : List (List ℕ)) (accs : List Accumulator) (gs : List Form) (layers : List Layer) → acc.base ≡ zero → a y ≡ true → IsTurned f n x zero p y gs layers acc → at_name s y ≡ Some (start_of acc) → AreStarted f n x p a s ys accs → AreStarted f n x p a s (y ∷ ys) (acc ∷ accs)
  inner : (base : ℕ) (acc : Accumulator) (ys : List (List ℕ)) (accs : List Accumulator) → acc.base ≡ suc base → AreStarted f n x p a s ys accs → AreStarted f n x p a s ys (acc ∷ accs)

-- what all accumulators end with, and the variables have it
pub record AllEnd (f : Fragment) (k : World) (s : Store) (names : List (List ℕ)) (accs : List Accumulator) : Type 0 where
  pub values : List Value
  pub is : all_end f k accs ≡ Some values
  pub left : AreMatched (HasValue s) names values

one_end : (o : Option Variable) (v : Variable) (e : Option Value) → o ≡ Some v → option_map value_in o ≡ e → e ≡ Some v.value
one_end o v e h k = sym k ∙ ap (option_map value_in) h

ends_outer : (f : Fragment) (k : World) (base : ℕ) (acc : Accumulator) (rest : Option (List Value)) (v : Value) (vs : List Value) → base ≡ zero → ends_as f k acc ≡ Some v → rest ≡ Some vs → ends f k base acc rest ≡ Some (v ∷ vs)
ends_outer f k base acc rest v vs e h i = ap (λ b. ends f k b acc rest) e ∙ ap (λ o. and_then o rest) h ∙ ap (and_then (Some v)) i

module _ (f : Fragment) (n : Numbering) (x : List ℕ) (p : Statements) (a g : Set) (w : java.World) (entry : Entry) (rows : List Row) (s t : State) (begins : Begins n f w s.store entry) (are : rows ≡ list_at w.db (slice_get f.lists zero)) (l : Left a g (over_rows rows x p w) s t) where
  became : (y : List ℕ) → a y ≡ true → (v : Variable) → at_name s.store y ≡ Some v → Became (over_rows rows x p w y s.store v) (at_name t.store y)
  became y ay v h = l.value y ay v h s.store (record { by = λ z e. refl })

  ended : (y : List ℕ) (acc : Accumulator) (gs : List Form) (layers : List Layer) → IsTurned f n x zero p y gs layers acc → option_map value_in (over_rows rows x p w y s.store (start_of acc)) ≡ ends_as f (world_given f w.db entry) acc
  ended y acc gs layers h = ap (λ zs. option_map value_in (over_rows zs x p w y s.store (start_of acc))) are ∙ turns_end f n x zero p y gs layers acc w s.store entry begins h

  pub all_ended : (names : List (List ℕ)) (accs : List Accumulator) → AreStarted f n x p a s.store names accs → AllEnd f (world_given f w.db entry) t.store names accs
  all_ended _ _ no_more = record { values = []; is = refl; left = tt }
  all_ended _ _ (outer y acc ys accs gs layers base ay h held rest) =
      let r : AllEnd f (world_given f w.db entry) t.store ys accs = all_ended ys accs rest in
      let b : Became (over_rows rows x p w y s.store (start_of acc)) (at_name t.store y) = became y ay (start_of acc) held in
      let e : ends_as f (world_given f w.db entry) acc ≡ Some b.value.value = one_end (over_rows rows x p w y s.store (start_of acc)) b.value (ends_as f (world_given f w.db entry) acc) b.is (ended y acc gs layers h) in
      record {
        values = b.value.value ∷ r.values;
        is = ends_outer f (world_given f w.db entry) acc.base acc (all_end f (world_given f w.db entry) accs) b.value.value r.values base e r.is;
        left = (record { held = b.value; there = b.held; is = refl }, r.left);
      }
  all_ended _ _ (inner base acc ys accs e rest) =
      let r : AllEnd f (world_given f w.db entry) t.store ys accs = all_ended ys accs rest in
      record { values = r.values; is = ap (λ b. ends f (world_given f w.db entry) b acc (all_end f (world_given f w.db entry) accs)) e ∙ r.is; left = r.left }

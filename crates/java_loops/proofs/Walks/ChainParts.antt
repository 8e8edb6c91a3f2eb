-- A fragment whose parts stand for conditions and statements fits.
use Rattle.std.proofs.Common.{◌≡◌, ℕ, suc, ◌<◌, List, [], ◌∷◌, ◌++◌, length, refl, sym, ap, subst}
use Rattle.std.specs.List.{AllByRecursion, flat_map}
use Rattle.qbs_base.specs.Values.{Schema, Database, AreTables}
use Rattle.java_mean.specs.Store.{Store}
use Rattle.java_mean.specs.World as java
use Rattle.kernel_lang.specs.declared.parts.Entry.{Entry}
use Rattle.kernel_lang.specs.declared.parts.ListDef.{ListDef}
use Rattle.kernel_lang.specs.Fitting.{atom_places, element_places, key_places, ColumnFits, AtomFits, UpdateFits, PartsFit}
use Rattle.kernel_lang.specs.Given.{world_given}
use Rattle.kernel_lang.specs.Plain.{Accumulator, Fragment}
use Rattle.kernel_lang.specs.Validity.{element_of}
use Rattle.java_loops.specs.Walks.ChainStarts.{Begins, StandsForCondition, StandsForStatement, HasColumnAt, IsMade}
use Rattle.java_loops.specs.Walks.Numbering.{Numbering}
use Rattle.java_loops.proofs.Walks.ChainStarts.{both, column_fits, atom_parts_fit, update_parts_fit}

all_mapped : {X : Type 0} (P Q : X → Type 0) → ((x : X) → P x → Q x) → (xs : List X) → AllByRecursion P xs → AllByRecursion Q xs
all_mapped P Q g [] h = tt
all_mapped P Q g (x ∷ xs) h = (g x h.0, all_mapped P Q g xs h.1)

all_flat : {X Y : Type 0} (P : X → Type 0) (Q : Y → Type 0) (g : X → List Y) → ((x : X) → P x → AllByRecursion Q (g x)) → (xs : List X) → AllByRecursion P xs → AllByRecursion Q (flat_map g xs)
all_flat P Q g h [] all = tt
all_flat P Q g h (x ∷ xs) all = both Q (g x) (flat_map g xs) (h x all.0) (all_flat P Q g h xs all.1)

same_length : (start : ℕ) (schema : Schema) (db : Database) → AreTables start schema db → length db ≡ length schema
same_length start [] [] h = refl
same_length start [] (held ∷ db) h = absurd h
same_length start (table ∷ schema) [] h = absurd h
same_length start (table ∷ schema) (held ∷ db) h = ap suc (same_length (suc start) schema db h.3)

pub parts_fit : (n : Numbering) (f : Fragment) (w : java.World) (env : Store) (entry : Entry) → Begins n f w env entry → IsMade f n entry → PartsFit f w.db entry
parts_fit n f w env entry b m =
    let k = world_given f w.db entry in
    record {
      tables = subst (λ (l : ℕ). AllByRecursion (λ (d : ListDef). d.table < l) f.lists) (sym (same_length 0 n.schema w.db b.database)) m.tables;
      columns =
          both (ColumnFits f w.db) (key_places 0 f.lists) (flat_map atom_places f.atoms ++ flat_map (λ (a : Accumulator). element_places (element_of a.update)) f.accs)
          (all_mapped (HasColumnAt n) (ColumnFits f w.db) (λ place h. column_fits n f w env entry place.0 place.1 h.column b h.there) (key_places 0 f.lists) m.keys)
          (both (ColumnFits f w.db) (flat_map atom_places f.atoms) (flat_map (λ (a : Accumulator). element_places (element_of a.update)) f.accs)
          (all_flat (StandsForCondition n) (ColumnFits f w.db) atom_places (λ a h. (atom_parts_fit n f w env entry h.loops b h.flags h.condition a h.truth h.is).1) f.atoms m.tests)
          (all_flat (StandsForStatement f n) (ColumnFits f w.db) (λ (a : Accumulator). element_places (element_of a.update)) (λ a h. (update_parts_fit n f w env entry h.loops b h.quiet h.flags h.statement h.variable h.conditions h.layers a.update a.opposite h.is).1) f.accs m.updates));
      tests = all_mapped (StandsForCondition n) (AtomFits k) (λ a h. (atom_parts_fit n f w env entry h.loops b h.flags h.condition a h.truth h.is).0) f.atoms m.tests;
      numbers = all_mapped (StandsForStatement f n) (λ a. UpdateFits k a.update) (λ a h. (update_parts_fit n f w env entry h.loops b h.quiet h.flags h.statement h.variable h.conditions h.layers a.update a.opposite h.is).0) f.accs m.updates;
      known = m.known;
      values = m.values;
    }

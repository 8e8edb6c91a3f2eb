-- The turns of a loop, and the whole loop.
use Rattle.std.proofs.Common.{◌≡◌, ℕ, Bool, false, List, [], ◌∷◌, Option, Some, None, Result, refl, sym, ap, ◌∙◌, ap₂}
use Rattle.std.specs.Prelude.{bytes_eq, slice_get}
use Rattle.std.specs.List.{AllByRecursion}
use Rattle.std.specs.Option.{option_map}
use Rattle.qbs_base.specs.declared.scalar.Row.{Row}
use Rattle.qbs_base.specs.declared.scalar.Value.{Value}
use Rattle.qbs_base.specs.Values.{IsRowOf}
use Rattle.qbs_base.specs.Columns.{columns_at}
use Rattle.java_ast.specs.Tree.{Expression, Statement, Statements}
use Rattle.java_mean.specs.declared.ending.Ending.{Ending}
use Rattle.java_mean.specs.Endings.{◌>>=◌}
use Rattle.java_mean.specs.Expression.{as_scalar, as_bool, element}
use Rattle.java_mean.specs.Store.{Store, put, plainly}
use Rattle.java_mean.specs.World as java
use Rattle.tor_terms.specs.declared.term.Atom.{Atom}
use Rattle.tor_terms.specs.Plain.{Form}
use Rattle.tor_terms.specs.Truth.{Datum, World}
use Rattle.kernel_lang.specs.declared.parts.Update.{Update}
use Rattle.kernel_lang.specs.declared.parts.Entry.{Entry}
use Rattle.kernel_lang.specs.Given.{world_given, list_at}
use Rattle.kernel_lang.specs.Plain.{Accumulator, Fragment}
use Rattle.kernel_lang.specs.Running.{Layer, with_row, each_row, source_value, layers_of, with_flags, started, accumulated, ends_as, layer, run, and_then, ends, all_end, fragment_end}
use Rattle.java_loops.specs.Walks.Carried.{variable_of, Suits, Carried, read_in}
use Rattle.java_loops.specs.Walks.ChainLaws.{HasTruth, turn_of, IsAccumulator, start_of, value_in, IsTurned, AreAccumulators, no_more, outer, inner, all_become}
use Rattle.java_loops.specs.Walks.ChainStarts.{Begins}
use Rattle.java_loops.specs.Walks.Chains.{By, AreChain, joined}
use Rattle.java_loops.specs.Walks.Effects.{folded, effect, effects}
use Rattle.java_loops.specs.Walks.Forms.{IsForm}
use Rattle.java_loops.specs.Walks.Matched.{Matches}
use Rattle.java_loops.specs.Walks.Numbering.{Numbering, Flags, no_flags, with_loop, IsApart, IsNewLoop}
use Rattle.java_loops.proofs.Walks.ChainForms.{FormHolds, form_holds}
use Rattle.java_loops.proofs.Walks.ChainPuts.{matches_loop, apart_in_loop}
use Rattle.java_loops.proofs.Walks.ChainRuns.{at_row, chain_carried, chains_carried}
use Rattle.java_loops.proofs.Walks.ChainStarts.{begins}
use Rattle.java_loops.proofs.Walks.ChainSteps.{folded_carried}

abbrev tested : Result Value Ending → Result Bool Ending
tested r = r >>= as_scalar >>= as_bool

pub formulas_tested : (known : List Atom) (n : Numbering) (flags : Flags) (polarity : Bool) (e : Expression) (f : Form) (w : java.World) (k : World) (env : Store) (rows : ℕ → Row) → IsForm known n flags polarity e f → Matches n flags w k env rows → HasTruth w k known env rows polarity e f
formulas_tested known n flags polarity e f w k env rows i m =
    let h : FormHolds w k known env rows polarity e f = form_holds n flags w k known env rows polarity e f i m in
    record { truth = h.truth; test = ap tested h.value; is = h.is }

pub turns_carried : (f : Fragment) (quiet : Bool) (n : Numbering) (flags : Flags) (x : List ℕ) (p : Statements) (a : List ℕ) (j : ℕ) (gs : List Form) (ys : List Layer) (u : Update) (opposite : Bool) (w : java.World) (k : World) (env : Store) (rows : ℕ → Row) (members : List Row) (d : List Datum) → AreChain f quiet (with_loop x j n) flags [] p a gs ys (By u opposite) → IsApart n x → flags x ≡ None → bytes_eq x a ≡ false → IsNewLoop n flags j → IsApart n a → flags a ≡ None → Matches n flags w (read_in f quiet k) env rows → AllByRecursion (IsRowOf (n.tables j) (columns_at n.schema (n.tables j))) members → Suits (By u opposite) d → Carried (By u opposite) (folded members (λ row. effects p [] w a (put env x (plainly (element row)))) (variable_of (By u opposite) d)) (each_row members (turn_of f.atoms (read_in f quiet k) u gs ys rows j) d)
turns_carried f quiet n flags x p a j gs ys u opposite w k env rows members d h i o other new apart none m typed suits =
    folded_carried (By u opposite) (IsRowOf (n.tables j) (columns_at n.schema (n.tables j))) members (λ row. effects p [] w a (put env x (plainly (element row)))) (turn_of f.atoms (read_in f quiet k) u gs ys rows j) typed (λ r y t s. at_row f w k quiet p a gs ys u opposite (put env x (plainly (element r))) (with_row rows j r) y (chains_carried f w k quiet (with_loop x j n) flags [] p a gs ys (By u opposite) h (put env x (plainly (element r))) (with_row rows j r) y (apart_in_loop n x a j other apart) none (matches_loop n flags w (read_in f quiet k) env rows x j r i o new t m) s)) d suits

pub accumulator_carried : (f : Fragment) (n : Numbering) (s : Statement) (a : List ℕ) (acc : Accumulator) (w : java.World) (k : World) (env : Store) → IsAccumulator f n s a acc → Matches n no_flags w (with_flags f k) env k.current → Carried (By acc.update acc.opposite) (effect s w a env (start_of acc)) (accumulated f k acc)
accumulator_carried f n s a acc w k env i m = chain_carried f w k false n no_flags s a [] (layers_of acc) (By acc.update acc.opposite) i.chain env k.current (started acc.start) i.apart refl m i.start

value_mapped : (u : Update) (opposite : Bool) (o : Option (List Datum)) → option_map value_in (option_map (variable_of (By u opposite)) o) ≡ option_map (source_value u opposite) o
value_mapped u opposite (Some d) = refl
value_mapped u opposite None = refl

pub accumulator_ends : (f : Fragment) (n : Numbering) (s : Statement) (a : List ℕ) (acc : Accumulator) (w : java.World) (env : Store) (entry : Entry) → Begins n f w env entry → IsAccumulator f n s a acc → option_map value_in (effect s w a env (start_of acc)) ≡ ends_as f (world_given f w.db entry) acc
accumulator_ends f n s a acc w env entry b i =
    let k : World = world_given f w.db entry in
    let c : Carried (By acc.update acc.opposite) (effect s w a env (start_of acc)) (accumulated f k acc) = accumulator_carried f n s a acc w k env i (begins n f w env entry false k.current b) in
    ap (option_map value_in) c.is ∙ value_mapped acc.update acc.opposite (accumulated f k acc)

all_end_as : (f : Fragment) (n : Numbering) (s : Statement) (named : List (List ℕ × Accumulator)) (accs : List Accumulator) (w : java.World) (env : Store) (entry : Entry) → Begins n f w env entry → AreAccumulators f n s named accs → all_become s w env named ≡ all_end f (world_given f w.db entry) accs
all_end_as f n s _ _ w env entry b no_more = refl
all_end_as f n s _ _ w env entry b (outer a acc named accs e i h) = ap₂ and_then (accumulator_ends f n s a acc w env entry b i) (all_end_as f n s named accs w env entry b h) ∙ sym (ap (λ z. ends f (world_given f w.db entry) z acc (all_end f (world_given f w.db entry) accs)) e)
all_end_as f n s _ _ w env entry b (inner base acc named accs e h) = all_end_as f n s named accs w env entry b h ∙ sym (ap (λ z. ends f (world_given f w.db entry) z acc (all_end f (world_given f w.db entry) accs)) e)

pub fragment_ends : (f : Fragment) (n : Numbering) (s : Statement) (named : List (List ℕ × Accumulator)) (w : java.World) (env : Store) (entry : Entry) → Begins n f w env entry → AreAccumulators f n s named f.accs → all_become s w env named ≡ fragment_end f w.db entry
fragment_ends f n s named w env entry b h = all_end_as f n s named f.accs w env entry b h

pub turns_end : (f : Fragment) (n : Numbering) (x : List ℕ) (j : ℕ) (p : Statements) (a : List ℕ) (gs : List Form) (ys : List Layer) (acc : Accumulator) (w : java.World) (env : Store) (entry : Entry) → Begins n f w env entry → IsTurned f n x j p a gs ys acc → option_map value_in (folded (list_at w.db (slice_get f.lists j)) (λ row. effects p [] w a (put env x (plainly (element row)))) (start_of acc)) ≡ ends_as f (world_given f w.db entry) acc
turns_end f n x j p a gs ys acc w env entry b i =
    let k : World = world_given f w.db entry in
    let m : Matches n no_flags w (with_flags f k) env k.current = begins n f w env entry false k.current b in
    let c : Carried (By acc.update acc.opposite) (folded (k.lists j) (λ row. effects p [] w a (put env x (plainly (element row)))) (start_of acc)) (run (with_flags f k) f.atoms acc.update (layer j (joined gs) ∷ ys) k.current (started acc.start)) = turns_carried f false n no_flags x p a j gs ys acc.update acc.opposite w k env k.current (k.lists j) (started acc.start) i.chain i.variable refl i.other i.new i.apart refl m (m.lists j) i.start in
    ap (option_map value_in) c.is
    ∙ value_mapped acc.update acc.opposite (run (with_flags f k) f.atoms acc.update (layer j (joined gs) ∷ ys) k.current (started acc.start))
    ∙ ap (λ zs. option_map (source_value acc.update acc.opposite) (run (with_flags f k) f.atoms acc.update zs k.current (started acc.start))) (sym i.layers)

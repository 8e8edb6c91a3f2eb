-- A lowered fragment is valid.
use Rattle.std.proofs.Common.{◌≡◌, ℕ, true, List, [], ◌∷◌, length, Some, None}
use Rattle.std.specs.List.{AllByRecursion}
use Rattle.java_mean.specs.Typing.{Frame}
use Rattle.kernel_lang.specs.Plain.{Accumulator}
use Rattle.kernel_lang.specs.Sentences.{AccumulatorIsValid, IsValid}
use Rattle.kernel_lang.specs.Validity as validity
use Rattle.kernel_lang.proofs.Sentences.{valid_none}
use Rattle.loop_text.specs.Statements.Fragment.{needed_of}
use Rattle.java_loops.specs.Kernel.Kernel.{lowering}
use Rattle.loop_text.specs.Kernel.KernelStarts.{Numbered, update_of}
use Rattle.java_ast.specs.Names.{is_among}
use Rattle.java_loops.specs.Kernel.Setting.{Setting}
use Rattle.java_loops.proofs.Valid.ValidAccumulators.{Comes, needed, flagged, all_come, UpdateStands, update_stands, names_there, chain_read, chain_valid, base_of_needed, update_inside}
use Rattle.java_loops.proofs.Valid.ValidBegins.{TakesColumns, start_of_needed, start_of_flag}
use Rattle.java_loops.proofs.Valid.ValidCounts.{needed_started, size_valid, conditions_valid}
use Rattle.java_loops.proofs.Valid.ValidFlags.{FlagStands, flag_stands, chain_of_flag, base_of_flag}
use Rattle.java_loops.proofs.Valid.ValidLimits.{limits_valid}
use Rattle.java_loops.proofs.Valid.ValidLoop.{Checked}
use Rattle.java_loops.proofs.Valid.ValidOperands.{fields_tested}
use Rattle.java_loops.proofs.Valid.ValidPositions.{flags_named}
use Rattle.java_loops.proofs.Valid.ValidQuiet.{quiet_of_flag, quiet_of_needed}
use Rattle.java_loops.proofs.Valid.ValidReading.{flags_read}
use Rattle.java_loops.proofs.Valid.ValidSuits.{SeenBefore, needed_suits, flag_suits}
use Rattle.java_loops.proofs.Valid.ValidThere.{atoms_there}
use Rattle.java_loops.proofs.Valid.ValidUpdates.{update_is}

-- What a program's typing says of the needed variables: they are visible before the loop, and a set takes no rows whole.
pub record NeededTyped (w : Setting) : Type 0 where
  pub seen : (x : List ℕ) → is_among (needed_of w.fragment) x ≡ true → SeenBefore w x
  pub columns : (x : List ℕ) (u : Numbered) → is_among (needed_of w.fragment) x ≡ true → update_of w.sites x ≡ Some u → TakesColumns w u x

accumulator_valid : (w : Setting) (c : Frame) → Checked w c → NeededTyped w → (a : Accumulator) → Comes w a → AccumulatorIsValid (lowering w).fragment a
accumulator_valid w c is typed _ (needed x u h found) =
    let p = update_is w.sites x u found in
    let s : UpdateStands w c u x = update_stands w c is u x p.0 p.1 in
    record {
      chain = chain_valid w c is x 0 u s (update_inside w c u x s);
      names = names_there w c is x 0 u s;
      base = base_of_needed w x u;
      loops = chain_read w c is x 0 u s;
      quiet = quiet_of_needed w u x;
      reading = flags_read w c is x 0 u s;
      start = start_of_needed w x u (needed_started w c is x h) found (typed.columns x u h found);
      lists = needed_suits w c is u x (typed.seen x h) s;
    }
accumulator_valid w c is typed _ (flagged x d s u there name found) =
    let f : FlagStands w c d s u x = flag_stands w c is d s u x there name found in
    record {
      chain = chain_of_flag w c is d s u x f;
      names = names_there w c is x (length s.round.loops) u f.update;
      base = base_of_flag w c is d s u x f;
      loops = chain_read w c is x (length s.round.loops) u f.update;
      quiet = quiet_of_flag w c is d s u x there f;
      reading = flags_read w c is x (length s.round.loops) u f.update;
      start = start_of_flag w x (length s.round.loops) u f.value f.form;
      lists = flag_suits w c is d s u x f;
    }

all_valid : (w : Setting) (c : Frame) → Checked w c → NeededTyped w → (accs : List Accumulator) → AllByRecursion (Comes w) accs → AllByRecursion (AccumulatorIsValid (lowering w).fragment) accs
all_valid w c is typed [] comes = tt
all_valid w c is typed (a ∷ more) comes = (accumulator_valid w c is typed a comes.0, all_valid w c is typed more comes.1)

-- A lowered fragment meets each sentence of valid fragments.
pub fragment_is_valid : (w : Setting) (c : Frame) → Checked w c → NeededTyped w → IsValid (lowering w).fragment
fragment_is_valid w c is typed =
    record {
      size = size_valid w c is;
      names = atoms_there w c is;
      operands = fields_tested w c is;
      flags = flags_named w c is;
      limits = limits_valid w c is;
      accs = all_valid w c is typed (lowering w).fragment.accs (all_come w);
      conditions = conditions_valid w c is;
    }

-- No sentence of valid fragments is broken.
pub lowering_unbroken : (w : Setting) (c : Frame) → Checked w c → NeededTyped w → validity.broken (lowering w).fragment ≡ None
lowering_unbroken w c is typed = valid_none (lowering w).fragment (fragment_is_valid w c is typed)

-- Fragments that break a sentence of validity, one or more for each.
use Rattle.std.specs.Prelude.{◌≡◌, ℕ, zero, suc, ◌-◌, ◌^◌, true, false, List, [], ◌∷◌, map, Some, None, codes}
use Rattle.std.specs.declared.option.Option.{Option}
use Rattle.qbs_base.specs.declared.scalar.Scalar.{Scalar}
use Rattle.qbs_base.specs.declared.scalar.Scalar.TheVariants as scalars
use Rattle.qbs_base.specs.declared.scalar.Ty.TheVariants as tys
use Rattle.tor_terms.specs.declared.term.Atom.{Atom}
use Rattle.tor_terms.specs.declared.term.Atom.TheVariants as atoms
use Rattle.tor_terms.specs.declared.term.Elem.TheVariants as elems
use Rattle.tor_terms.specs.declared.term.Operand.TheVariants as operands
use Rattle.tor_terms.specs.declared.term.Way.TheVariants as ways
use Rattle.tor_terms.specs.Plain.{Form, Is, Both, Either}
use Rattle.kernel_lang.specs.declared.parts.ListDef.{ListDef}
use Rattle.kernel_lang.specs.declared.parts.Update.{Update}
use Rattle.kernel_lang.specs.declared.parts.Update.TheVariants as updates
use Rattle.kernel_lang.specs.declared.sentence.Sentence.{Sentence}
use Rattle.kernel_lang.specs.declared.sentence.Sentence.TheVariants as sentences
use Rattle.kernel_lang.specs.Plain.{Accumulator, Fragment}
use Rattle.kernel_lang.specs.Validity.{broken}
use Rattle.kernel_lang.specs.Worked.{long, all_of, over_one, class_A, class_B, class_C, class_D, class_E, class_F, class_H, class_J, class_V, two_conjuncts, three_loops, flag_under_a_guard, name_set, role_flag as worked_flag}

-- a fragment that breaks a sentence first
abbrev pub Breaks : Sentence → Fragment → Type 0
Breaks sentence f = broken f ≡ Some sentence

abbrev copies : {X : Type 0} → ℕ → X → List X
copies zero x = []
copies (suc n) x = x ∷ copies n x

abbrev with_accs : Fragment → List Accumulator → Fragment
with_accs f accs = record f { accs = accs }

abbrev with_tests : Fragment → List Atom → Fragment
with_tests f tests = record f { atoms = tests }

abbrev with_lists : Fragment → List ListDef → Fragment
with_lists f lists = record f { lists = lists }

abbrev changed : (Accumulator → Accumulator) → Fragment → Fragment
changed h f = with_accs f (map h f.accs)

abbrev with_guards : List (Option Form) → Fragment → Fragment
with_guards guards f = changed (λ a. record a { guards = guards }) f

abbrev with_pool : List Form → Fragment → Fragment
with_pool pool f = changed (λ a. record a { pool = pool }) f

abbrev with_update : Update → Option Scalar → Fragment → Fragment
with_update update start f = changed (λ a. record a { update = update; start = start }) f

abbrev with_chain : List ℕ → List (Option Form) → Fragment → Fragment
with_chain chain guards f = changed (λ a. record a { chain = chain; guards = guards }) f

-- adds the user where the flag of the accumulator 1 is set
abbrev reader : Option Form → Accumulator
reader guard = over_one guard (updates.Push (elems.Whole 0)) None false []

-- the flag of class E, with an empty pool
abbrev role_flag : Accumulator
role_flag = record worked_flag { pool = [] }

abbrev with_flag : Accumulator → Fragment
with_flag flag = with_accs class_E (reader (Some (Is 1 true)) ∷ flag ∷ [])

-- n conjuncts, each with two ways to hold
abbrev conjunction : ℕ → Form
conjunction zero = Either (Is 0 true) (Is 1 true)
conjunction (suc n) = Both (Either (Is 0 true) (Is 1 true)) (conjunction n)

pub record SizeIsBroken : Type 0 where
  pub loops : Breaks sentences.Size (with_lists class_A (copies 257 (all_of 0)))
  pub accumulators : Breaks sentences.Size (with_accs class_E (copies 9 role_flag))
  pub atoms : Breaks sentences.Size (with_tests class_A (copies 25 (atoms.Truth (operands.Field 0 4))))
  pub entries : Breaks sentences.Size (record class_A { entries = copies 10 tys.Long })
  pub formulas : Breaks sentences.Size (with_pool (copies 17 (Is 0 true)) class_A)

pub record NamesAreBroken : Type 0 where
  pub atom_of_a_guard : Breaks sentences.Names (with_guards (Some (Is 1 true) ∷ []) class_A)
  pub atom_of_a_pool : Breaks sentences.Names (with_pool (Is 1 true ∷ []) class_A)
  pub loop_of_a_chain : Breaks sentences.Names (with_chain (1 ∷ []) (None ∷ []) class_A)
  pub loop_of_an_element : Breaks sentences.Names (with_update (updates.Push (elems.Whole 1)) None class_A)
  pub loop_of_an_atom : Breaks sentences.Names (with_tests class_A (atoms.Truth (operands.Field 1 0) ∷ []))
  pub entry : Breaks sentences.Names (with_tests class_J (atoms.Same (operands.Field 0 0) (operands.Entry 1) ∷ []))
  pub known : Breaks sentences.Names (with_tests class_F (atoms.Member (operands.Field 0 2) 1 ∷ []))
  pub flag : Breaks sentences.Names (with_tests class_E (atoms.Same (operands.Field 0 2) (operands.Field 1 0) ∷ atoms.Flag 2 (0 ∷ []) ∷ []))

pub record ChainIsBroken : Type 0 where
  pub not_rising : Breaks sentences.Chain (with_chain (1 ∷ 0 ∷ []) (None ∷ None ∷ []) class_B)
  pub repeated : Breaks sentences.Chain (with_chain (0 ∷ 0 ∷ []) (None ∷ None ∷ []) class_B)
  pub of_four : Breaks sentences.Chain (with_lists (with_chain (0 ∷ 1 ∷ 2 ∷ 3 ∷ []) (copies 4 None) three_loops) (copies 4 (all_of 0)))
  pub base_past_it : Breaks sentences.Chain (changed (λ a. record a { base = 1 }) class_A)
  pub no_guard : Breaks sentences.Chain (with_guards [] class_A)
  pub guard_too_many : Breaks sentences.Chain (with_guards (None ∷ None ∷ []) class_A)

pub record BaseIsBroken : Type 0 where
  pub inside : Breaks sentences.Base (changed (λ a. record a { base = 1 }) class_B)
  pub opposite : Breaks sentences.Base (changed (λ a. record a { opposite = true }) class_A)

pub record LoopsAreBroken : Type 0 where
  pub guard_of_the_outer_loop : Breaks sentences.Loops (with_guards (Some (Is 0 true) ∷ None ∷ []) class_B)
  pub pool : Breaks sentences.Loops (with_chain (0 ∷ []) (None ∷ []) class_B)
  pub element : Breaks sentences.Loops (with_update (updates.Push (elems.Whole 1)) None (with_pool [] (with_chain (0 ∷ []) (None ∷ []) class_B)))

pub record FlagsAreBroken : Type 0 where
  pub at_other_loops : Breaks sentences.Flags (with_tests class_E (atoms.Same (operands.Field 0 2) (operands.Field 1 0) ∷ atoms.Flag 1 (0 ∷ 1 ∷ []) ∷ []))
  pub no_flag : Breaks sentences.Flags (with_tests class_E (atoms.Same (operands.Field 0 2) (operands.Field 1 0) ∷ atoms.Flag 0 [] ∷ []))
  pub outside_all_loops : Breaks sentences.Flags (with_tests class_V (atoms.Truth (operands.Field 0 4) ∷ atoms.Flag 0 [] ∷ []))
  pub that_reads_a_flag : Breaks sentences.Flags (with_flag (record role_flag { guards = None ∷ Some (Is 1 true) ∷ [] }))
  pub with_a_flag_in_its_pool : Breaks sentences.Flags (with_flag (record role_flag { pool = Is 1 true ∷ [] }))

pub record OperandsAreBroken : Type 0 where
  pub no_field : Breaks sentences.Operands (with_tests class_A (atoms.Same (operands.Lit (long 1)) (operands.Lit (long 2)) ∷ []))
  pub truth : Breaks sentences.Operands (with_tests class_A (atoms.Truth (operands.Lit (scalars.Bool true)) ∷ []))
  pub member : Breaks sentences.Operands (with_tests class_F (atoms.Member (operands.Lit (long 2)) 0 ∷ []))

-- a flag at two loops that is set only for active users, and a reader that reads it for all users
abbrev flag_at_two_loops : Fragment
flag_at_two_loops =
    record {
      lists = copies 3 (all_of 0);
      atoms = atoms.Truth (operands.Field 0 4) ∷ atoms.Flag 1 (0 ∷ 1 ∷ []) ∷ [];
      accs =
          record (reader None) { chain = 0 ∷ 1 ∷ []; guards = None ∷ Some (Is 1 true) ∷ [] }
          ∷ record role_flag { chain = 0 ∷ 1 ∷ 2 ∷ []; base = 2; guards = Some (Is 0 true) ∷ None ∷ None ∷ [] }
          ∷ [];
      entries = [];
      known = 0;
    }

-- the flag under a guard, read under another one
abbrev read_under : Form → Fragment
read_under guard = with_accs flag_under_a_guard (reader (Some guard) ∷ record role_flag { guards = Some (Is 0 true) ∷ Some (Is 1 true) ∷ [] } ∷ [])

pub record ReadingIsBroken : Type 0 where
  pub inside : Breaks sentences.Reading (with_accs class_E (record (reader None) { chain = 0 ∷ 1 ∷ []; guards = None ∷ Some (Is 1 true) ∷ [] } ∷ role_flag ∷ []))
  pub guard_before : Breaks sentences.Reading flag_at_two_loops
  pub without_its_guard : Breaks sentences.Reading (read_under (Is 2 true))
  pub before_its_guard : Breaks sentences.Reading (read_under (Both (Is 2 true) (Is 0 true)))
  pub in_an_either : Breaks sentences.Reading (read_under (Either (Is 0 true) (Is 2 true)))

pub record StartIsBroken : Type 0 where
  pub count : Breaks sentences.Start (with_update updates.Tick (Some (long 1)) class_J)
  pub no_count : Breaks sentences.Start (with_update updates.Tick None class_J)
  pub sum : Breaks sentences.Start (with_update (updates.Plus (elems.Field 0 3)) (Some (long 1)) class_D)
  pub best : Breaks sentences.Start (with_update (updates.Best ways.Max (elems.Field 0 3)) (Some (scalars.Text (codes "a"))) class_C)
  pub flag : Breaks sentences.Start (with_update updates.Mark (Some (scalars.Bool true)) class_V)
  pub list : Breaks sentences.Start (with_update (updates.Push (elems.Whole 0)) (Some (long 0)) class_A)
  pub set_of_rows : Breaks sentences.Start (with_update (updates.PushNew (elems.Whole 0)) None name_set)
  pub sum_of_rows : Breaks sentences.Start (with_update (updates.Plus (elems.Whole 0)) (Some (long 0)) class_D)
  pub best_of_rows : Breaks sentences.Start (with_update (updates.Best ways.Min (elems.Whole 0)) (Some (long 0)) class_C)

abbrev sorted : Option ℕ → List ListDef
sorted limit = record { table = 0; keys = record { column = 1; down = false } ∷ []; limit = limit } ∷ []

pub record LimitsAreBroken : Type 0 where
  pub of_64_bits : Breaks sentences.Limits (class_H (2 ^ 63) false)
  pub of_two_loops : Breaks sentences.Limits (with_lists class_B (record { table = 0; keys = []; limit = Some 3 } ∷ all_of 1 ∷ []))
  pub guard : Breaks sentences.Limits (with_pool [] (with_lists class_A (sorted (Some 3))))
  pub pool : Breaks sentences.Limits (with_guards (None ∷ []) (with_lists class_A (sorted (Some 3))))
  pub count : Breaks sentences.Limits (with_update updates.Tick (Some (long 0)) (class_H 3 false))
  pub set_of_a_sorted_list : Breaks sentences.Limits (with_lists name_set (sorted None))
  pub set_in_two_loops : Breaks sentences.Limits (with_update (updates.PushNew (elems.Field 0 1)) None class_B)
  pub count_in_two_loops : Breaks sentences.Limits (with_update updates.Tick (Some (long 0)) class_B)
  pub sum_in_two_loops : Breaks sentences.Limits (with_update (updates.Plus (elems.Field 0 3)) (Some (long 0)) class_B)

pub record SentencesAreBroken : Type 0 where
  pub size : SizeIsBroken
  pub names : NamesAreBroken
  pub chain : ChainIsBroken
  pub base : BaseIsBroken
  pub loops : LoopsAreBroken
  pub flags : FlagsAreBroken
  pub operands : OperandsAreBroken
  pub reading : ReadingIsBroken
  pub start : StartIsBroken
  pub limits : LimitsAreBroken
  pub conditions : Breaks sentences.Conditions (with_guards (Some (conjunction 10) ∷ []) two_conjuncts)

pub record WorkedAreValid : Type 0 where
  pub selected : broken class_A ≡ None
  pub both : broken two_conjuncts ≡ None
  pub joined : broken class_B ≡ None
  pub nested : broken three_loops ≡ None
  pub greatest : broken class_C ≡ None
  pub sum : broken class_D ≡ None
  pub flagged : broken class_E ≡ None
  pub guarded_flag : broken flag_under_a_guard ≡ None
  pub known : broken class_F ≡ None
  pub first_by_name : broken (class_H (2 ^ 63 - 1) true) ≡ None
  pub counted : broken class_J ≡ None
  pub opposite : broken class_V ≡ None
  pub different : broken name_set ≡ None
  pub many_ways : broken (with_guards (Some (conjunction 9) ∷ []) two_conjuncts) ≡ None

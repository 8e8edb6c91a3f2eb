-- What the checker computes of the worked fragments and of those that break a sentence.
use Rattle.std.proofs.Common.{refl}
use Rattle.kernel_lang.specs.Broken.{SizeIsBroken, NamesAreBroken, ChainIsBroken, BaseIsBroken, LoopsAreBroken, FlagsAreBroken, OperandsAreBroken, ReadingIsBroken, StartIsBroken, LimitsAreBroken, SentencesAreBroken, WorkedAreValid}
use Rattle.kernel_lang.specs.Validity.{broken, parts_broken, accumulator_broken, is_small, atoms_are_there, tests_have_fields, flags_are_flags, limits_are_valid, chain_is_valid, accumulator_is_there, base_is_valid, reads_its_chain, flag_is_quiet, reads_flags_in_place, starts_rightly, suits_the_lists, conditions_are_few}

size_broken : SizeIsBroken
unfolding broken parts_broken accumulator_broken is_small atoms_are_there tests_have_fields flags_are_flags limits_are_valid chain_is_valid accumulator_is_there base_is_valid reads_its_chain flag_is_quiet reads_flags_in_place starts_rightly suits_the_lists conditions_are_few
size_broken = record { loops = refl; accumulators = refl; atoms = refl; entries = refl; formulas = refl }

names_broken : NamesAreBroken
unfolding broken parts_broken accumulator_broken is_small atoms_are_there tests_have_fields flags_are_flags limits_are_valid chain_is_valid accumulator_is_there base_is_valid reads_its_chain flag_is_quiet reads_flags_in_place starts_rightly suits_the_lists conditions_are_few
names_broken = record { atom_of_a_guard = refl; atom_of_a_pool = refl; loop_of_a_chain = refl; loop_of_an_element = refl; loop_of_an_atom = refl; entry = refl; known = refl; flag = refl }

chain_broken : ChainIsBroken
unfolding broken parts_broken accumulator_broken is_small atoms_are_there tests_have_fields flags_are_flags limits_are_valid chain_is_valid accumulator_is_there base_is_valid reads_its_chain flag_is_quiet reads_flags_in_place starts_rightly suits_the_lists conditions_are_few
chain_broken = record { not_rising = refl; repeated = refl; of_four = refl; base_past_it = refl; no_guard = refl; guard_too_many = refl }

base_broken : BaseIsBroken
unfolding broken parts_broken accumulator_broken is_small atoms_are_there tests_have_fields flags_are_flags limits_are_valid chain_is_valid accumulator_is_there base_is_valid reads_its_chain flag_is_quiet reads_flags_in_place starts_rightly suits_the_lists conditions_are_few
base_broken = record { inside = refl; opposite = refl }

loops_broken : LoopsAreBroken
unfolding broken parts_broken accumulator_broken is_small atoms_are_there tests_have_fields flags_are_flags limits_are_valid chain_is_valid accumulator_is_there base_is_valid reads_its_chain flag_is_quiet reads_flags_in_place starts_rightly suits_the_lists conditions_are_few
loops_broken = record { guard_of_the_outer_loop = refl; pool = refl; element = refl }

flags_broken : FlagsAreBroken
unfolding broken parts_broken accumulator_broken is_small atoms_are_there tests_have_fields flags_are_flags limits_are_valid chain_is_valid accumulator_is_there base_is_valid reads_its_chain flag_is_quiet reads_flags_in_place starts_rightly suits_the_lists conditions_are_few
flags_broken = record { at_other_loops = refl; no_flag = refl; outside_all_loops = refl; that_reads_a_flag = refl; with_a_flag_in_its_pool = refl }

operands_broken : OperandsAreBroken
unfolding broken parts_broken accumulator_broken is_small atoms_are_there tests_have_fields flags_are_flags limits_are_valid chain_is_valid accumulator_is_there base_is_valid reads_its_chain flag_is_quiet reads_flags_in_place starts_rightly suits_the_lists conditions_are_few
operands_broken = record { no_field = refl; truth = refl; member = refl }

reading_broken : ReadingIsBroken
unfolding broken parts_broken accumulator_broken is_small atoms_are_there tests_have_fields flags_are_flags limits_are_valid chain_is_valid accumulator_is_there base_is_valid reads_its_chain flag_is_quiet reads_flags_in_place starts_rightly suits_the_lists conditions_are_few
reading_broken = record { inside = refl; guard_before = refl; without_its_guard = refl; before_its_guard = refl; in_an_either = refl }

start_broken : StartIsBroken
unfolding broken parts_broken accumulator_broken is_small atoms_are_there tests_have_fields flags_are_flags limits_are_valid chain_is_valid accumulator_is_there base_is_valid reads_its_chain flag_is_quiet reads_flags_in_place starts_rightly suits_the_lists conditions_are_few
start_broken = record { count = refl; no_count = refl; sum = refl; best = refl; flag = refl; list = refl; set_of_rows = refl; sum_of_rows = refl; best_of_rows = refl }

limits_broken : LimitsAreBroken
unfolding broken parts_broken accumulator_broken is_small atoms_are_there tests_have_fields flags_are_flags limits_are_valid chain_is_valid accumulator_is_there base_is_valid reads_its_chain flag_is_quiet reads_flags_in_place starts_rightly suits_the_lists conditions_are_few
limits_broken = record { of_64_bits = refl; of_two_loops = refl; guard = refl; pool = refl; count = refl; set_of_a_sorted_list = refl; set_in_two_loops = refl; count_in_two_loops = refl; sum_in_two_loops = refl }

pub sentences : SentencesAreBroken
unfolding broken parts_broken accumulator_broken is_small atoms_are_there tests_have_fields flags_are_flags limits_are_valid chain_is_valid accumulator_is_there base_is_valid reads_its_chain flag_is_quiet reads_flags_in_place starts_rightly suits_the_lists conditions_are_few
sentences = record { size = size_broken; names = names_broken; chain = chain_broken; base = base_broken; loops = loops_broken; flags = flags_broken; operands = operands_broken; reading = reading_broken; start = start_broken; limits = limits_broken; conditions = refl }

pub worked : WorkedAreValid
unfolding broken parts_broken accumulator_broken is_small atoms_are_there tests_have_fields flags_are_flags limits_are_valid chain_is_valid accumulator_is_there base_is_valid reads_its_chain flag_is_quiet reads_flags_in_place starts_rightly suits_the_lists conditions_are_few
worked = record { selected = refl; both = refl; joined = refl; nested = refl; greatest = refl; sum = refl; flagged = refl; guarded_flag = refl; known = refl; first_by_name = refl; counted = refl; opposite = refl; different = refl; many_ways = refl }

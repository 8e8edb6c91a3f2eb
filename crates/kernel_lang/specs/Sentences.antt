-- The sentences that a valid fragment meets, by name.
use Rattle.std.specs.Prelude.{◌≡◌, true}
use Rattle.std.specs.List.{AllByRecursion}
use Rattle.kernel_lang.specs.Plain.{Accumulator, Fragment}
use Rattle.kernel_lang.specs.Validity.{is_small, atoms_are_there, tests_have_fields, flags_are_flags, limits_are_valid, chain_is_valid, accumulator_is_there, base_is_valid, reads_its_chain, flag_is_quiet, reads_flags_in_place, starts_rightly, suits_the_lists, conditions_are_few}

pub record AccumulatorIsValid (f : Fragment) (a : Accumulator) : Type 0 where
  pub chain : chain_is_valid a ≡ true
  pub names : accumulator_is_there f a ≡ true
  pub base : base_is_valid a ≡ true
  pub loops : reads_its_chain f.atoms a ≡ true
  pub quiet : flag_is_quiet f.atoms a ≡ true
  pub reading : reads_flags_in_place f a ≡ true
  pub start : starts_rightly a ≡ true
  pub lists : suits_the_lists f a ≡ true

pub record IsValid (f : Fragment) : Type 0 where
  pub size : is_small f ≡ true
  pub names : atoms_are_there f ≡ true
  pub operands : tests_have_fields f ≡ true
  pub flags : flags_are_flags f ≡ true
  pub limits : limits_are_valid f ≡ true
  pub accs : AllByRecursion (AccumulatorIsValid f) f.accs
  pub conditions : conditions_are_few f ≡ true

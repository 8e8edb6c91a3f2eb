-- The worked queries, computed.
use Rattle.std.proofs.Common.{[], ◌∷◌, refl}
use Rattle.std.specs.Fmt.{digits}
use Rattle.std.specs.Str.{is_utf8, chars}
use Rattle.std.proofs.lemmas.Str.{IsUtf8-from_is_utf8}
use lib.Utf8.{encode}
use Rattle.sql_parts.specs.Worked.{WorkedLists, WorkedFlags, WorkedNumbers, WorkedParameters, WorkedTexts, WorkedQueries}

lists : WorkedLists
unfolding digits
lists =
    record {
      selected = record { text_is = refl; entries_are = refl };
      others = record { text_is = refl; entries_are = refl };
      all = record { text_is = refl; entries_are = refl };
      joined = record { text_is = refl; entries_are = refl };
      three = record { text_is = refl; entries_are = refl };
      two = record { text_is = refl; entries_are = refl };
      two_opposites = record { text_is = refl; entries_are = refl };
      sorted = record { text_is = refl; entries_are = refl };
      sorted_down = record { text_is = refl; entries_are = refl };
      sorted_none = record { text_is = refl; entries_are = refl };
      first = record { text_is = refl; entries_are = refl };
      first_none = record { text_is = refl; entries_are = refl };
      first_nine = record { text_is = refl; entries_are = refl };
      set = record { text_is = refl; entries_are = refl };
      quotes = record { text_is = refl; entries_are = refl };
      tests = record { text_is = refl; entries_are = refl };
      opposite_tests = record { text_is = refl; entries_are = refl };
      either_under_both = record { text_is = refl; entries_are = refl };
      both_under_either = record { text_is = refl; entries_are = refl };
      both = record { text_is = refl; entries_are = refl };
    }

flags : WorkedFlags
unfolding digits
flags =
    record {
      flagged = record { text_is = refl; entries_are = refl };
      not_flagged = record { text_is = refl; entries_are = refl };
      guarded = record { text_is = refl; entries_are = refl };
      in_its_nest = record { text_is = refl; entries_are = refl };
    }

numbers : WorkedNumbers
unfolding digits
numbers =
    record {
      greatest = record { text_is = refl; entries_are = refl };
      smallest = record { text_is = refl; entries_are = refl };
      sum = record { text_is = refl; entries_are = refl };
      count = record { text_is = refl; entries_are = refl };
      opposite = record { text_is = refl; entries_are = refl };
    }

parameters : WorkedParameters
unfolding digits
parameters =
    record {
      known = record { text_is = refl; entries_are = refl };
      not_known = record { text_is = refl; entries_are = refl };
      known_entry = record { text_is = refl; entries_are = refl };
      twice = record { text_is = refl; entries_are = refl };
      second_first = record { text_is = refl; entries_are = refl };
    }

texts : WorkedTexts
unfolding is_utf8 chars encode
texts =
    record {
      quotes =
          record {
            own = ((tt, IsUtf8-from_is_utf8 (79 ∷ 39 ∷ 78 ∷ 34 ∷ 92 ∷ 195 ∷ 169 ∷ []) refl), tt);
            of_known = ((tt, IsUtf8-from_is_utf8 (195 ∷ 169 ∷ []) refl), tt);
          };
    }

pub worked : WorkedQueries
worked = record { lists = lists; flags = flags; numbers = numbers; parameters = parameters; texts = texts }

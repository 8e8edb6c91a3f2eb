-- What was searched in the tries of a program's loops: the fragment of each loop of the kernel form, with how many candidates come before the
-- answer.
use Rattle.std.specs.Prelude.{ℕ, Bool, true, false, List, [], ◌∷◌, ◌++◌, map}
use Rattle.std.specs.List.{flat_map}
use Rattle.std.specs.Option.{option_map}
use Rattle.std.specs.declared.option.Option.{Option}
use Rattle.std.specs.declared.option.Option.TheVariants.{Some, None}
use Rattle.kernel_lang.specs.Plain.{Fragment}
use Rattle.kernel_lang.specs.Whole.{fragment_of}
use Rattle.query_search.specs.Verdicts.{before}
use Rattle.rewrite_core.specs.declared.searches.Search.{Search}
use Rattle.verdicts.specs.declared.verdict.Said.{Said}
use Rattle.verdicts.specs.declared.verdict.Said.TheVariants as says
use Rattle.rewrite_core.specs.Trying.{Answer, Outside, Searched, Tried}

pub record PlainSearch : Type 0 where
  pub fragment : Fragment
  pub before : ℕ

abbrev pub plain_search : Search → PlainSearch
plain_search s = record { fragment = fragment_of s.frag.value; before = s.before }

abbrev pub search_by : Answer → List PlainSearch
search_by (Searched f v) = record { fragment = f; before = before v } ∷ []
search_by (Outside b) = []

abbrev pub searches_of : List Tried → List PlainSearch
searches_of ts = flat_map (λ (t : Tried). search_by t.answer) ts

-- ---- As code keeps it

-- how many candidates come before what is said
abbrev pub before_said : Said → ℕ
before_said (says.Found k) = k
before_said (says.NoneOf n) = n
before_said (says.Budget b n) = b
before_said (says.Outside rule at) = 0

-- what was searched, where it is kept
abbrev pub kept_searches : Option (List Search) → Option (List PlainSearch)
kept_searches o = option_map (λ (ss : List Search). map plain_search ss) o

-- with what was searched behind it
abbrev pub and_searched : Option (List PlainSearch) → List PlainSearch → Option (List PlainSearch)
and_searched None more = None
and_searched (Some ss) more = Some (ss ++ more)

-- nothing was searched; it is kept or it isn't
abbrev pub none_searched : Bool → Option (List PlainSearch)
none_searched true = Some []
none_searched false = None

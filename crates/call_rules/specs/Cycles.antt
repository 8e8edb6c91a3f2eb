-- Ways from call to call, over what is noted of the calls of each method, and ranks that tell of none.
use Rattle.std.specs.Prelude.{◌≡◌, ℕ, suc, List, [], ◌∷◌, Bool, true, false, not, ◌&&◌, nat_eq, nat_lt, slice_get}
use Rattle.std.specs.List.{list_all, list_any}
use Rattle.std.specs.declared.option.Option.{Option}
use Rattle.std.specs.declared.option.Option.TheVariants.{Some, None}
use Rattle.call_rules.specs.declared.notes.Noted.{Noted}

-- a method calls another, by their numbers
pub record Calls (calls : List (List Noted)) (i j : ℕ) : Type 0 where
  pub list : List Noted
  pub there : slice_get calls i ≡ Some list
  pub number : ℕ
  pub note : Noted
  pub noted : slice_get list number ≡ Some note
  pub callee : note.callee ≡ Some j

pub data Leads (calls : List (List Noted)) : ℕ → ℕ → Type 0 where
  directly : (i j : ℕ) → Calls calls i j → Leads calls i j
  through : (i j k : ℕ) → Calls calls i j → Leads calls j k → Leads calls i k

-- ---- Ranks

abbrev pub or_zero : Option ℕ → ℕ
or_zero (Some n) = n
or_zero None = 0

abbrev pub rank_of : List ℕ → ℕ → ℕ
rank_of ranks i = or_zero (slice_get ranks i)

abbrev pub falls_to : List ℕ → ℕ → Option ℕ → Bool
falls_to ranks rank (Some j) = nat_lt (rank_of ranks j) rank
falls_to ranks rank None = true

abbrev pub sinks_to : List ℕ → ℕ → Option ℕ → Bool
sinks_to ranks rank (Some j) = not (nat_lt rank (rank_of ranks j))
sinks_to ranks rank None = true

-- the called method has a smaller rank, or no greater one
abbrev pub falls : List ℕ → ℕ → Noted → Bool
falls ranks rank c = falls_to ranks rank c.callee

abbrev pub sinks : List ℕ → ℕ → Noted → Bool
sinks ranks rank c = sinks_to ranks rank c.callee

abbrev pub all_sink : List ℕ → ℕ → List (List Noted) → Bool
all_sink ranks i [] = true
all_sink ranks i (l ∷ ls) = list_all (sinks ranks (rank_of ranks i)) l && all_sink ranks (suc i) ls

-- the method may reach itself: some call of it doesn't fall
abbrev pub may_return : List ℕ → ℕ → List Noted → Bool
may_return ranks i l = not (list_all (falls ranks (rank_of ranks i)) l)

-- ---- A way round

abbrev pub is_number : ℕ → Option ℕ → Bool
is_number j (Some k) = nat_eq k j
is_number j None = false

abbrev pub calls_it : ℕ → Noted → Bool
calls_it j c = is_number j c.callee

abbrev pub some_call : ℕ → Option (List Noted) → Bool
some_call j (Some l) = list_any (calls_it j) l
some_call j None = false

abbrev pub is_edge : List (List Noted) → ℕ → ℕ → Bool
is_edge calls i j = some_call j (slice_get calls i)

abbrev pub leads_round : List (List Noted) → ℕ → List ℕ → ℕ → Bool
leads_round calls i [] to = is_edge calls i to
leads_round calls i (j ∷ js) to = is_edge calls i j && leads_round calls j js to

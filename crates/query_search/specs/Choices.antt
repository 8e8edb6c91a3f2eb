-- Choices of formulas by numbers, and what is remembered of them.
use Rattle.std.specs.Prelude.{if◌then◌else◌, ◌≡◌, ℕ, suc, ◌+◌, ◌*◌, ◌/◌, ◌%◌, List, [], ◌∷◌, ◌++◌, slice_get, nat_eq}
use Rattle.std.specs.List.{list_any}
use Rattle.std.specs.declared.option.Option.{Option}
use Rattle.std.specs.declared.option.Option.TheVariants.{Some, None}
use Rattle.tor_terms.specs.Plain.{Form}
use Rattle.tor_axioms.specs.Accepts.{Claim}
use Rattle.kernel_lang.specs.Plain.{Accumulator, Fragment}
use Rattle.kernel_lang.specs.Pools.{Member}
use Rattle.vc_gen.specs.Conditions.{own_conditions}
use Rattle.query_search.specs.declared.choices.Decided.{Decided}
use Rattle.query_search.specs.declared.choices.Decided.TheVariants.{Fails}
use Rattle.query_search.specs.Verdicts.{all_derived}

-- a candidate's choice among the formulas of a pool, the first of which has the number n: it is the lowest binary digit
abbrev pub digits : List ℕ → ℕ → List Form → ℕ
digits c n [] = 0
digits c n (f ∷ fs) = (if list_any (nat_eq n) c then 1 else 0) + 2 * digits c (suc n) fs

-- the formulas of a pool that a number chooses
abbrev pub chosen_by : ℕ → List Form → List Form
chosen_by n [] = []
chosen_by n (f ∷ fs) = if nat_eq (n % 2) 1 then f ∷ chosen_by (n / 2) fs else chosen_by (n / 2) fs

-- the accumulator with its choice that has a place: of eight places one after the other each is of another accumulator
abbrev pub member_of : ℕ → Option Accumulator → Option Member
member_of n None = None
member_of n (Some a) = Some (a, chosen_by n a.pool)

abbrev pub member_at : Fragment → ℕ → Option Member
member_at f place = member_of (place / 8) (slice_get f.accs (place % 8))

-- the conditions of an accumulator with its choice, where there is one
abbrev pub own_at : Fragment → Option Member → List Claim
own_at f None = []
own_at f (Some m) = own_conditions f.atoms m

-- of those with the choices of these places, one after the other
abbrev pub conditions_at : Fragment → List ℕ → List Claim
conditions_at f [] = []
conditions_at f (place ∷ places) = own_at f (member_at f place) ++ conditions_at f places

-- the own conditions of an accumulator with this choice have no derivations
abbrev pub IsFailing : Fragment → Option Member → Type 0
IsFailing f None = Unit {0}
IsFailing f (Some m) = all_derived (own_conditions f.atoms m) ≡ None

-- what is remembered to fail does
abbrev pub FailAsKnown : Fragment → List Decided → Type 0
FailAsKnown f known = (place : ℕ) → slice_get known place ≡ Some Fails → IsFailing f (member_at f place)

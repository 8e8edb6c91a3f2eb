-- Accumulators with what a candidate chooses for them.
use Rattle.std.specs.Prelude.{ℕ, Bool, true, false, ◌&&◌, List, map, slice_get}
use Rattle.std.specs.Borrow.{Bor}
use Rattle.std.specs.List.{list_all}
use Rattle.std.specs.declared.option.Option.{Option}
use Rattle.std.specs.declared.option.Option.TheVariants.{Some, None}
use Rattle.tor_terms.specs.declared.term.Atom.{Atom}
use Rattle.tor_terms.specs.declared.term.Atom.TheVariants as atoms
use Rattle.tor_terms.specs.declared.term.Formula.{Formula}
use Rattle.tor_terms.specs.Plain.{Form, form_of}
use Rattle.kernel_lang.specs.Plain.{accumulator}
use Rattle.kernel_lang.specs.Pools as pools
use Rattle.kernel_lang.specs.Validity.{chain_is_valid, is_flag, starts_rightly}
use Rattle.kernel_interp.specs.declared.member.Member.{Member}

abbrev pub forms_lent : List (Bor Formula) → List Form
forms_lent fs = map (λ (f : Bor Formula). form_of f.now) fs

-- an accumulator with its choice
abbrev pub member_seen : Member → pools.Member
member_seen m = (accumulator m.acc.now, forms_lent m.chosen.items)

abbrev pub members_seen : List Member → List pools.Member
members_seen ms = map member_seen ms

abbrev pub flag_is_sound : List ℕ → Option pools.Member → Bool
flag_is_sound loops None = false
flag_is_sound loops (Some m) = is_flag loops (Some m.0)

abbrev pub names_a_member : List pools.Member → Atom → Bool
names_a_member ms (atoms.Flag k loops) = flag_is_sound loops (slice_get ms k)
names_a_member ms _ = true

-- the flags that atoms name are among these accumulators, which have valid chains and starts
abbrev pub are_sound : List Atom → List pools.Member → Bool
are_sound atoms ms = list_all (names_a_member ms) atoms && list_all (λ (m : pools.Member). chain_is_valid m.0 && starts_rightly m.0) ms

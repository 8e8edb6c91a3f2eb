-- What loops keep that read one thing after another, no more than there are items.
use Rattle.std.proofs.Common.{◌≡◌, ℕ, suc, ◌+◌, ◌-◌, ◌<◌, ◌≤◌, true, false, List, [], ◌∷◌, ◌++◌, length, take, drop, get_or, Result, Ok, Err, refl, sym, ap, ◌∙◌, arith, length-drop}
use Rattle.std.proofs.lemmas.List.{map-append, take_all}
use Rattle.std.specs.Prelude.{codes}
use Rattle.qbs_base.specs.declared.memory.Fail.{Fail}
use Rattle.qbs_base.specs.declared.memory.Fail.TheVariants as fails
use Rattle.qbs_base.specs.declared.columns.Column.{Column}
use Rattle.qbs_base.specs.declared.columns.Table.{Table}
use Rattle.qbs_base.specs.Memory.{FailsBy}
use Rattle.view_items.specs.declared.item.Item.{Item}
use Rattle.view_map.specs.declared.fault.MapFault.{MapFault}
use Rattle.view_map.specs.declared.draft.Draft.{Draft}
use Rattle.view_map.specs.declared.model.Member.{Member}
use Rattle.view_map.specs.Reading.{Read, begins, sign_at, unexpected}
use Rattle.view_map.specs.Constants.{names_behind, next_name_at}
use Rattle.view_map.specs.Tables.{members_at, next_member_at, member_names}
use Rattle.view_map.specs.Maps.{entries_at, entry_at}

pub one_less : (count : ℕ) → count - 0 ≡ count
one_less count = omega arith

-- after i of count turns, before these items
module _ (names : List (List ℕ)) (count i end : ℕ) (is : List Item) (total : Read (List (List ℕ))) where
  pub names_go_on : (name : List ℕ) (us : List Item) → i < count → begins (codes ".") is ≡ true → next_name_at end is ≡ Ok (name, us)
      → names_behind names (count - i) end is ≡ total → names_behind (names ++ name ∷ []) (count - (i + 1)) end us ≡ total
  unfolding names_behind
  names_go_on name us lt dot read so_far =
      let k : count - i ≡ suc (count - (i + 1)) = omega arith in
      let one : names_behind names (count - i) end is ≡ names_behind (names ++ name ∷ []) (count - (i + 1)) end us = rw (k, dot, read) refl in
      sym one ∙ so_far

  pub names_fail : (e : Fail MapFault) → i < count → begins (codes ".") is ≡ true → FailsBy e (next_name_at end is)
      → names_behind names (count - i) end is ≡ total → FailsBy e total
  unfolding names_behind
  names_fail fails.NoMemory lt dot read so_far = tt
  names_fail (fails.Fault f) lt dot read so_far =
      let k : count - i ≡ suc (count - (i + 1)) = omega arith in
      let one : names_behind names (count - i) end is ≡ Err f = rw (k, dot, read) refl in
      sym so_far ∙ one

  pub names_stop : i < count → begins (codes ".") is ≡ false → names_behind names (count - i) end is ≡ total → total ≡ Ok (names, is)
  unfolding names_behind
  names_stop lt dot so_far =
      let k : count - i ≡ suc (count - (i + 1)) = omega arith in
      let one : names_behind names (count - i) end is ≡ Ok (names, is) = rw (k, dot) refl in
      sym so_far ∙ one

  pub names_run_out : count ≤ i → names_behind names (count - i) end is ≡ total → total ≡ Ok (names, is)
  unfolding names_behind
  names_run_out le so_far =
      let k : count - i ≡ 0 = omega arith in
      let one : names_behind names (count - i) end is ≡ Ok (names, is) = rw k refl in
      sym so_far ∙ one

module _ (columns : List Column) (members : List Member) (count i end : ℕ) (is : List Item) (total : Read (List Member)) where
  pub members_go_on : (names : List (List ℕ)) (m : Member) (us : List Item) → i < count → begins (codes "}") is ≡ false → names ≡ member_names members
      → next_member_at columns names end is ≡ Ok (m, us)
      → members_at columns members (count - i) end is ≡ total → members_at columns (members ++ m ∷ []) (count - (i + 1)) end us ≡ total
  unfolding members_at
  members_go_on names m us lt brace same read so_far =
      let k : count - i ≡ suc (count - (i + 1)) = omega arith in
      let next : next_member_at columns (member_names members) end is ≡ Ok (m, us) = ap (λ (ns : List (List ℕ)). next_member_at columns ns end is) (sym same) ∙ read in
      let one : members_at columns members (count - i) end is ≡ members_at columns (members ++ m ∷ []) (count - (i + 1)) end us = rw (k, brace, next) refl in
      sym one ∙ so_far

  pub members_fail : (names : List (List ℕ)) (e : Fail MapFault) → i < count → begins (codes "}") is ≡ false → names ≡ member_names members
      → FailsBy e (next_member_at columns names end is) → members_at columns members (count - i) end is ≡ total → FailsBy e total
  unfolding members_at
  members_fail names fails.NoMemory lt brace same read so_far = tt
  members_fail names (fails.Fault f) lt brace same read so_far =
      let k : count - i ≡ suc (count - (i + 1)) = omega arith in
      let next : next_member_at columns (member_names members) end is ≡ Err f = ap (λ (ns : List (List ℕ)). next_member_at columns ns end is) (sym same) ∙ read in
      let one : members_at columns members (count - i) end is ≡ Err f = rw (k, brace, next) refl in
      sym so_far ∙ one

  pub members_end : (us : List Item) → i < count → begins (codes "}") is ≡ true → sign_at (codes "}") end is ≡ Ok us
      → members_at columns members (count - i) end is ≡ total → total ≡ Ok (members, us)
  unfolding members_at
  members_end us lt brace read so_far =
      let k : count - i ≡ suc (count - (i + 1)) = omega arith in
      let one : members_at columns members (count - i) end is ≡ Ok (members, us) = rw (k, brace, read) refl in
      sym so_far ∙ one

  pub members_end_fail : (e : Fail MapFault) → i < count → begins (codes "}") is ≡ true → FailsBy e (sign_at (codes "}") end is)
      → members_at columns members (count - i) end is ≡ total → FailsBy e total
  unfolding members_at
  members_end_fail fails.NoMemory lt brace read so_far = tt
  members_end_fail (fails.Fault f) lt brace read so_far =
      let k : count - i ≡ suc (count - (i + 1)) = omega arith in
      let one : members_at columns members (count - i) end is ≡ Err f = rw (k, brace, read) refl in
      sym so_far ∙ one

  pub members_run_out : count ≤ i → members_at columns members (count - i) end is ≡ total → total ≡ Err (unexpected end is)
  unfolding members_at
  members_run_out le so_far =
      let k : count - i ≡ 0 = omega arith in
      let one : members_at columns members (count - i) end is ≡ Err (unexpected end is) = rw k refl in
      sym so_far ∙ one

pub names_more : (names all : List (List ℕ)) (members list : List Member) (m : Member) → names ≡ member_names members → all ≡ names ++ m.name ∷ [] → list ≡ members ++ m ∷ []
    → all ≡ member_names list
names_more names all members list m same is_all is_list =
    is_all ∙ ap (λ (ns : List (List ℕ)). ns ++ m.name ∷ []) same ∙ sym (map-append (λ (n : Member). n.name) members (m ∷ [])) ∙ ap member_names (sym is_list)

module _ (tables : List Table) (d : Draft) (count i end : ℕ) (total : Result Draft MapFault) where
  pub entries_go_on : (item : Item) (is us : List Item) (next : Draft) → i < count → entry_at tables d end item is ≡ Ok (next, us)
      → entries_at tables (count - i) d end (item ∷ is) ≡ total → entries_at tables (count - (i + 1)) next end us ≡ total
  unfolding entries_at
  entries_go_on item is us next lt read so_far =
      let k : count - i ≡ suc (count - (i + 1)) = omega arith in
      let one : entries_at tables (count - i) d end (item ∷ is) ≡ entries_at tables (count - (i + 1)) next end us = rw (k, read) refl in
      sym one ∙ so_far

  pub entries_fail : (e : Fail MapFault) (item : Item) (is : List Item) → i < count → FailsBy e (entry_at tables d end item is)
      → entries_at tables (count - i) d end (item ∷ is) ≡ total → FailsBy e total
  unfolding entries_at
  entries_fail fails.NoMemory item is lt read so_far = tt
  entries_fail (fails.Fault f) item is lt read so_far =
      let k : count - i ≡ suc (count - (i + 1)) = omega arith in
      let one : entries_at tables (count - i) d end (item ∷ is) ≡ Err f = rw (k, read) refl in
      sym so_far ∙ one

  pub entries_stop : (is : List Item) → i < count → is ≡ [] → entries_at tables (count - i) d end is ≡ total → total ≡ Ok d
  unfolding entries_at
  entries_stop is lt none so_far =
      let k : count - i ≡ suc (count - (i + 1)) = omega arith in
      let one : entries_at tables (count - i) d end is ≡ Ok d = rw (k, none) refl in
      sym so_far ∙ one

  pub entries_run_out : (is : List Item) → count ≤ i → entries_at tables (count - i) d end is ≡ total → total ≡ Ok d
  unfolding entries_at
  entries_run_out is le so_far =
      let k : count - i ≡ 0 = omega arith in
      let one : entries_at tables (count - i) d end is ≡ Ok d = rw k refl in
      sym so_far ∙ one

behind_one : (rest : List Item) → take (length rest - 1) (drop 1 rest) ≡ drop 1 rest
behind_one rest = take_all (length rest - 1) (drop 1 rest) (omega (arith, length-drop 1 rest))

pub front : (rest : List Item) (item : Item) → item ≡ get_or rest 0 item → 1 ≤ length rest → item ∷ take (length rest - 1) (drop 1 rest) ≡ rest
front [] item same le = absurd (omega arith)
front (i ∷ is) item same le = ap (λ (us : List Item). item ∷ us) (behind_one (i ∷ is)) ∙ ap (λ (j : Item). j ∷ is) same

pub empty : (rest : List Item) → length rest < 1 → rest ≡ []
empty [] lt = refl
empty (i ∷ is) lt = absurd (omega arith)

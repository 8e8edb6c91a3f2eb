-- One record after the other.
use Rattle.std.proofs.Common.{◌≡◌, ℕ, zero, suc, ◌+◌, ◌≤◌, ◌<◌, Bool, true, false, ◌||◌, cond, eqb, List, [], ◌∷◌, ◌++◌, length, Option, Some, None, refl, sym, ap, ◌∙◌, arith, Bor, inl, inr, ◌⊎◌}
use Rattle.std.specs.Prelude.{unwrap_or}
use Rattle.csv.specs.Machine.{Read, in_field, start_field, start_record, step, ends_at_end, is_end, fields_after, field_after, next_record}
use Rattle.csv.specs.Reading.{ReadRecord, Reached, default_config, reader_state, records_from, records_next, records}
use Rattle.csv.specs.declared.parser.State.{State}
use Rattle.csv.specs.declared.parser.State.TheVariants as st
use Rattle.csv.specs.declared.parser.Action.{Action}
use Rattle.csv.specs.declared.parser.Action.TheVariants as act
use Rattle.csv.proofs.ReadFacts.{rows-more, rows-end}
use Rattle.schema.specs.Csv.{ByteReader, source, IsReading, records_left, records_in}

-- ---- a record leaves less

-- one where the end of the text would end a record here
abbrev open_record : State → ℕ
open_record s = cond (ends_at_end s) 1 0

-- behind the end of a record none is open
abbrev Closes : State × Action → Type 0
Closes p = is_end p.1 ≡ true → ends_at_end p.0 ≡ false

closes_if : (b : Bool) (p q : State × Action) → Closes p → Closes q → Closes (cond b p q)
closes_if true p q h k = h
closes_if false p q h k = k

no_end : (s : State) (a : Action) → is_end a ≡ false → Closes (s, a)
no_end s a e end = absurd cc

after_is : (b : Bool) → ends_at_end (cond b st.AfterCr st.StartRecord) ≡ false
after_is true = refl
after_is false = refl

in_field_closes : (c : ℕ) → Closes (in_field default_config c)
in_field_closes c =
    closes_if (eqb c 44) (st.StartField, act.EndField) (cond (eqb c 13 || eqb c 10) (cond (eqb c 13) st.AfterCr st.StartRecord, act.EndRecord) (st.InField, act.Copy)) (no_end st.StartField act.EndField refl)
    (closes_if (eqb c 13 || eqb c 10) (cond (eqb c 13) st.AfterCr st.StartRecord, act.EndRecord) (st.InField, act.Copy) (λ e. after_is (eqb c 13)) (no_end st.InField act.Copy refl))

start_field_closes : (c : ℕ) → Closes (start_field default_config c)
start_field_closes c = closes_if (eqb c 34) (st.InQuoted, act.Skip) (in_field default_config c) (no_end st.InQuoted act.Skip refl) (in_field_closes c)

start_record_closes : (c : ℕ) → Closes (start_record default_config c)
start_record_closes c = closes_if (eqb c 13 || eqb c 10) (st.StartRecord, act.Skip) (start_field default_config c) (no_end st.StartRecord act.Skip refl) (start_field_closes c)

step_closes : (s : State) (c : ℕ) → Closes (step default_config s c)
step_closes st.StartRecord c = start_record_closes c
step_closes st.StartField c = start_field_closes c
step_closes st.InField c = in_field_closes c
step_closes st.InQuoted c = closes_if (eqb c 34) (st.AfterQuote, act.Skip) (st.InQuoted, act.Copy) (no_end st.AfterQuote act.Skip refl) (no_end st.InQuoted act.Copy refl)
step_closes st.InEscape c = no_end st.InQuoted act.Copy refl
step_closes st.AfterQuote c = closes_if (eqb c 34) (st.InQuoted, act.Copy) (in_field default_config c) (no_end st.InQuoted act.Copy refl) (in_field_closes c)
step_closes st.InComment c = closes_if (eqb c 10) (st.StartRecord, act.Skip) (st.InComment, act.Skip) (no_end st.StartRecord act.Skip refl) (no_end st.InComment act.Skip refl)
step_closes st.AfterCr c = closes_if (eqb c 10) (st.StartRecord, act.Skip) (start_record default_config c) (no_end st.StartRecord act.Skip refl) (start_record_closes c)

abbrev some_read : Read → Option Read
some_read p = Some p

open_bound : (b : Bool) → cond b 1 0 ≤ 1
open_bound true = omega arith
open_bound false = omega arith

ended_read : (s : State) (b : Bool) (o q : Read) → ends_at_end s ≡ b → cond b (some_read o) None ≡ Some q → o.1 ≡ st.StartRecord → o.2 ≡ [] → length q.2 + open_record q.1 < 0 + open_record s
ended_read s true o q is e state rest =
    let same : o ≡ q = cc in
    let one : open_record s ≡ 1 = rw is refl in
    let closed : open_record q.1 ≡ 0 = ap (λ (p : Read). open_record p.1) (sym same) ∙ ap open_record state in
    let none : length q.2 ≡ 0 = ap (λ (p : Read). length p.2) (sym same) ∙ ap length rest in
    omega arith
ended_read s false o q is e state rest = absurd cc

chosen : (b : Bool) (x y : Option Read) (q : Read) → cond b x y ≡ Some q → ((b ≡ true) × (x ≡ Some q)) ⊎ ((b ≡ false) × (y ≡ Some q))
chosen true x y q e = inl (refl, e)
chosen false x y q e = inr (refl, e)

less_left : (s : State) (fields : List (List ℕ)) (field bytes : List ℕ) (q : Read) → next_record default_config s fields field bytes ≡ Some q → length q.2 + open_record q.1 < length bytes + open_record s
unfolding next_record
less_left s fields field [] q e = ended_read s (ends_at_end s) (fields ++ (field ∷ []), st.StartRecord, []) q refl e refl refl
less_left s fields field (c ∷ rest) q e =
    elim (chosen (is_end (step default_config s c).1) (Some (fields_after (step default_config s c).1 fields field, (step default_config s c).0, rest)) (next_record default_config (step default_config s c).0 (fields_after (step default_config s c).1 fields field) (field_after (step default_config s c).1 c field) rest) q e) [
      | inl h ↦
          let h1 : some_read (fields_after (step default_config s c).1 fields field, (step default_config s c).0, rest) ≡ Some q = h.1 in
          let same : (fields_after (step default_config s c).1 fields field, (step default_config s c).0, rest) ≡ q = some_is (fields_after (step default_config s c).1 fields field, (step default_config s c).0, rest) q h1 in
          let closed : open_record q.1 ≡ 0 = ap (λ (p : Read). open_record p.1) (sym same) ∙ ap (λ (b : Bool). cond b 1 0) (step_closes s c h.0) in
          let left : length q.2 ≡ length rest = ap (λ (p : Read). length p.2) (sym same) in
          omega arith
      | inr h ↦
          let others = less_left (step default_config s c).0 (fields_after (step default_config s c).1 fields field) (field_after (step default_config s c).1 c field) rest q h.1 in
          omega (arith, others, open_bound (ends_at_end (step default_config s c).0))
    ]
  where
    some_is : (p q : Read) → some_read p ≡ Some q → p ≡ q
    some_is p q e = cc

-- ---- it doesn't matter how many records may be read

next_same : (o p : Option Read) (f g : State → List ℕ → List (List (List ℕ))) → o ≡ p → ((q : Read) → o ≡ Some q → f q.1 q.2 ≡ g q.1 q.2) → records_next f o ≡ records_next g p
next_same None None f g e h = refl
next_same None (Some q) f g e h = absurd cc
next_same (Some q) None f g e h = absurd cc
next_same (Some q) (Some r) f g e h =
    let same : q ≡ r = cc in
    ap (λ (zs : List (List (List ℕ))). q.0 ∷ zs) (h q refl) ∙ ap (λ (s : Read). s.0 ∷ g s.1 s.2) same

enough : (n m : ℕ) (s : State) (bytes : List ℕ) → length bytes + open_record s < n → length bytes + open_record s < m → records_from default_config n s bytes ≡ records_from default_config m s bytes
unfolding records_from
enough zero m s bytes lt lt' = absurd (omega arith)
enough (suc n) zero s bytes lt lt' = absurd (omega arith)
enough (suc n) (suc m) s bytes lt lt' =
    next_same (next_record default_config s [] [] bytes) (next_record default_config s [] [] bytes) (records_from default_config n) (records_from default_config m) refl
    (λ q e. let less = less_left s [] [] bytes q e in enough n m q.1 q.2 (omega arith) (omega arith))

-- all records of a text are those from its start
pub records_all : (text : List ℕ) → records default_config text ≡ records_left st.StartRecord text
records_all text = enough (length text + 1) (suc (suc (length text))) st.StartRecord text (omega arith) (omega arith)

-- ---- one read

pub left_none : (s : State) (bytes : List ℕ) → next_record default_config s [] [] bytes ≡ None → records_left s bytes ≡ []
unfolding records_from
left_none s bytes e = rw e refl

pub left_some : (s : State) (bytes : List ℕ) (q : Read) → next_record default_config s [] [] bytes ≡ Some q → records_left s bytes ≡ q.0 ∷ records_left q.1 q.2
unfolding records_from
left_some s bytes q e =
    let less = less_left s [] [] bytes q e in
    let bound = open_bound (ends_at_end s) in
    rw e (ap (λ (zs : List (List (List ℕ))). q.0 ∷ zs) (enough (suc (length bytes)) (suc (suc (length q.2))) q.1 q.2 (omega (arith, less, bound)) (omega (arith, open_bound (ends_at_end q.1)))))

same_next : (q : Read) (fields : List (List ℕ)) (s : State) (z : List ℕ) → fields ≡ q.0 → q.1 ≡ s → q.2 ≡ z → q.0 ∷ records_left q.1 q.2 ≡ fields ∷ records_left s z
same_next q fields s z f state rest =
    ap (λ (r : List (List ℕ)). r ∷ records_left q.1 q.2) (sym f) ∙ ap (λ (t : State). fields ∷ records_left t q.2) state ∙ ap (λ (ys : List ℕ). fields ∷ records_left s ys) rest

record_found : (old new : ByteReader) (fields : List (List ℕ)) → IsReading old → ReadRecord (λ (s : Bor (List ℕ)). Some s.now) old new true fields → (z : List ℕ) × (source new ≡ Some z) × (records_in old ≡ fields ∷ records_left (reader_state new) z)
unfolding Reached
record_found old new fields is read =
    let more = rows-more (λ (s : Bor (List ℕ)). Some s.now) old new fields default_config old.state is.bytes is.bytes [] is.config is.known (refl, refl) read in
    let p = more.2.0 in
    let left : records_left old.state is.bytes ≡ p.0 ∷ records_left p.1 p.2 = left_some old.state is.bytes p more.2.1 in
    let known : records_in old ≡ records_left old.state is.bytes = ap (λ (o : Option (List ℕ)). records_left old.state (unwrap_or o [])) is.known in
    (more.0, more.1, known ∙ left ∙ same_next p fields (reader_state new) more.0 more.2.2 more.2.3.0 more.2.3.1)

pub found_some : (old new : ByteReader) (fields : List (List ℕ)) → IsReading old → ReadRecord (λ (s : Bor (List ℕ)). Some s.now) old new true fields → records_in old ≡ fields ∷ records_in new
found_some old new fields is read =
    let found = record_found old new fields is read in
    found.2 ∙ ap (λ (o : Option (List ℕ)). fields ∷ records_left (reader_state new) (unwrap_or o [])) (sym found.1)

pub found_none : (old new : ByteReader) (fields : List (List ℕ)) → IsReading old → ReadRecord (λ (s : Bor (List ℕ)). Some s.now) old new false fields → records_in old ≡ []
found_none old new fields is read =
    let none = rows-end (λ (s : Bor (List ℕ)). Some s.now) old new fields default_config is.bytes is.config is.known read in
    ap (λ (o : Option (List ℕ)). records_left old.state (unwrap_or o [])) is.known ∙ left_none old.state is.bytes none

pub goes_on : (old new : ByteReader) (fields : List (List ℕ)) → IsReading old → ReadRecord (λ (s : Bor (List ℕ)). Some s.now) old new true fields → new.first ≡ true → IsReading new
goes_on old new fields is read first =
    let found = record_found old new fields is read in
    record { trim = read.3 ∙ is.trim; ready = inl first; config = read.2 ∙ is.config; bytes = found.0; known = found.1 }

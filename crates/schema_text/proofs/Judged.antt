-- The answer for a text, by the grammar and the rules.
use Rattle.std.proofs.Common.{◌≡◌, ℕ, zero, suc, ◌-◌, ◌≤◌, List, [], ◌∷◌, ◌++◌, length, take, Option, Some, None, Result, Ok, Err, refl, sym, ap, subst, ◌∙◌, arith, inl, inr, ◌⊎◌}
use Rattle.std.proofs.lemmas.List.{append-nil, length-append, length-map, length-drop, take-append-drop}
use Rattle.readers.specs.declared.fault.Fault.{Fault}
use Rattle.readers.specs.declared.fault.Fault.TheVariants.{Unexpected, TooDeep}
use Rattle.readers.specs.Reading.{BeginsOne, IsFirstFault}
use Rattle.qbs_base.specs.declared.span.Span.{Span}
use Rattle.qbs_base.specs.declared.memory.Fail.{Fail}
use Rattle.qbs_base.specs.declared.memory.Fail.TheVariants as fails
use Rattle.qbs_base.specs.declared.columns.Table.{Table}
use Rattle.schema.specs.declared.token.Kind.{Kind}
use Rattle.schema.specs.declared.token.Token.{Token}
use Rattle.schema.specs.declared.names.Where.TheVariants.{Create}
use Rattle.schema.specs.declared.fault.SchemaRule.TheVariants.{BadToken}
use Rattle.schema.specs.declared.fault.SchemaFault.{SchemaFault}
use Rattle.qbs_base.specs.Memory.{Answers, FailsBy}
use Rattle.schema.specs.Tokens.{tokens_of, kinds_of, end_of}
use Rattle.schema.specs.Grammar.{HasSchema}
use Rattle.schema.specs.Rules.{IsSchema, AreNamed}
use Rattle.schema.specs.Reading.{read_of}
use Rattle.schema.specs.Naming.{declared_before, nothing_seen, first_broken}
use Rattle.schema.specs.Schemas.{left_of, last_from, first_span, judged, schema_from, schema_of}
use Rattle.schema.specs.Faults.{IsBadToken, IsBadName, IsRightFault}
use Rattle.schema_text.proofs.Whole.{read_found, read_not_deep, read_again, read_fault, read_within}
use Rattle.schema_text.proofs.Named.{are_named}
use Rattle.schema_text.proofs.Soundness.{sound, unbroken}

-- ---- tables

judged_ok : (o : Option SchemaFault) (read : Result (List Table) SchemaFault) (tables : List Table) → judged o read ≡ Ok tables → (o ≡ None) × (read ≡ Ok tables)
judged_ok None read tables e = (refl, e)
judged_ok (Some f) read tables e = absurd cc

from_ok : (end : Span) (ts : List Token) (read : Result (List Table) Fault) (tables : List Table) → schema_from end ts read ≡ Ok tables → (read ≡ Ok tables) × (first_broken nothing_seen (declared_before 0 Create ts) ≡ None)
from_ok end ts (Ok t) tables e =
    let h = judged_ok (first_broken nothing_seen (declared_before 0 Create ts)) (Ok t) tables e in
    let same : t ≡ tables = let k = h.1 in cc in
    (ap (λ (u : List Table). Ok u) same, h.0)
from_ok end ts (Err f) tables e =
    let h = judged_ok (first_broken nothing_seen (declared_before (left_of f) Create ts)) (Err (record { rule = BadToken; at = first_span end (last_from (left_of f) ts) })) tables e in
    let k = h.1 in
    absurd cc

pub has_schema : (text : List ℕ) (tables : List Table) → schema_of text ≡ Ok tables → HasSchema (kinds_of (tokens_of text)) tables
unfolding schema_of
has_schema text tables e = read_found (kinds_of (tokens_of text)) tables (from_ok (end_of text) (tokens_of text) (read_of (kinds_of (tokens_of text))) tables e).0

pub is_schema : (text : List ℕ) (tables : List Table) → schema_of text ≡ Ok tables → IsSchema tables
unfolding schema_of
is_schema text tables e = sound (tokens_of text) tables (has_schema text tables e) (from_ok (end_of text) (tokens_of text) (read_of (kinds_of (tokens_of text))) tables e).1

pub named : (text : List ℕ) (tables : List Table) → schema_of text ≡ Ok tables → AreNamed tables
named text tables e = are_named text tables (has_schema text tables e)

pub schema_is : (text : List ℕ) (tables : List Table) → HasSchema (kinds_of (tokens_of text)) tables → IsSchema tables → schema_of text ≡ Ok tables
unfolding schema_of
schema_is text tables h s = rw (read_again (kinds_of (tokens_of text)) tables h, unbroken (tokens_of text) tables h s) refl

pub only : (result : Result (List Table) (Fail SchemaFault)) (text : List ℕ) (tables : List Table) → Answers result (schema_of text) → HasSchema (kinds_of (tokens_of text)) tables → IsSchema tables → Answers result (Ok tables)
only (Ok t) text tables e h s = sym (schema_is text tables h s) ∙ e
only (Err (fails.Fault f)) text tables e h s = sym (schema_is text tables h s) ∙ e
only (Err fails.NoMemory) text tables e h s = tt

-- ---- faults

map_take : (n : ℕ) (ts : List Token) → kinds_of (take n ts) ≡ take n (kinds_of ts)
map_take zero ts = refl
map_take (suc n) [] = refl
map_take (suc n) (t ∷ ts) = ap (λ (ks : List Kind). t.kind ∷ ks) (map_take n ts)

take_front : (us vs : List Kind) → take (length us) (us ++ vs) ≡ us
take_front [] vs = refl
take_front (u ∷ us) vs = ap (λ (ws : List Kind). u ∷ ws) (take_front us vs)

-- the tokens before the last n
abbrev before : ℕ → List Token → List Token
before n ts = take (length ts - n) ts

-- the tokens before a fault are those with which some schema begins
front_is : (ts : List Token) (n : ℕ) (front rest : List Kind) → kinds_of ts ≡ front ++ rest → length rest ≡ n → front ≡ kinds_of (before n ts)
front_is ts n front rest parts left =
    let count : length ts - n ≡ length front = omega (arith, ap length parts, length-append front rest, length-map ts (λ t. t.kind), left) in
    sym (map_take (length ts - n) ts ∙ ap (λ (k : ℕ). take k (kinds_of ts)) count ∙ ap (take (length front)) parts ∙ take_front front rest)

-- the last n tokens are n
last_count : (ts : List Token) (n : ℕ) → n ≤ length (kinds_of ts) → length (last_from n ts) ≡ n
last_count ts n h = length-drop (length ts - n) ts ∙ (let some : length ts - (length ts - n) ≡ n = omega (arith, h, length-map ts (λ (t : Token). t.kind)) in some)

begins_before : (ts : List Token) (n : ℕ) → IsFirstFault HasSchema (kinds_of ts) n → BeginsOne HasSchema (kinds_of (before n ts))
begins_before ts n h = subst (BeginsOne HasSchema) (front_is ts n h.front h.rest h.parts h.left) h.begins

judged_err : (o : Option SchemaFault) (fault due : SchemaFault) → judged o (Err due) ≡ Err fault → ((o ≡ None) × (due ≡ fault)) ⊎ (o ≡ Some fault)
judged_err None fault due e = inl (refl, cc)
judged_err (Some f) fault due e = let same : f ≡ fault = cc in inr (ap (λ (g : SchemaFault). Some g) same)

judged_found : (o : Option SchemaFault) (fault : SchemaFault) (t : List Table) → judged o (Ok t) ≡ Err fault → o ≡ Some fault
judged_found None fault t e = absurd cc
judged_found (Some f) fault t e = let same : f ≡ fault = cc in ap (λ (g : SchemaFault). Some g) same

fault_from : (text : List ℕ) (read : Result (List Table) Fault) (fault : SchemaFault) → read_of (kinds_of (tokens_of text)) ≡ read → schema_from (end_of text) (tokens_of text) read ≡ Err fault → IsBadToken text fault ⊎ IsBadName text fault
fault_from text (Ok t) fault is e =
    let first = judged_found (first_broken nothing_seen (declared_before 0 Create (tokens_of text))) fault t e in
    let has = read_found (kinds_of (tokens_of text)) t is in
    inr (record { front = tokens_of text; rest = []; parts = sym (append-nil (tokens_of text)); begins = ([], t, subst (λ (ks : List Kind). HasSchema ks t) (sym (append-nil (kinds_of (tokens_of text)))) has); first = first })
fault_from text (Err (TooDeep n)) fault is e = absurd (read_not_deep (kinds_of (tokens_of text)) n is)
fault_from text (Err (Unexpected n)) fault is e =
    let first = read_fault (kinds_of (tokens_of text)) n is in
    elim (judged_err (first_broken nothing_seen (declared_before n Create (tokens_of text))) fault (record { rule = BadToken; at = first_span (end_of text) (last_from n (tokens_of text)) }) e) [
      | inl h ↦ inl (record { left = n; first = first; unbroken = h.0; rule = sym (ap (λ (f : SchemaFault). f.rule) h.1); place = sym (ap (λ (f : SchemaFault). f.at) h.1) })
      | inr h ↦ inr (record { front = before n (tokens_of text); rest = last_from n (tokens_of text); parts = sym (take-append-drop (length (tokens_of text) - n) (tokens_of text)); begins = begins_before (tokens_of text) n first; first = ap (λ (k : ℕ). first_broken nothing_seen (declared_before k Create (tokens_of text))) (last_count (tokens_of text) n (read_within (kinds_of (tokens_of text)) (Unexpected n) is)) ∙ h })
    ]

pub right_fault : (e : Fail SchemaFault) (text : List ℕ) → FailsBy e (schema_of text) → IsRightFault text e
unfolding schema_of
right_fault (fails.Fault fault) text e = fault_from text (read_of (kinds_of (tokens_of text))) fault refl e
right_fault fails.NoMemory text e = tt

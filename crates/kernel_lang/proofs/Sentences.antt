-- A fragment is valid exactly where it meets each sentence.
use Rattle.std.proofs.Common.{◌≡◌, Bool, true, false, if◌then◌else◌, List, [], ◌∷◌, Option, Some, None, refl}
use Rattle.std.specs.List.{AllByRecursion}
use Rattle.kernel_lang.specs.declared.sentence.Sentence.{Sentence}
use Rattle.kernel_lang.specs.declared.sentence.Sentence.TheVariants as sentences
use Rattle.kernel_lang.specs.Plain.{Accumulator, Fragment}
use Rattle.kernel_lang.specs.Sentences.{AccumulatorIsValid, IsValid}
use Rattle.kernel_lang.specs.Validity.{broken, parts_broken, accumulator_broken, accumulators_broken, sentences_of_parts, sentences_of_accumulator, or_else, first_broken, conditions_are_few}

pub or_none : (a b : Option Sentence) → or_else a b ≡ None → (a ≡ None) × (b ≡ None)
or_none None b e = (refl, e)
or_none (Some s) b e = absurd cc

abbrev after_test : Bool → Option Sentence → Sentence → Option Sentence
after_test b rest s = if b then rest else Some s

abbrev AllHold : List (Bool × Sentence) → Type 0
AllHold ss = AllByRecursion (λ s. s.0 ≡ true) ss

all_first : (ss : List (Bool × Sentence)) → first_broken ss ≡ None → AllHold ss
all_first [] e = tt
all_first (s ∷ rest) e = go s.0 refl e (λ h. all_first rest h)
  where
    go : (b : Bool) → s.0 ≡ b → after_test b (first_broken rest) s.1 ≡ None → (first_broken rest ≡ None → AllHold rest) → AllHold (s ∷ rest)
    go true h e later = (h, later e)
    go false h e later = absurd cc

abbrev of_conditions : Fragment → List (Bool × Sentence)
of_conditions f = (conditions_are_few f, sentences.Conditions) ∷ []

accumulator_valid : (f : Fragment) (a : Accumulator) → accumulator_broken f a ≡ None → AccumulatorIsValid f a
unfolding accumulator_broken
accumulator_valid f a e =
    let h : AllHold (sentences_of_accumulator f a) = all_first (sentences_of_accumulator f a) e in
    record {
      chain = h.0;
      names = h.1.0;
      base = h.1.1.0;
      loops = h.1.1.1.0;
      quiet = h.1.1.1.1.0;
      reading = h.1.1.1.1.1.0;
      start = h.1.1.1.1.1.1.0;
      lists = h.1.1.1.1.1.1.1.0;
    }

accumulators_valid : (f : Fragment) (accs : List Accumulator) → accumulators_broken f accs ≡ None → AllByRecursion (AccumulatorIsValid f) accs
accumulators_valid f [] e = tt
accumulators_valid f (a ∷ rest) e =
    let p = or_none (accumulator_broken f a) (accumulators_broken f rest) e in
    (accumulator_valid f a p.0, accumulators_valid f rest p.1)

pub valid : (f : Fragment) → broken f ≡ None → IsValid f
unfolding broken parts_broken
valid f e =
    let p = or_none (parts_broken f) (or_else (accumulators_broken f f.accs) (first_broken (of_conditions f))) e in
    let q = or_none (accumulators_broken f f.accs) (first_broken (of_conditions f)) p.1 in
    let h : AllHold (sentences_of_parts f) = all_first (sentences_of_parts f) p.0 in
    let few : AllHold (of_conditions f) = all_first (of_conditions f) q.1 in
    record {
      size = h.0;
      names = h.1.0;
      operands = h.1.1.0;
      flags = h.1.1.1.0;
      limits = h.1.1.1.1.0;
      accs = accumulators_valid f f.accs q.0;
      conditions = few.0;
    }

accumulator_none : (f : Fragment) (a : Accumulator) → AccumulatorIsValid f a → accumulator_broken f a ≡ None
unfolding accumulator_broken
accumulator_none f a v = rw (v.chain, v.names, v.base, v.loops, v.quiet, v.reading, v.start, v.lists) refl

accumulators_none : (f : Fragment) (accs : List Accumulator) → AllByRecursion (AccumulatorIsValid f) accs → accumulators_broken f accs ≡ None
accumulators_none f [] v = refl
accumulators_none f (a ∷ rest) v = rw (accumulator_none f a v.0) (accumulators_none f rest v.1)

pub valid_none : (f : Fragment) → IsValid f → broken f ≡ None
unfolding broken parts_broken
valid_none f v = rw (v.size, v.names, v.operands, v.flags, v.limits, accumulators_none f f.accs v.accs, v.conditions) refl

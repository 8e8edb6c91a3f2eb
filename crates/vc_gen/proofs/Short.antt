-- What a valid fragment says of sizes.
use Rattle.std.proofs.Common.{◌≡◌, ℕ, ◌+◌, ◌<◌, ◌≤◌, true, List, [], ◌∷◌, map, take, drop, length, nat_eq, nat_lt, nat_le, None, sym, ap, ◌∙◌, subst, arith, length-append}
use Rattle.std.specs.List.{AllByRecursion}
use Rattle.std.proofs.lemmas.List.{length-map, take-append-drop}
use Rattle.std.proofs.lemmas.Bool.Decides.{nat_tests}
use Rattle.std.specs.declared.option.Option.{Option}
use Rattle.tor_terms.specs.Plain.{Form}
use Rattle.kernel_lang.specs.declared.parts.Acc.{Acc}
use Rattle.kernel_lang.specs.Plain.{Accumulator, Fragment, accumulator}
use Rattle.kernel_lang.specs.Pools.{pooled}
use Rattle.kernel_lang.specs.Running.{layers, layers_of}
use Rattle.kernel_lang.specs.Sentences.{AccumulatorIsValid, IsValid}
use Rattle.kernel_lang.specs.Validity.{broken, rises, chain_is_valid}
use Rattle.kernel_lang.proofs.Sentences.{valid}
use Rattle.kernel_lang.proofs.PoolSizes.{combined_small}
use Rattle.kernel_lang.proofs.Listing.{and_four}
use Rattle.vc_gen.specs.declared.level.Level.{Level}
use Rattle.vc_gen.specs.Levels.{layer_seen, layers_seen}
use Rattle.vc_gen.specs.Short.{AllShort}
use Rattle.vc_gen.proofs.Fit.{loops_layers}

le_from : (m n : ℕ) → nat_le m n ≡ true → m ≤ n
le_from m n e = grind (arith, nat_tests)

chain_short : (f : Fragment) (a : Accumulator) → AccumulatorIsValid f a → length a.chain ≤ 3
unfolding chain_is_valid
chain_short f a v =
    let r = and_four (nat_le (length a.chain) 3) (rises a.chain) (nat_lt a.base (length a.chain)) (nat_eq (length a.guards) (length a.chain)) v.chain in
    le_from (length a.chain) 3 r.0

all_short : (f : Fragment) (accs : List Acc) → AllByRecursion (AccumulatorIsValid f) (map accumulator accs) → AllShort accs
all_short f [] v = tt
all_short f (a ∷ rest) v = (chain_short f (accumulator a) v.0, all_short f rest v.1)

pub accs_short : (f : Fragment) (accs : List Acc) → f.accs ≡ map accumulator accs → broken f ≡ None → AllShort accs
accs_short f accs e none = let v : IsValid f = valid f none in all_short f accs (subst (AllByRecursion (AccumulatorIsValid f)) e v.accs)

pub pools_small : (f : Fragment) (accs : List Acc) → f.accs ≡ map accumulator accs → broken f ≡ None → 0 + length (pooled (map accumulator accs)) < 4294967296
pools_small f accs e none = let s : length (pooled (map accumulator accs)) ≤ 128 = subst (λ as1. length (pooled as1) ≤ 128) e (combined_small f none) in omega (arith, s)

layers_length : (js : List ℕ) (gs : List (Option Form)) → length (layers js gs) ≡ length js
layers_length js gs = sym (length-map (layers js gs) (λ y. y.over)) ∙ ap length (loops_layers js gs)

-- the levels of an accumulator, cut at its base
pub cut_short : (a : Accumulator) (all outside inside : List Level) → layers_seen all ≡ layers_of a → layers_seen outside ≡ take a.base (layers_seen all) → layers_seen inside ≡ drop a.base (layers_seen all) → length a.chain ≤ 3 → length outside + length inside ≤ 3
cut_short a all outside inside e o i short =
    let x : length outside ≡ length (take a.base (layers_seen all)) = sym (length-map outside layer_seen) ∙ ap length o in
    let y : length inside ≡ length (drop a.base (layers_seen all)) = sym (length-map inside layer_seen) ∙ ap length i in
    let z : length (take a.base (layers_seen all)) + length (drop a.base (layers_seen all)) ≡ length a.chain =
    sym (length-append (take a.base (layers_seen all)) (drop a.base (layers_seen all))) ∙ ap length (take-append-drop a.base (layers_seen all) ∙ e) ∙ layers_length a.chain a.guards in
    omega (arith, x, y, z, short)

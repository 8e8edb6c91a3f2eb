-- The terms that say what an accumulator has, and the postcondition of a candidate.
use Rattle.std.specs.Prelude.{ℕ, zero, suc, pos, Bool, true, false, List, [], ◌∷◌, map, take, slice_get}
use Rattle.std.specs.declared.option.Option.{Option}
use Rattle.std.specs.declared.option.Option.TheVariants.{Some, None}
use Rattle.qbs_base.specs.declared.scalar.Row.{Row}
use Rattle.qbs_base.specs.declared.scalar.Scalar.{Scalar}
use Rattle.qbs_base.specs.declared.scalar.Scalar.TheVariants as scalars
use Rattle.qbs_base.specs.declared.scalar.Value.{Value}
use Rattle.qbs_base.specs.Values.{Database}
use Rattle.tor_terms.specs.declared.term.Index.{Index}
use Rattle.tor_terms.specs.Plain.{Form, Tree, Nil, Walk, Top, One, Single, Cat, Join, Sel, Proj, Uniq, Insert, Lit, Item, Count, Sum, Any, Best, Pick, Add, Or}
use Rattle.tor_terms.specs.Truth.{World}
use Rattle.tor_terms.specs.Value.{value}
use Rattle.kernel_lang.specs.declared.parts.Entry.{Entry}
use Rattle.kernel_lang.specs.declared.parts.Update.{Update}
use Rattle.kernel_lang.specs.declared.parts.Update.TheVariants as updates
use Rattle.kernel_lang.specs.Plain.{Fragment}
use Rattle.kernel_lang.specs.Given.{world_given}
use Rattle.kernel_lang.specs.Pools.{Member, members}
use Rattle.kernel_lang.specs.Running.{Layer, outside, inside, placed, is_set, source_value}

abbrev pub loops_of : List Layer → List ℕ
loops_of ys = map (λ y. y.over) ys

-- x joined to the lists of the loops inside
abbrev pub nest_walks : Tree → List ℕ → Tree
nest_walks x [] = x
nest_walks x (j ∷ js) = Join x (nest_walks (Walk j) js)

-- the current rows of the loops outside, joined to x
abbrev pub nest_ones : List ℕ → Tree → Tree
nest_ones [] x = x
nest_ones (j ∷ js) x = Join (One (j ∷ [])) (nest_ones js x)

-- the tuples of a level for which the chosen formulas hold; x has the rows of its loop
abbrev pub body : List Form → List ℕ → Tree → List ℕ → Tree
body fs outer x inner = Sel fs (nest_ones outer (nest_walks x inner))

-- w followed by what the tuples of b give
abbrev pub val : Update → Tree → Tree → Tree
val (updates.Push e) w b = Cat w (Proj e b)
val (updates.PushNew e) w b = Uniq (Proj e b)
val updates.Tick w b = Add w (Count b)
val (updates.Plus e) w b = Add w (Sum (Proj e b))
val (updates.Best way e) w b = Best way w (Proj e b)
val updates.Mark w b = Or w (Any b)

-- w after one update
abbrev pub effect : Update → Tree → Tree
effect (updates.Push e) w = Cat w (Single e)
effect (updates.PushNew e) w = Insert w e
effect updates.Tick w = Add w (Lit (scalars.Long (pos 1)))
effect (updates.Plus e) w = Add w (Item e)
effect (updates.Best way e) w = Pick way w (Item e)
effect updates.Mark w = Lit (scalars.Bool true)

abbrev pub start_term : Option Scalar → Tree
start_term None = Nil
start_term (Some x) = Lit x

-- what the layers that are left make of w: of none the update, of others the whole list of the first
abbrev pub whole : Update → List Form → List ℕ → Tree → List Layer → Tree
whole u fs outer w [] = effect u w
whole u fs outer w (y ∷ ys) = val u w (body fs outer (Walk y.over) (loops_of ys))

-- what is so after some turns of the first layer's loop
abbrev pub part : Update → List Form → List ℕ → Tree → Layer → List Layer → Index → Tree
part u fs outer w y ys index = val u w (body fs outer (Top index (Walk y.over)) (loops_of ys))

-- what an accumulator with its choice has at the rows of the loops round its declaration
abbrev pub postcondition : Member → Tree
postcondition m = whole m.0.update m.1 (loops_of (outside m.0)) (start_term m.0.start) (inside m.0)

-- the truth of a flag by its choice, at rows of the loops round its declaration
abbrev pub flag_by_choice : Fragment → World → Option Member → List Row → Bool
flag_by_choice f w None rows = false
flag_by_choice f w (Some m) rows = is_set (Some (value (record w { current = placed (take m.0.base m.0.chain) rows }) f.atoms (postcondition m)))

abbrev pub with_choices : Fragment → List Member → World → World
with_choices f ms w = record w { flags = λ k rows. flag_by_choice f w (slice_get ms k) rows }

-- what the postcondition says of the source's variable
abbrev pub claimed : Fragment → List Member → World → Member → Value
claimed f ms w m = source_value m.0.update m.0.opposite (value (with_choices f ms w) f.atoms (postcondition m))

-- of an accumulator with base 0
abbrev pub claims : Fragment → List Member → World → ℕ → Member → List Value → List Value
claims f ms w zero m rest = claimed f ms w m ∷ rest
claims f ms w (suc base) m rest = rest

abbrev pub all_claimed : Fragment → List Member → World → List Member → List Value
all_claimed f ms w [] = []
all_claimed f ms w (m ∷ rest) = claims f ms w m.0.base m (all_claimed f ms w rest)

-- what the postconditions of a candidate say, one value for each accumulator with base 0, in their order
abbrev pub postconditions : Fragment → List ℕ → Database → Entry → List Value
postconditions f c db entry = all_claimed f (members f c) (world_given f db entry) (members f c)

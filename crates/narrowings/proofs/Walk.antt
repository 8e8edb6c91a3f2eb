-- A walk over some rows goes on as one over all of them does, where the rows that are left out change nothing.
use Rattle.std.proofs.Common.{◌≡◌, ℕ, zero, suc, ◌≤◌, Bool, true, false, cond, List, [], ◌∷◌, Some, None, Result, Ok, Err, refl, sym, subst, arith}
use Rattle.std.specs.List.{filter, AllByRecursion}
use Rattle.qbs_base.specs.declared.scalar.Row.{Row}
use Rattle.qbs_base.specs.Named.{at_name}
use Rattle.qbs_base.specs.Values.{Schema}
use Rattle.java_mean.specs.declared.ending.Ending.{Ending}
use Rattle.java_mean.specs.declared.ending.Ending.TheVariants as endings
use Rattle.java_mean.specs.declared.types.JavaType.{JavaType}
use Rattle.java_mean.specs.declared.types.JavaType.TheVariants.{Of}
use Rattle.java_mean.specs.declared.types.Single.{Single}
use Rattle.java_mean.specs.Endings.{◌>>=◌}
use Rattle.java_mean.specs.Expression.{element}
use Rattle.java_mean.specs.Refines.{Related, Exits, Follows, Simulates, Common, Alike}
use Rattle.java_mean.specs.Statement.{State, Passed, GoesOn, Leaves, Returns, Does, then_turn, fewer, with_variable, each}
use Rattle.java_mean.specs.Store.{Store, Variable, put, plainly}
use Rattle.java_mean.specs.Types.{Types, with_type, IsMember, IsTyped}
use Rattle.java_mean.specs.Typing.{Extends}
use Rattle.java_mean.proofs.Alike.{alike_fewer, typed_store}
use Rattle.java_mean.proofs.Puts.{put_same}
use Rattle.java_mean.proofs.Simulates.{Loops, follows_turn}
use Rattle.java_mean.proofs.TypedRuns.{element_put}
use Rattle.spreads.proofs.Covering.{beside_alike}

module _ (schema : Schema) (g h : Types) (x : List ℕ) (a : Single) (inner outer : Exits) (q : Row → Bool) (f : Does) (kept : Store → Type 0) where
  -- it changes nothing, or ends the run
  abbrev pub Skipped : State → Result Passed Ending → Type 0
  Skipped s (Ok (GoesOn u)) = u ≡ s
  Skipped s (Ok (Leaves u)) = ⊥
  Skipped s (Ok (Returns u v)) = ⊥
  Skipped s (Err (endings.Faulted fault at)) = Unit {0}
  Skipped s (Err endings.OutOfTurns) = Unit {0}
  Skipped s (Err endings.Stuck) = outer.stuck

  -- What is said of the first run's store holds at the start of each turn.
  pub record IsWalk : Type 0 where
    pub wider : Extends h g
    pub new : g x ≡ None
    pub same : Simulates (Alike schema (with_type x (Some (Of a)) g)) (Alike schema h) inner f f
    pub loops : Loops (Alike schema g) inner outer
    pub set : (s : Store) (v : Variable) → kept s → kept (put s x v)
    pub goes : (s u : State) → kept s.store → f s ≡ Ok (GoesOn u) → kept u.store
    pub skips : (row : Row) → IsMember schema a row → q row ≡ false → (s : State) → IsTyped schema (with_type x (Some (Of a)) g) s.store → kept s.store → at_name s.store x ≡ Some (plainly (element row)) → Skipped s (f s)

  abbrev Holding : Related
  Holding s t = Alike schema h s t × kept s.store

  follows_kept : (o p : Result Passed Ending) → ((u : State) → o ≡ Ok (GoesOn u) → kept u.store) → Follows (Alike schema h) inner o p → Follows Holding inner o p
  follows_kept (Ok (GoesOn s)) p k e = record { state = e.state; is = e.is; holds = (e.holds, k s refl) }
  follows_kept (Ok (Leaves s)) p k e = e
  follows_kept (Ok (Returns s v)) p k e = e
  follows_kept (Err (endings.Faulted fault at)) p k e = tt
  follows_kept (Err endings.OutOfTurns) p k e = tt
  follows_kept (Err endings.Stuck) p k e = e

  module _ (walk : IsWalk) where
    abbrev Rest : List Row → Type 0
    Rest rows = (s t : State) → Alike schema g s t → kept s.store → Follows (Alike schema g) outer (each rows x f s) (each (filter q rows) x f t)

    abbrev a_turn : Row → List Row → Does
    a_turn row rows u = then_turn (f (with_variable u x (plainly (element row)))) (each rows x f)

    -- a turn of both
    taken : (row : Row) (rows : List Row) → IsMember schema a row → Rest rows → (n m : ℕ) (s t : Store) (l l' : List (List ℕ)) → ((y : List ℕ) (k : JavaType) → g y ≡ Some k → Common schema k (at_name s y) (at_name t y)) → l ≡ l' → n ≤ m → kept s → Follows (Alike schema g) outer (fewer n s l >>= a_turn row rows) (fewer m t l' >>= a_turn row (filter q rows))
    taken row rows is rest zero m s t l l' i e le k = tt
    taken row rows is rest (suc n) zero s t l l' i e le k = absurd (omega (arith, le))
    taken row rows is rest (suc n) (suc m) s t l l' i e le k =
        let u : State = record { store = s; lines = l; turns = n } in
        let v : State = record { store = t; lines = l'; turns = m } in
        let j : Alike schema g u v = record { store = i; lines = e; turns = omega (arith, le) } in
        let u1 : State = with_variable u x (plainly (element row)) in
        let v1 : State = with_variable v x (plainly (element row)) in
        follows_turn Holding (Alike schema g) inner outer (f u1) (f v1) (each rows x f) (each (filter q rows) x f) walk.loops (follows_kept (f u1) (f v1) (λ z r. walk.goes u1 z (walk.set s (plainly (element row)) k) r) (walk.same.by u1 v1 (element_put schema g x a row u v is j))) (λ y z b. rest y z (alike_fewer schema h g walk.wider y z b.0) b.1)

    by_skipped : (rows : List Row) (u : State) (r p : Result Passed Ending) → Skipped u r → Follows (Alike schema g) outer (each rows x f u) p → Follows (Alike schema g) outer (then_turn r (each rows x f)) p
    by_skipped rows u (Ok (GoesOn z)) p k h = subst (λ (s : State). Follows (Alike schema g) outer (each rows x f s) p) (sym k) h
    by_skipped rows u (Ok (Leaves z)) p k h = absurd k
    by_skipped rows u (Ok (Returns z v)) p k h = absurd k
    by_skipped rows u (Err (endings.Faulted fault at)) p k h = tt
    by_skipped rows u (Err endings.OutOfTurns) p k h = tt
    by_skipped rows u (Err endings.Stuck) p k h = k

    -- a turn of the first alone
    skipped : (row : Row) (rows : List Row) → IsMember schema a row → q row ≡ false → Rest rows → (n : ℕ) (s : Store) (l : List (List ℕ)) (t : State) → ((y : List ℕ) (k : JavaType) → g y ≡ Some k → Common schema k (at_name s y) (at_name t.store y)) → l ≡ t.lines → n ≤ t.turns → kept s → Follows (Alike schema g) outer (fewer n s l >>= a_turn row rows) (each (filter q rows) x f t)
    skipped row rows is out rest zero s l t i e le k = tt
    skipped row rows is out rest (suc n) s l t i e le k =
        let u : State = record { store = s; lines = l; turns = n } in
        let j : Alike schema g u t = record { store = i; lines = e; turns = omega (arith, le) } in
        let v : Variable = plainly (element row) in
        let u1 : State = with_variable u x v in
        let typed : IsTyped schema (with_type x (Some (Of a)) g) u1.store = typed_store schema (with_type x (Some (Of a)) g) u1 (with_variable t x v) (element_put schema g x a row u t is j) in
        by_skipped rows u1 (f u1) (each (filter q rows) x f t) (walk.skips row is out u1 typed (walk.set s v k) (put_same s x v)) (rest u1 t (beside_alike schema g u t x v walk.new j) (walk.set s v k))

    by_row : (row : Row) (rows : List Row) → IsMember schema a row → Rest rows → (b : Bool) → q row ≡ b → (s t : State) → Alike schema g s t → kept s.store → Follows (Alike schema g) outer (each (row ∷ rows) x f s) (each (cond b (row ∷ filter q rows) (filter q rows)) x f t)
    by_row row rows is rest true e s t i k = taken row rows is rest s.turns t.turns s.store t.store s.lines t.lines i.store i.lines i.turns k
    by_row row rows is rest false e s t i k = skipped row rows is e rest s.turns s.store s.lines t i.store i.lines i.turns k

    pub walk_follows : (rows : List Row) → AllByRecursion (IsMember schema a) rows → Rest rows
    walk_follows [] all s t i k = record { state = t; is = refl; holds = i }
    walk_follows (row ∷ rows) all s t i k = by_row row rows all.0 (walk_follows rows all.1) (q row) refl s t i k

-- One more patch among the tokens of a source.
use Rattle.std.proofs.Common.{◌≡◌, ℕ, ◌+◌, ◌-◌, ◌≤◌, ◌<◌, Bool, true, false, cond, List, [], ◌∷◌, ◌++◌, length, Ok, refl, sym, ap, ap₂, ◌∙◌, subst, append_assoc, arith, length-append}
use Rattle.std.specs.Prelude.{◌&&◌, nat_le, nat_lt}
use Rattle.std.specs.List.{AllByRecursion}
use Rattle.std.proofs.lemmas.List.{append-nil}
use Rattle.std.proofs.lemmas.Bool.{and_parts}
use Rattle.std.proofs.lemmas.Bool.Decides.{nat_tests}
use Rattle.qbs_base.specs.declared.place.Place.{Place}
use Rattle.qbs_base.specs.Places.{place_after}
use Rattle.java_lex.specs.declared.token.Token.{Token}
use Rattle.java_lex.specs.Lexing.{tokens_from}
use Rattle.java_lex.specs.Cutting.{nodes_of, HasTokens, StartsAt, EndsAt, EndsStatement}
use Rattle.java_lex.proofs.Cut.{place_after_append, index_after}
use Rattle.java_stretches.specs.Laid.{Patched, ended_before, begun_at, FollowFrom, AreClosed, IsMarked, Covered, Laid}
use Rattle.java_stretches.proofs.Texts.{UpTo, up_to, From, from_token}

-- ---- Lists of tokens

-- a token of joined lists stands in the first one or behind it
data Split (front back before : List Token) (u : Token) (rest : List Token) : Type 0 where
  inside : (more : List Token) → front ≡ before ++ (u ∷ more) → Split front back before u rest
  beyond : (more : List Token) → before ≡ front ++ more → back ≡ more ++ (u ∷ rest) → Split front back before u rest

split_more : (t b : Token) (front back before : List Token) (u : Token) (rest : List Token) → t ≡ b → Split front back before u rest → Split (t ∷ front) back (b ∷ before) u rest
split_more t b front back before u rest is (inside more e) = inside more (ap₂ (λ x xs. x ∷ xs) is e)
split_more t b front back before u rest is (beyond more e f) = beyond more (ap₂ (λ x xs. x ∷ xs) (sym is) e) f

split : (front back before : List Token) (u : Token) (rest : List Token) → front ++ back ≡ before ++ (u ∷ rest) → Split front back before u rest
split [] back before u rest e = beyond before refl e
split (t ∷ front) back [] u rest e = let is : t ≡ u = cc in inside front (ap (λ (x : Token). x ∷ front) is)
split (t ∷ front) back (b ∷ before) u rest e =
    let is : t ≡ b = cc in
    let others : front ++ back ≡ before ++ (u ∷ rest) = cc in
    split_more t b front back before u rest is (split front back before u rest others)

-- none of these ends where some others do
record Shorter (front back within after : List Token) (to : ℕ) : Type 0 where
  more : List Token
  is : within ≡ front ++ more
  others : back ≡ more ++ after
  ends : EndsAt to more

shorter : (front back within after : List Token) (to : ℕ) → AllByRecursion (λ (t : Token). t.span.end < to) front → front ++ back ≡ within ++ after → EndsAt to within → Shorter front back within after to
shorter [] back within after to all e h = record { more = within; is = refl; others = e; ends = h }
shorter (t ∷ front) back [] after to all e h = absurd h
shorter (t ∷ front) back (x ∷ []) after to all e h =
    let is : t ≡ x = cc in
    let end : t.span.end ≡ x.span.end = ap (λ (y : Token). y.span.end) is in
    absurd (omega (arith, all.0, end, h))
shorter (t ∷ front) back (x ∷ y ∷ within) after to all e h =
    let is : t ≡ x = cc in
    let others : front ++ back ≡ (y ∷ within) ++ after = cc in
    let r : Shorter front back (y ∷ within) after to = shorter front back (y ∷ within) after to all.1 others h in
    record { more = r.more; is = ap₂ (λ z zs. z ∷ zs) (sym is) r.is; others = r.others; ends = r.ends }

all_both : (P : Token → Type 0) (xs ys : List Token) → AllByRecursion P xs → AllByRecursion P ys → AllByRecursion P (xs ++ ys)
all_both P [] ys h k = k
all_both P (x ∷ xs) ys h k = (h.0, all_both P xs ys h.1 k)

-- tokens before one that starts at the byte c
record UpToByte (q c : ℕ) (mid : List Token) : Type 0 where
  from : q ≤ c
  all : AllByRecursion (λ (t : Token). (t.span.start < t.span.end) × (t.span.end ≤ c)) mid

up_to_byte : (q c : ℕ) (mid others : List Token) → FollowFrom q (mid ++ others) → StartsAt c others → UpToByte q c mid
up_to_byte q c [] [] o s = absurd s
up_to_byte q c [] (u ∷ us) o s = record { from = omega (arith, o.0, s); all = tt }
up_to_byte q c (t ∷ mid) others o s =
    let r : UpToByte t.span.end c mid = up_to_byte t.span.end c mid others o.2 s in
    record { from = omega (arith, o.0, o.1, r.from); all = ((o.1, r.from), r.all) }

all_before : (c to : ℕ) (mid : List Token) → c < to → AllByRecursion (λ (t : Token). (t.span.start < t.span.end) × (t.span.end ≤ c)) mid → AllByRecursion (λ (t : Token). t.span.end < to) mid
all_before c to [] less h = tt
all_before c to (t ∷ mid) less h = (omega (arith, less, h.0.1), all_before c to mid less h.1)

all_marked : (to : ℕ) (tail : List Token) → 0 < to → AllByRecursion IsMarked tail → AllByRecursion (λ (t : Token). t.span.end < to) tail
all_marked to [] some h = tt
all_marked to (t ∷ tail) some h = (omega (arith, some, h.0.1), all_marked to tail some h.1)

inner_is : (P : Token → Type 0) (xs : List Token) (u : Token) (ys : List Token) → AllByRecursion P (xs ++ (u ∷ ys)) → P u
inner_is P [] u ys h = h.0
inner_is P (x ∷ xs) u ys h = inner_is P xs u ys h.1

order_behind : (q to : ℕ) (within after : List Token) → FollowFrom q (within ++ after) → EndsAt to within → FollowFrom to after
order_behind q to [] after o h = absurd h
order_behind q to (t ∷ []) after o h = subst (λ (k : ℕ). FollowFrom k after) h o.2
order_behind q to (t ∷ u ∷ within) after o h = order_behind t.span.end to (u ∷ within) after o.2 h

closed_behind : (xs : List Token) (t : Token) (ys : List Token) → AreClosed ((t ∷ xs) ++ ys) → AreClosed ys
closed_behind xs t [] h = tt
closed_behind [] t (y ∷ ys) h = h
closed_behind (x ∷ xs) t (y ∷ ys) h = closed_behind xs x (y ∷ ys) h

closed_after : (xs ys : List Token) → AreClosed (xs ++ ys) → AreClosed ys
closed_after [] ys h = h
closed_after (t ∷ xs) ys h = closed_behind xs t ys h

-- ---- Bytes

record Between (a x b y : List ℕ) : Type 0 where
  old : List ℕ
  front : b ≡ a ++ old
  back : x ≡ old ++ y

between : (a x b y : List ℕ) → a ++ x ≡ b ++ y → length a ≤ length b → Between a x b y
between [] x b y e less = record { old = b; front = refl; back = e }
between (i ∷ a) x [] y e less = absurd (omega (arith, less))
between (i ∷ a) x (j ∷ b) y e less =
    let is : i ≡ j = cc in
    let others : a ++ x ≡ b ++ y = cc in
    let r : Between a x b y = between a x b y others (omega (arith, less)) in
    record { old = r.old; front = ap₂ (λ k ks. k ∷ ks) (sym is) r.front; back = r.back }

-- ---- Behind all patches

record Behind (p : Place) (bytes : List ℕ) (to : ℕ) (after : List Token) : Type 0 where
  from : From p bytes to after
  order : FollowFrom to after

abbrev pub EndBefore : ℕ → List Patched → Type 0
EndBefore to xs = AllByRecursion (λ (x : Patched). x.from < to) xs

-- the tokens of the source and of a patch's text, before those behind it
patch_short : (p : Place) (bytes : List ℕ) (x : Patched) (ts : List Token) (to : ℕ) (c : Covered p bytes x ts) → x.from < to → AllByRecursion (λ (t : Token). t.span.end < to) (c.mid ++ (c.head ∷ c.tail))
patch_short p bytes x ts to c less =
    let u : UpToByte p.index x.from c.mid = up_to_byte p.index x.from c.mid c.others c.order c.starts in
    all_both (λ (t : Token). t.span.end < to) c.mid (c.head ∷ c.tail) (all_before x.from to c.mid less u.all) (omega (arith, less, c.short), all_marked to c.tail (omega (arith, less)) c.marked)

behind : (p : Place) (bytes : List ℕ) (xs : List Patched) (ts : List Token) → Laid p bytes xs ts → (within after : List Token) (to : ℕ) → ts ≡ within ++ after → EndsAt to within → EndBefore to xs → Behind p bytes to after
behind p bytes [] ts h within after to e ends less =
    record {
      from = from_token p bytes to within after (h.0 ∙ ap Ok e) ends;
      order = order_behind p.index to within after (subst (FollowFrom p.index) e h.1) ends;
    }
behind p bytes (x ∷ xs) ts h within after to e ends less =
    let c : Covered p bytes x ts = h.0 in
    let parts : (c.mid ++ (c.head ∷ c.tail)) ++ c.later ≡ within ++ after = append_assoc c.mid (c.head ∷ c.tail) c.later ∙ (sym c.tokens_are ∙ e) in
    let s : Shorter (c.mid ++ (c.head ∷ c.tail)) c.later within after to = shorter (c.mid ++ (c.head ∷ c.tail)) c.later within after to (patch_short p bytes x ts to c less.0) parts ends in
    let r : Behind (place_after p (c.front ++ c.old)) c.rest to after = behind (place_after p (c.front ++ c.old)) c.rest xs c.later h.1 s.more after to s.others s.ends less.1 in
    let f : From (place_after p (c.front ++ c.old)) c.rest to after = r.from in
    record {
      from = record {
        front = (c.front ++ c.old) ++ f.front;
        rest = f.rest;
        parts = c.bytes_are ∙ (sym (append_assoc c.front c.old c.rest) ∙ (ap (λ (bs : List ℕ). (c.front ++ c.old) ++ bs) f.parts ∙ sym (append_assoc (c.front ++ c.old) f.front f.rest)));
        long = omega (arith, f.long, index_after p (c.front ++ c.old), length-append (c.front ++ c.old) f.front);
        read = rw (place_after_append p (c.front ++ c.old) f.front) f.read;
      };
      order = r.order;
    }

-- ---- A new patch

-- The tokens that stand for a patch's text: the first one begins within it, and the others stand nowhere.
pub record Given (from to : ℕ) (text : List ℕ) (head : Token) (tail : List Token) : Type 0 where
  pub given : List Token
  pub has : HasTokens text given
  pub closed : EndsStatement given
  pub ends : EndsAt (length text) given
  pub same : nodes_of (head ∷ tail) ≡ nodes_of given
  pub behind : from ≤ head.span.start
  pub before : head.span.start < to
  pub short : head.span.end ≡ 0
  pub marked : AllByRecursion IsMarked tail

abbrev new_patch : ℕ → ℕ → List ℕ → Patched
new_patch from to text = record { from = from; to = to; text = text }

-- behind tokens of the source, with no patch before it
module _ (p : Place) (bytes : List ℕ) (from to : ℕ) (text : List ℕ) (head : Token) (tail : List Token) (g : Given from to text head tail) where
  put_here : (mid others after : List Token) → tokens_from p 0 bytes ≡ Ok (mid ++ others) → FollowFrom p.index (mid ++ others) → StartsAt from others → AreClosed mid → from < to → Behind p bytes to after
      → Laid p bytes (new_patch from to text ∷ []) (mid ++ (head ∷ (tail ++ after)))
  put_here mid others after read order starts closed less b =
      let u : UpTo p bytes from mid others = up_to p bytes from mid others read closed starts in
      let f : From p bytes to after = b.from in
      let i : Between u.front u.rest f.front f.rest = between u.front u.rest f.front f.rest (sym u.parts ∙ f.parts) (omega (arith, u.long, f.long, less)) in
      let long : length f.front ≡ length u.front + length i.old = ap length i.front ∙ length-append u.front i.old in
      let index : (place_after p (u.front ++ i.old)).index ≡ to = omega (arith, index_after p (u.front ++ i.old), f.long, long, length-append u.front i.old) in (
        record {
          front = u.front;
          old = i.old;
          rest = f.rest;
          bytes_are = u.parts ∙ ap (λ (bs : List ℕ). u.front ++ bs) i.back;
          from = u.long;
          to = omega (arith, u.long, f.long, long);
          long = less;
          mid = mid;
          others = others;
          read = read;
          order = order;
          starts = starts;
          closed = closed;
          head = head;
          tail = tail;
          later = after;
          tokens_are = refl;
          given = g.given;
          text = g.has;
          text_closed = g.closed;
          text_ends = g.ends;
          same = g.same;
          behind = g.behind;
          before = g.before;
          short = g.short;
          marked = g.marked;
        },
        (
          subst (λ (bs : List ℕ). tokens_from (place_after p bs) 0 f.rest ≡ Ok after) i.front f.read,
          subst (λ (k : ℕ). FollowFrom k after) (sym index) b.order,
        ),
      )

-- ---- Which patches stay

passed : (x : Patched) (xs : List Patched) (s : ℕ) → (nat_le x.from s && nat_lt s x.to) ≡ false → begun_at (x ∷ xs) s ≡ begun_at xs s
passed x xs s e = ap (λ (v : Bool). cond v x.from (begun_at xs s)) e

found : (x : Patched) (xs : List Patched) (s : ℕ) → (nat_le x.from s && nat_lt s x.to) ≡ true → begun_at (x ∷ xs) s ≡ x.from
found x xs s e = ap (λ (v : Bool). cond v x.from (begun_at xs s)) e

dropped : (x : Patched) (xs : List Patched) (c : ℕ) → nat_le x.to c ≡ false → ended_before c (x ∷ xs) ≡ ended_before c xs
dropped x xs c e = ap (λ (v : Bool). cond v (x ∷ ended_before c xs) (ended_before c xs)) e

stays : (x : Patched) (xs : List Patched) (c : ℕ) → nat_le x.to c ≡ true → ended_before c (x ∷ xs) ≡ x ∷ ended_before c xs
stays x xs c e = ap (λ (v : Bool). cond v (x ∷ ended_before c xs) (ended_before c xs)) e

and_no : (a b : Bool) → a ≡ false → (a && b) ≡ false
and_no true b e = absurd cc
and_no false b e = refl

and_no_second : (a b : Bool) → b ≡ false → (a && b) ≡ false
and_no_second true b e = e
and_no_second false b e = refl

and_yes : (a b : Bool) → a ≡ true → b ≡ true → (a && b) ≡ true
and_yes true b e f = f
and_yes false b e f = absurd cc

not_le : (a b : ℕ) → b < a → nat_le a b ≡ false
not_le a b h = grind (arith, nat_tests, h)

is_le : (a b : ℕ) → a ≤ b → nat_le a b ≡ true
is_le a b h = grind (arith, nat_tests, h)

le_is : (a b : ℕ) → nat_le a b ≡ true → a ≤ b
le_is a b h = grind (arith, nat_tests, h)

not_lt : (a b : ℕ) → b ≤ a → nat_lt a b ≡ false
not_lt a b h = grind (arith, nat_tests, h)

is_lt : (a b : ℕ) → a < b → nat_lt a b ≡ true
is_lt a b h = grind (arith, nat_tests, h)

pub begun_before : (xs : List Patched) (s : ℕ) → begun_at xs s ≤ s
begun_before [] s = omega arith
begun_before (x ∷ xs) s = by (nat_le x.from s && nat_lt s x.to) refl (begun_before xs s)
  where
    by : (v : Bool) → (nat_le x.from s && nat_lt s x.to) ≡ v → begun_at xs s ≤ s → cond v x.from (begun_at xs s) ≤ s
    by true e h = le_is x.from s (and_parts (nat_le x.from s) (nat_lt s x.to) e).0
    by false e h = h

-- before all patches
record Clear (xs : List Patched) (s : ℕ) : Type 0 where
  begins : begun_at xs s ≡ s
  ends : ended_before s xs ≡ []

none_before : (p : Place) (bytes : List ℕ) (xs : List Patched) (ts : List Token) → Laid p bytes xs ts → (s : ℕ) → s < p.index → Clear xs s
none_before p bytes [] ts h s less = record { begins = refl; ends = refl }
none_before p bytes (x ∷ xs) ts h s less =
    let c : Covered p bytes x ts = h.0 in
    let far : s < (place_after p (c.front ++ c.old)).index = omega (arith, index_after p (c.front ++ c.old), less) in
    let n : Clear xs s = none_before (place_after p (c.front ++ c.old)) c.rest xs c.later h.1 s far in
    record {
      begins = passed x xs s (and_no (nat_le x.from s) (nat_lt s x.to) (not_le x.from s (omega (arith, c.from, less)))) ∙ n.begins;
      ends = dropped x xs s (not_le x.to s (omega (arith, c.from, c.long, less))) ∙ n.ends;
    }

-- a token with a line begins no earlier than all that is laid
order_at : (q : ℕ) (before : List Token) (u : Token) (rest : List Token) → FollowFrom q (before ++ (u ∷ rest)) → q ≤ u.span.start
order_at q [] u rest o = o.0
order_at q (t ∷ before) u rest o = omega (arith, o.0, o.1, order_at t.span.end before u rest o.2)

module _ (p : Place) (bytes : List ℕ) (x : Patched) (ts : List Token) (c : Covered p bytes x ts) (before : List Token) (u : Token) (rest : List Token) (lined : u.span.line ≡ 0 → ⊥) where
  abbrev Later : Type 0
  Later = (more : List Token) → c.later ≡ more ++ (u ∷ rest) → x.to ≤ u.span.start

  from_tail : Later → (more : List Token) → Split c.tail c.later more u rest → p.index ≤ u.span.start
  from_tail again more (inside others t) = absurd (lined (inner_is IsMarked more u others (subst (AllByRecursion IsMarked) t c.marked)).0)
  from_tail again more (beyond others t later) = omega (arith, c.from, c.long, again others later)

  from_head : Later → (more : List Token) → c.head ∷ (c.tail ++ c.later) ≡ more ++ (u ∷ rest) → p.index ≤ u.span.start
  from_head again [] e = let same : c.head ≡ u = cc in omega (arith, c.from, c.behind, ap (λ (t : Token). t.span.start) same)
  from_head again (m ∷ more) e = let others : c.tail ++ c.later ≡ more ++ (u ∷ rest) = cc in from_tail again more (split c.tail c.later more u rest others)

  from_mid : Later → Split c.mid (c.head ∷ (c.tail ++ c.later)) before u rest → p.index ≤ u.span.start
  from_mid again (inside more is) = order_at p.index before u (more ++ c.others) (subst (FollowFrom p.index) (ap (λ (us : List Token). us ++ c.others) is ∙ append_assoc before (u ∷ more) c.others) c.order)
  from_mid again (beyond more is others) = from_head again more others

token_from : (p : Place) (bytes : List ℕ) (xs : List Patched) (ts : List Token) → Laid p bytes xs ts → (before : List Token) (u : Token) (rest : List Token) → (u.span.line ≡ 0 → ⊥) → ts ≡ before ++ (u ∷ rest) → p.index ≤ u.span.start
token_from p bytes [] ts h before u rest lined e = order_at p.index before u rest (subst (FollowFrom p.index) e h.1)
token_from p bytes (x ∷ xs) ts h before u rest lined e =
    from_mid p bytes x ts h.0 before u rest lined
    (λ more later.
    let far : (place_after p (h.0.front ++ h.0.old)).index ≤ u.span.start = token_from (place_after p (h.0.front ++ h.0.old)) h.0.rest xs h.0.later h.1 more u rest lined later in
    omega (arith, far, index_after p (h.0.front ++ h.0.old), length-append h.0.front h.0.old, h.0.from, h.0.to))
    (split h.0.mid (h.0.head ∷ (h.0.tail ++ h.0.later)) before u rest (sym h.0.tokens_are ∙ e))

-- ---- A new patch among others

-- All is laid with one more patch, which covers those that don't end before it.
pub record Put (p : Place) (bytes : List ℕ) (xs : List Patched) (s to : ℕ) (text : List ℕ) (ts : List Token) : Type 0 where
  pub from : p.index ≤ begun_at xs s
  pub laid : Laid p bytes (ended_before (begun_at xs s) xs ++ (new_patch (begun_at xs s) to text ∷ [])) ts

-- the same patches, and the same place
put_as : (p : Place) (bytes : List ℕ) (xs ys : List Patched) (s c to : ℕ) (text : List ℕ) (ts : List Token) → begun_at xs s ≡ c → ended_before c xs ≡ ys → p.index ≤ c → Laid p bytes (ys ++ (new_patch c to text ∷ [])) ts → Put p bytes xs s to text ts
put_as p bytes xs ys s c to text ts begins ends from h =
    record {
      from = subst (λ (k : ℕ). p.index ≤ k) (sym begins) from;
      laid = subst (λ (k : ℕ). Laid p bytes (ended_before k xs ++ (new_patch k to text ∷ [])) ts) (sym begins) (subst (λ (zs : List Patched). Laid p bytes (zs ++ (new_patch c to text ∷ [])) ts) (sym ends) h);
    }

module _ (u : Token) (rest after : List Token) (to : ℕ) (text : List ℕ) (head : Token) (tail : List Token) (lined : u.span.line ≡ 0 → ⊥) (ends : EndsAt to (u ∷ rest)) (less : u.span.start < to) where
  abbrev Goal : Place → List ℕ → List Patched → List Token → Type 0
  Goal p bytes xs before = Given (begun_at xs u.span.start) to text head tail → Put p bytes xs u.span.start to text (before ++ (head ∷ (tail ++ after)))

  ends_behind : (before : List Token) → EndsAt to (before ++ (u ∷ rest))
  ends_behind [] = ends
  ends_behind (t ∷ []) = ends
  ends_behind (t ∷ v ∷ before) = ends_behind (v ∷ before)

  rest_behind : (p : Place) (bytes : List ℕ) (xs : List Patched) (ts before : List Token) → Laid p bytes xs ts → ts ≡ before ++ (u ∷ (rest ++ after)) → EndBefore to xs → Behind p bytes to after
  rest_behind p bytes xs ts before h e few = behind p bytes xs ts h (before ++ (u ∷ rest)) after to (e ∙ sym (append_assoc before (u ∷ rest) after)) (ends_behind before) few

  -- in the source's tokens, with no patch before it
  put_first : (p : Place) (bytes : List ℕ) (ts before : List Token) → Laid p bytes [] ts → ts ≡ before ++ (u ∷ (rest ++ after)) → AreClosed before → Goal p bytes [] before
  put_first p bytes ts before h e closed g =
      let read : tokens_from p 0 bytes ≡ Ok (before ++ (u ∷ (rest ++ after))) = h.0 ∙ ap Ok e in
      let order : FollowFrom p.index (before ++ (u ∷ (rest ++ after))) = subst (FollowFrom p.index) e h.1 in
      let r : UpToByte p.index u.span.start before = up_to_byte p.index u.span.start before (u ∷ (rest ++ after)) order refl in
      put_as p bytes [] [] u.span.start u.span.start to text (before ++ (head ∷ (tail ++ after))) refl refl r.from
      (put_here p bytes u.span.start to text head tail g before (u ∷ (rest ++ after)) after read order refl closed less (rest_behind p bytes [] ts before h e tt))

  module _ (p : Place) (bytes : List ℕ) (x : Patched) (xs : List Patched) (ts before : List Token) (h : Laid p bytes (x ∷ xs) ts) (e : ts ≡ before ++ (u ∷ (rest ++ after))) (closed : AreClosed before) (few : EndBefore to (x ∷ xs)) where
    abbrev c : Covered p bytes x ts
    c = h.0

    abbrev q : Place
    q = place_after p (c.front ++ c.old)

    there : (place_after p (c.front ++ c.old)).index ≡ x.to
    there = omega (arith, index_after p (c.front ++ c.old), length-append c.front c.old, c.from, c.to)

    -- in the source's tokens before the first patch
    put_before : (more : List Token) → c.mid ≡ before ++ (u ∷ more) → Goal p bytes (x ∷ xs) before
    put_before more is g =
        let mids : UpToByte p.index x.from c.mid = up_to_byte p.index x.from c.mid c.others c.order c.starts in
        let own : (u.span.start < u.span.end) × (u.span.end ≤ x.from) = inner_is (λ (t : Token). (t.span.start < t.span.end) × (t.span.end ≤ x.from)) before u more (subst (AllByRecursion (λ (t : Token). (t.span.start < t.span.end) × (t.span.end ≤ x.from))) is mids.all) in
        let parts : c.mid ++ c.others ≡ before ++ (u ∷ (more ++ c.others)) = ap (λ (us : List Token). us ++ c.others) is ∙ append_assoc before (u ∷ more) c.others in
        let order : FollowFrom p.index (before ++ (u ∷ (more ++ c.others))) = subst (FollowFrom p.index) parts c.order in
        let r : UpToByte p.index u.span.start before = up_to_byte p.index u.span.start before (u ∷ (more ++ c.others)) order refl in
        let n : Clear xs u.span.start = none_before (place_after p (c.front ++ c.old)) c.rest xs c.later h.1 u.span.start (omega (arith, there, own.0, own.1, c.long)) in
        let begins : begun_at (x ∷ xs) u.span.start ≡ u.span.start =
        passed x xs u.span.start (and_no (nat_le x.from u.span.start) (nat_lt u.span.start x.to) (not_le x.from u.span.start (omega (arith, own.0, own.1)))) ∙ n.begins in
        let gone : ended_before u.span.start (x ∷ xs) ≡ [] = dropped x xs u.span.start (not_le x.to u.span.start (omega (arith, own.0, own.1, c.long))) ∙ n.ends in
        put_as p bytes (x ∷ xs) [] u.span.start u.span.start to text (before ++ (head ∷ (tail ++ after))) begins gone r.from
        (put_here p bytes u.span.start to text head tail (subst (λ (k : ℕ). Given k to text head tail) begins g) before (u ∷ (more ++ c.others)) after (c.read ∙ ap Ok parts) order refl closed less (rest_behind p bytes (x ∷ xs) ts before h e few))

    -- at the first token of the first patch
    put_at : before ≡ c.mid → u ≡ c.head → Goal p bytes (x ∷ xs) before
    put_at is same g =
        let start : u.span.start ≡ c.head.span.start = ap (λ (t : Token). t.span.start) same in
        let begins : begun_at (x ∷ xs) u.span.start ≡ x.from =
        found x xs u.span.start (and_yes (nat_le x.from u.span.start) (nat_lt u.span.start x.to) (is_le x.from u.span.start (omega (arith, start, c.behind))) (is_lt u.span.start x.to (omega (arith, start, c.before)))) in
        let n : Clear xs x.from = none_before (place_after p (c.front ++ c.old)) c.rest xs c.later h.1 x.from (omega (arith, there, c.long)) in
        let gone : ended_before x.from (x ∷ xs) ≡ [] = dropped x xs x.from (not_le x.to x.from c.long) ∙ n.ends in
        put_as p bytes (x ∷ xs) [] u.span.start x.from to text (before ++ (head ∷ (tail ++ after))) begins gone (omega (arith, c.from))
        (subst (λ (us : List Token). Laid p bytes (new_patch x.from to text ∷ []) (us ++ (head ∷ (tail ++ after)))) (sym is)
        (put_here p bytes x.from to text head tail (subst (λ (k : ℕ). Given k to text head tail) begins g) c.mid c.others after c.read c.order c.starts c.closed few.0 (rest_behind p bytes (x ∷ xs) ts before h e few)))

    -- behind the first patch
    put_later : (more : List Token) → before ≡ c.mid ++ (c.head ∷ (c.tail ++ more)) → x.to ≤ u.span.start → Goal (place_after p (c.front ++ c.old)) c.rest xs more → Goal p bytes (x ∷ xs) before
    put_later more is far again g =
        let begins : begun_at (x ∷ xs) u.span.start ≡ begun_at xs u.span.start = passed x xs u.span.start (and_no_second (nat_le x.from u.span.start) (nat_lt u.span.start x.to) (not_lt u.span.start x.to far)) in
        let r : Put (place_after p (c.front ++ c.old)) c.rest xs u.span.start to text (more ++ (head ∷ (tail ++ after))) = again (subst (λ (k : ℕ). Given k to text head tail) begins g) in
        let kept : ended_before (begun_at xs u.span.start) (x ∷ xs) ≡ x ∷ ended_before (begun_at xs u.span.start) xs = stays x xs (begun_at xs u.span.start) (is_le x.to (begun_at xs u.span.start) (omega (arith, there, r.from))) in
        put_as p bytes (x ∷ xs) (x ∷ ended_before (begun_at xs u.span.start) xs) u.span.start (begun_at xs u.span.start) to text (before ++ (head ∷ (tail ++ after))) begins kept (omega (arith, c.from, c.long, there, r.from)) (
          record {
            front = c.front;
            old = c.old;
            rest = c.rest;
            bytes_are = c.bytes_are;
            from = c.from;
            to = c.to;
            long = c.long;
            mid = c.mid;
            others = c.others;
            read = c.read;
            order = c.order;
            starts = c.starts;
            closed = c.closed;
            head = c.head;
            tail = c.tail;
            later = more ++ (head ∷ (tail ++ after));
            tokens_are = ap (λ (us : List Token). us ++ (head ∷ (tail ++ after))) is ∙ (append_assoc c.mid (c.head ∷ (c.tail ++ more)) (head ∷ (tail ++ after)) ∙ ap (λ (us : List Token). c.mid ++ (c.head ∷ us)) (append_assoc c.tail more (head ∷ (tail ++ after))));
            given = c.given;
            text = c.text;
            text_closed = c.text_closed;
            text_ends = c.text_ends;
            same = c.same;
            behind = c.behind;
            before = c.before;
            short = c.short;
            marked = c.marked;
          },
          r.laid,
        )

    abbrev Again : Type 0
    Again = (more : List Token) → c.later ≡ more ++ (u ∷ (rest ++ after)) → AreClosed more → Goal (place_after p (c.front ++ c.old)) c.rest xs more

    in_tail : Again → (more : List Token) → before ≡ c.mid ++ (c.head ∷ more) → Split c.tail c.later more u (rest ++ after) → Goal p bytes (x ∷ xs) before
    in_tail again more is (inside others t) g = absurd (lined (inner_is IsMarked more u others (subst (AllByRecursion IsMarked) t c.marked)).0)
    in_tail again more is (beyond others t later) g =
        let whole : before ≡ c.mid ++ (c.head ∷ (c.tail ++ others)) = is ∙ ap (λ (us : List Token). c.mid ++ (c.head ∷ us)) t in
        let shut : AreClosed others = closed_after (c.mid ++ (c.head ∷ c.tail)) others (subst AreClosed (whole ∙ sym (append_assoc c.mid (c.head ∷ c.tail) others)) closed) in
        let far : (place_after p (c.front ++ c.old)).index ≤ u.span.start = token_from (place_after p (c.front ++ c.old)) c.rest xs c.later h.1 others u (rest ++ after) lined later in
        put_later others whole (omega (arith, there, far)) (again others later shut) g

    at_head : Again → (more : List Token) → before ≡ c.mid ++ more → c.head ∷ (c.tail ++ c.later) ≡ more ++ (u ∷ (rest ++ after)) → Goal p bytes (x ∷ xs) before
    at_head again [] is e g = let same : c.head ≡ u = cc in put_at (is ∙ append-nil c.mid) (sym same) g
    at_head again (m ∷ more) is e g =
        let same : c.head ≡ m = cc in
        let others : c.tail ++ c.later ≡ more ++ (u ∷ (rest ++ after)) = cc in
        in_tail again more (is ∙ ap (λ (t : Token). c.mid ++ (t ∷ more)) (sym same)) (split c.tail c.later more u (rest ++ after) others) g

    in_mid : Again → Split c.mid (c.head ∷ (c.tail ++ c.later)) before u (rest ++ after) → Goal p bytes (x ∷ xs) before
    in_mid again (inside more is) g = put_before more is g
    in_mid again (beyond more is others) g = at_head again more is others g

  pub put : (p : Place) (bytes : List ℕ) (xs : List Patched) (ts before : List Token) → Laid p bytes xs ts → ts ≡ before ++ (u ∷ (rest ++ after)) → AreClosed before → EndBefore to xs → Goal p bytes xs before
  put p bytes [] ts before h e closed few g = put_first p bytes ts before h e closed g
  put p bytes (x ∷ xs) ts before h e closed few g =
      in_mid p bytes x xs ts before h e closed few
      (λ more later shut. put (place_after p (h.0.front ++ h.0.old)) h.0.rest xs h.0.later more h.1 later shut few.1)
      (split h.0.mid (h.0.head ∷ (h.0.tail ++ h.0.later)) before u (rest ++ after) (sym h.0.tokens_are ∙ e)) g

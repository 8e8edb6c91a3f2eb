-- The grammar of queries: the tokens of each part, split into those of its parts.
use Rattle.std.specs.Prelude.{◌≡◌, ℕ, zero, suc, ℤ, pos, negsuc, Bool, true, false, List, [], ◌∷◌, ◌++◌, codes}
use Rattle.std.specs.Str.{str_eq_ignore_ascii_case}
use Rattle.std.specs.Str.Parse.{digits_value}
use Rattle.std.specs.declared.option.Option.{Option}
use Rattle.std.specs.declared.option.Option.TheVariants.{Some, None}
use Rattle.qbs_base.specs.declared.scalar.Scalar.TheVariants as scalars
use Rattle.qbs_base.specs.Values.{fits_long}
use Rattle.sql_ast.specs.declared.tree.Cmp.{Cmp}
use Rattle.sql_ast.specs.Tokens.{Token, Word, Digits, Negative, Quoted, Param, Test, Open, Close, Comma, Dot, Star, is_free}
use Rattle.sql_ast.specs.Written.{WrittenCol, WrittenPart, WrittenOpnd, WrittenCondition, Both, Either, Not, Compare, Bare, Exists, Within, WrittenFilter, Everything, Where, WrittenItem, WrittenKey, WrittenKind, Count, Sum, Max, Min, WrittenListing, WrittenNumber, WrittenTruth, WrittenQuery, Listing, Number, Truth}
use Rattle.sql_ast.specs.Written as written

-- the token is that keyword, in any letter case
pub data Is (keyword : List ℕ) : Token → Type 0 where
  spelled : {bs : List ℕ} → str_eq_ignore_ascii_case bs keyword ≡ true → Is keyword (Word bs)

-- a column with or without an alias
pub data HasCol : List Token → WrittenCol → Type 0 where
  plain_col : {name : List ℕ} → is_free name ≡ true → HasCol (Word name ∷ []) (record { alias = None; name = name })
  dotted_col : {alias name : List ℕ} → is_free alias ≡ true → is_free name ≡ true → HasCol (Word alias ∷ Dot ∷ Word name ∷ []) (record { alias = Some alias; name = name })

abbrev pub negated : ℕ → ℤ
negated zero = pos zero
negated (suc n) = negsuc n

-- a number within 64 bits
pub data HasLong : Token → ℤ → Type 0 where
  positive_long : {bs : List ℕ} → fits_long (pos (digits_value 10 bs)) ≡ true → HasLong (Digits bs) (pos (digits_value 10 bs))
  negative_long : {bs : List ℕ} → fits_long (negated (digits_value 10 bs)) ≡ true → HasLong (Negative bs) (negated (digits_value 10 bs))

pub data HasOpnd : List Token → WrittenOpnd → Type 0 where
  col_opnd : {ts : List Token} {col : WrittenCol} → HasCol ts col → HasOpnd ts (written.Column col)
  long_opnd : {t : Token} {n : ℤ} → HasLong t n → HasOpnd (t ∷ []) (written.Lit (scalars.Long n))
  text_opnd : {text : List ℕ} → HasOpnd (Quoted text ∷ []) (written.Lit (scalars.Text text))
  true_opnd : {t : Token} → Is (codes "TRUE") t → HasOpnd (t ∷ []) (written.Lit (scalars.Bool true))
  false_opnd : {t : Token} → Is (codes "FALSE") t → HasOpnd (t ∷ []) (written.Lit (scalars.Bool false))
  param_opnd : {n : ℕ} → HasOpnd (Param n ∷ []) (written.Param n)

-- a table with or without an alias
pub data HasPart : List Token → WrittenPart → Type 0 where
  plain_part : {table : List ℕ} → is_free table ≡ true → HasPart (Word table ∷ []) (record { table = table; alias = None })
  alias_part : {table alias : List ℕ} → is_free table ≡ true → is_free alias ≡ true → HasPart (Word table ∷ Word alias ∷ []) (record { table = table; alias = Some alias })
  as_part : {table alias : List ℕ} {t : Token} → is_free table ≡ true → Is (codes "AS") t → is_free alias ≡ true → HasPart (Word table ∷ t ∷ Word alias ∷ []) (record { table = table; alias = Some alias })

pub data HasParts : List Token → List WrittenPart → Type 0 where
  last_part : {ts : List Token} {part : WrittenPart} → HasPart ts part → HasParts ts (part ∷ [])
  more_parts : {us vs : List Token} {part : WrittenPart} {parts : List WrittenPart} → HasPart us part → HasParts vs parts → HasParts (us ++ Comma ∷ vs) (part ∷ parts)

-- IN and NOT IN
pub data HasIn : List Token → Bool → Type 0 where
  is_in : {t : Token} → Is (codes "IN") t → HasIn (t ∷ []) false
  not_in : {n t : Token} → Is (codes "NOT") n → Is (codes "IN") t → HasIn (n ∷ t ∷ []) true

-- conditions, from the loosest to the tightest: OR and AND associate to the left, and NOT binds
-- tighter than both
mutual
  pub data HasCondition : List Token → WrittenCondition → Type 0 where
    one_conjunction : {ts : List Token} {a : WrittenCondition} → HasConjunction ts a → HasCondition ts a
    either : {us vs : List Token} {t : Token} {a b : WrittenCondition} → HasCondition us a → Is (codes "OR") t → HasConjunction vs b → HasCondition (us ++ t ∷ vs) (Either a b)

  pub data HasConjunction : List Token → WrittenCondition → Type 0 where
    one_negation : {ts : List Token} {a : WrittenCondition} → HasNegation ts a → HasConjunction ts a
    both : {us vs : List Token} {t : Token} {a b : WrittenCondition} → HasConjunction us a → Is (codes "AND") t → HasNegation vs b → HasConjunction (us ++ t ∷ vs) (Both a b)

  pub data HasNegation : List Token → WrittenCondition → Type 0 where
    one_atom : {ts : List Token} {a : WrittenCondition} → HasAtom ts a → HasNegation ts a
    negation : {t : Token} {ts : List Token} {a : WrittenCondition} → Is (codes "NOT") t → HasNegation ts a → HasNegation (t ∷ ts) (Not a)

  pub data HasAtom : List Token → WrittenCondition → Type 0 where
    enclosed : {ts : List Token} {a : WrittenCondition} → HasCondition ts a → HasAtom (Open ∷ ts ++ Close ∷ []) a
    comparison : {us vs : List Token} {cmp : Cmp} {a b : WrittenOpnd} → HasOpnd us a → HasOpnd vs b → HasAtom (us ++ Test cmp ∷ vs) (Compare cmp a b)
    bare : {ts : List Token} {col : WrittenCol} → HasCol ts col → HasAtom ts (Bare col)
    exists : {e s : Token} {ts : List Token} {parts : List WrittenPart} {where_ : WrittenFilter} → Is (codes "EXISTS") e → Is (codes "SELECT") s → HasSource ts parts where_ → HasAtom (e ∷ Open ∷ s ∷ Digits (codes "1") ∷ ts ++ Close ∷ []) (Exists parts where_)
    within : {us ins cs ts : List Token} {s : Token} {opnd : WrittenOpnd} {negated : Bool} {col : WrittenCol} {parts : List WrittenPart} {where_ : WrittenFilter} → HasOpnd us opnd → HasIn ins negated → Is (codes "SELECT") s → HasCol cs col → HasSource ts parts where_ → HasAtom (us ++ (ins ++ Open ∷ s ∷ (cs ++ (ts ++ Close ∷ [])))) (Within opnd negated col parts where_)

  -- FROM, and WHERE or none
  pub data HasSource : List Token → List WrittenPart → WrittenFilter → Type 0 where
    source : {f : Token} {us vs : List Token} {parts : List WrittenPart} {where_ : WrittenFilter} → Is (codes "FROM") f → HasParts us parts → HasWhere vs where_ → HasSource (f ∷ us ++ vs) parts where_

  pub data HasWhere : List Token → WrittenFilter → Type 0 where
    no_where : HasWhere [] Everything
    where_of : {w : Token} {ts : List Token} {a : WrittenCondition} → Is (codes "WHERE") w → HasCondition ts a → HasWhere (w ∷ ts) (Where a)

pub data HasItem : List Token → WrittenItem → Type 0 where
  whole : HasItem (Star ∷ []) (written.Whole None)
  whole_of : {alias : List ℕ} → is_free alias ≡ true → HasItem (Word alias ∷ Dot ∷ Star ∷ []) (written.Whole (Some alias))
  col_item : {ts : List Token} {col : WrittenCol} → HasCol ts col → HasItem ts (written.Column col)

pub data HasGroup : List Token → Option WrittenCol → Type 0 where
  no_group : HasGroup [] None
  group_by : {g b : Token} {ts : List Token} {col : WrittenCol} → Is (codes "GROUP") g → Is (codes "BY") b → HasCol ts col → HasGroup (g ∷ b ∷ ts) (Some col)

pub data HasKey : List Token → WrittenKey → Type 0 where
  up : {ts : List Token} {col : WrittenCol} → HasCol ts col → HasKey ts (record { least = false; col = col; down = false })
  ascending : {ts : List Token} {t : Token} {col : WrittenCol} → HasCol ts col → Is (codes "ASC") t → HasKey (ts ++ t ∷ []) (record { least = false; col = col; down = false })
  descending : {ts : List Token} {t : Token} {col : WrittenCol} → HasCol ts col → Is (codes "DESC") t → HasKey (ts ++ t ∷ []) (record { least = false; col = col; down = true })
  least_key : {m : Token} {ts : List Token} {col : WrittenCol} → Is (codes "MIN") m → HasCol ts col → HasKey (m ∷ Open ∷ ts ++ Close ∷ []) (record { least = true; col = col; down = false })

pub data HasKeys : List Token → List WrittenKey → Type 0 where
  last_key : {ts : List Token} {key : WrittenKey} → HasKey ts key → HasKeys ts (key ∷ [])
  more_keys : {us vs : List Token} {key : WrittenKey} {keys : List WrittenKey} → HasKey us key → HasKeys vs keys → HasKeys (us ++ Comma ∷ vs) (key ∷ keys)

pub data HasOrder : List Token → List WrittenKey → Type 0 where
  no_order : HasOrder [] []
  order_by : {o b : Token} {ts : List Token} {keys : List WrittenKey} → Is (codes "ORDER") o → Is (codes "BY") b → HasKeys ts keys → HasOrder (o ∷ b ∷ ts) keys

pub data HasLimit : List Token → Option ℕ → Type 0 where
  no_limit : HasLimit [] None
  limited : {l : Token} {bs : List ℕ} → Is (codes "LIMIT") l → fits_long (pos (digits_value 10 bs)) ≡ true → HasLimit (l ∷ Digits bs ∷ []) (Some (digits_value 10 bs))

-- the name of a total, and what it makes of the column and the number over no rows
pub data HasTotal : Token → (WrittenCol → ℤ → WrittenKind) → Type 0 where
  greatest : {t : Token} → Is (codes "MAX") t → HasTotal t Max
  least : {t : Token} → Is (codes "MIN") t → HasTotal t Min

-- what a number query counts, and its FROM and WHERE; COUNT and SUM have one FROM item
pub data HasCounted : List Token → WrittenNumber → Type 0 where
  count : {c : Token} {ts : List Token} {part : WrittenPart} {where_ : WrittenFilter} → Is (codes "COUNT") c → HasSource ts (part ∷ []) where_ → HasCounted (c ∷ Open ∷ Star ∷ Close ∷ ts) (record { kind = Count; from = part ∷ []; filter = where_ })
  sum : {c s t : Token} {cs ts : List Token} {col : WrittenCol} {n : ℤ} {part : WrittenPart} {where_ : WrittenFilter} → Is (codes "COALESCE") c → Is (codes "SUM") s → HasCol cs col → HasLong t n → HasSource ts (part ∷ []) where_ → HasCounted (c ∷ Open ∷ s ∷ Open ∷ (cs ++ Close ∷ Comma ∷ t ∷ Close ∷ ts)) (record { kind = Sum col n; from = part ∷ []; filter = where_ })
  best : {c s t : Token} {cs ts : List Token} {make : WrittenCol → ℤ → WrittenKind} {col : WrittenCol} {n : ℤ} {parts : List WrittenPart} {where_ : WrittenFilter} → Is (codes "COALESCE") c → HasTotal s make → HasCol cs col → HasLong t n → HasSource ts parts where_ → HasCounted (c ∷ Open ∷ s ∷ Open ∷ (cs ++ Close ∷ Comma ∷ t ∷ Close ∷ ts)) (record { kind = make col n; from = parts; filter = where_ })

-- EXISTS and NOT EXISTS
pub data HasExists : List Token → Bool → Type 0 where
  is_some : {e : Token} → Is (codes "EXISTS") e → HasExists (e ∷ []) false
  is_none : {n e : Token} → Is (codes "NOT") n → Is (codes "EXISTS") e → HasExists (n ∷ e ∷ []) true

pub data HasWritten : List Token → WrittenQuery → Type 0 where
  listing : {s : Token} {is ts gs os ls : List Token} {item : WrittenItem} {parts : List WrittenPart} {where_ : WrittenFilter} {group : Option WrittenCol} {keys : List WrittenKey} {limit : Option ℕ} → Is (codes "SELECT") s → HasItem is item → HasSource ts parts where_ → HasGroup gs group → HasOrder os keys → HasLimit ls limit → HasWritten (s ∷ is ++ (ts ++ (gs ++ (os ++ ls)))) (Listing (record { item = item; from = parts; filter = where_; group = group; keys = keys; limit = limit }))
  number : {s : Token} {ts : List Token} {q : WrittenNumber} → Is (codes "SELECT") s → HasCounted ts q → HasWritten (s ∷ ts) (Number q)
  truth : {s i : Token} {es ts : List Token} {negated : Bool} {parts : List WrittenPart} {where_ : WrittenFilter} → Is (codes "SELECT") s → HasExists es negated → Is (codes "SELECT") i → HasSource ts parts where_ → HasWritten (s ∷ es ++ Open ∷ i ∷ Digits (codes "1") ∷ ts ++ Close ∷ []) (Truth (record { negated = negated; from = parts; filter = where_ }))

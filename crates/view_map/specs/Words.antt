-- Names and words among the items of a map.
use Rattle.std.specs.Prelude.{ℕ, Bool, true, false, ◌&&◌, ◌||◌, ◌==◌, not, List, [], ◌∷◌, codes, if◌then◌else◌}
use Rattle.std.specs.Str.{bytes_eq}
use Rattle.std.specs.List.{list_all}
use Rattle.std.specs.declared.option.Option.{Option}
use Rattle.std.specs.declared.option.Option.TheVariants.{Some, None}
use Rattle.qbs_base.specs.Bytes.{is_name_part}
use Rattle.qbs_base.specs.declared.scalar.Ty.{Ty}
use Rattle.qbs_base.specs.declared.scalar.Ty.TheVariants as tys
use Rattle.java_words.specs.Words.{is_among}
use Rattle.view_items.specs.declared.item.ItemKind.{ItemKind}
use Rattle.view_items.specs.declared.item.ItemKind.TheVariants as kinds
use Rattle.view_items.specs.declared.item.Item.{Item}
use Rattle.view_map.specs.declared.model.ScalarKind.{ScalarKind}
use Rattle.view_map.specs.declared.model.ScalarKind.TheVariants as scalars
use Rattle.view_map.specs.declared.model.ScalarType.{ScalarType}

abbrev pub is_name_kind : ItemKind → Bool
is_name_kind kinds.Name = true
is_name_kind _ = false

abbrev pub is_number_kind : ItemKind → Bool
is_number_kind kinds.Number = true
is_number_kind _ = false

abbrev pub is_text_kind : ItemKind → Bool
is_text_kind kinds.Text = true
is_text_kind _ = false

-- a text, a character, a number or a block of text
abbrev pub is_literal_kind : ItemKind → Bool
is_literal_kind kinds.Name = false
is_literal_kind kinds.Sign = false
is_literal_kind _ = true

-- these bytes are the item
abbrev pub is_spelled : List ℕ → Item → Bool
is_spelled word i = bytes_eq i.bytes word

-- ---- Names

-- a letter, a digit, `_` or `$`
abbrev pub is_plain_byte : ℕ → Bool
is_plain_byte b = is_name_part b || (b == 36)

abbrev pub are_plain : List ℕ → Bool
are_plain bs = list_all is_plain_byte bs

-- a name of such bytes alone
abbrev pub is_plain : Item → Bool
is_plain i = is_name_kind i.kind && are_plain i.bytes

-- the words of Java that are no names
abbrev pub java_keywords : List (List ℕ)
java_keywords =
    codes "abstract" ∷ codes "assert" ∷ codes "boolean" ∷ codes "break" ∷ codes "byte" ∷ codes "case" ∷ codes "catch" ∷ codes "char" ∷ codes "class"
    ∷ codes "const" ∷ codes "continue" ∷ codes "default" ∷ codes "do" ∷ codes "double" ∷ codes "else" ∷ codes "enum" ∷ codes "extends" ∷ codes "false"
    ∷ codes "final" ∷ codes "finally" ∷ codes "float" ∷ codes "for" ∷ codes "goto" ∷ codes "if" ∷ codes "implements" ∷ codes "import"
    ∷ codes "instanceof" ∷ codes "int" ∷ codes "interface" ∷ codes "long" ∷ codes "native" ∷ codes "new" ∷ codes "null" ∷ codes "package"
    ∷ codes "private" ∷ codes "protected" ∷ codes "public" ∷ codes "return" ∷ codes "short" ∷ codes "static" ∷ codes "strictfp" ∷ codes "super"
    ∷ codes "switch" ∷ codes "synchronized" ∷ codes "this" ∷ codes "throw" ∷ codes "throws" ∷ codes "transient" ∷ codes "true" ∷ codes "try"
    ∷ codes "void" ∷ codes "volatile" ∷ codes "while" ∷ codes "_" ∷ []

abbrev pub is_keyword : List ℕ → Bool
is_keyword name = is_among name java_keywords

-- ---- Types

abbrev pub scalar_type : ScalarKind → Bool → ScalarType
scalar_type kind boxed = record { kind = kind; boxed = boxed }

-- the type that a word spells
abbrev pub type_of : List ℕ → Option ScalarType
type_of w =
    if bytes_eq w (codes "int") then Some (scalar_type scalars.Int false)
    else (if bytes_eq w (codes "long") then Some (scalar_type scalars.Long false)
    else (if bytes_eq w (codes "boolean") then Some (scalar_type scalars.Boolean false)
    else (if bytes_eq w (codes "Integer") then Some (scalar_type scalars.Int true)
    else (if bytes_eq w (codes "Long") then Some (scalar_type scalars.Long true)
    else (if bytes_eq w (codes "Boolean") then Some (scalar_type scalars.Boolean true)
    else (if bytes_eq w (codes "String") then Some (scalar_type scalars.Text true) else None))))))

abbrev pub is_text : ScalarKind → Bool
is_text scalars.Text = true
is_text _ = false

-- a primitive type, or `String`
abbrev pub is_constant_type : ScalarType → Bool
is_constant_type t = not t.boxed || is_text t.kind

-- a Java type is one of a column's: whole numbers `int` and `long`, truth values `boolean`, texts `String`, boxed or not
abbrev pub fits_column : ScalarKind → Ty → Bool
fits_column scalars.Int tys.Long = true
fits_column scalars.Long tys.Long = true
fits_column scalars.Boolean tys.Bool = true
fits_column scalars.Text tys.Text = true
fits_column _ _ = false

-- a type that a literal of this type may be assigned to
abbrev pub fits_literal : ScalarKind → ScalarKind → Bool
fits_literal scalars.Int scalars.Int = true
fits_literal scalars.Long scalars.Int = true
fits_literal scalars.Long scalars.Long = true
fits_literal scalars.Boolean scalars.Boolean = true
fits_literal scalars.Text scalars.Text = true
fits_literal _ _ = false

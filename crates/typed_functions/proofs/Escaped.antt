-- The text of an escape sequence's typed value reads back, and no two sequences have one value.
use Rattle.std.proofs.Common.{ℕ, ◌≡◌, ◌≢◌, ◌+◌, ◌-◌, ◌*◌, ◌/◌, ◌%◌, ◌<◌, ◌==◌, Bool, true, false, nat_le, zero, suc, if◌then◌else◌, List, [], ◌∷◌, length, map, get_or, Option, Some, None, Result, Ok, Err}
use Rattle.std.proofs.Common.{refl, ap, sym, ◌∙◌, arith, zero-add}
use Rattle.std.specs.List.{range_with_len}
use Rattle.std.proofs.lemmas.List.{get_or-map}
use Rattle.std.proofs.lemmas.List.FromFn.{get_or-range_with_len, get_or-map-range_with_len}
use Rattle.std.proofs.lemmas.Bool.{eqb-true, lt-leb, le-leb}
use denote.Enum.Bare.{tag_one}
use denote.Enum.Declared.{variants}
use denote.Enum.Enum.{tag_below}
use Rattle.control_functions.specs.declared.escape_function.EscapeFunction.{EscapeFunction}
use Rattle.control_functions.specs.declared.escape_function.EscapeFunction.TheVariants as functions
use Rattle.control_functions.specs.contracts.escape_function.EscapeFunction.{the_type as function_type}
use Rattle.control_functions.specs.Escapes.{designates, function_of, key_of, rows_of, sequence_key, two_key, place as function_place}
use Rattle.control_functions.proofs.Escapes.{found_by_key, has_its_key, below as function_below}
use Rattle.typed_functions.specs.declared.escape.Escape.{Escape}
use Rattle.typed_functions.specs.declared.escape_table.TheConstants.{ESCAPES, FUNCTIONS}
use Rattle.typed_functions.specs.contracts.escape.Escape.{the_type}
use Rattle.typed_functions.specs.declared.charset.Charset.{Charset}
use Rattle.typed_functions.specs.declared.charset.Charset.TheVariants as charsets
use Rattle.typed_functions.specs.declared.charset94.Charset94.{Charset94}
use Rattle.typed_functions.specs.declared.charset94.Charset94.TheVariants as of94
use Rattle.typed_functions.specs.declared.charset96.Charset96.{Charset96}
use Rattle.typed_functions.specs.declared.charset96.Charset96.TheVariants as of96
use Rattle.typed_functions.specs.declared.multibyte_charset.MultibyteCharset.{MultibyteCharset}
use Rattle.typed_functions.specs.declared.multibyte_charset.MultibyteCharset.TheVariants as multibyte
use Rattle.typed_functions.specs.declared.pair_charset.PairCharset.{PairCharset}
use Rattle.typed_functions.specs.declared.pair_charset.PairCharset.TheVariants as pair
use Rattle.typed_functions.specs.declared.unfit.Unfit.{Unfit}
use Rattle.std.specs.Option.{option_map}
use Rattle.typed_functions.specs.Arguments.{in_range}
use Rattle.typed_functions.specs.Charsets.{charset94_at, charset94_byte, charset96_at, charset96_byte, charset_bytes, is_short, multibyte_at, multibyte_byte, pair_at, pair_first, pair_last}
use Rattle.typed_functions.specs.Escapes.{AreBytes, bytes_of_key, charset_by_final, designated_by_two, escape_bytes, escape_of, function_for, of_bytes, of_function, of_intermediates, of_two, place, set_of, escape_value}
use Rattle.typed_functions.specs.Functions.{charset, escape}

pub below : (e : Escape) → place e < 59
unfolding place
below e = tag_below (variants the_type) (the_type.to e)

same_at : {A : Type 0} (xs : List A) (i : ℕ) (c d : A) → i < length xs
    → get_or xs i c ≡ get_or xs i d
same_at [] i c d lt = absurd (omega (arith, lt))
same_at (x ∷ xs) zero c d lt = refl
same_at (x ∷ xs) (suc i) c d lt = same_at xs i c d (omega (arith, lt))

-- a fact about each function of the table is one about a value's function
fact : {A : Type 0} (g h : EscapeFunction → A) → map g FUNCTIONS ≡ map h FUNCTIONS
    → (e : Escape) → g (function_for e) ≡ h (function_for e)
unfolding function_for
fact g h q e =
    sym (get_or-map g FUNCTIONS (place e) functions.ST (g functions.ST) (below e))
    ∙ ap (λ t. get_or t (place e) (g functions.ST)) q
    ∙ get_or-map h FUNCTIONS (place e) functions.ST (g functions.ST) (below e)

-- the entry of the tables at a place, whatever they have past their ends
pub function_at : (e : Escape) (d : EscapeFunction) → get_or FUNCTIONS (place e) d ≡ function_for e
unfolding function_for
function_at e d = same_at FUNCTIONS (place e) d functions.ST (below e)

pub escape_at : (f : EscapeFunction) (d : Option Escape)
    → get_or ESCAPES (function_place f) d ≡ escape_of f
unfolding escape_of
escape_at f d = same_at ESCAPES (function_place f) d None (function_below f)

-- ---- the two tables agree

place_or : Option Escape → ℕ
place_or None = 59
place_or (Some e) = place e

-- the values of the functions are in the order of the variants
in_order : map (λ f. place_or (escape_of f)) FUNCTIONS ≡ range_with_len 0 59
unfolding place escape_of function_place place_or
in_order = refl

same_place : (o : Option Escape) (e : Escape) → place_or o ≡ place e → o ≡ Some e
unfolding place place_or
same_place None e h = absurd (omega (arith, h, below e))
same_place (Some d) e h = ap Some (tag_one the_type tt _ _ h)

found : (e : Escape) → escape_of (function_for e) ≡ Some e
unfolding function_for
found e =
    same_place (escape_of (function_for e)) e
    (sym (get_or-map (λ f. place_or (escape_of f)) FUNCTIONS (place e) functions.ST 0 (below e))
    ∙ ap (λ t. get_or t (place e) 0) in_order ∙ get_or-range_with_len 0 59 (place e) 0 (below e)
    ∙ zero-add (place e))

-- the value at a place is that of the function of this place
is_at : ℕ → Option Escape → Bool
is_at i None = true
is_at i (Some e) = function_place (function_for e) == i

all_at : map (λ i. is_at i (get_or ESCAPES i None)) (range_with_len 0 85)
    ≡ map (λ i. true) (range_with_len 0 85)
unfolding is_at function_place function_for place
all_at = refl

at : (i : ℕ) → i < 85 → is_at i (get_or ESCAPES i None) ≡ true
at i lt =
    sym (get_or-map-range_with_len (λ j. is_at j (get_or ESCAPES j None)) 0 85 i i false lt
    (omega arith))
    ∙ ap (λ t. get_or t i false) all_at
    ∙ get_or-map-range_with_len (λ j. true) 0 85 i i false lt (omega arith)

of_itself : (f : EscapeFunction) (e : Escape) → escape_of f ≡ Some e → function_for e ≡ f
unfolding escape_of is_at function_place
of_itself f e h =
    tag_one function_type tt _ _
    (eqb-true (function_place (function_for e)) (function_place f)
    (ap (is_at (function_place f)) (sym h) ∙ at (function_place f) (function_below f)))

-- ---- escape sequences

keys_back :
    map (λ f. sequence_key (bytes_of_key (key_of f)).0 (bytes_of_key (key_of f)).1) FUNCTIONS
    ≡ map key_of FUNCTIONS
unfolding key_of function_place
keys_back = refl

pub escape_back : (e : Escape) → of_bytes (escape_bytes e).0 (escape_bytes e).1 ≡ escape e
escape_back e =
    let f = function_for e in
    let b = (escape_bytes e).1 in
    ap (λ k. of_function (function_of k) b)
    (fact (λ f. sequence_key (bytes_of_key (key_of f)).0 (bytes_of_key (key_of f)).1) key_of
    keys_back e)
    ∙ ap (λ o. of_function o b) (found_by_key f)
    ∙ ap (λ o. escape_value o f b) (found e)

no_set : (r : Result Charset Unfit) (e : Escape) → set_of r ≢ escape e
no_set (Ok c) e h = cc
no_set (Err u) e h = cc

has_value : (o : Option Escape) (f : EscapeFunction) (b : ℕ) (e : Escape)
    → escape_value o f b ≡ escape e → o ≡ Some e
has_value None f b e h = absurd (no_set (charset_by_final f b) e h)
has_value (Some d) f b e h = cc

its_key : (o : Option EscapeFunction) (k b : ℕ) (e : Escape) → function_of k ≡ o
    → of_function o b ≡ escape e → key_of (function_for e) ≡ k
its_key None k b e found h = absurd (let no : of_function None b ≡ escape e = h in cc)
its_key (Some f) k b e found h =
    ap key_of (of_itself f e (has_value (escape_of f) f b e h)) ∙ has_its_key k f found

-- no key of the table is that of a designation
none_designates : map (λ f. designates (key_of f - 256)) FUNCTIONS ≡ map (λ f. false) FUNCTIONS
unfolding key_of function_place
none_designates = refl

bytes_by : (i b : ℕ) (t : Bool) → designates i ≡ t → i < 256 → b < 256 → (e : Escape)
    → key_of (function_for e) ≡ sequence_key (Some i) b
    → bytes_of_key (sequence_key (Some i) b) ≡ (Some i, b)
bytes_by i b true d ib bb e h =
    let it : sequence_key (Some i) b ≡ 256 + i = rw d refl in
    let less : key_of (function_for e) - 256 ≡ i = omega (arith, h, it) in
    let no = fact (λ f. designates (key_of f - 256)) (λ f. false) none_designates e in
    absurd (let wrong : true ≡ false = sym d ∙ ap designates (sym less) ∙ no in cc)
bytes_by i b false d ib bb e h =
    let k = (256 + i) * 256 + b in
    let it : sequence_key (Some i) b ≡ k = rw d refl in
    let high : nat_le 0x1_0000 k ≡ true = le-leb 0x1_0000 k (omega arith) in
    let first : k / 256 % 256 ≡ i = omega (arith, ib, bb) in
    let last : k % 256 ≡ b = omega (arith, bb) in
    ap bytes_of_key it ∙ rw (high, first, last) refl

bytes_back : (i : Option ℕ) (b : ℕ) (e : Escape) → AreBytes i b
    → key_of (function_for e) ≡ sequence_key i b → bytes_of_key (sequence_key i b) ≡ (i, b)
bytes_back None b e h k =
    let low : nat_le 0x1_0000 (256 + b) ≡ false = lt-leb 0x1_0000 (256 + b) (omega (arith, h)) in
    let last : (256 + b) % 256 ≡ b = omega (arith, h) in
    rw (low, last) refl
bytes_back (Some i) b e h k = bytes_by i b (designates i) refl h.0 h.1 e k

pub escape_is_its_own : (i : Option ℕ) (b : ℕ) (e : Escape) → AreBytes i b
    → of_bytes i b ≡ escape e → escape_bytes e ≡ (i, b)
escape_is_its_own i b e h g =
    let k = its_key (function_of (sequence_key i b)) (sequence_key i b) b e refl g in
    ap bytes_of_key k ∙ bytes_back i b e h k

-- ---- character sets

charset94_back : (c : Charset94) → charset94_at (charset94_byte c) ≡ Some c
charset94_back of94.Ascii = refl
charset94_back of94.UnitedKingdom = refl
charset94_back of94.DecSpecialGraphics = refl
charset94_back of94.DecSupplemental = refl
charset94_back of94.DecTechnical = refl
charset94_back of94.AlternateRom = refl
charset94_back of94.AlternateRomGraphics = refl
charset94_back of94.Finnish = refl
charset94_back of94.Finnish5 = refl
charset94_back of94.Swedish = refl
charset94_back of94.Swedish7 = refl
charset94_back of94.German = refl
charset94_back of94.FrenchCanadian = refl
charset94_back of94.FrenchCanadian9 = refl
charset94_back of94.French = refl
charset94_back of94.FrenchF = refl
charset94_back of94.Italian = refl
charset94_back of94.Spanish = refl
charset94_back of94.Dutch = refl
charset94_back of94.Swiss = refl
charset94_back of94.NorwegianDanish = refl
charset94_back of94.NorwegianDanishE = refl
charset94_back of94.NorwegianDanish6 = refl
charset94_back of94.JisKatakana = refl
charset94_back of94.JisRoman = refl

charset96_back : (c : Charset96) → charset96_at (charset96_byte c) ≡ Some c
charset96_back of96.Latin1 = refl
charset96_back of96.Latin2 = refl
charset96_back of96.Latin3 = refl
charset96_back of96.Latin4 = refl
charset96_back of96.Greek = refl
charset96_back of96.Arabic = refl
charset96_back of96.Hebrew = refl
charset96_back of96.Cyrillic = refl
charset96_back of96.Latin5 = refl

multibyte_back : (c : MultibyteCharset) → multibyte_at (multibyte_byte c) ≡ Some c
multibyte_back multibyte.Jis1978 = refl
multibyte_back multibyte.Gb2312 = refl
multibyte_back multibyte.Jis1983 = refl
multibyte_back multibyte.KsX1001 = refl
multibyte_back multibyte.JisX0212 = refl
multibyte_back multibyte.IsoIr165 = refl
multibyte_back multibyte.Cns1 = refl
multibyte_back multibyte.Cns2 = refl
multibyte_back multibyte.Cns3 = refl
multibyte_back multibyte.Cns4 = refl
multibyte_back multibyte.Cns5 = refl
multibyte_back multibyte.Cns6 = refl
multibyte_back multibyte.Cns7 = refl
multibyte_back multibyte.JisX0213Plane1 = refl
multibyte_back multibyte.JisX0213Plane2 = refl
multibyte_back multibyte.JisX0213Of2004 = refl

pair_back : (c : PairCharset) → pair_at (pair_first c) (pair_last c) ≡ Some c
pair_back pair.Greek = refl
pair_back pair.DecHebrew = refl
pair_back pair.DecGreek = refl
pair_back pair.DecTurkish = refl
pair_back pair.Turkish = refl
pair_back pair.Scs = refl
pair_back pair.DecSupplementalGraphics = refl
pair_back pair.Portuguese = refl
pair_back pair.Hebrew = refl
pair_back pair.DecCyrillic = refl
pair_back pair.DecRussian = refl

-- a designation is found, and has no other value
set_back : (f : EscapeFunction) (i b : ℕ) (c : Charset)
    → function_of (sequence_key (Some i) b) ≡ Some f → escape_of f ≡ None
    → charset_by_final f b ≡ Ok c → of_bytes (Some i) b ≡ charset c
set_back f i b c found none set =
    ap (λ o. of_function o b) found ∙ ap (λ o. escape_value o f b) none ∙ ap set_of set

two_back : (f : EscapeFunction) (i j b : ℕ) (c : Charset) → function_of (two_key i j) ≡ Some f
    → designated_by_two f j b ≡ Ok c → of_intermediates (i ∷ j ∷ []) b ≡ charset c
two_back f i j b c found set = ap (λ o. of_two o j b) found ∙ ap set_of set

as_g0 : (c : MultibyteCharset) (short : Bool) → is_short c ≡ short
    → of_intermediates (0x24 ∷ (if short then [] else 0x28 ∷ [])) (multibyte_byte c)
    ≡ charset (charsets.G0Multibyte c)
unfolding escape_of function_place function_of rows_of
as_g0 c true h =
    set_back functions.GZDM4 0x24 (multibyte_byte c) (charsets.G0Multibyte c) refl refl
    (ap (λ s. in_range (option_map charsets.G0Multibyte
    (if s then multibyte_at (multibyte_byte c) else None))) h
    ∙ ap (λ o. in_range (option_map charsets.G0Multibyte o)) (multibyte_back c))
as_g0 c false h =
    two_back functions.GZDM4_LONG 0x24 0x28 (multibyte_byte c) (charsets.G0Multibyte c) refl
    (ap (λ o. in_range (option_map charsets.G0Multibyte o)) (multibyte_back c))

pub charset_back : (c : Charset)
    → of_intermediates (charset_bytes c).0 (charset_bytes c).1 ≡ charset c
unfolding escape_of function_place function_of rows_of
charset_back (charsets.G0 c) =
    set_back functions.GZD4 0x28 (charset94_byte c) (charsets.G0 c) refl refl
    (ap (λ o. in_range (option_map charsets.G0 o)) (charset94_back c))
charset_back (charsets.G1 c) =
    set_back functions.G1D4 0x29 (charset94_byte c) (charsets.G1 c) refl refl
    (ap (λ o. in_range (option_map charsets.G1 o)) (charset94_back c))
charset_back (charsets.G2 c) =
    set_back functions.G2D4 0x2a (charset94_byte c) (charsets.G2 c) refl refl
    (ap (λ o. in_range (option_map charsets.G2 o)) (charset94_back c))
charset_back (charsets.G3 c) =
    set_back functions.G3D4 0x2b (charset94_byte c) (charsets.G3 c) refl refl
    (ap (λ o. in_range (option_map charsets.G3 o)) (charset94_back c))
charset_back (charsets.G1Of96 c) =
    set_back functions.G1D6 0x2d (charset96_byte c) (charsets.G1Of96 c) refl refl
    (ap (λ o. in_range (option_map charsets.G1Of96 o)) (charset96_back c))
charset_back (charsets.G2Of96 c) =
    set_back functions.G2D6 0x2e (charset96_byte c) (charsets.G2Of96 c) refl refl
    (ap (λ o. in_range (option_map charsets.G2Of96 o)) (charset96_back c))
charset_back (charsets.G3Of96 c) =
    set_back functions.G3D6 0x2f (charset96_byte c) (charsets.G3Of96 c) refl refl
    (ap (λ o. in_range (option_map charsets.G3Of96 o)) (charset96_back c))
charset_back (charsets.G0Pair c) =
    two_back functions.GZD4 0x28 (pair_first c) (pair_last c) (charsets.G0Pair c) refl
    (ap (λ o. in_range (option_map charsets.G0Pair o)) (pair_back c))
charset_back (charsets.G1Pair c) =
    two_back functions.G1D4 0x29 (pair_first c) (pair_last c) (charsets.G1Pair c) refl
    (ap (λ o. in_range (option_map charsets.G1Pair o)) (pair_back c))
charset_back (charsets.G2Pair c) =
    two_back functions.G2D4 0x2a (pair_first c) (pair_last c) (charsets.G2Pair c) refl
    (ap (λ o. in_range (option_map charsets.G2Pair o)) (pair_back c))
charset_back (charsets.G3Pair c) =
    two_back functions.G3D4 0x2b (pair_first c) (pair_last c) (charsets.G3Pair c) refl
    (ap (λ o. in_range (option_map charsets.G3Pair o)) (pair_back c))
charset_back (charsets.G0Multibyte c) = as_g0 c (is_short c) refl
charset_back (charsets.G1Multibyte c) =
    two_back functions.G1DM4 0x24 0x29 (multibyte_byte c) (charsets.G1Multibyte c) refl
    (ap (λ o. in_range (option_map charsets.G1Multibyte o)) (multibyte_back c))
charset_back (charsets.G2Multibyte c) =
    two_back functions.G2DM4 0x24 0x2a (multibyte_byte c) (charsets.G2Multibyte c) refl
    (ap (λ o. in_range (option_map charsets.G2Multibyte o)) (multibyte_back c))
charset_back (charsets.G3Multibyte c) =
    two_back functions.G3DM4 0x24 0x2b (multibyte_byte c) (charsets.G3Multibyte c) refl
    (ap (λ o. in_range (option_map charsets.G3Multibyte o)) (multibyte_back c))

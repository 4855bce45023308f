-- The meaning of the texts of device control strings.
use Rattle.std.proofs.Common.{ℕ, ℤ, ◌≡◌, ◌≤◌, ◌<◌, nat_lt, Bool, true, false, if◌then◌else◌, List, [], ◌∷◌, ◌++◌, length, take, Some, None}
use Rattle.std.proofs.Common.{append-nil, append_assoc, take_all, refl, ap, sym, ◌∙◌, subst, arith}
use Rattle.std.specs.List.{list_all}
use Rattle.std.specs.Char.{encode_utf8}
use Rattle.std.proofs.lemmas.Bool.Decides.{nat_tests}
use Rattle.std.proofs.lemmas.List.Folds.{list_all-append}
use Rattle.std.proofs.lemmas.Str.{encode_ascii}
use Rattle.esc_values.specs.Params.{is_body_byte, is_final, is_private_prefix, is_intermediate_byte, after_private_prefix}
use Rattle.esc_frame.specs.Bodies.{is_dcs_parameter, is_dcs_header, dcs_params, dcs_intermediates}
use Rattle.esc_frame.specs.Classes.{is_put}
use Rattle.esc_frame.specs.Events.Event.{DcsHook}
use Rattle.esc_frame.specs.Segments.{hook_event}
use Rattle.esc_frame.specs.Stream.{Says}
use Rattle.esc_frame.proofs.Emits.SegmentsSay.{says_by}
use Rattle.esc_frame.proofs.Emits.SequencesSay.{all_those}
use Rattle.esc_frame.proofs.Emits.StringsSay.{says_dcs}
use Rattle.esc_sixel.specs.Texts.{is_sixel, sixel_text}
use Rattle.esc_sixel.specs.Writable.{AreNatural, params_of, is_data_byte, IsWritable as IsWritableSixel}
use Rattle.esc_sixel.specs.declared.sixel.Sixel.{Sixel}
use Rattle.esc_sixel.proofs.Writing.WritesBack.{writes_back as sixel_writes_back}
use Rattle.xtgettcap.specs.Names.{names_text, query_text, is_query_byte, AreWritable as AreWritableNames}
use Rattle.xtgettcap.proofs.ReadsBack.{writes_back as query_writes_back}
use Rattle.esc_device.proofs.Bytes.{all_pass, in_body_all, private_prefix_in_body, parameter_in_body, intermediate_in_body, private_prefix_small, final_ends, final_small}
use Rattle.esc_device.proofs.Bytes.{data_put, data_text, no_private_prefixes, all_others}
use Rattle.esc_device.proofs.Headers.{formed, params_pass, headers_read_back}
use Rattle.esc_device.specs.Says.{IsMark, header, string_events, EnterSays, ShortSays, SixelSays, QuerySays}
use Rattle.esc_device.specs.Texts.{as_text, params_text, private_prefixes_text, others_text, enter_text, short_text}
use Rattle.esc_device.specs.Writable.{is_datum, AreData, IsWritableEnter, IsWritableShort}
use Rattle.esc_device.specs.declared.enter.EnterDeviceControlMode.{EnterDeviceControlMode}
use Rattle.esc_device.specs.declared.short.ShortDeviceControl.{ShortDeviceControl as Short}

-- a string of a header, a final byte and data
abbrev string_text : List ℕ → ℕ → List ℕ → List ℕ
string_text x f d = ((((0x1b ∷ 0x50 ∷ []) ++ x) ++ f ∷ []) ++ d) ++ 0x1b ∷ 0x5c ∷ []

says_string : (x d : List ℕ) (f : ℕ) → list_all is_body_byte x ≡ true → is_dcs_header x ≡ true
    → is_final f ≡ true → AreData d
    → Says (string_text x f d) (string_events (hook_event x f) d)
says_string x d f hx form hf hd =
    let put = data_put d hd in
    subst (λ y. Says (string_text x f d) (string_events (hook_event x f) y))
    (all_those is_put d put)
    (says_dcs x d f (in_body_all x hx) form (final_ends f hf) put)

-- the event of a header that keeps all its intermediates
not_more : (is : List ℕ) → length is ≤ 2 → nat_lt 2 (length is) ≡ false
not_more is few = grind (arith, nat_tests)

hook_is : (x is : List ℕ) (f : ℕ) (ps : List ℤ) → dcs_params x ≡ ps → dcs_intermediates x ≡ is
    → length is ≤ 2 → hook_event x f ≡ DcsHook f ps is false
hook_is x is f ps e k few =
    ap (λ qs. DcsHook f qs (take 2 (dcs_intermediates x)) (nat_lt 2 (length (dcs_intermediates x))))
    e
    ∙ ap (λ js. DcsHook f ps (take 2 js) (nat_lt 2 (length js))) k
    ∙ ap (λ js. DcsHook f ps js (nat_lt 2 (length is))) (take_all 2 is few)
    ∙ ap (DcsHook f ps is) (not_more is few)

-- such a string, if the text and the header's event have other names
says_as : (x d t is : List ℕ) (f : ℕ) (ps : List ℤ) → list_all is_body_byte x ≡ true
    → is_dcs_header x ≡ true → is_final f ≡ true → AreData d
    → string_text x f d ≡ t → dcs_params x ≡ ps → dcs_intermediates x ≡ is → length is ≤ 2
    → Says t (string_events (DcsHook f ps is false) d)
says_as x d t is f ps hx form hf hd same e k few =
    says_by (string_text x f d) t (string_events (hook_event x f) d)
    (string_events (DcsHook f ps is false) d)
    same (ap (λ h. string_events h d) (hook_is x is f ps e k few)) (says_string x d f hx form hf hd)

-- the intermediates of a mode: a private prefix or none, and others
record Split (is : List ℕ) : Type 0 where
  mark : List ℕ
  rest : List ℕ
  is_mark : IsMark mark
  intermediate : list_all is_intermediate_byte rest ≡ true
  whole : mark ++ rest ≡ is
  private_prefixes : private_prefixes_text is ≡ mark
  others : others_text is ≡ rest

split_first : (b : ℕ) (x : List ℕ) (t : Bool) → is_private_prefix b ≡ t
    → list_all is_intermediate_byte (if t then x else b ∷ x) ≡ true → Split (b ∷ x)
split_first b x true e h = record {
  mark = b ∷ [];
  rest = x;
  is_mark = e;
  intermediate = h;
  whole = refl;
  private_prefixes =
      rw e (ap (λ y. y ++ private_prefixes_text x) (encode_ascii b (private_prefix_small b e))
      ∙ ap (λ y. b ∷ y) (no_private_prefixes x h));
  others = rw e (all_others x h);
}
split_first b x false e h = record {
  mark = [];
  rest = b ∷ x;
  is_mark = tt;
  intermediate = h;
  whole = refl;
  private_prefixes = no_private_prefixes (b ∷ x) h;
  others = all_others (b ∷ x) h;
}

split : (is : List ℕ) → list_all is_intermediate_byte (after_private_prefix is) ≡ true → Split is
split [] h = record {
  mark = [];
  rest = [];
  is_mark = tt;
  intermediate = refl;
  whole = refl;
  private_prefixes = refl;
  others = refl;
}
split (b ∷ x) h = split_first b x (is_private_prefix b) refl h

-- the bytes of headers
mark_in_body : (m : List ℕ) → IsMark m → list_all is_body_byte m ≡ true
mark_in_body [] h = refl
mark_in_body (b ∷ []) h = rw (private_prefix_in_body b h) refl
mark_in_body (b ∷ c ∷ x) h = absurd h

header_in_body : (m : List ℕ) (ps : List ℤ) (is : List ℕ) → IsMark m → AreNatural ps
    → list_all is_intermediate_byte is ≡ true
    → list_all is_body_byte (header m ps is) ≡ true
header_in_body m ps is hm hp hi =
    rw (
      list_all-append is_body_byte m (params_text ps ++ is),
      list_all-append is_body_byte (params_text ps) is,
      mark_in_body m hm,
      all_pass is_dcs_parameter is_body_byte parameter_in_body (params_text ps) (params_pass ps hp),
      all_pass is_intermediate_byte is_body_byte intermediate_in_body is hi,
    )
    refl

-- a mode
regroup : (a m p j : List ℕ) → a ++ (m ++ (p ++ j)) ≡ ((a ++ m) ++ p) ++ j
regroup a m p j = sym (append_assoc (a ++ m) p j ∙ append_assoc a m (p ++ j))

spelled : (m p j a b d : List ℕ) (f : ℕ) → a ≡ m → b ≡ j → f < 128 → AreData d
    → string_text (m ++ (p ++ j)) f d ≡ ((((((0x1b ∷ 0x50 ∷ []) ++ a) ++ p) ++ b) ++ encode_utf8 f)
    ++ as_text d) ++ 0x1b ∷ 0x5c ∷ []
spelled m p j a b d f ea eb small hd =
    ap (λ y. ((y ++ f ∷ []) ++ d) ++ 0x1b ∷ 0x5c ∷ []) (regroup (0x1b ∷ 0x50 ∷ []) m p j)
    ∙ ap (λ y. (((((0x1b ∷ 0x50 ∷ y) ++ p) ++ j) ++ f ∷ []) ++ d) ++ 0x1b ∷ 0x5c ∷ []) (sym ea)
    ∙ ap (λ y. (((((0x1b ∷ 0x50 ∷ a) ++ p) ++ y) ++ f ∷ []) ++ d) ++ 0x1b ∷ 0x5c ∷ []) (sym eb)
    ∙ ap (λ y. (((((0x1b ∷ 0x50 ∷ a) ++ p) ++ b) ++ y) ++ d) ++ 0x1b ∷ 0x5c ∷ [])
    (sym (encode_ascii f small))
    ∙ ap (λ y. (((((0x1b ∷ 0x50 ∷ a) ++ p) ++ b) ++ encode_utf8 f) ++ y) ++ 0x1b ∷ 0x5c ∷ [])
    (sym (data_text d hd))

pub enter_says : {A : Type 0} (e : EnterDeviceControlMode A) (d : List ℕ) → IsWritableEnter e
    → AreData d → EnterSays e d
enter_says e d (final, (inner, few), natural, whole, kind) hd =
    let s = split e.intermediates inner in
    let x = header s.mark e.params s.rest in
    let q = headers_read_back s.mark e.params s.rest s.is_mark natural s.intermediate in
    let says = says_as x d ((enter_text e ++ as_text d) ++ 0x1b ∷ 0x5c ∷ []) e.intermediates e.byte
    e.params
    (header_in_body s.mark e.params s.rest s.is_mark natural s.intermediate) q.0 final hd
    (spelled s.mark (params_text e.params) s.rest (private_prefixes_text e.intermediates)
    (others_text e.intermediates) d e.byte s.private_prefixes s.others
    (final_small e.byte final) hd)
    q.1 (q.2 ∙ s.whole) few in
    let P : Bool
    → Type 0 = λ more.
    Says ((enter_text e ++ as_text d) ++ 0x1b ∷ 0x5c ∷ [])
    (string_events (DcsHook e.byte e.params e.intermediates more) d) in
    subst P (sym whole) says

-- a short control
short_spelled : (p is d : List ℕ) (f : ℕ) → AreData is → f < 128 → AreData d
    → string_text (p ++ is) f d ≡ (((((0x1b ∷ 0x50 ∷ []) ++ p) ++ as_text is) ++ encode_utf8 f)
    ++ as_text d) ++ 0x1b ∷ 0x5c ∷ []
short_spelled p is d f hi small hd =
    spelled [] p is [] (as_text is) d f refl (data_text is hi) small hd

pub short_says : {A : Type 0} (s : Short A) → IsWritableShort s → ShortSays s
short_says s (byte, intermediates, natural, hd) =
    let inner : list_all is_intermediate_byte s.intermediates ≡ true =
    ap (list_all is_intermediate_byte) intermediates in
    let spells : AreData s.intermediates = ap (list_all is_datum) intermediates in
    let final : is_final s.byte ≡ true = ap is_final byte in
    let few : length s.intermediates ≤ 2 = omega (arith, ap length intermediates) in
    let q = headers_read_back [] s.params s.intermediates tt natural inner in
    says_as (header [] s.params s.intermediates) s.content (short_text s) s.intermediates s.byte
    s.params
    (header_in_body [] s.params s.intermediates tt natural inner) q.0 final hd
    (short_spelled (params_text s.params) s.intermediates s.content s.byte spells
    (final_small s.byte final) hd) q.1 q.2 few

-- a sixel image
written : (t : Bool) (a b : List ℕ) → (if t then Some a else None) ≡ Some b → b ≡ a
written true a b e = cc
written false a b e = cc

data_datum : (b : ℕ) → is_data_byte b ≡ true → is_datum b ≡ true
data_datum b h = grind (arith, nat_tests)

-- parameters alone
record Alone (x : List ℕ) : Type 0 where
  form : is_dcs_header x ≡ true
  params : dcs_params x ≡ params_of x
  intermediates : dcs_intermediates x ≡ []

alone : (x : List ℕ) → list_all is_dcs_parameter x ≡ true → Alone x
alone x h =
    let q = formed [] x [] tt h refl in
    let e = append-nil x in
    record {
      form = subst (λ y. is_dcs_header y ≡ true) e q.form;
      params = subst (λ y. dcs_params y ≡ params_of x) e q.params;
      intermediates = subst (λ y. dcs_intermediates y ≡ []) e q.intermediates;
    }

pub sixel_says : {A : Type 0} (s : Sixel A) → IsWritableSixel s → SixelSays s
sixel_says s h =
    let (x, d, output, hx, hd, means) = sixel_writes_back s h in
    let q = alone x hx in
    let text : 0x1b ∷ 0x50 ∷ (x ++ 0x71 ∷ d) ≡ sixel_text s =
    written (list_all is_sixel s.content) (sixel_text s) (0x1b ∷ 0x50 ∷ (x ++ 0x71 ∷ d))
    output in
    let spells : string_text x 0x71 d ≡ sixel_text s ++ 0x1b ∷ 0x5c ∷ [] =
    ap (λ y. y ++ 0x1b ∷ 0x5c ∷ [])
    (append_assoc ((0x1b ∷ 0x50 ∷ []) ++ x) (0x71 ∷ []) d ∙ text) in (
      params_of x,
      d,
      says_as x d (sixel_text s ++ 0x1b ∷ 0x5c ∷ []) [] 0x71 (params_of x)
          (all_pass is_dcs_parameter is_body_byte parameter_in_body x hx) q.form refl
          (all_pass is_data_byte is_datum data_datum d hd) spells q.params q.intermediates
          (omega arith),
      means,
    )

-- a termcap query
query_datum : (b : ℕ) → is_query_byte b ≡ true → is_datum b ≡ true
query_datum b h = grind (arith, nat_tests)

pub query_says : (ns : List (List ℕ)) → AreWritableNames ns → QuerySays ns
query_says ns h =
    let back = query_writes_back ns h in
    let q = formed [] [] (0x2b ∷ []) tt refl refl in (
      says_as (0x2b ∷ []) (names_text ns) (query_text ns ++ 0x1b ∷ 0x5c ∷ []) (0x2b ∷ []) 0x71 []
          refl q.form refl
          (all_pass is_query_byte is_datum query_datum (names_text ns) back.0) refl q.params
          q.intermediates (omega arith),
      back.1,
    )

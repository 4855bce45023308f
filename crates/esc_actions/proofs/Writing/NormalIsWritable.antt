-- A list and its normal list have the same text, and a normal list is writable and its own.
use Rattle.std.proofs.Common.{◌≡◌, ℕ, Bool, true, false, ◌&&◌, if◌then◌else◌, List, [], ◌∷◌, ◌++◌, map, refl, ap, sym, ◌∙◌, append_assoc, subst}
use Rattle.std.proofs.lemmas.Bool.{and_parts}
use Rattle.std.proofs.lemmas.List.{append-nil}
use Rattle.std.proofs.lemmas.Str.{chars-encodes, encodes-chars}
use Rattle.std.specs.Char.{encode_utf8}
use Rattle.std.specs.List.{list_all}
use Rattle.std.specs.Str.{chars, encode_utf8_all}
use Rattle.esc_values.specs.Clear.{is_clear, IsClearText}
use Rattle.esc_sequences.specs.Csis.{csi_text}
use Rattle.esc_sequences.specs.Escs.{esc_text}
use Rattle.esc_sequences.specs.declared.esc.Esc.{Esc}
use Rattle.esc_sequences.specs.declared.esc.Esc.TheVariants as esc_variant
use Rattle.esc_sequences.specs.declared.esc_code.EscCode.TheVariants as esc_code
use Rattle.esc_frame.specs.Classes.{class_of, ends_escape}
use Rattle.esc_osc.proofs.ReadsBack.{clear_utf8, chars_scalar}
use Rattle.esc_osc.specs.Commands.{command_text}
use Rattle.esc_actions.proofs.Values.ActionsHandedOut.{with_none}
use Rattle.esc_actions.proofs.Writing.WritableReadsBack.{meant_after, meant_normal}
use Rattle.esc_actions.specs.ControlCodes.{code_number}
use Rattle.esc_actions.specs.Meaning.{meaning}
use Rattle.esc_actions.specs.Texts.{whole_text, is_terminator, terminator, texts_after, list_text, normal}
use Rattle.esc_actions.specs.Values.{Value, print, string, control, esc, csi, osc, kitty, sixel, termcap, short, enter, datum, exit}
use Rattle.esc_actions.specs.Writable.{IsWritable, AreWritable, AreWritableFrom}

chars_text : {A : Type 0} (cs : List ℕ) (vs : List (Value A))
    → texts_after false (map print cs ++ vs) ≡ encode_utf8_all cs ++ texts_after false vs
chars_text [] vs = refl
chars_text (c ∷ cs) vs = ap (λ x. encode_utf8 c ++ x) (chars_text cs vs)
    ∙ sym (append_assoc (encode_utf8 c) (encode_utf8_all cs) (texts_after false vs))

string_text : {A : Type 0} (t : List ℕ) (vs ws : List (Value A)) → IsWritable {A = A} (string t)
    → texts_after false vs ≡ texts_after false ws
    → texts_after false ((map print (chars t) ++ []) ++ vs) ≡ t ++ texts_after false ws
string_text t vs ws h e =
    ap (λ x. texts_after false (x ++ vs)) (append-nil (map print (chars t)))
    ∙ chars_text (chars t) vs
    ∙ ap (λ x. x ++ texts_after false vs) (encodes-chars t (clear_utf8 t h.0)) ∙ ap (λ x. t ++ x) e

same : {A : Type 0} (p b : Bool) (vs : List (Value A)) → AreWritableFrom p vs
    → texts_after false (meant_after b vs) ≡ texts_after b vs
same p b [] h = refl
same p b (print c ∷ vs) h = ap (λ x. encode_utf8 c ++ x) (same false false vs h.2)
same p b (string t ∷ vs) h = string_text t (meant_after false vs) vs h.1 (same false false vs h.2)
same p b (control c ∷ vs) h = ap (λ x. encode_utf8 (code_number c) ++ x) (same false false vs h.2)
same p true (esc (esc_variant.Code esc_code.StringTerminator) ∷ vs) h = same false false vs h.2
same p false (esc (esc_variant.Code esc_code.StringTerminator) ∷ vs) h =
    ap (λ x. esc_text (esc_variant.Code esc_code.StringTerminator) ++ x)
    (same false false vs h.2)
same p b (esc (esc_variant.Code esc_code.HorizontalTabSet) ∷ vs) h =
    ap (λ x. esc_text (esc_variant.Code esc_code.HorizontalTabSet) ++ x)
    (same false false vs h.2)
same p b (esc (esc_variant.Code esc_code.TmuxTitle) ∷ vs) h =
    ap (λ x. esc_text (esc_variant.Code esc_code.TmuxTitle) ++ x) (same false false vs h.2)
same p b (esc (esc_variant.Unspecified i c) ∷ vs) h =
    ap (λ x. esc_text (esc_variant.Unspecified i c) ++ x) (same false false vs h.2)
same p b (csi c ∷ vs) h = ap (λ x. csi_text c ++ x) (same false false vs h.2)
same p b (osc c ∷ vs) h = ap (λ x. command_text c ++ x) (same false true vs h.2)
same p b (kitty i ∷ vs) h = ap (λ x. whole_text (kitty i) ++ x) (same false true vs h.2)
same p b (sixel s ∷ vs) h = ap (λ x. whole_text (sixel s) ++ x) (same false true vs h.2)
same {A = A} p b (termcap d ∷ vs) h =
    ap (λ x. whole_text {A = A} (termcap d) ++ x) (same false true vs h.2)
same p b (short s ∷ vs) h = ap (λ x. whole_text (short s) ++ x) (same false true vs h.2)
same p b (enter e ∷ vs) h = ap (λ x. whole_text (enter e) ++ x) (same true false vs h.2)
same p b (datum c ∷ vs) h = ap (λ x. encode_utf8 c ++ x) (same true false vs h.2)
same {A = A} p b (exit ∷ vs) h = ap (λ x. whole_text {A = A} exit ++ x) (same false true vs h.2)

pub same_text : {A : Type 0} (vs : List (Value A)) → AreWritable vs
    → list_text (normal vs) ≡ list_text vs
same_text vs h = ap list_text (sym (meant_normal vs)) ∙ same false false vs h

-- a normal list is writable
backslash_ends : ends_escape (class_of 0x5c) ≡ true
unfolding class_of
backslash_ends = refl

terminator_writable : {A : Type 0} → IsWritable {A = A} terminator
terminator_writable = with_none 0x5c backslash_ends refl

chars_writable : {A : Type 0} (cs : List ℕ) (vs : List (Value A)) → list_all is_clear cs ≡ true
    → AreWritableFrom false vs
    → AreWritableFrom false (map print cs ++ vs)
chars_writable [] vs h k = k
chars_writable (c ∷ cs) vs h k = let q = and_parts (is_clear c) (list_all is_clear cs) h in
    (refl, q.0, chars_writable cs vs q.1 k)

string_writable : {A : Type 0} (t : List ℕ) (vs : List (Value A)) → IsClearText t
    → AreWritableFrom false vs
    → AreWritableFrom false ((map print (chars t) ++ []) ++ vs)
string_writable {A = A} t vs (cs, all, e) k =
    let same : chars t ≡ cs = ap chars (sym e) ∙ chars-encodes cs (chars_scalar cs all) in
    let P : List ℕ → Type 0 = λ x. AreWritableFrom {A = A} false ((map print x ++ []) ++ vs) in
    let Q : List (Value A) → Type 0 = λ x. AreWritableFrom {A = A} false (x ++ vs) in
    subst P (sym same) (subst Q (sym (append-nil (map print cs))) (chars_writable cs vs all k))

esc_writable : {A : Type 0} (p t : Bool) (e : Esc) (vs : List (Value A)) → false ≡ p
    → IsWritable {A = A} (esc e) → AreWritableFrom false vs
    → AreWritableFrom p ((if t then [] else esc e ∷ []) ++ vs)
esc_writable p true e vs is h k = subst (λ q. AreWritableFrom q vs) is k
esc_writable p false e vs is h k = (is, h, k)

after_writable : {A : Type 0} (p b : Bool) (vs : List (Value A)) → AreWritableFrom p vs
    → AreWritableFrom p (meant_after b vs)
after_writable p b [] h = h
after_writable p b (print c ∷ vs) h = (h.0, h.1, after_writable false false vs h.2)
after_writable {A = A} p b (string t ∷ vs) h =
    let P : Bool → Type 0 =
    λ q. AreWritableFrom {A = A} q ((map print (chars t) ++ []) ++ meant_after false vs) in
    subst P h.0 (string_writable t (meant_after false vs) h.1.0
    (after_writable false false vs h.2))
after_writable p b (control c ∷ vs) h = (h.0, h.1, after_writable false false vs h.2)
after_writable {A = A} p b (esc e ∷ vs) h =
    esc_writable p (is_terminator {A = A} (esc e) && b) e (meant_after false vs) h.0 h.1
    (after_writable false false vs h.2)
after_writable p b (csi c ∷ vs) h = (h.0, h.1, after_writable false false vs h.2)
after_writable p b (osc c ∷ vs) h =
    (h.0, h.1, (refl, terminator_writable, after_writable false true vs h.2))
after_writable p b (kitty i ∷ vs) h =
    (h.0, h.1, (refl, terminator_writable, after_writable false true vs h.2))
after_writable p b (sixel s ∷ vs) h =
    (h.0, h.1, (refl, terminator_writable, after_writable false true vs h.2))
after_writable p b (termcap d ∷ vs) h =
    (h.0, h.1, (refl, terminator_writable, after_writable false true vs h.2))
after_writable p b (short s ∷ vs) h =
    (h.0, h.1, (refl, terminator_writable, after_writable false true vs h.2))
after_writable p b (enter e ∷ vs) h = (h.0, h.1, after_writable true false vs h.2)
after_writable p b (datum c ∷ vs) h = (h.0, h.1, after_writable true false vs h.2)
after_writable p b (exit ∷ vs) h =
    (h.0, h.1, (refl, terminator_writable, after_writable false true vs h.2))

pub normal_writable : {A : Type 0} (vs : List (Value A)) → AreWritable vs → AreWritable (normal vs)
normal_writable {A = A} vs h = let P : List (Value A) → Type 0 = λ x. AreWritable x in
    subst P (meant_normal vs) (after_writable false false vs h)

-- and its own normal list
chars_meant : {A : Type 0} (cs : List ℕ) (vs : List (Value A))
    → meant_after false (map print cs ++ vs) ≡ map print cs ++ meant_after false vs
chars_meant [] vs = refl
chars_meant (c ∷ cs) vs = ap (λ x. print c ∷ x) (chars_meant cs vs)

string_meant : {A : Type 0} (cs : List ℕ) (vs : List (Value A)) → meant_after false vs ≡ vs
    → meant_after false ((map print cs ++ []) ++ vs) ≡ (map print cs ++ []) ++ vs
string_meant cs vs e =
    ap (λ x. meant_after false (x ++ vs)) (append-nil (map print cs)) ∙ chars_meant cs vs
    ∙ ap (λ x. map print cs ++ x) e
    ∙ ap (λ x. x ++ vs) (sym (append-nil (map print cs)))

meant_twice : {A : Type 0} (b : Bool) (vs : List (Value A))
    → meant_after false (meant_after b vs) ≡ meant_after b vs
meant_twice b [] = refl
meant_twice b (print c ∷ vs) = ap (λ x. print c ∷ x) (meant_twice false vs)
meant_twice b (string t ∷ vs) = string_meant (chars t) (meant_after false vs) (meant_twice false vs)
meant_twice b (control c ∷ vs) = ap (λ x. control c ∷ x) (meant_twice false vs)
meant_twice true (esc (esc_variant.Code esc_code.StringTerminator) ∷ vs) = meant_twice false vs
meant_twice false (esc (esc_variant.Code esc_code.StringTerminator) ∷ vs) =
    ap (λ x. terminator ∷ x) (meant_twice false vs)
meant_twice b (esc (esc_variant.Code esc_code.HorizontalTabSet) ∷ vs) =
    ap (λ x. esc (esc_variant.Code esc_code.HorizontalTabSet) ∷ x) (meant_twice false vs)
meant_twice b (esc (esc_variant.Code esc_code.TmuxTitle) ∷ vs) =
    ap (λ x. esc (esc_variant.Code esc_code.TmuxTitle) ∷ x) (meant_twice false vs)
meant_twice b (esc (esc_variant.Unspecified i c) ∷ vs) =
    ap (λ x. esc (esc_variant.Unspecified i c) ∷ x) (meant_twice false vs)
meant_twice b (csi c ∷ vs) = ap (λ x. csi c ∷ x) (meant_twice false vs)
meant_twice b (osc c ∷ vs) = ap (λ x. osc c ∷ terminator ∷ x) (meant_twice true vs)
meant_twice b (enter e ∷ vs) = ap (λ x. enter e ∷ x) (meant_twice false vs)
meant_twice b (datum c ∷ vs) = ap (λ x. datum c ∷ x) (meant_twice false vs)
meant_twice b (kitty i ∷ vs) = ap (λ x. kitty i ∷ terminator ∷ x) (meant_twice true vs)
meant_twice b (sixel s ∷ vs) = ap (λ x. sixel s ∷ terminator ∷ x) (meant_twice true vs)
meant_twice b (termcap d ∷ vs) = ap (λ x. termcap d ∷ terminator ∷ x) (meant_twice true vs)
meant_twice b (short s ∷ vs) = ap (λ x. short s ∷ terminator ∷ x) (meant_twice true vs)
meant_twice b (exit ∷ vs) = ap (λ x. exit ∷ terminator ∷ x) (meant_twice true vs)

pub normal_normal : {A : Type 0} (vs : List (Value A)) → normal (normal vs) ≡ normal vs
normal_normal vs = sym (meant_normal (normal vs)) ∙ ap (meant_after false) (sym (meant_normal vs))
    ∙ meant_twice false vs ∙ meant_normal vs

-- by the lists that the texts of writable lists read back as
module _ {A : Type 0} (back : (vs : List (Value A)) → AreWritable vs
    → meaning (list_text vs) ≡ normal vs) where
  -- if a stream means a writable list, normalising is idempotent
  pub normal_once : (s : List ℕ) → AreWritable {A = A} (meaning s)
      → list_text (meaning {A = A} (list_text (meaning {A = A} s))) ≡ list_text (meaning {A = A} s)
  normal_once s h = ap list_text (back (meaning s) h) ∙ same_text (meaning s) h

  -- two writable lists with one text have one normal list
  pub same_normal : (vs ws : List (Value A)) → AreWritable vs → AreWritable ws
      → list_text vs ≡ list_text ws → normal vs ≡ normal ws
  same_normal vs ws h k e = sym (back vs h) ∙ ap meaning e ∙ back ws k

pub same_texts : {A : Type 0} (vs ws : List (Value A)) → AreWritable vs → AreWritable ws
    → normal vs ≡ normal ws → list_text vs ≡ list_text ws
same_texts vs ws h k e = sym (same_text vs h) ∙ ap list_text e ∙ same_text ws k

-- A run of text is its own text.
use Rattle.std.proofs.Common.{◌≡◌, ◌<◌, ℕ, true, false, List, [], ◌∷◌, ◌++◌, length, map, refl, ap, sym, subst, append_assoc, arith}
use Rattle.std.proofs.lemmas.Bool.{and_parts}
use Rattle.std.proofs.lemmas.Bool.Decides.{nat_tests}
use Rattle.std.proofs.lemmas.List.{append-nil}
use Rattle.std.proofs.lemmas.Str.{IsUtf8-from_ascii, encode_ascii, encodes-chars}
use Rattle.std.proofs.lemmas.Str.Ascii.{IsAscii-cons, IsAscii-nil}
use Rattle.std.specs.List.{FoldsTo, list_all}
use Rattle.std.specs.Char.{encode_utf8}
use Rattle.std.specs.Str.{IsAscii, IsUtf8, chars, encode_utf8_all}
use Rattle.esc_frame.specs.Scans.{is_text_byte}
use Rattle.esc_actions.specs.Texts.{is_string, text_after}
use Rattle.esc_actions.specs.Values.{value_of}
use Rattle.esc_actions.specs.declared.action.Action.{Action}
use Rattle.esc_actions.specs.declared.action.Action.TheVariants as action
use Rattle.esc_normal.specs.declared.spell.TextSink.{TextSink}

text_small : (b : ℕ) → is_text_byte b ≡ true → b < 128
text_small b h = grind (arith, nat_tests)

abbrev SpellTakes : {A : Type 0} → TextSink A → Action A → TextSink A → Type 0
SpellTakes p a q = (q.text ≡ p.text ++ text_after p.follows_string (value_of a))
    × (q.follows_string ≡ is_string (value_of a))

spells_text : {A : Type 0} (x : ℕ) (xs : List ℕ) (p : TextSink A)
    → list_all is_text_byte (x ∷ xs) ≡ true
    → FoldsTo SpellTakes p (map action.Print (x ∷ xs))
    (record { text = p.text ++ x ∷ xs; follows_string = false })
spells_text x [] p h =
    let e = encode_ascii x (text_small x (and_parts (is_text_byte x) true h).0) in (
      record { text = p.text ++ x ∷ []; follows_string = false },
      (ap (λ t. p.text ++ t) (sym e), refl),
      refl,
    )
spells_text {A = A} x (y ∷ ys) p h =
    let k = and_parts (is_text_byte x) (list_all is_text_byte (y ∷ ys)) h in
    let e = encode_ascii x (text_small x k.0) in
    let j : TextSink A = record { text = p.text ++ x ∷ []; follows_string = false } in
    let Goal : List ℕ → Type 0 = λ t. FoldsTo SpellTakes j (map action.Print (y ∷ ys))
    (record { text = t; follows_string = false }) in (
      j,
      (ap (λ t. p.text ++ t) (sym e), refl),
      subst Goal (append_assoc p.text (x ∷ []) (y ∷ ys))
          (spells_text y ys j k.1),
    )

pub spells_run : {A : Type 0} (xs : List ℕ) (p q : TextSink A) → 0 < length xs
    → list_all is_text_byte xs ≡ true
    → q ≡ record { text = p.text ++ xs; follows_string = false }
    → FoldsTo SpellTakes p (map action.Print xs) q
spells_run [] p q l h e = absurd (omega arith)
spells_run (x ∷ xs) p q l h e = subst (λ s. FoldsTo SpellTakes p (map action.Print (x ∷ xs)) s)
    (sym e) (spells_text x xs p h)

-- a run of text is UTF-8
text_ascii : (xs : List ℕ) → list_all is_text_byte xs ≡ true → IsAscii xs
text_ascii [] h = IsAscii-nil
text_ascii (x ∷ xs) h = let k = and_parts (is_text_byte x) (list_all is_text_byte xs) h in
    IsAscii-cons x xs (text_small x k.0) (text_ascii xs k.1)

pub text_utf8 : (xs : List ℕ) → list_all is_text_byte xs ≡ true → IsUtf8 xs
text_utf8 xs h = IsUtf8-from_ascii xs (text_ascii xs h)

-- a run of characters is its own text
spells_chars : {A : Type 0} (c : ℕ) (cs : List ℕ) (p : TextSink A)
    → FoldsTo SpellTakes p (map action.Print (c ∷ cs))
    (record { text = p.text ++ encode_utf8_all (c ∷ cs); follows_string = false })
spells_chars c [] p = (
  record { text = p.text ++ encode_utf8 c; follows_string = false },
  (refl, refl),
  ap (λ t. record { text = p.text ++ t; follows_string = false })
      (sym (append-nil (encode_utf8 c))),
)
spells_chars {A = A} c (d ∷ ds) p =
    let j : TextSink A = record { text = p.text ++ encode_utf8 c; follows_string = false } in
    let Goal : List ℕ → Type 0 = λ t. FoldsTo SpellTakes j (map action.Print (d ∷ ds))
    (record { text = t; follows_string = false }) in (
      j,
      (refl, refl),
      subst Goal (append_assoc p.text (encode_utf8 c) (encode_utf8_all (d ∷ ds)))
          (spells_chars d ds j),
    )

spells_all : {A : Type 0} (cs text : List ℕ) (p : TextSink A) → encode_utf8_all cs ≡ text
    → 0 < length text
    → FoldsTo SpellTakes p (map action.Print cs)
    (record { text = p.text ++ text; follows_string = false })
spells_all [] text p e l = absurd (omega (arith, ap length e))
spells_all (c ∷ cs) text p e l =
    subst (λ t. FoldsTo SpellTakes p (map action.Print (c ∷ cs))
    (record { text = p.text ++ t; follows_string = false })) e (spells_chars c cs p)

pub spells_str : {A : Type 0} (text : List ℕ) (p q : TextSink A) → 0 < length text → IsUtf8 text
    → q ≡ record { text = p.text ++ text; follows_string = false }
    → FoldsTo SpellTakes p (map action.Print (chars text)) q
spells_str text p q l u e =
    subst (λ s. FoldsTo SpellTakes p (map action.Print (chars text)) s) (sym e)
    (spells_all (chars text) text p (encodes-chars text u) l)

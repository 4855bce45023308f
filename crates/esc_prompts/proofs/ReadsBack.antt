-- Every writable prompt reads back.
use Rattle.std.proofs.Common.{ℕ, ℤ, pos, ◌≡◌, ◌==◌, true, false, List, [], ◌∷◌, ◌++◌, map, length, codes, Option, Some, None, refl, sym, ap, ◌∙◌, arith, append_assoc}
use Rattle.std.specs.Fmt.{signed_decimal}
use Rattle.std.specs.List.{list_all}
use Rattle.std.specs.Option.{option_map, unwrap_or}
use Rattle.std.proofs.lemmas.Bool.{ne_eqb}
use Rattle.std.proofs.lemmas.List.{append-nil, length-append}
use Rattle.esc_values.proofs.Clear.NumbersAreClear.{signed_part}
use Rattle.esc_values.specs.Clear.{separated_parts, IsClearPart, AreClearParts}
use Rattle.esc_values.specs.Cuts.{Pairs, pair_text, pairs_in, without_empty}
use Rattle.esc_values.specs.Fields.{present_pairs}
use Rattle.esc_values.specs.Scalars.{and_then, IsSigned}
use Rattle.esc_values.proofs.Clear.ClearPairs.{key_back}
use Rattle.esc_values.proofs.Clear.ClearTexts.{part_append}
use Rattle.esc_values.proofs.Clear.CutAtCharacter.{Free}
use Rattle.esc_values.proofs.Clear.PlainPartsAreClear.{is_part_plain, plain_part}
use Rattle.esc_values.proofs.Numbers.SignedReadsBack.{signed_back_32, signed_wide}
use Rattle.esc_prompts.specs.Pairs.{KeyValues, last_values}
use Rattle.esc_prompts.specs.Prompts.{IsAid, IsWritablePrompt, WritesBack, aid_and_click, aid_of, aid_text, click_in, click_text, kind_in}
use Rattle.esc_prompts.specs.Prompts.{status_of}
use Rattle.esc_prompts.specs.Words.{click_word, kind_word}
use Rattle.esc_prompts.specs.declared.click.FinalTermClick.{FinalTermClick}
use Rattle.esc_prompts.specs.declared.click.FinalTermClick.TheVariants as click
use Rattle.esc_prompts.specs.declared.prompt.FinalTermSemanticPrompt.{FinalTermSemanticPrompt}
use Rattle.esc_prompts.specs.declared.prompt.FinalTermSemanticPrompt.TheVariants as prompt
use Rattle.esc_prompts.specs.declared.prompt_kind.FinalTermPromptKind.{FinalTermPromptKind}
use Rattle.esc_prompts.specs.declared.prompt_kind.FinalTermPromptKind.TheVariants as kind

-- the keys that are written
abbrev keys : Option (List ℕ) → Option FinalTermClick → Pairs
keys aid cl = present_pairs ((codes "aid", aid) ∷ (codes "cl", option_map click_word cl) ∷ [])

-- the words are clear
click_word_clear : (c : FinalTermClick) → IsClearPart (click_word c)
click_word_clear click.Line = plain_part (codes "line") refl
click_word_clear c = plain_part (click_word c) refl

kind_word_clear : (k : FinalTermPromptKind) → IsClearPart (kind_word k)
kind_word_clear kind.Initial = plain_part (codes "i") refl
kind_word_clear k = plain_part (kind_word k) refl

-- a key without `=` and its value, both clear
record IsPair (e : List ℕ × List ℕ) : Type 0 where
  lacks : Free 0x3d e.0
  key : IsClearPart e.0
  value : IsClearPart e.1

abbrev ArePairs : Pairs → Type 0
ArePairs [] = Unit {0}
ArePairs (e ∷ es) = IsPair e × ArePairs es

pair : (k v : List ℕ) → list_all is_part_plain k ≡ true → Free 0x3d k → IsClearPart v
    → IsPair (k, v)
pair k v h f g = record { lacks = f; key = plain_part k h; value = g }

aid_pair : (a : List ℕ) → IsClearPart a → IsPair (codes "aid", a)
aid_pair a h = pair (codes "aid") a refl refl h

click_pair : (c : FinalTermClick) → IsPair (codes "cl", click_word c)
click_pair c = pair (codes "cl") (click_word c) refl refl (click_word_clear c)

keys_pairs : (aid : Option (List ℕ)) (cl : Option FinalTermClick) → IsAid aid
    → ArePairs (keys aid cl)
keys_pairs None None h = tt
keys_pairs None (Some c) h = (click_pair c, tt)
keys_pairs (Some a) None h = (aid_pair a h, tt)
keys_pairs (Some a) (Some c) h = (aid_pair a h, (click_pair c, tt))

parts_clear : (es : Pairs) → ArePairs es → AreClearParts (map pair_text es)
parts_clear [] h = tt
parts_clear (e ∷ es) h = (
  part_append e.0 (codes "=" ++ e.1) h.0.key
      (part_append (codes "=") e.1 (plain_part (codes "=") refl) h.0.value),
  parts_clear es h.1,
)

-- their text
keys_joined : (aid : Option (List ℕ)) (cl : Option FinalTermClick)
    → aid_text aid ++ click_text cl ≡ separated_parts (map pair_text (keys aid cl))
keys_joined None None = refl
keys_joined None (Some c) = ap (λ t. codes ";cl=" ++ t) (sym (append-nil (click_word c)))
keys_joined (Some a) None = refl
keys_joined (Some a) (Some c) =
    ap (λ t. codes ";aid=" ++ (a ++ (codes ";cl=" ++ t))) (sym (append-nil (click_word c)))

aid_joined : (aid : Option (List ℕ)) → aid_text aid
    ≡ separated_parts (map pair_text (keys aid None))
aid_joined None = refl
aid_joined (Some a) = ap (λ t. codes ";aid=" ++ t) (sym (append-nil a))

-- the keys are read from their text
some_length : (e : List ℕ × List ℕ) → (length (pair_text e) == 0) ≡ false
some_length e =
    ne_eqb (length (pair_text e)) 0 (λ h. omega (arith, h, length-append e.0 (0x3d ∷ e.1)))

pairs_back : (es : Pairs) → ArePairs es → pairs_in (without_empty (map pair_text es)) ≡ Some es
pairs_back [] h = refl
pairs_back (e ∷ es) h =
    rw (
      some_length e,
      key_back e.0 e.1 h.0.key h.0.lacks h.0.value,
      pairs_back es h.1,
    ) refl

abbrev aid_read : Option Pairs → Option (Option (List ℕ))
aid_read o = option_map (λ (v : KeyValues). v.aid) (option_map last_values o)

abbrev both_read : Option Pairs → Option (Option (List ℕ) × Option FinalTermClick)
both_read o =
    and_then (option_map last_values o)
    (λ (v : KeyValues). option_map (λ (c : Option FinalTermClick). (v.aid, c)) (click_in v.cl))

abbrev kind_read : Option Pairs → Option FinalTermPromptKind
kind_read o = and_then (option_map last_values o) (λ (v : KeyValues). kind_in v.k)

aid_of_keys : (aid : Option (List ℕ)) → aid_read (Some (keys aid None)) ≡ Some aid
aid_of_keys None = refl
aid_of_keys (Some a) = refl

both_of_keys : (aid : Option (List ℕ)) (cl : Option FinalTermClick)
    → both_read (Some (keys aid cl)) ≡ Some (aid, cl)
both_of_keys None None = refl
both_of_keys None (Some click.Line) = refl
both_of_keys None (Some c) = refl
both_of_keys (Some a) None = refl
both_of_keys (Some a) (Some click.Line) = refl
both_of_keys (Some a) (Some c) = refl

kind_of_keys : (k : FinalTermPromptKind) → kind_read (Some ((codes "k", kind_word k) ∷ [])) ≡ Some k
kind_of_keys kind.Initial = refl
kind_of_keys k = refl

aid_back : (aid : Option (List ℕ)) → IsAid aid → aid_of (map pair_text (keys aid None)) ≡ Some aid
aid_back aid h =
    ap aid_read (pairs_back (keys aid None) (keys_pairs aid None h)) ∙ aid_of_keys aid

both_back : (aid : Option (List ℕ)) (cl : Option FinalTermClick) → IsAid aid
    → aid_and_click (map pair_text (keys aid cl)) ≡ Some (aid, cl)
both_back aid cl h =
    ap both_read (pairs_back (keys aid cl) (keys_pairs aid cl h)) ∙ both_of_keys aid cl

abbrev err_keys : List ℕ → List ℕ → Pairs
err_keys s a = (codes "err", s) ∷ (codes "aid", a) ∷ []

err_pairs : (s a : List ℕ) → IsClearPart s → IsClearPart a → ArePairs (err_keys s a)
err_pairs s a h k = (pair (codes "err") s refl refl h, (aid_pair a k, tt))

abbrev kind_keys : FinalTermPromptKind → Pairs
kind_keys k = (codes "k", kind_word k) ∷ []

kind_pairs : (k : FinalTermPromptKind) → ArePairs (kind_keys k)
kind_pairs k = (pair (codes "k") (kind_word k) refl refl (kind_word_clear k), tt)

-- the letters with keys
starting : (A : Type 0) (aid : Option (List ℕ)) (cl : Option FinalTermClick) → IsAid aid
    → WritesBack {A = A} (prompt.FreshLineAndStartPrompt aid cl)
starting A aid cl h = (
  codes "A" ∷ map pair_text (keys aid cl),
  ap (λ t. codes "133;A" ++ t) (keys_joined aid cl),
  (plain_part (codes "A") refl, parts_clear (keys aid cl) (keys_pairs aid cl h)),
  ap (option_map (λ (f : Option (List ℕ) × Option FinalTermClick). prompt.FreshLineAndStartPrompt
      f.0 f.1)) (both_back aid cl h),
)

ending : (A : Type 0) (aid : Option (List ℕ)) (cl : Option FinalTermClick) → IsAid aid
    → WritesBack {A = A} (prompt.MarkEndOfCommandWithFreshLine aid cl)
ending A aid cl h = (
  codes "N" ∷ map pair_text (keys aid cl),
  ap (λ t. codes "133;N" ++ t) (keys_joined aid cl),
  (plain_part (codes "N") refl, parts_clear (keys aid cl) (keys_pairs aid cl h)),
  ap (option_map (λ (f : Option (List ℕ)
      × Option FinalTermClick). prompt.MarkEndOfCommandWithFreshLine f.0 f.1)) (both_back aid cl h),
)

output : (A : Type 0) (aid : Option (List ℕ)) → IsAid aid
    → WritesBack {A = A} (prompt.MarkEndOfInputAndStartOfOutput aid)
output A aid h = (
  codes "C" ∷ map pair_text (keys aid None),
  ap (λ t. codes "133;C" ++ t) (aid_joined aid),
  (plain_part (codes "C") refl, parts_clear (keys aid None) (keys_pairs aid None h)),
  ap (option_map prompt.MarkEndOfInputAndStartOfOutput) (aid_back aid h),
)

-- a status
status_back : (A : Type 0) (s : ℤ) (args : List (List ℕ)) (aid : Option (List ℕ)) → IsSigned 32 s
    → aid_of args ≡ Some aid
    → status_of {A = A} (signed_decimal s ∷ args) ≡ Some (prompt.CommandStatus s aid)
status_back A s args aid h e =
    ap (λ n. option_map (λ aid. prompt.CommandStatus (unwrap_or n (pos 0)) aid) (aid_of args))
    (signed_back_32 s h)
    ∙ ap (option_map (λ aid. prompt.CommandStatus s aid)) e

status_text : (s a : List ℕ) → codes "133;D;" ++ s ++ codes ";err=" ++ s ++ codes ";aid=" ++ a
    ≡ codes "133;D" ++ separated_parts (s ∷ map pair_text (err_keys s a))
status_text s a = simp (append_assoc, append-nil)

ended : (A : Type 0) (s : ℤ) (aid : Option (List ℕ)) → IsSigned 32 s → IsAid aid
    → WritesBack {A = A} (prompt.CommandStatus s aid)
ended A s None h k = (
  codes "D" ∷ signed_decimal s ∷ [],
  ap (λ t. codes "133;D;" ++ t) (sym (append-nil (signed_decimal s))),
  (plain_part (codes "D") refl, (signed_part s (signed_wide s h), tt)),
  status_back A s [] None h refl,
)
ended A s (Some a) h k =
    let t = signed_decimal s in
    let clear = signed_part s (signed_wide s h) in
    let pairs = err_pairs t a clear k in (
      codes "D" ∷ t ∷ map pair_text (err_keys t a),
      status_text t a,
      (plain_part (codes "D") refl, (clear, parts_clear (err_keys t a) pairs)),
      status_back A s (map pair_text (err_keys t a)) (Some a) h
          (ap aid_read (pairs_back (err_keys t a) pairs)),
    )

-- a kind
begun : (A : Type 0) (k : FinalTermPromptKind) → WritesBack {A = A} (prompt.StartPrompt k)
begun A k = (
  codes "P" ∷ map pair_text (kind_keys k),
  ap (λ t. codes "133;P;k=" ++ t) (sym (append-nil (kind_word k))),
  (plain_part (codes "P") refl, parts_clear (kind_keys k) (kind_pairs k)),
  ap (option_map prompt.StartPrompt)
      (ap kind_read (pairs_back (kind_keys k) (kind_pairs k)) ∙ kind_of_keys k),
)

pub writes_back : {A : Type 0} (p : FinalTermSemanticPrompt A) → IsWritablePrompt p → WritesBack p
writes_back prompt.FreshLine h = (codes "L" ∷ [], refl, (plain_part (codes "L") refl, tt), refl)
writes_back {A = A} (prompt.FreshLineAndStartPrompt aid cl) h = starting A aid cl h
writes_back {A = A} (prompt.MarkEndOfCommandWithFreshLine aid cl) h = ending A aid cl h
writes_back {A = A} (prompt.StartPrompt k) h = begun A k
writes_back prompt.MarkEndOfPromptAndStartOfInputUntilNextMarker h =
    (codes "B" ∷ [], refl, (plain_part (codes "B") refl, tt), refl)
writes_back prompt.MarkEndOfPromptAndStartOfInputUntilEndOfLine h =
    (codes "I" ∷ [], refl, (plain_part (codes "I") refl, tt), refl)
writes_back {A = A} (prompt.MarkEndOfInputAndStartOfOutput aid) h = output A aid h
writes_back {A = A} (prompt.CommandStatus s aid) h = ended A s aid h.0 h.1

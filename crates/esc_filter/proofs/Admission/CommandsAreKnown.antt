-- Commands that are known before they are made.
use Rattle.std.proofs.Common.{◌≡◌, ◌≢◌, ℕ, zero, suc, ◌<◌, ◌≤◌, ◌==◌, ◌&&◌, Bool, true, false, if◌then◌else◌, List, [], ◌∷◌, ◌++◌, codes, Option, Some, None, refl}
use Rattle.std.proofs.Common.{length, take, get_or, ap, ◌∙◌, inl, inr, arith}
use Rattle.std.specs.List.{list_all, onto_first, slice_split}
use Rattle.std.proofs.lemmas.Bool.{cases_Bool, eqb-false, ne_eqb, true≢false}
use Rattle.std.proofs.lemmas.List.Splits.{slice_split-cons_no}
use Rattle.std.proofs.lemmas.Str.Ascii.{IsAscii-cons, IsAscii-nil}
use Rattle.std.specs.Prelude.{nat_eq}
use Rattle.std.specs.Cmp.Lexicographic.{pointwise}
use Rattle.std.specs.Option.{option_map, unwrap_or}
use Rattle.std.specs.Str.{is_utf8}
use Rattle.std.specs.Str.Lossy.{after_first_chunk, replacement_bytes, utf8_lossy, utf8_valid_len, valid_len_up_to}
use Rattle.std.proofs.lemmas.Str.{IsUtf8-from_ascii, is_utf8-from_IsUtf8, utf8_lossy_step}
use Rattle.esc_values.specs.Clear.{parts_of}
use Rattle.esc_values.specs.Base64.{base64_text_of}
use Rattle.esc_values.specs.Scalars.{and_then}
use Rattle.esc_osc_values.proofs.Codes.{code_name_digit, code_of_text}
use Rattle.esc_osc_values.specs.Codes.{changed_by, code_name, code_of, reset_by}
use Rattle.esc_osc_values.specs.Colors.{colors_of}
use Rattle.esc_osc_values.specs.Progresses.{progress_of}
use Rattle.esc_osc.specs.Reading.{content_of, dynamic_command, meaning, named_command, notification, reading, selection_command}
use Rattle.esc_osc_values.specs.Lists.{lone_text}
use Rattle.esc_osc_values.specs.Selections.{selection, selection_of}
use Rattle.esc_osc_values.specs.declared.code.OperatingSystemCommandCode.{OperatingSystemCommandCode}
use Rattle.esc_osc_values.specs.declared.code.OperatingSystemCommandCode.TheVariants as code
use Rattle.esc_osc.specs.declared.command.OperatingSystemCommand.{OperatingSystemCommand}
use Rattle.esc_osc.specs.declared.command.OperatingSystemCommand.TheVariants as command
use Rattle.esc_osc_values.specs.declared.dynamic_color_number.DynamicColorNumber.{DynamicColorNumber}
use Rattle.esc_osc_values.specs.declared.progress.Progress.{Progress}
use Rattle.esc_filter.specs.Addresses.{address_in, has_parts, is_link_code}
use Rattle.esc_filter.specs.Closing.{after_address, after_command}
use Rattle.esc_filter.specs.Rules.{BeginsOther, is_clean_part, is_hyperlink, is_link}
use Rattle.esc_filter.specs.declared.terminal.Terminal.{Terminal}

-- whether there is a command, and it is a link
abbrev links : {A : Type 0} → Option (OperatingSystemCommand A) → Bool
links None = false
links (Some c) = is_hyperlink c

module _ (A : Type 0) where
  no_link : {T : Type 0} (f : T → OperatingSystemCommand A) → ((t : T) → is_hyperlink (f t) ≡ false)
      → (o : Option T) → links (option_map f o) ≡ false
  no_link f h None = refl
  no_link f h (Some t) = h t

  then_no_link : {T : Type 0} (o : Option T) (f : T → Option (OperatingSystemCommand A))
      → ((t : T) → links (f t) ≡ false) → links (and_then o f) ≡ false
  then_no_link None f h = refl
  then_no_link (Some t) f h = h t

  no_dynamic_link : (n r : Option DynamicColorNumber) (args : List (List ℕ))
      → links {A = A} (dynamic_command n r args) ≡ false
  no_dynamic_link (Some n) r args = no_link (command.ChangeDynamicColors n) (λ _. refl)
      (colors_of args)
  no_dynamic_link None (Some n) args = refl
  no_dynamic_link None None args = refl

  no_notified_link : (p : Option Progress) (t : Option (List ℕ))
      → links {A = A} (notification p t) ≡ false
  no_notified_link (Some p) t = refl
  no_notified_link None t = no_link command.SystemNotification (λ _. refl) t

  no_content_link : (b : Bool) (s t : List ℕ)
      → links {A = A} (if b then option_map (λ b. command.QuerySelection (selection b))
      (selection_of s) else content_of s t) ≡ false
  no_content_link true s t = no_link (λ b. command.QuerySelection (selection b)) (λ _. refl)
      (selection_of s)
  no_content_link false s t = then_no_link (selection_of s) _
      (λ b. no_link (command.SetSelection (selection b)) (λ _. refl) (base64_text_of t))

  no_selected_link : (ps : List (List ℕ)) → links {A = A} (selection_command ps) ≡ false
  no_selected_link [] = refl
  no_selected_link (s ∷ []) = no_link (λ b. command.ClearSelection (selection b)) (λ _. refl)
      (selection_of s)
  no_selected_link (s ∷ t ∷ []) = no_content_link (pointwise nat_eq t (codes "?")) s t
  no_selected_link (s ∷ t ∷ u ∷ ps) = refl

  -- the reading of a code that is not the code of links
  read_no_link : (c : OperatingSystemCommandCode) (t : List ℕ) (args : List (List ℕ))
      → c ≢ code.SetHyperlink → links {A = A} (reading c t args) ≡ false
  read_no_link code.SetHyperlink t args h = absurd (h refl)
  read_no_link code.SetIconNameAndWindowTitle t args h = no_link command.SetIconNameAndWindowTitle
      (λ _. refl) _
  read_no_link code.SetIconName t args h = no_link command.SetIconName (λ _. refl) _
  read_no_link code.SetWindowTitle t args h = no_link command.SetWindowTitle (λ _. refl) _
  read_no_link code.ChangeColorNumber t args h = no_link command.ChangeColorNumber (λ _. refl) _
  read_no_link code.SetCurrentWorkingDirectory t args h = no_link command.CurrentWorkingDirectory
      (λ _. refl) _
  read_no_link code.SystemNotification t args h = no_notified_link (progress_of args)
      (lone_text args)
  read_no_link code.ManipulateSelectionData t args h = no_selected_link args
  read_no_link code.ResetColors t args h = no_link command.ResetColors (λ _. refl) _
  read_no_link code.FinalTermSemanticPrompt t args h = no_link command.FinalTermSemanticPrompt
      (λ _. refl) _
  read_no_link code.RxvtProprietary t args h = refl
  read_no_link code.ITermProprietary t args h = no_link command.ITermProprietary (λ _. refl) _
  read_no_link code.SetWindowTitleSun t args h = no_link command.SetWindowTitleSun (λ _. refl) _
  read_no_link code.SetIconNameSun t args h = no_link command.SetIconNameSun (λ _. refl) _
  read_no_link c t args h = no_dynamic_link (changed_by c) (reset_by c) args

  code_no_link : (o : Option OperatingSystemCommandCode) (t : List ℕ) (args : List (List ℕ))
      → ((c : OperatingSystemCommandCode) → o ≡ Some c → c ≢ code.SetHyperlink)
      → links {A = A} (and_then o (λ c. reading c t args)) ≡ false
  code_no_link None t args h = refl
  code_no_link (Some c) t args h = read_no_link c t args (h c refl)

  meant_no_link : (o : Option (OperatingSystemCommand A)) (ps : List (List ℕ)) → links o ≡ false
      → has_parts (address_in ps) ≡ false
      → is_hyperlink (unwrap_or o (command.Unspecified ps)) ≡ false
  meant_no_link None ps h k = k
  meant_no_link (Some c) ps h k = h

other_named : (t : List ℕ) → t ≢ codes "8" → (c : OperatingSystemCommandCode) → code_of t ≡ Some c
    → c ≢ code.SetHyperlink
other_named t other c h e = other (code_of_text t code.SetHyperlink (h ∙ ap Some e))

-- a prefix of one byte of ASCII is valid
one_valid : (b : ℕ) (p : List ℕ) (m : ℕ) → b < 128 → 1 ≤ m → 1 ≤ valid_len_up_to (b ∷ p) m
one_valid b p zero small some = absurd (omega (arith, some))
one_valid b p (suc zero) small some =
    rw
    (is_utf8-from_IsUtf8 (b ∷ []) (IsUtf8-from_ascii (b ∷ [])
    (IsAscii-cons b [] small IsAscii-nil))) (omega arith)
one_valid b p (suc (suc k)) small some =
    elim (cases_Bool (is_utf8 (take (suc (suc k)) (b ∷ p)))) [
      | inl held ↦ rw held (omega arith)
      | inr failed ↦ rw failed (one_valid b p (suc k) small (omega arith))
    ]

valid_some : (b : ℕ) (p : List ℕ) → b < 128 → 1 ≤ utf8_valid_len (b ∷ p)
unfolding utf8_valid_len
valid_some b p small = one_valid b p (length (b ∷ p)) small (omega arith)

first_taken : (n b : ℕ) (p : List ℕ) → 1 ≤ n → (q : List ℕ) × (take n (b ∷ p) ≡ b ∷ q)
first_taken zero b p some = absurd (omega (arith, some))
first_taken (suc n) b p some = (take n p, refl)

-- the first byte of a text is the first of its lossy one, if it is ASCII
whole_lossy : (b : ℕ) (p : List ℕ) → (utf8_valid_len (b ∷ p) == length (b ∷ p)) ≡ true
    → utf8_lossy (b ∷ p) ≡ b ∷ p
unfolding utf8_lossy
whole_lossy b p e = rw e refl

lossy_first : (b : ℕ) (p : List ℕ) → b < 128 → (q : List ℕ) × (utf8_lossy (b ∷ p) ≡ b ∷ q)
lossy_first b p small =
    elim (cases_Bool (utf8_valid_len (b ∷ p) == length (b ∷ p))) [
      | inl held ↦ (p, whole_lossy b p held)
      | inr failed ↦ let t = first_taken (utf8_valid_len (b ∷ p)) b p (valid_some b p small) in
          let more = replacement_bytes ++ utf8_lossy (after_first_chunk (b ∷ p)) in (
            t.0 ++ more,
            utf8_lossy_step (b ∷ p)
                (eqb-false (utf8_valid_len (b ∷ p)) (length (b ∷ p)) failed)
                ∙ ap (λ x. x ++ more) t.1,
          )
    ]

-- the first part of a text that begins with no `;` has its first byte
onto_some : (b : ℕ) (qs : List (List ℕ)) → (p : List ℕ) × (ps : List (List ℕ))
    × (onto_first b qs ≡ (b ∷ p) ∷ ps)
onto_some b [] = ([], [], refl)
onto_some b (q ∷ qs) = (q, qs, refl)

digit_named : (b : ℕ) (q : List ℕ) (args : List (List ℕ)) → 0x30 ≤ b → b ≤ 0x39
    → code_name (b ∷ q) args ≡ b ∷ q
digit_named b q [] low high = code_name_digit (b ∷ q) low high
digit_named b q (p ∷ args) low high = refl

named_no_link : (A : Type 0) (b : ℕ) (q : List ℕ) (args : List (List ℕ)) → 0x30 ≤ b → b ≤ 0x39
    → b ≢ 0x38 → links {A = A} (named_command (b ∷ q) args) ≡ false
named_no_link A b q args low high other =
    ap (λ t. links {A = A} (and_then (code_of t) (λ c. reading c (b ∷ q) args)))
    (digit_named b q args low high)
    ∙ code_no_link A (code_of (b ∷ q)) (b ∷ q) args
    (other_named (b ∷ q) (λ e. other (ap (λ l. get_or l 0 0) e)))

-- such a part is not the code of links
other_code : (b : ℕ) (p : List ℕ) → b ≢ 0x38 → is_link_code (b ∷ p) ≡ false
other_code b [] other = ne_eqb b 0x38 other
other_code b (c ∷ p) other = refl

no_address : (b : ℕ) (p : List ℕ) (ps : List (List ℕ)) → b ≢ 0x38
    → has_parts (address_in ((b ∷ p) ∷ ps)) ≡ false
no_address b p [] other = refl
no_address b p (q ∷ us) other = ap (λ t. has_parts (if t then us else [])) (other_code b p other)

begun_no_link : (A : Type 0) (b : ℕ) (p : List ℕ) (ps : List (List ℕ)) → 0x30 ≤ b → b ≤ 0x39
    → b ≢ 0x38 → is_hyperlink (meaning {A = A} ((b ∷ p) ∷ ps)) ≡ false
begun_no_link A b p ps low high other =
    let l = lossy_first b p (omega (arith, high)) in
    meant_no_link A (named_command (utf8_lossy (b ∷ p)) ps) ((b ∷ p) ∷ ps)
    (ap (λ t. links {A = A} (named_command t ps)) l.1 ∙ named_no_link A b l.0 ps low high other)
    (no_address b p ps other)

-- a text that begins with another digit than the code of links does
begins_no_link : (A : Type 0) (b : ℕ) (t : List ℕ) → 0x30 ≤ b → b ≤ 0x39 → b ≢ 0x38
    → is_hyperlink (meaning {A = A} (parts_of (b ∷ t))) ≡ false
begins_no_link A b t low high other =
    let no : (b == 0x3b) ≡ false = ne_eqb b 0x3b (λ e. omega (arith, e, high)) in
    let first = onto_some b (slice_split (λ c. c == 0x3b) t) in
    ap (λ ps. is_hyperlink (meaning {A = A} ps))
    (slice_split-cons_no (λ c. c == 0x3b) b t no ∙ first.2)
    ∙ begun_no_link A b first.0 first.1 low high other

-- a command that is none of these is no link, and leaves all as it was
unlinked : {A : Type 0} (c : OperatingSystemCommand A) → is_hyperlink c ≡ false → is_link c ≡ false
unlinked (command.SetHyperlink l) h = absurd (true≢false h)
unlinked (command.Unspecified ps) h = ap (λ t. t && list_all is_clean_part ps) h
unlinked _ h = refl

stays_at : (us : List (List ℕ)) (t : Terminal) → has_parts us ≡ false → after_address us t ≡ t
stays_at [] t h = refl
stays_at (u ∷ us) t h = absurd (true≢false h)

stays : {A : Type 0} (c : OperatingSystemCommand A) (t : Terminal) → is_hyperlink c ≡ false
    → after_command c t ≡ t
stays (command.SetHyperlink l) t h = absurd (true≢false h)
stays (command.Unspecified ps) t h = stays_at (address_in ps) t h
stays _ t h = refl

begins : (A : Type 0) (t : List ℕ) → BeginsOther t
    → is_hyperlink (meaning {A = A} (parts_of t)) ≡ false
begins A t (b, rest, e, low, high, other) =
    ap (λ t. is_hyperlink (meaning {A = A} (parts_of t))) e
    ∙ begins_no_link A b rest low high other

pub other_begins : (A : Type 0) (t : List ℕ) → BeginsOther t
    → is_link (meaning {A = A} (parts_of t)) ≡ false
other_begins A t h = unlinked (meaning (parts_of t)) (begins A t h)

pub other_leaves : (A : Type 0) (x : List ℕ) (t : Terminal) → BeginsOther x
    → after_command (meaning {A = A} (parts_of x)) t ≡ t
other_leaves A x t h = stays (meaning (parts_of x)) t (begins A x h)

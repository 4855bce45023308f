-- The command that clear parts mean is writable.
use Rattle.std.proofs.Common.{ℕ, ◌≡◌, ◌<◌, nat_le, nat_eq, ◌&&◌, inl, inr, List, [], ◌∷◌, length, map, drop, codes, Option, Some, None, refl, sym, ap}
use Rattle.std.proofs.Common.{subst, arith}
use Rattle.std.specs.Char.{encode_utf8}
use Rattle.std.specs.Cmp.Lexicographic.{pointwise}
use Rattle.std.specs.Option.{option_map, unwrap_or}
use Rattle.std.specs.Str.{IsUtf8}
use Rattle.std.specs.Str.Lossy.{utf8_lossy}
use Rattle.std.proofs.lemmas.Str.{length-encode, len_utf8_bounds}
use Rattle.std.proofs.lemmas.Bool.{cases_Bool}
use Rattle.esc_values.specs.Base64.{base64_text_of}
use Rattle.esc_values.specs.Clear.{IsClearText, IsClearPart, AreClearParts, AreTextParts, semicolon_list}
use Rattle.esc_values.specs.Scalars.{and_then, utf8_of}
use Rattle.esc_values.proofs.Clear.SplitAndJoined.{joined_clear}
use Rattle.esc_values.proofs.Clear.ClearTexts.{part_lossy, parts_lossy, tail_part}
use Rattle.esc_osc_values.proofs.Codes.{code_of_text}
use Rattle.esc_osc_values.proofs.Fits.{numbers_where, colors_where, pairs_where, progress_where}
use Rattle.esc_osc.proofs.Layers.{Good, prompt_good, iterm_good, link_good}
use Rattle.esc_osc_values.proofs.Selections.{selection_named}
use Rattle.esc_values.proofs.Numbers.FactsIfSome.{Where, where_map, where_then, utf8_keeps, content_where}
use Rattle.esc_osc_values.specs.Codes.{code_of, code_name, code_text, changed_by, reset_by}
use Rattle.esc_osc_values.specs.Colors.{colors_of, pairs_of}
use Rattle.esc_osc_values.specs.Progresses.{progress_of}
use Rattle.esc_osc.specs.Reading.{meaning, fitting, reading, selection_command, notification, dynamic_command}
use Rattle.esc_osc_values.specs.Lists.{title_of, lone_text, numbers_of}
use Rattle.esc_osc_values.specs.Selections.{selection}
use Rattle.esc_osc_values.specs.Selections.{selection_of}
use Rattle.esc_osc.specs.Writable.{IsWritable}
use Rattle.esc_osc_values.specs.WritableValues.{AreNumbers, AreColors, ArePairs, IsNamed, IsProgress}
use Rattle.esc_osc_values.specs.declared.code.OperatingSystemCommandCode.{OperatingSystemCommandCode}
use Rattle.esc_osc_values.specs.declared.code.OperatingSystemCommandCode.TheVariants as code
use Rattle.esc_osc.specs.declared.command.OperatingSystemCommand.{OperatingSystemCommand}
use Rattle.esc_osc.specs.declared.command.OperatingSystemCommand.TheVariants as command
use Rattle.esc_osc_values.specs.declared.dynamic_color_number.DynamicColorNumber.{DynamicColorNumber}
use Rattle.esc_osc_values.specs.declared.progress.Progress.{Progress}

title_clear : (args : List (List ℕ)) → AreClearParts args
    → Where (λ t. IsClearText t) (title_of args)
title_clear [] h = tt
title_clear (p ∷ ps) h =
    utf8_keeps (λ t. IsClearText t) (semicolon_list (p ∷ ps)) (joined_clear (p ∷ ps) h)

lone_clear : (args : List (List ℕ)) → AreClearParts args
    → Where (λ t. IsClearPart t) (lone_text args)
lone_clear [] h = tt
lone_clear (p ∷ []) h = utf8_keeps (λ t. IsClearPart t) p h.0
lone_clear (p ∷ q ∷ ps) h = tt

-- a text after a letter
sun_head : (b : ℕ) (t : List ℕ) (args : List (List ℕ)) → code_name t args ≡ b ∷ []
    → t ≡ b ∷ drop 1 t
sun_head b [] [] e = absurd cc
sun_head b [] (q ∷ qs) e = absurd cc
sun_head b (x ∷ xs) (q ∷ qs) e = let same : x ≡ b = cc in ap (λ y. y ∷ xs) same
sun_head b (x ∷ xs) [] e =
    elim (cases_Bool (nat_le 0x30 x && nat_le x 0x39)) [
      | inl held ↦ let whole : x ∷ xs ≡ b ∷ [] = rw held at e in let same : x ≡ b = cc in
          ap (λ y. y ∷ xs) same
      | inr failed ↦ let first : x ∷ [] ≡ b ∷ [] = rw failed at e in let same : x ≡ b = cc in
          ap (λ y. y ∷ xs) same
    ]

some_byte : (c : ℕ) → 0 < length (encode_utf8 c)
some_byte c = omega (arith, length-encode c, (len_utf8_bounds c).0)

sun_tail : (b : ℕ) (t : List ℕ) (args : List (List ℕ)) → b < 128 → code_name t args ≡ b ∷ []
    → IsClearPart t → Where (λ u. IsClearPart u) (utf8_of (drop 1 t))
sun_tail b t args small e h =
    let P : List ℕ → Type 0 = λ u. IsClearPart u in
    utf8_keeps (λ u. IsClearPart u) (drop 1 t)
    (tail_part b (drop 1 t) small some_byte (subst P (sun_head b t args e) h))

notified_good : (A : Type 0) (o : Option Progress) (t : Option (List ℕ)) → Where IsProgress o
    → Where (λ u. IsClearPart u) t → Where (Good A) (notification o t)
notified_good A (Some p) t h k = h
notified_good A None t h k =
    where_map (λ u. IsClearPart u) (Good A) command.SystemNotification (λ u q. q) t k

dynamic_good : (A : Type 0) (n m : Option DynamicColorNumber) (args : List (List ℕ))
    → Where (Good A) (dynamic_command n m args)
dynamic_good A (Some n) m args = where_map AreColors (Good A) (command.ChangeDynamicColors n)
    (λ cs k. k) (colors_of args) (colors_where args)
dynamic_good A None (Some m) args = tt
dynamic_good A None None args = tt

selected_good : (A : Type 0) (args : List (List ℕ)) → Where (Good A) (selection_command args)
selected_good A [] = tt
selected_good A (s ∷ []) = where_map IsNamed (Good A) (λ b. command.ClearSelection (selection b))
    (λ b h. h) (selection_of s) (selection_named s)
selected_good A (s ∷ t ∷ []) =
    elim (cases_Bool (pointwise nat_eq t (codes "?"))) [
      | inl held ↦ rw held (where_map IsNamed (Good A) (λ b. command.QuerySelection (selection b))
          (λ b h. h) (selection_of s) (selection_named s))
      | inr failed ↦ rw failed (where_then IsNamed (Good A) (λ b.
          option_map (λ text. command.SetSelection (selection b) text) (base64_text_of t))
          (λ b h. where_map (λ u. IsUtf8 u) (Good A) (λ text.
          command.SetSelection (selection b) text) (λ text k. (h, k)) (base64_text_of t)
          (content_where t)) (selection_of s) (selection_named s))
    ]
selected_good A (s ∷ t ∷ u ∷ more) = tt

texts_good : (args : List (List ℕ)) → AreClearParts args → AreClearParts (map utf8_lossy args)
texts_good args h = let P : List (List ℕ) → Type 0 = λ us. AreClearParts us in
    subst P (sym (parts_lossy args h)) h

reading_good : (A : Type 0) (c : OperatingSystemCommandCode) (t : List ℕ) (args : List (List ℕ))
    → code_name t args ≡ code_text c → IsClearPart t
    → AreClearParts args
    → Where (Good A) (reading {A = A} c t args)
reading_good A code.SetIconNameAndWindowTitle t args e h k =
    where_map (λ u. IsClearText u) (Good A) command.SetIconNameAndWindowTitle (λ u q.
    q) (title_of args) (title_clear args k)
reading_good A code.SetIconName t args e h k =
    where_map (λ u. IsClearText u) (Good A) command.SetIconName (λ u q.
    q) (title_of args) (title_clear args k)
reading_good A code.SetWindowTitle t args e h k =
    where_map (λ u. IsClearText u) (Good A) command.SetWindowTitle (λ u q.
    q) (title_of args) (title_clear args k)
reading_good A code.ChangeColorNumber t args e h k =
    where_map ArePairs (Good A) command.ChangeColorNumber (λ u q.
    q) (pairs_of args) (pairs_where args)
reading_good A code.SetCurrentWorkingDirectory t args e h k =
    where_map (λ u. IsClearPart u) (Good A) command.CurrentWorkingDirectory (λ u q.
    q) (lone_text args) (lone_clear args k)
reading_good A code.SetHyperlink t args e h k = link_good A t args h k
reading_good A code.SystemNotification t args e h k =
    notified_good A (progress_of args) (lone_text args) (progress_where args) (lone_clear args k)
reading_good A code.ManipulateSelectionData t args e h k = selected_good A args
reading_good A code.ResetColors t args e h k =
    where_map AreNumbers (Good A) command.ResetColors (λ u q.
    q) (numbers_of args) (numbers_where args)
reading_good A code.FinalTermSemanticPrompt t args e h k = prompt_good A args k
reading_good A code.RxvtProprietary t args e h k = texts_good args k
reading_good A code.ITermProprietary t args e h k = iterm_good A args k
reading_good A code.SetWindowTitleSun t args e h k =
    where_map (λ u. IsClearPart u) (Good A) command.SetWindowTitleSun (λ u q.
    q) (utf8_of (drop 1 t)) (sun_tail 0x6c t args (omega arith) e h)
reading_good A code.SetIconNameSun t args e h k =
    where_map (λ u. IsClearPart u) (Good A) command.SetIconNameSun (λ u q. q) (utf8_of (drop 1 t))
    (sun_tail 0x4c t args (omega arith) e h)
reading_good A c t args e h k = dynamic_good A (changed_by c) (reset_by c) args

fitting_good : (A : Type 0) (p : List ℕ) (args : List (List ℕ)) → IsClearPart p → AreClearParts args
    → (o : Option OperatingSystemCommandCode) → code_of (code_name (utf8_lossy p) args) ≡ o
    → Where (Good A) (and_then o (λ c. reading {A = A} c (utf8_lossy p) args))
fitting_good A p args h k None e = tt
fitting_good A p args h k (Some c) e =
    let P : List ℕ → Type 0 = λ u. IsClearPart u in
    reading_good A c (utf8_lossy p) args (code_of_text (code_name (utf8_lossy p) args) c e)
    (subst P (sym (part_lossy p h)) h) k

-- and so are the parts as they are, where no case fits
either_good : (A : Type 0) (ps : List (List ℕ)) → AreTextParts ps
    → (r : Option (OperatingSystemCommand A)) → fitting {A = A} ps ≡ r
    → Where (Good A) r → IsWritable (unwrap_or r (command.Unspecified ps))
either_good A ps h None e w = (h, ap (λ r. unwrap_or r (command.Unspecified ps)) e)
either_good A ps h (Some c) e w = w

pub clear_is_writable : (A : Type 0) (ps : List (List ℕ)) → AreTextParts ps
    → IsWritable (meaning {A = A} ps)
clear_is_writable A [] h = (h, refl)
clear_is_writable A (p ∷ args) h =
    either_good A (p ∷ args) h (fitting {A = A} (p ∷ args)) refl
    (fitting_good A p args h.0.0 h.0.1 (code_of (code_name (utf8_lossy p) args)) refl)

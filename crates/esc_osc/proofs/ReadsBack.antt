-- Every writable command reads back.
use Rattle.std.proofs.Common.{ℕ, ◌≡◌, arith, ◌==◌, List, [], ◌∷◌, ◌++◌, map, codes, Some, refl, sym, ap, ◌∙◌, subst}
use Rattle.std.specs.Fmt.{decimal}
use Rattle.std.specs.List.{flat_map, slice_split}
use Rattle.std.specs.Option.{option_map}
use Rattle.std.specs.Str.{IsUtf8}
use Rattle.std.proofs.lemmas.List.{append-nil}
use Rattle.esc_values.specs.Base64.{base64_text}
use Rattle.esc_values.specs.Clear.{IsClearText, IsClearPart, AreClearParts, parts_of}
use Rattle.esc_values.proofs.Clear.PlainPartsAreClear.{plain_part}
use Rattle.esc_values.proofs.Clear.SplitAndJoined.{joined_clear, part_clear, parts_text}
use Rattle.esc_values.proofs.Codecs.Base64ReadsBack.{base64_part, base64_back}
pub use Rattle.esc_values.proofs.Clear.ClearTexts.{chars_scalar, clear_utf8}
pub use Rattle.esc_osc.proofs.ReadParts.{clear_is_writable}
use Rattle.esc_values.proofs.Clear.ClearTexts.{part_utf8_of, part_lossy, parts_lossy, part_append}
use Rattle.esc_osc_values.proofs.JoinedLossy.{lossy_joined}
use Rattle.esc_osc_values.proofs.Codes.{code_of-code_text}
use Rattle.esc_osc_values.proofs.Colors.{specs_are_parts, colors_back, two_parts, two_are_parts, pairs_back, pairs_joined}
use Rattle.esc_osc.proofs.Dynamic.{change_reads, reset_reads}
use Rattle.esc_osc.proofs.Layers.{prompted, proprietary, linked}
use Rattle.esc_osc_values.proofs.Numerals.{byte_part, decimals_are_parts, numbers_back, percent_back}
use Rattle.esc_osc_values.proofs.Parts.{flat_map_map}
use Rattle.esc_osc_values.proofs.Titles.{title_parts, title_split, title_text}
use Rattle.esc_osc_values.proofs.Selections.{selection_back, selection_part, base64_other}
use Rattle.esc_osc.proofs.Written.{Written, written_clear, written_back, code_part, one_written, two_written}
use Rattle.esc_osc_values.specs.Codes.{code_text, change_code, reset_code}
use Rattle.esc_osc_values.specs.Colors.{spec_text}
use Rattle.esc_osc.specs.Commands.{inner_text, title_command}
use Rattle.esc_osc.specs.Reading.{meaning, reading}
use Rattle.esc_osc_values.specs.Selections.{selection_text}
use Rattle.esc_osc.specs.Writable.{IsWritable}
use Rattle.esc_osc_values.specs.WritableValues.{AreNumbers, AreColors, ArePairs, IsNamed, IsProgress}
use Rattle.esc_osc_values.specs.declared.change_color_pair.ChangeColorPair.{ChangeColorPair}
use Rattle.esc_osc_values.specs.declared.code.OperatingSystemCommandCode.{OperatingSystemCommandCode}
use Rattle.esc_osc_values.specs.declared.code.OperatingSystemCommandCode.TheVariants as code
use Rattle.esc_osc_values.specs.declared.color_or_query.ColorOrQuery.{ColorOrQuery}
use Rattle.esc_osc.specs.declared.command.OperatingSystemCommand.{OperatingSystemCommand}
use Rattle.esc_osc.specs.declared.command.OperatingSystemCommand.TheVariants as command
use Rattle.esc_osc_values.specs.declared.dynamic_color_number.DynamicColorNumber.{DynamicColorNumber}
use Rattle.esc_osc_values.specs.declared.progress.Progress.{Progress}
use Rattle.esc_osc_values.specs.declared.progress.Progress.TheVariants as progress
use Rattle.esc_osc_values.specs.declared.selection.Selection.{Selection}

-- a title after its code
entitled : (A : Type 0) (k : OperatingSystemCommandCode) (t : List ℕ) (c : OperatingSystemCommand A)
    → IsClearText t → inner_text c ≡ title_command k t
    → reading k (code_text k) (slice_split (λ c. c == 0x3b) t) ≡ Some c → Written A c
entitled A k t c h is e = record {
  code = k;
  args = slice_split (λ c. c == 0x3b) t;
  text = is ∙ ap (λ u. code_text k ++ u) (title_text t);
  clear = title_parts t h;
  reads = e;
}

-- a text after a letter
letter_part : (c : OperatingSystemCommandCode) (t : List ℕ) → IsClearPart t
    → IsClearPart (code_text c ++ t)
letter_part c t h = part_append (code_text c) t (code_part c) h

one_part : (b : ℕ) (t : List ℕ) → IsClearPart (b ∷ t) → parts_of (b ∷ t) ≡ (b ∷ t) ∷ []
one_part b t h =
    ap parts_of (sym (append-nil (b ∷ t))) ∙ (parts_text ((b ∷ t) ∷ []) ((h, tt), λ e. cc)).1

window_means : (A : Type 0) (t : List ℕ) → IsClearPart (0x6c ∷ t) → IsClearPart t
    → meaning {A = A} ((0x6c ∷ t) ∷ []) ≡ command.SetWindowTitleSun t
window_means A t h k =
    rw (part_lossy (0x6c ∷ t) h, code_of-code_text code.SetWindowTitleSun, part_utf8_of t k) refl

icon_means : (A : Type 0) (t : List ℕ) → IsClearPart (0x4c ∷ t) → IsClearPart t
    → meaning {A = A} ((0x4c ∷ t) ∷ []) ≡ command.SetIconNameSun t
icon_means A t h k =
    rw (part_lossy (0x4c ∷ t) h, code_of-code_text code.SetIconNameSun, part_utf8_of t k) refl

-- one text after the code
directory : (A : Type 0) (t : List ℕ) → IsClearPart t
    → Written A (command.CurrentWorkingDirectory t)
directory A t h = record {
  code = code.SetCurrentWorkingDirectory;
  args = t ∷ [];
  text = one_written code.SetCurrentWorkingDirectory t;
  clear = (h, tt);
  reads = ap (option_map command.CurrentWorkingDirectory) (part_utf8_of t h);
}

notification : (A : Type 0) (t : List ℕ) → IsClearPart t → Written A (command.SystemNotification t)
notification A t h = record {
  code = code.SystemNotification;
  args = t ∷ [];
  text = one_written code.SystemNotification t;
  clear = (h, tt);
  reads = ap (option_map command.SystemNotification) (part_utf8_of t h);
}

-- progress
progressing : (A : Type 0) (p : Progress) → IsProgress p → Written A (command.ConEmuProgress p)
progressing A progress.None h = record {
  code = code.SystemNotification;
  args = codes "4" ∷ codes "0" ∷ [];
  text = refl;
  clear = (plain_part (codes "4") refl, (plain_part (codes "0") refl, tt));
  reads = refl;
}
progressing A (progress.SetPercentage n) h = record {
  code = code.SystemNotification;
  args = codes "4" ∷ codes "1" ∷ decimal n ∷ [];
  text = ap (λ x. codes "9;4;1;" ++ x) (sym (append-nil (decimal n)));
  clear = (
    plain_part (codes "4") refl,
    (plain_part (codes "1") refl, (byte_part n (omega arith), tt)),
  );
  reads = ap (λ k. Some (command.ConEmuProgress (progress.SetPercentage k))) (percent_back n h);
}
progressing A (progress.SetError n) h = record {
  code = code.SystemNotification;
  args = codes "4" ∷ codes "2" ∷ decimal n ∷ [];
  text = ap (λ x. codes "9;4;2;" ++ x) (sym (append-nil (decimal n)));
  clear = (
    plain_part (codes "4") refl,
    (plain_part (codes "2") refl, (byte_part n (omega arith), tt)),
  );
  reads = ap (λ k. Some (command.ConEmuProgress (progress.SetError k))) (percent_back n h);
}
progressing A progress.SetIndeterminate h = record {
  code = code.SystemNotification;
  args = codes "4" ∷ codes "3" ∷ [];
  text = refl;
  clear = (plain_part (codes "4") refl, (plain_part (codes "3") refl, tt));
  reads = refl;
}
progressing A progress.Paused h = record {
  code = code.SystemNotification;
  args = codes "4" ∷ codes "4" ∷ [];
  text = refl;
  clear = (plain_part (codes "4") refl, (plain_part (codes "4") refl, tt));
  reads = refl;
}

-- selections
cleared : (A : Type 0) (s : Selection) → IsNamed s.0 → Written A (command.ClearSelection s)
cleared A s h = record {
  code = code.ManipulateSelectionData;
  args = selection_text s.0 ∷ [];
  text = one_written code.ManipulateSelectionData (selection_text s.0);
  clear = (selection_part s.0 h, tt);
  reads = rw (selection_back s.0 h) refl;
}

queried : (A : Type 0) (s : Selection) → IsNamed s.0 → Written A (command.QuerySelection s)
queried A s h = record {
  code = code.ManipulateSelectionData;
  args = selection_text s.0 ∷ codes "?" ∷ [];
  text = two_written code.ManipulateSelectionData (selection_text s.0) (codes "?");
  clear = (selection_part s.0 h, (plain_part (codes "?") refl, tt));
  reads = rw (selection_back s.0 h) refl;
}

filled : (A : Type 0) (s : Selection) (t : List ℕ) → IsNamed s.0 → IsUtf8 t
    → Written A (command.SetSelection s t)
filled A s t h u = record {
  code = code.ManipulateSelectionData;
  args = selection_text s.0 ∷ base64_text t ∷ [];
  text = two_written code.ManipulateSelectionData (selection_text s.0) (base64_text t);
  clear = (selection_part s.0 h, (base64_part t u, tt));
  reads = rw (base64_other t u, selection_back s.0 h, base64_back t u) refl;
}

-- colours
palette : (A : Type 0) (ps : List ChangeColorPair) → ArePairs ps
    → Written A (command.ChangeColorNumber ps)
palette A [] h = record {
  code = code.ChangeColorNumber;
  args = [] ∷ [];
  text = refl;
  clear = (plain_part [] refl, tt);
  reads = refl;
}
palette A (p ∷ ps) h = record {
  code = code.ChangeColorNumber;
  args = flat_map two_parts (p ∷ ps);
  text = ap (λ t. code_text code.ChangeColorNumber ++ t) (pairs_joined (p ∷ ps));
  clear = two_are_parts (p ∷ ps) h;
  reads = ap (option_map command.ChangeColorNumber) (pairs_back (p ∷ ps) h);
}

changed : (A : Type 0) (n : DynamicColorNumber) (cs : List ColorOrQuery) → AreColors cs
    → Written A (command.ChangeDynamicColors n cs)
changed A n cs h = record {
  code = change_code n;
  args = map spec_text cs;
  text = ap (λ t. code_text (change_code n) ++ t) (sym (flat_map_map spec_text cs));
  clear = specs_are_parts cs h;
  reads = change_reads A n (code_text (change_code n)) (map spec_text cs)
      ∙ ap (option_map (command.ChangeDynamicColors n)) (colors_back cs h);
}

restored : (A : Type 0) (n : DynamicColorNumber) → Written A (command.ResetDynamicColor n)
restored A n = record {
  code = reset_code n;
  args = [];
  text = sym (append-nil (code_text (reset_code n)));
  clear = tt;
  reads = reset_reads A n (code_text (reset_code n)) [];
}

numbered : (A : Type 0) (ns : List ℕ) → AreNumbers ns → Written A (command.ResetColors ns)
numbered A ns h = record {
  code = code.ResetColors;
  args = map decimal ns;
  text = ap (λ t. code_text code.ResetColors ++ t) (sym (flat_map_map decimal ns));
  clear = decimals_are_parts ns h;
  reads = ap (option_map command.ResetColors) (numbers_back ns h);
}

extension : (A : Type 0) (ts : List (List ℕ)) → AreClearParts ts
    → Written A (command.RxvtExtension ts)
extension A ts h = record {
  code = code.RxvtProprietary;
  args = ts;
  text = refl;
  clear = h;
  reads = ap (λ us. Some (command.RxvtExtension us)) (parts_lossy ts h);
}

-- a writable command's text is clear, and reads back
abbrev Back : {A : Type 0} → OperatingSystemCommand A → Type 0
Back c = IsClearText (inner_text c) × (meaning (parts_of (inner_text c)) ≡ c)

by : (A : Type 0) (c : OperatingSystemCommand A) → Written A c → Back c
by A c w = (written_clear A c w, written_back A c w)

back : {A : Type 0} (c : OperatingSystemCommand A) → IsWritable c → Back c
back {A = A} (command.SetIconNameAndWindowTitle t) h =
    by A _ (entitled A code.SetIconNameAndWindowTitle t (command.SetIconNameAndWindowTitle t) h refl
    (ap (option_map command.SetIconNameAndWindowTitle) (title_split t (clear_utf8 t h))))
back {A = A} (command.SetWindowTitle t) h =
    by A _ (entitled A code.SetWindowTitle t (command.SetWindowTitle t) h refl
    (ap (option_map command.SetWindowTitle) (title_split t (clear_utf8 t h))))
back {A = A} (command.SetWindowTitleSun t) h =
    let part = letter_part code.SetWindowTitleSun t h in (
      part_clear (0x6c ∷ t) part,
      ap (meaning {A = A}) (one_part 0x6c t part)
          ∙ window_means A t part h,
    )
back {A = A} (command.SetIconName t) h =
    by A _ (entitled A code.SetIconName t (command.SetIconName t) h refl
    (ap (option_map command.SetIconName) (title_split t (clear_utf8 t h))))
back {A = A} (command.SetIconNameSun t) h =
    let part = letter_part code.SetIconNameSun t h in (
      part_clear (0x4c ∷ t) part,
      ap (meaning {A = A}) (one_part 0x4c t part)
          ∙ icon_means A t part h,
    )
back {A = A} (command.SetHyperlink v) h = (h.0, linked A v h.0 h.1)
back {A = A} (command.ClearSelection s) h = by A _ (cleared A s h)
back {A = A} (command.QuerySelection s) h = by A _ (queried A s h)
back {A = A} (command.SetSelection s t) h = by A _ (filled A s t h.0 h.1)
back {A = A} (command.SystemNotification t) h = by A _ (notification A t h)
back {A = A} (command.ITermProprietary c) h = by A _ (proprietary A c h)
back {A = A} (command.FinalTermSemanticPrompt p) h = by A _ (prompted A p h)
back {A = A} (command.ChangeColorNumber ps) h = by A _ (palette A ps h)
back {A = A} (command.ChangeDynamicColors n cs) h = by A _ (changed A n cs h)
back {A = A} (command.ResetDynamicColor n) h = by A _ (restored A n)
back {A = A} (command.CurrentWorkingDirectory t) h = by A _ (directory A t h)
back {A = A} (command.ResetColors ns) h = by A _ (numbered A ns h)
back {A = A} (command.RxvtExtension ts) h = by A _ (extension A ts h)
back {A = A} (command.ConEmuProgress p) h = by A _ (progressing A p h)
back {A = A} (command.Unspecified ps) h =
    let P : List ℕ → Type 0 = λ u. IsClearText u in (
      subst P (sym (lossy_joined ps h.0.0)) (joined_clear ps h.0.0),
      ap (λ x. meaning {A = A} (parts_of x)) (lossy_joined ps h.0.0)
          ∙ ap (meaning {A = A}) (parts_text ps h.0).1 ∙ h.1,
    )

pub writes_clear : {A : Type 0} (c : OperatingSystemCommand A) → IsWritable c
    → IsClearText (inner_text c)
writes_clear c h = (back c h).0

pub reads_back : {A : Type 0} (c : OperatingSystemCommand A) → IsWritable c
    → meaning (parts_of (inner_text c)) ≡ c
reads_back c h = (back c h).1

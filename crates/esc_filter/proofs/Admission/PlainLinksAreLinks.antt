-- Plain links of bytes 20 to 7E are links.
use Rattle.std.proofs.Common.{◌≡◌, ℕ, ◌<◌, length, take, drop, Bool, true, false, List, [], ◌∷◌, ◌++◌, codes, Option, Some, None, refl, sym, ap, ◌∙◌, subst, arith}
use Rattle.std.specs.List.{flat_map, list_all, list_any, prefix_len}
use Rattle.std.specs.Str.{IsAscii, chars}
use Rattle.std.proofs.lemmas.Bool.{and_parts}
use Rattle.std.proofs.lemmas.Bool.Decides.{nat_tests}
use Rattle.std.proofs.lemmas.List.{append_cancel_right, take_all}
use Rattle.std.proofs.lemmas.List.Folds.{list_all-append}
use Rattle.std.proofs.lemmas.Str.{chars-IsAscii}
use Rattle.std.proofs.lemmas.Str.Ascii.{IsAscii-cons, IsAscii-nil}
use Rattle.unicode_visibility.proofs.Ranges.{low_plain}
use Rattle.unicode_visibility.specs.Characters.{is_deceiving}
use Rattle.esc_frame.specs.Scans.{is_data_byte}
use Rattle.esc_frame.proofs.ByteRuns.StringRuns.{all_pass}
use Rattle.esc_values.specs.Clear.{framed_text, parts_of}
use Rattle.esc_values.specs.Cuts.{Pairs, pair_text}
use Rattle.esc_links.specs.Hyperlinks.{hyperlink_text, params_text}
use Rattle.esc_links.specs.declared.hyperlink.Hyperlink.{Hyperlink}
use Rattle.esc_osc.specs.Commands.{command_text}
use Rattle.esc_osc.specs.Reading.{meaning}
use Rattle.esc_osc.specs.declared.command.OperatingSystemCommand.TheVariants as command
use Rattle.esc_write.specs.Plain.{IsPlainLink}
use Rattle.esc_filter.specs.Rules.{is_clean, is_clean_link, is_clean_pair, is_link, is_shown}

-- ---- bytes 20 to 7E

abbrev AreData : List ℕ → Type 0
AreData t = list_all is_data_byte t ≡ true

shown_one : (b : ℕ) → is_data_byte b ≡ true → is_shown b ≡ true
shown_one b h = grind (arith, nat_tests)

low_one : (b : ℕ) → is_data_byte b ≡ true → b < 128
low_one b h = grind (arith, nat_tests)

below : (b : ℕ) → b < 128 → b < 0xad
below b h = omega (arith, h)

all_shown : (t : List ℕ) → AreData t → list_all is_shown t ≡ true
all_shown [] h = refl
all_shown (b ∷ t) h =
    let k = and_parts (is_data_byte b) (list_all is_data_byte t) h in
    rw (shown_one b k.0, all_shown t k.1) refl

ascii : (t : List ℕ) → AreData t → IsAscii t
ascii [] h = IsAscii-nil
ascii (b ∷ t) h =
    let k = and_parts (is_data_byte b) (list_all is_data_byte t) h in
    IsAscii-cons b t (low_one b k.0) (ascii t k.1)

none_deceives : (t : List ℕ) → AreData t → list_any is_deceiving t ≡ false
none_deceives [] h = refl
none_deceives (b ∷ t) h =
    let k = and_parts (is_data_byte b) (list_all is_data_byte t) h in
    rw (low_plain b (below b (low_one b k.0))) (none_deceives t k.1)

data_clean : (t : List ℕ) → AreData t → is_clean t ≡ true
data_clean t h = rw (all_shown t h, chars-IsAscii t (ascii t h), none_deceives t h) refl

-- ---- the texts of a link

split : (x y : List ℕ) → AreData (x ++ y) → AreData x × AreData y
split x y h =
    and_parts (list_all is_data_byte x) (list_all is_data_byte y)
    (sym (list_all-append is_data_byte x y) ∙ h)

pair_clean : (e : List ℕ × List ℕ) → AreData (pair_text e) → is_clean_pair e ≡ true
pair_clean e h =
    let k = split e.0 (0x3d ∷ e.1) h in rw (data_clean e.0 k.0, data_clean e.1 k.1) refl

abbrev more_pairs : Pairs → List ℕ
more_pairs es = flat_map (λ e. 0x3a ∷ pair_text e) es

pairs_clean : (es : Pairs) → AreData (more_pairs es) → list_all is_clean_pair es ≡ true
pairs_clean [] h = refl
pairs_clean (e ∷ es) h =
    let k = split (pair_text e) (more_pairs es) h in rw (pair_clean e k.0, pairs_clean es k.1) refl

params_clean : (es : Pairs) → AreData (params_text es) → list_all is_clean_pair es ≡ true
params_clean [] h = refl
params_clean (e ∷ es) h =
    let k = split (pair_text e) (more_pairs es) h in rw (pair_clean e k.0, pairs_clean es k.1) refl

module _ (A : Type 0) where
  link_clean : (l : Hyperlink A) → AreData (hyperlink_text l) → is_clean_link (Some l) ≡ true
  link_clean l h =
      let k = split (params_text l.params) (0x3b ∷ l.uri) h in
      rw (params_clean l.params k.0, data_clean l.uri k.1) refl

  some_clean : (t : List ℕ) (l : Option (Hyperlink A)) → AreData t
      → command_text (command.SetHyperlink l) ≡ framed_text t → is_clean_link l ≡ true
  some_clean t None h e = refl
  some_clean t (Some l) h e =
      link_clean l
      (ap (list_all is_data_byte)
      (append_cancel_right (hyperlink_text l) t (0x1b ∷ 0x5c ∷ []) (ap (drop 2) e)) ∙ h)

  pub plain_is_link : (t : List ℕ) (n : ℕ) → n ≡ prefix_len is_data_byte t → n ≡ length t
      → IsPlainLink A t → is_link (meaning {A = A} (parts_of t)) ≡ true
  plain_is_link t n run whole (l, means, written) =
      let all : take n t ≡ t = take_all n t (omega (arith, whole)) in
      ap is_link means
      ∙ some_clean t l (subst AreData all (all_pass is_data_byte t n run))
      (ap command_text (sym means) ∙ written)

-- Lines that are written as they are, as they are read.
use Rattle.std.proofs.Common.{ℕ, suc, not, ◌≡◌, ◌<◌, ◌+◌, ◌-◌, length, take, drop, get_or, Bool, true, false, List, [], ◌∷◌, ◌++◌, map, arith, refl, ap, sym, ◌∙◌, subst, append_assoc}
use Rattle.std.specs.Prelude.{IsTrue}
use Rattle.std.specs.List.{list_all, prefix_len}
use Rattle.std.specs.Str.{IsUtf8, encode_utf8_all}
use Rattle.std.proofs.Math.Seq.{take-suc}
use Rattle.std.proofs.lemmas.Str.{IsUtf8-append}
use Rattle.esc_frame.specs.Scans.{is_data_byte}
use Rattle.esc_frame.proofs.ByteRuns.CsiRuns.{run_joins}
use Rattle.esc_frame.proofs.ByteRuns.ManyBytes.{run_passes}
use Rattle.esc_actions.specs.Values.{Value, mode_after, print}
use Rattle.esc_filter.specs.Closing.{turned_terminal}
use Rattle.esc_filter.specs.Terminal.{as_at_start}
use Rattle.esc_filter.specs.Known.{ArePassedRenditions, IsPassedText}
use Rattle.esc_filter.specs.Openings.{ArePlainLines}
use Rattle.esc_filter.specs.Lines.{AreWide, IsShortRendition, held, is_wide}
use Rattle.esc_filter.specs.declared.guard.Guard.{Guard}
use Rattle.esc_filter.proofs.ByLine.PlainBytesAreKept.{data_inner, end_ends, end_utf8, of_inner}
use Rattle.esc_filter.proofs.ByLine.WideBytesAreKept.{all_utf8}
use Rattle.esc_filter.proofs.Output.RunsOfText.{all_more}
use Rattle.esc_filter.proofs.Renditions.ShortRenditionsMean.{is_inner, shade_of}
use Rattle.esc_filter.proofs.ByLine.PlainLinesAreKept.{Begun, Passed, begun_feed, begun_more, feed_ended, quiet_ended, rendition, run, run_leaves, tab, wides}

-- the bytes that have been read, after which renditions are on or not
abbrev pub HasRead : Type 0 → Bool → Bool → List ℕ → Type 0
HasRead A r on s = IsUtf8 s
    × ((u : Guard) (limit : ℕ) (admits : Value A → Bool) (texts : IsPassedText admits)
    → (IsTrue r → ArePassedRenditions admits) → Begun A u limit admits texts on s)

module _ (A : Type 0) (r : Bool) where
  -- a run of bytes 20 to 7E
  pub read_run : (on : Bool) (s : List ℕ) (i n : ℕ) → HasRead A r on (take i s)
      → n ≡ prefix_len is_data_byte (take (length s - i) (drop i s))
      → HasRead A r on (take (i + n) s)
  read_run on s i n (utf8, begun) e =
      let y = take n (take (length s - i) (drop i s)) in
      let bytes : list_all is_data_byte y ≡ true =
      ap (λ k. list_all is_data_byte (take k (take (length s - i) (drop i s)))) e
      ∙ run_passes is_data_byte (take (length s - i) (drop i s)) in
      subst (HasRead A r on) (run_joins s i n) (
        IsUtf8-append (take i s) y utf8 (of_inner y (all_more is_data_byte is_inner data_inner y
            bytes)).0,
        λ u limit admits texts all.
            begun_more A u limit admits texts (take i s) y (begun u limit admits texts all)
            (run A u limit admits texts y bytes)
            (run_leaves A u limit admits texts y (turned_terminal on as_at_start)),
      )

  next : (s : List ℕ) (i b : ℕ) → i < length s → get_or s i 0 ≡ b
      → take i s ++ b ∷ [] ≡ take (i + 1) s
  next s i b l e =
      let more : suc i ≡ i + 1 = omega arith in
      ap (λ c. take i s ++ c ∷ []) (sym e) ∙ sym (take-suc s i 0 l) ∙ ap (λ k. take k s) more

  -- a tab
  pub read_tab : (on : Bool) (s : List ℕ) (i : ℕ) → i < length s
      → get_or s i 0 ≡ 0x09 → HasRead A r on (take i s) → HasRead A r on (take (i + 1) s)
  read_tab on s i l e (utf8, begun) =
      subst (HasRead A r on) (next s i 0x09 l e) (
        IsUtf8-append (take i s) (0x09 ∷ []) utf8 (of_inner (0x09 ∷ []) refl).0,
        λ u limit admits texts all.
            begun_more A u limit admits texts (take i s) (0x09 ∷ [])
            (begun u limit admits texts all) (tab A u limit admits texts) refl,
      )

  -- the end of a line, if no rendition is on
  read_end : (x : List ℕ) (h : Bool) → HasRead A r false x
      → HasRead A r false (x ++ (held h ++ 0x0a ∷ []))
      × ArePlainLines A r (x ++ (held h ++ 0x0a ∷ []))
  read_end x h (utf8, begun) =
      let bytes = IsUtf8-append x (held h ++ 0x0a ∷ []) utf8 (end_utf8 h) in (
        (
          bytes,
          λ u limit admits texts all.
              begun_feed A u limit admits texts x (begun u limit admits texts all) h,
        ),
        (
          bytes,
          end_ends x h,
          λ u limit admits texts all.
              let b = begun u limit admits texts all in (
                feed_ended A u limit admits texts x b h,
                quiet_ended A u limit admits texts x b h,
              ),
        ),
      )

  -- a line feed
  pub read_feed : (s : List ℕ) (i : ℕ) → i < length s → get_or s i 0 ≡ 0x0a
      → HasRead A r false (take i s)
      → HasRead A r false (take (i + 1) s) × ArePlainLines A r (take (i + 1) s)
  read_feed s i l e read =
      subst (λ z. HasRead A r false z × ArePlainLines A r z) (next s i 0x0a l e)
      (read_end (take i s) false read)

  -- a carriage return and a line feed
  pub read_return : (s : List ℕ) (i : ℕ) → i + 1 < length s → get_or s i 0 ≡ 0x0d
      → get_or s (i + 1) 0 ≡ 0x0a → HasRead A r false (take i s)
      → HasRead A r false (take (i + 2) s) × ArePlainLines A r (take (i + 2) s)
  read_return s i l e f read =
      let first : take i s ++ 0x0d ∷ [] ≡ take (i + 1) s = next s i 0x0d (omega (arith, l)) e in
      let two : i + 1 + 1 ≡ i + 2 = omega arith in
      subst (λ z. HasRead A r false z × ArePlainLines A r z)
      (sym (append_assoc (take i s) (0x0d ∷ []) (0x0a ∷ []))
      ∙ ap (λ z. z ++ 0x0a ∷ []) first ∙ next s (i + 1) 0x0a l f ∙ ap (λ k. take k s) two)
      (read_end (take i s) true read)

  -- characters from U+00A0 on
  wide_begun : (on : Bool) (u : Guard) (limit : ℕ) (admits : Value A → Bool)
      (texts : IsPassedText admits) (x y cs : List ℕ) → list_all is_wide cs ≡ true
      → encode_utf8_all cs ≡ y → Begun A u limit admits texts on x
      → Begun A u limit admits texts on (x ++ y)
  wide_begun on u limit admits texts x y cs wide is begun =
      begun_more A u limit admits texts x y begun
      (subst (λ z. Passed A u limit admits texts z (map print cs)) is
      (wides A u limit admits texts cs wide))
      (run_leaves A u limit admits texts cs (turned_terminal on as_at_start))

  wide_utf8 : (y cs : List ℕ) → list_all is_wide cs ≡ true → encode_utf8_all cs ≡ y → IsUtf8 y
  wide_utf8 y cs wide is = subst IsUtf8 is (all_utf8 cs wide)

  pub read_wide : (on : Bool) (s : List ℕ) (i n : ℕ)
      → AreWide (take n (take (length s - i) (drop i s)))
      → HasRead A r on (take i s) → HasRead A r on (take (i + n) s)
  read_wide on s i n (cs, wide, is) (utf8, begun) =
      let y = take n (take (length s - i) (drop i s)) in
      subst (HasRead A r on) (run_joins s i n) (
        IsUtf8-append (take i s) y utf8 (wide_utf8 y cs wide is),
        λ u limit admits texts all.
            wide_begun on u limit admits texts (take i s) y cs wide is
            (begun u limit admits texts all),
      )

  -- a rendition, if all pass
  pub read_rendition : (on lit : Bool) (s : List ℕ) (i n : ℕ) → r ≡ true
      → IsShortRendition (take n (take (length s - i) (drop i s))) lit
      → HasRead A r on (take i s) → HasRead A r lit (take (i + n) s)
  read_rendition on lit s i n known is (utf8, begun) =
      let y = take n (take (length s - i) (drop i s)) in
      let shade = shade_of y lit is in
      subst (HasRead A r lit) (run_joins s i n) (
        IsUtf8-append (take i s) y utf8 (of_inner y shade.inner).0,
        λ u limit admits texts all.
            begun_more A u limit admits texts (take i s) y (begun u limit admits texts all)
            (rendition A u limit admits texts (all known) shade)
            (shade.turns (turned_terminal on as_at_start)),
      )

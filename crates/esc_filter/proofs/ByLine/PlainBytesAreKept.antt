-- Bytes of lines that are written as they are.
use Rattle.std.proofs.Common.{ℕ, ◌≡◌, ◌<◌, Bool, true, false, ◌||◌, List, [], ◌∷◌, ◌++◌, arith, refl, ap, ◌∙◌, append-nil}
use Rattle.std.specs.List.{list_all}
use Rattle.std.specs.Str.{IsAscii, IsUtf8}
use Rattle.std.proofs.lemmas.Bool.{and_parts}
use Rattle.std.proofs.lemmas.Bool.Decides.{nat_tests}
use Rattle.std.proofs.lemmas.Str.{IsUtf8-from_ascii}
use Rattle.std.proofs.lemmas.Str.Ascii.{IsAscii-cons, IsAscii-nil}
use Rattle.esc_frame.specs.Classes.{class_of}
use Rattle.esc_frame.specs.Events.Event.{Print}
use Rattle.esc_frame.specs.Leads.Unfinished.{Ground}
use Rattle.esc_frame.specs.Machine.Moves.{ground_move}
use Rattle.esc_frame.specs.Scans.{is_data_byte, is_text_byte}
use Rattle.esc_frame.proofs.ByteRuns.ManyBytes.{text_class}
use Rattle.esc_filter.specs.Lines.{body, ends_line, ends_return, has_line_feed, held, is_line_feed, is_return}
use Rattle.esc_filter.specs.Rules.{is_shown}
use Rattle.esc_filter.proofs.ByLine.BytesOfLines.{body_append, body_whole, ends_append, return_append}
use Rattle.esc_filter.proofs.Renditions.ShortRenditionsMean.{is_inner}
use Rattle.esc_filter.proofs.ByLine.WideBytesAreKept.{AreInner, has_return}

-- ---- bytes

pub inner_ascii : (b : ℕ) → is_inner b ≡ true → b < 128
inner_ascii b h = grind (arith, nat_tests)

pub inner_feed : (b : ℕ) → is_inner b ≡ true → is_line_feed b ≡ false
inner_feed b h = grind (arith, nat_tests)

pub inner_return : (b : ℕ) → is_inner b ≡ true → is_return b ≡ false
inner_return b h = grind (arith, nat_tests)

ascii_inner : (s : List ℕ) → list_all is_inner s ≡ true
    → IsAscii s × (has_line_feed s ≡ false) × (has_return s ≡ false)
ascii_inner [] h = (IsAscii-nil, refl, refl)
ascii_inner (b ∷ s) h =
    let q = and_parts (is_inner b) (list_all is_inner s) h in
    let r = ascii_inner s q.1 in (
      IsAscii-cons b s (inner_ascii b q.0) r.0,
      rw (inner_feed b q.0, r.1) refl,
      rw (inner_return b q.0, r.2) refl,
    )

pub of_inner : (s : List ℕ) → list_all is_inner s ≡ true → AreInner s
of_inner s h = let q = ascii_inner s h in (IsUtf8-from_ascii s q.0, q.1, q.2)

-- none comes last
pub no_return : (before : Bool) (s : List ℕ) → before ≡ false → has_return s ≡ false
    → ends_return before s ≡ false
no_return before [] e h = e
no_return before (b ∷ s) e h =
    by (is_return b) refl h (λ k g. no_return (is_return b) s k g)
  where
    by : (t : Bool) → is_return b ≡ t → (t || has_return s) ≡ false
        → (is_return b ≡ false → has_return s ≡ false → ends_return (is_return b) s ≡ false)
        → ends_return (is_return b) s ≡ false
    by true k g more = absurd cc
    by false k g more = more k g

pub data_text : (b : ℕ) → is_data_byte b ≡ true → is_text_byte b ≡ true
data_text b h = grind (arith, nat_tests)

pub data_inner : (b : ℕ) → is_data_byte b ≡ true → is_inner b ≡ true
data_inner b h = grind (arith, nat_tests)

pub data_ascii : (b : ℕ) → is_data_byte b ≡ true → b < 0x80
data_ascii b h = grind (arith, nat_tests)

pub data_shown : (b : ℕ) → is_data_byte b ≡ true → is_shown b ≡ true
data_shown b h = grind (arith, nat_tests)

pub data_move : (b : ℕ) → is_data_byte b ≡ true
    → ground_move b (class_of b) ≡ (Ground, Print b ∷ [])
data_move b h = rw (text_class b (data_text b h), ground_move) refl

-- ---- the end of a line, with a carriage return or without one

pub held_feed : (r : Bool) → has_line_feed (held r) ≡ false
held_feed true = refl
held_feed false = refl

pub with_held : (x : List ℕ) (r : Bool) → ends_return false x ≡ false
    → ends_return false (x ++ held r) ≡ r
with_held x true h = return_append false x (0x0d ∷ [])
with_held x false h = return_append false x [] ∙ h

pub body_held_of : (x : List ℕ) (r : Bool) → ends_return false x ≡ false → body (x ++ held r) ≡ x
body_held_of x true h = body_append x 0x0d [] ∙ append-nil x
body_held_of x false h = ap body (append-nil x) ∙ body_whole x h

pub end_ends : (x : List ℕ) (r : Bool) → ends_line true (x ++ (held r ++ 0x0a ∷ [])) ≡ true
end_ends x true = ends_append true x (0x0d ∷ 0x0a ∷ [])
end_ends x false = ends_append true x (0x0a ∷ [])

end_ascii : (r : Bool) → IsAscii (held r ++ 0x0a ∷ [])
end_ascii true =
    IsAscii-cons 0x0d (0x0a ∷ []) (omega arith) (IsAscii-cons 0x0a [] (omega arith) IsAscii-nil)
end_ascii false = IsAscii-cons 0x0a [] (omega arith) IsAscii-nil

pub end_utf8 : (r : Bool) → IsUtf8 (held r ++ 0x0a ∷ [])
end_utf8 r = IsUtf8-from_ascii (held r ++ 0x0a ∷ []) (end_ascii r)

-- Control sequences that are left out.
use Rattle.std.specs.Prelude.{ℕ, ◌≡◌, true, false, List, [], ◌∷◌, length, Option, None}
use Rattle.esc_frame.specs.Segments.Opener.{Long}
use Rattle.esc_frame.specs.Segments.Segment.{Csi, Escape}
use Rattle.esc_segments.specs.declared.kind.SegmentKind.TheVariants as kinds
use Rattle.esc_account.specs.Accounts.{Rule, sums_with, total}
use Rattle.esc_account.specs.AtOnce.{IsSequence}
use Rattle.esc_account.specs.Entries.{Entry}
use Rattle.esc_account.specs.Rules.{left_as}
use Rattle.esc_account.specs.declared.account.Account.{Account}
use Rattle.esc_account.specs.declared.fate.Fate.TheVariants as fates

-- the bytes are a control sequence after `ESC [` without noise, which by itself is left out after
-- each character
pub record IsLeftOut (r : Rule) (bytes : List ℕ) : Type 0 where
  pub rest : List ℕ
  pub final : ℕ
  pub whole : bytes ≡ 0x1b ∷ 0x5b ∷ rest
  pub sequence : IsSequence rest final
  pub leaves : (b : Option ℕ) → r b (Csi (Long []) sequence.body final) true ≡ left_as b

-- `ESC \` by itself is left out after each character
abbrev pub LeavesEnds : Rule → Type 0
LeavesEnds r = (b : Option ℕ) → r b (Escape [] 0x5c) true ≡ left_as b

-- after the bytes of such a sequence
abbrev pub all_left : List ℕ → Account → Account
all_left bytes x = record x {
  sums = sums_with fates.LeftOut (length bytes) x.sums;
  string = None;
}

-- its entry
abbrev pub left_entry : Account → List ℕ → Entry
left_entry x bytes = record {
  kind = kinds.Csi;
  bytes = bytes;
  finished = true;
  fate = fates.LeftOut;
  place = total x.sums;
  line = x.lines;
  is_end = false;
}

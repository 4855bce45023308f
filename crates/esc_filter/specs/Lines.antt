-- The text that is written for a stream whose lines are streams of their own; u says how deceiving
-- text is written.
use Rattle.std.specs.Prelude.{ℕ, ◌≡◌, ◌<◌, ◌⊎◌, Bool, true, false, not, ◌==◌, ◌&&◌, nat_le, nat_lt, if◌then◌else◌, List, [], ◌∷◌, ◌++◌, Some, codes, string_bytes}
use Rattle.std.specs.List.{list_any, flat_map}
use lib.Utf8.{scalar}
use Rattle.esc_values.specs.Clear.{IsTextOf}
use Rattle.esc_values.specs.Params.{is_from}
use Rattle.unicode_visibility.specs.Characters.{is_deceiving}
use Rattle.esc_actions.specs.Meaning.{meaning, Reads}
use Rattle.esc_actions.specs.Texts.{list_text, normal}
use Rattle.esc_actions.specs.Values.{Value, control}
use Rattle.esc_actions.specs.declared.control_code.ControlCode.TheVariants.{CarriageReturn, LineFeed}
use Rattle.esc_frame.specs.Segments.{is_empty}
use Rattle.esc_filter.specs.Characters.{keep_all}
use Rattle.esc_filter.specs.Closing.{closed_values, closing}
use Rattle.esc_filter.specs.Fed.{HasConsumedIn, policy_of}
use Rattle.esc_filter.specs.Passing.{in_lines, passed_as}
use Rattle.esc_write.specs.Plain.{last_text}
use Rattle.esc_filter.specs.declared.admit.Admit.{Ghosts as Admitter}
use Rattle.esc_filter.specs.declared.line_filter.LineFilter.{LineFilter}
use Rattle.esc_filter.specs.declared.guard.Guard.{Guard}

abbrev pub is_line_feed : ℕ → Bool
is_line_feed b = b == 0x0a

abbrev pub has_line_feed : List ℕ → Bool
has_line_feed s = list_any is_line_feed s

-- one line feed, and that at the end
abbrev pub IsLine : List ℕ → Type 0
IsLine l = (x : List ℕ) × (has_line_feed x ≡ false) × (l ≡ x ++ 0x0a ∷ [])

-- whether a line feed comes last; `before` says so of the bytes before these
abbrev pub ends_line : Bool → List ℕ → Bool
ends_line before [] = before
ends_line before (b ∷ s) = ends_line (is_line_feed b) s

abbrev pub begin_with : ℕ → List (List ℕ) → List (List ℕ)
begin_with b [] = (b ∷ []) ∷ []
begin_with b (l ∷ ls) = (b ∷ l) ∷ ls

-- the lines of a stream, each with its line feed; the last one may have none
abbrev pub lines : List ℕ → List (List ℕ)
lines [] = []
lines (b ∷ s) = if is_line_feed b then (b ∷ []) ∷ lines s else begin_with b (lines s)

-- the bytes after the last line feed
abbrev pub last_line : List ℕ → List ℕ
last_line [] = []
last_line (b ∷ s) = if has_line_feed (b ∷ s) then last_line s else b ∷ s

-- the bytes before that: the lines that have ended
abbrev pub ended_lines : List ℕ → List ℕ
ended_lines [] = []
ended_lines (b ∷ s) = if has_line_feed (b ∷ s) then b ∷ ended_lines s else []

-- ---- carriage returns

abbrev pub is_return : ℕ → Bool
is_return b = b == 0x0d

-- whether a carriage return comes last; `before` says so of the bytes before these
abbrev pub ends_return : Bool → List ℕ → Bool
ends_return before [] = before
ends_return before (b ∷ s) = ends_return (is_return b) s

-- the bytes without a carriage return that comes last
abbrev pub body : List ℕ → List ℕ
body [] = []
body (b ∷ s) = if is_empty s && is_return b then [] else b ∷ body s

-- that carriage return
abbrev pub held : Bool → List ℕ
held true = 0x0d ∷ []
held false = []

-- the bytes before the line feed of a line: its body, and maybe a carriage return, which is a part
-- of its end then
abbrev pub content : List ℕ → List ℕ
content [] = []
content (b ∷ s) = if is_line_feed b then [] else b ∷ content s

-- ---- the text that is written

-- the values of a line that pass, but for its line feed
abbrev pub passed_of_line : {A : Type 0} → Guard → ℕ → (Value A → Bool) → List ℕ → List (Value A)
passed_of_line u limit admits l = passed_as u (Some limit) (in_lines true admits) l

-- the values that pass of a line with this content: of its body and its line feed
abbrev pub passed_of_content : {A : Type 0} → Guard → ℕ → (Value A → Bool) → List ℕ
    → List (Value A)
passed_of_content u limit admits x = passed_of_line u limit admits (body x ++ 0x0a ∷ [])

-- the end of a line: a line feed, and before it the carriage return if there is one and these are
-- admitted
abbrev pub end_values : {A : Type 0} → (Value A → Bool) → Bool → List (Value A)
end_values admits r =
    if r && admits (control CarriageReturn)
    then control CarriageReturn ∷ control LineFeed ∷ [] else control LineFeed ∷ []

abbrev pub end_text : {A : Type 0} → (Value A → Bool) → Bool → List ℕ
end_text admits r = if r && admits (control CarriageReturn) then 0x0d ∷ 0x0a ∷ [] else 0x0a ∷ []

-- The text of a line, which is a stream of its own: the values that pass, and if its line feed has
-- come, those that undo the changes that these leave, and its end. A carriage return that comes
-- last is not written before the byte after it says whether it is a part of the end.
abbrev pub line_text : {A : Type 0} → Guard → ℕ → (Value A → Bool) → List ℕ → List ℕ
line_text u limit admits l =
    if ends_line false l then
    list_text (closed_values admits (passed_of_content u limit admits (content l)))
    ++ end_text admits (ends_return false (content l))
    else list_text (passed_of_line u limit admits (body l))

-- the text of a stream: the texts of its lines, one after another
abbrev pub text_by_lines_as : {A : Type 0} → Guard → ℕ → (Value A → Bool) → List ℕ → List ℕ
text_by_lines_as {A} u limit admits s = flat_map (line_text {A = A} u limit admits) (lines s)

-- a character from U+00A0 on that does not deceive
abbrev pub is_wide : ℕ → Bool
is_wide c = scalar c && (nat_le 0xa0 c && not (is_deceiving c))

-- the UTF-8 of such characters
abbrev pub AreWide : List ℕ → Type 0
AreWide x = IsTextOf is_wide x

-- two bytes, or three, that are such a character as most are
abbrev pub is_plain_two : ℕ → ℕ → Bool
is_plain_two a b = is_from 0xc3 0xd7 a && (not (a == 0xcd) && is_from 0x80 0xbf b)

abbrev pub is_plain_three : ℕ → ℕ → ℕ → Bool
is_plain_three a b c =
    if nat_lt a 0xe4
    then (if a == 0xe3 then is_from 0x80 0x84 b && is_from 0x80 0xbf c
    else (a == 0xe2) && (is_from 0x82 0xbf b && is_from 0x80 0xbf c))
    else nat_le a 0xec && (is_from 0x80 0xbf b && is_from 0x80 0xbf c)

-- a number below 1000 as it is written, and `m`; it is another than 0, or not
abbrev pub IsNumber : List ℕ → Bool → Type 0
IsNumber x b = (n : ℕ) × (n < 1000) × (x ≡ last_text n 0x6d) × (b ≡ not (n == 0))

-- the text of a rendition of one number, or of a colour of the palette, after which renditions are
-- on, or not
abbrev pub IsShortRendition : List ℕ → Bool → Type 0
IsShortRendition x b = (y : List ℕ) × (((x ≡ 0x1b ∷ 0x5b ∷ y) × IsNumber y b)
    ⊎ (((x ≡ 0x1b ∷ 0x5b ∷ (codes "38;5;" ++ y)) ⊎ (x ≡ 0x1b ∷ 0x5b ∷ (codes "48;5;" ++ y)))
    × (b ≡ true) × ((c : Bool) × IsNumber y c)))

-- the values that are written for the last line, without a line feed, once the stream has ended:
-- the values that pass of all of it, and those that undo the changes that these leave
abbrev pub last_values : {A : Type 0} → Guard → ℕ → (Value A → Bool) → List ℕ → List (Value A)
last_values u limit admits s = closed_values admits (passed_of_line u limit admits (last_line s))

-- the text of a stream that has ended
abbrev pub closed_by_lines_as : {A : Type 0} → Guard → ℕ → (Value A → Bool) → List ℕ → List ℕ
closed_by_lines_as u limit admits s =
    text_by_lines_as u limit admits (ended_lines s) ++ list_text (last_values u limit admits s)

-- the meaning of the text of a line
abbrev pub line_values : {A : Type 0} → Guard → ℕ → (Value A → Bool) → List ℕ → List (Value A)
line_values u limit admits l =
    if ends_line false l then normal
    (closed_values admits (passed_of_content u limit admits (content l)))
    ++ end_values admits (ends_return false (content l))
    else normal (passed_of_line u limit admits (body l))

-- the text of a stream that has ended, or goes on, and its meaning
abbrev pub lines_text_as : {A : Type 0} → Bool → Guard → ℕ → (Value A → Bool) → List ℕ → List ℕ
lines_text_as true u limit admits s = closed_by_lines_as u limit admits s
lines_text_as false u limit admits s = text_by_lines_as u limit admits s

abbrev pub lines_values_as : {A : Type 0} → Bool → Guard → ℕ → (Value A → Bool) → List ℕ
    → List (Value A)
lines_values_as true u limit admits s =
    flat_map (line_values u limit admits) (lines (ended_lines s))
    ++ normal (last_values u limit admits s)
lines_values_as false u limit admits s = flat_map (line_values u limit admits) (lines s)

-- The facts about the text t that a filter wrote for the lines of the stream s, which has ended, or
-- goes on:
pub record IsFilteredByLinesAs {A : Type 0} (has_ended : Bool) (u : Guard) (limit : ℕ)
    (admits : Value A → Bool) (s t : List ℕ) : Type 0 where
  -- it is the text of the values that pass of each line
  pub text : t ≡ lines_text_as has_ended u limit admits s
  -- it reads back as that, line by line, and as nothing else
  pub reads_back : meaning t ≡ lines_values_as has_ended u limit admits s
  -- whatever bytes follow it, it reads so, and they read as they do by themselves
  pub whatever_follows : Reads t (lines_values_as has_ended u limit admits s)

-- the same if characters that deceive are kept
abbrev pub text_by_lines : {A : Type 0} → ℕ → (Value A → Bool) → List ℕ → List ℕ
text_by_lines limit admits s = text_by_lines_as keep_all limit admits s

abbrev pub closed_by_lines : {A : Type 0} → ℕ → (Value A → Bool) → List ℕ → List ℕ
closed_by_lines limit admits s = closed_by_lines_as keep_all limit admits s

abbrev pub lines_text : {A : Type 0} → Bool → ℕ → (Value A → Bool) → List ℕ → List ℕ
lines_text has_ended limit admits s = lines_text_as has_ended keep_all limit admits s

abbrev pub IsFilteredByLines : {A : Type 0} → Bool → ℕ → (Value A → Bool) → List ℕ → List ℕ
    → Type 0
IsFilteredByLines has_ended limit admits s t =
    IsFilteredByLinesAs has_ended keep_all limit admits s t

-- The filter, of this limit and of a policy that admits these values, was fed these bytes; u says
-- how deceiving text is written. The bytes are lines that have ended, and then the rest of one. The
-- inner filter was fed all of the rest, but for a carriage return that comes last and is held back.
pub record HasConsumedLines {P A : Type 0} (u : Guard) (limit : ℕ) (admits : Value A → Bool)
    (s : List ℕ) (f : LineFilter P A) : Type 0 where
  pub ended : List ℕ
  pub rest : List ℕ
  pub whole : s ≡ ended ++ rest
  pub ends : ends_line true ended ≡ true
  pub unended : has_line_feed rest ≡ false
  pub fed : HasConsumedIn u true limit admits (body rest) f.filter
  pub holds : f.holds ≡ ends_return false rest
  pub unfailed : f.has_failed ≡ false

-- the text that the bytes fed last added
abbrev pub added_by : {P A : Type 0} → LineFilter P A → List ℕ
added_by f = string_bytes f.text

abbrev pub policy_of_lines : {P A : Type 0} → LineFilter P A → P
policy_of_lines f = policy_of f.filter

-- this holds for each stream that the filter may have been fed, its limit, and the values that its
-- policy admits
abbrev pub AfterLines : {P A : Type 0} → Admitter P A → LineFilter P A
    → (Guard → ℕ → (Value A → Bool) → List ℕ → Type 0) → Type 0
AfterLines V f C =
    (u : Guard) (limit : ℕ) (s : List ℕ)
    → HasConsumedLines u limit (V.admits (policy_of_lines f)) s f
    → C u limit (V.admits (policy_of_lines f)) s

-- the filter, which was fed s, was fed b too, and t is the text that b adds
abbrev pub AddsText : {P A : Type 0} → Guard → (Value A → Bool) → ℕ → List ℕ → List ℕ → List ℕ
    → LineFilter P A → Type 0
AddsText {P} {A} u admits limit s b t f = HasConsumedLines u limit admits (s ++ b) f
    × (text_by_lines_as {A = A} u limit admits (s ++ b)
    ≡ text_by_lines_as {A = A} u limit admits s ++ t)

-- it grew its text by that
abbrev pub GrowsBy : {P A : Type 0} → Guard → (Value A → Bool) → ℕ → List ℕ → List ℕ
    → LineFilter P A → LineFilter P A → Type 0
GrowsBy u admits limit s b old new =
    (t : List ℕ) × AddsText u admits limit s b t new × (added_by new ≡ added_by old ++ t)

-- the stream s has ended, and t is the text that its end adds; the filter is at the beginning of
-- the next
abbrev pub EndsLines : {P A : Type 0} → Guard → (Value A → Bool) → ℕ → List ℕ → List ℕ
    → LineFilter P A → Type 0
EndsLines {P} {A} u admits limit s t f = HasConsumedLines u limit admits [] f
    × (closed_by_lines_as {A = A} u limit admits s ≡ text_by_lines_as {A = A} u limit admits s ++ t)

-- the same, and it grew its text by that
abbrev pub EndsBy : {P A : Type 0} → Guard → (Value A → Bool) → ℕ → List ℕ → LineFilter P A
    → LineFilter P A → Type 0
EndsBy u admits limit s old new =
    (t : List ℕ) × EndsLines u admits limit s t new × (added_by new ≡ added_by old ++ t)

-- ---- the last line

-- this holds for each line that the filter of the last one was fed, for its limit, and for the
-- values that its policy admits
abbrev pub OnLine : {P A : Type 0} → Admitter P A → LineFilter P A
    → (Guard → ℕ → (Value A → Bool) → List ℕ → Type 0) → Type 0
OnLine V f C =
    (u : Guard) (limit : ℕ) (l : List ℕ)
    → HasConsumedIn u true limit (V.admits (policy_of_lines f)) l f.filter
    → C u limit (V.admits (policy_of_lines f)) l

-- the same for each line that may have come; a carriage return at its end is held back
abbrev pub OnRest : {P A : Type 0} → Admitter P A → LineFilter P A
    → (Guard → ℕ → (Value A → Bool) → List ℕ → Type 0) → Type 0
OnRest V f C =
    (u : Guard) (limit : ℕ) (r : List ℕ)
    → HasConsumedIn u true limit (V.admits (policy_of_lines f)) (body r) f.filter
    → f.holds ≡ ends_return false r → C u limit (V.admits (policy_of_lines f)) r

-- the filter of the last line, which was fed l, was fed more, so that it is m, and the text grew by
-- the text that this adds
abbrev pub GrowsTo : {P A : Type 0} → Guard → (Value A → Bool) → ℕ → List ℕ → List ℕ
    → LineFilter P A → LineFilter P A → Type 0
GrowsTo {P} {A} u admits limit l m old new =
    HasConsumedIn u true limit admits m new.filter
    × ((t : List ℕ)
    × (list_text (passed_of_line {A = A} u limit admits m)
    ≡ list_text (passed_of_line {A = A} u limit admits l) ++ t)
    × (added_by new ≡ added_by old ++ t))

-- it was fed b
abbrev pub GrowsLine : {P A : Type 0} → Guard → (Value A → Bool) → ℕ → List ℕ → List ℕ
    → LineFilter P A → LineFilter P A → Type 0
GrowsLine u admits limit l b old new = GrowsTo u admits limit l (l ++ b) old new

-- the last line so far, which was r, is r and x now
abbrev pub GrowsRest : {P A : Type 0} → Guard → (Value A → Bool) → ℕ → List ℕ → List ℕ
    → LineFilter P A → LineFilter P A → Type 0
GrowsRest u admits limit r x old new = GrowsTo u admits limit (body r) (body (r ++ x)) old new
    × (new.holds ≡ ends_return false (r ++ x))

-- and then its line feed came
abbrev pub FillsLine : {P A : Type 0} → Guard → (Value A → Bool) → ℕ → List ℕ → List ℕ
    → LineFilter P A → LineFilter P A → Type 0
FillsLine u admits limit r x old new =
    GrowsTo u admits limit (body r) (body (r ++ x) ++ 0x0a ∷ []) old new
    × (new.holds ≡ ends_return false (r ++ x))

-- the last line, which was l, is closed, and the text grew by the text that undoes the changes that
-- it left
abbrev pub ClosesLine : {P A : Type 0} → Guard → (Value A → Bool) → ℕ → List ℕ → LineFilter P A
    → LineFilter P A → Type 0
ClosesLine {P} {A} u admits limit l old new =
    HasConsumedIn u true limit admits [] new.filter
    × (added_by new
    ≡ added_by old ++ list_text (closing admits (passed_of_line {A = A} u limit admits l)))

-- the same, and the end of the line after it
abbrev pub EndsLine : {P A : Type 0} → Guard → (Value A → Bool) → ℕ → List ℕ → LineFilter P A
    → LineFilter P A → Type 0
EndsLine {P} {A} u admits limit l old new =
    HasConsumedIn u true limit admits [] new.filter
    × (added_by new ≡ added_by old
    ++ (list_text (closing admits (passed_of_line {A = A} u limit admits l))
    ++ end_text admits old.holds))

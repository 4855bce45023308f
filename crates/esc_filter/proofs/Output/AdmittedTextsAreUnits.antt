-- The texts of values that the policies `Text` and `Color` admit are of parts.
use Rattle.std.proofs.Common.{ℕ, ◌≡◌, inl, inr, Bool, true, false, not, ◌&&◌, ◌||◌, ◌==◌, nat_le, if◌then◌else◌, List, [], ◌∷◌, ◌++◌, codes, Option, Some, None, refl, sym, ap, ◌∙◌, subst, arith, lit<, append-nil}
use Rattle.std.specs.Char.{encode_utf8}
use Rattle.std.specs.List.{flat_map, list_all, list_any}
use Rattle.std.specs.Str.{chars, encode_utf8_all, is_utf8}
use Rattle.std.specs.Str.Lossy.{utf8_lossy}
use Rattle.std.proofs.lemmas.Bool.{and_parts, eqb-true, true≢false}
use Rattle.std.proofs.lemmas.Bool.Decides.{nat_tests}
use Rattle.std.proofs.lemmas.List.Elements.{All-append, All-cons, All-nil}
use Rattle.std.proofs.lemmas.List.Folds.{list_all-append}
use Rattle.std.proofs.lemmas.Str.{encode_ascii}
use lib.Utf8.{scalar}
use Rattle.unicode_visibility.specs.Characters.{is_deceiving}
use Rattle.esc_values.specs.Clear.{AreClearParts, IsClearText, framed_text, is_clear, separated_parts}
use Rattle.esc_values.specs.Cuts.{Pairs, pair_text}
use Rattle.esc_values.specs.Params.{is_from}
use Rattle.esc_values.specs.Scalars.{some_if}
use Rattle.esc_links.specs.Hyperlinks.{link_text, params_text}
use Rattle.esc_links.specs.declared.hyperlink.Hyperlink.{Hyperlink}
use Rattle.esc_osc_values.specs.Lists.{joined_by}
use Rattle.esc_osc_values.proofs.JoinedLossy.{lossy_joined}
use Rattle.esc_osc.specs.Commands.{command_text}
use Rattle.esc_osc.proofs.ReadsBack.{writes_clear}
use Rattle.esc_osc.specs.Writable.{IsWritable as IsWritableCommand}
use Rattle.esc_osc.specs.declared.command.OperatingSystemCommand.{OperatingSystemCommand}
use Rattle.esc_osc.specs.declared.command.OperatingSystemCommand.TheVariants as command
use Rattle.esc_actions.specs.ControlCodes.{code_number}
use Rattle.esc_actions.specs.Texts.{is_string, is_terminator, text_after, texts_after, whole_text}
use Rattle.esc_actions.specs.Values.{Value, print, string, control, esc, csi, osc, kitty, sixel, termcap, short, enter, datum, exit}
use Rattle.esc_actions.specs.Writable.{AreWritableFrom, IsWritable, stays_within}
use Rattle.esc_filter.specs.Closing.{joined_lists}
use Rattle.esc_filter.specs.Tokens.{IsCharacter, IsLink, IsOfTokens, IsToken, is_plain}
use Rattle.esc_filter.specs.Addresses.{has_parts, is_link_code}
use Rattle.esc_filter.specs.Rules.{admits, are_clean_link, is_clean, is_clean_link, is_clean_pair, is_clean_part, is_clean_text, is_color, is_layout, is_link, is_shown, is_text}
use Rattle.esc_filter.specs.declared.policy.Policy.{Policy}
use Rattle.esc_filter.specs.declared.policy.Policy.TheVariants as policy
use Rattle.esc_filter.proofs.Renditions.NumbersHaveNoSign.{one_natural, rendition_text}
use Rattle.esc_filter.proofs.ByLine.DataHasNoFeed.{both}
use Rattle.esc_filter.proofs.Output.PartsAreAppended.{joined_both}

-- ---- parts, one after another

pub no_parts : (k : Bool) → IsOfTokens k []
no_parts k = ([], All-nil (IsToken k), refl)

pub one_part : (k : Bool) (x : List ℕ) → IsToken k x → IsOfTokens k x
one_part k x h = (x ∷ [], All-cons (IsToken k) x [] h (All-nil (IsToken k)), sym (append-nil x))

pub more_parts : (k : Bool) (x y : List ℕ) → IsOfTokens k x → IsOfTokens k y
    → IsOfTokens k (x ++ y)
more_parts k x y (xs, a, e) (ys, b, f) = (
  xs ++ ys,
  All-append (IsToken k) xs ys a b,
  ap (λ t. t ++ y) e ∙ ap (λ t. joined_lists xs ++ t) f ∙ sym (joined_both xs ys),
)

pub all_parts : {X : Type 0} (k : Bool) (f : X → List ℕ) (xs : List X)
    → ((x : X) → IsOfTokens k (f x)) → IsOfTokens k (flat_map f xs)
all_parts k f [] h = no_parts k
all_parts k f (x ∷ xs) h = more_parts k (f x) (flat_map f xs) (h x) (all_parts k f xs h)

pub as_part : (k : Bool) (x : List ℕ) → IsCharacter x → IsToken k x
as_part false x h = h
as_part true x h = inl h

pub plain_part : (k : Bool) (c : ℕ) → is_plain c ≡ true → IsOfTokens k (encode_utf8 c)
plain_part k c h = one_part k (encode_utf8 c) (as_part k (encode_utf8 c) (c, h, refl))

-- ---- characters

-- a clear character but DEL
plain_by : (s : Bool) (c : ℕ) → (s && (nat_le 0x20 c && (nat_le c 0x7f || nat_le 0xa0 c))) ≡ true
    → not (c == 0x7f) ≡ true
    → ((c == 0x09) || ((c == 0x0a) || ((c == 0x0d) || (is_from 0x20 0x7e c
    || (s && nat_le 0xa0 c))))) ≡ true
plain_by true c h k = grind (arith, nat_tests)
plain_by false c h k = absurd (true≢false (sym h))

pub clear_plain : (c : ℕ) → is_clear c ≡ true → is_shown c ≡ true → is_plain c ≡ true
clear_plain c h k = plain_by (scalar c) c h k

layout_by : (a b d r : Bool) → (a || (b || d)) ≡ true → (a || (b || (d || r))) ≡ true
layout_by true b d r h = refl
layout_by false true d r h = refl
layout_by false false true r h = refl
layout_by false false false r h = absurd (true≢false (sym h))

layout_plain : (n : ℕ) → is_layout n ≡ true → is_plain n ≡ true
layout_plain n h = layout_by (n == 0x09) (n == 0x0a) (n == 0x0d) _ h

-- DEL is the one byte 7F
shown_char : (c : ℕ) → list_all is_shown (encode_utf8 c) ≡ true → is_shown c ≡ true
shown_char c h = by (c == 0x7f) refl
  where
    del : c ≡ 0x7f → list_all is_shown (encode_utf8 c) ≡ false
    del e = ap (λ x. list_all is_shown (encode_utf8 x)) e
        ∙ ap (list_all is_shown) (encode_ascii 0x7f (lit< tt))

    by : (t : Bool) → (c == 0x7f) ≡ t → not t ≡ true
    by true e = absurd (true≢false (sym h ∙ del (eqb-true c 0x7f e)))
    by false e = refl

chars_parts : (k : Bool) (cs : List ℕ) → list_all is_clear cs ≡ true
    → list_all is_shown (encode_utf8_all cs) ≡ true → IsOfTokens k (encode_utf8_all cs)
chars_parts k [] h s = no_parts k
chars_parts k (c ∷ cs) h s =
    let q = and_parts (is_clear c) (list_all is_clear cs) h in
    let r = and_parts (list_all is_shown (encode_utf8 c)) (list_all is_shown (encode_utf8_all cs))
    (sym (list_all-append is_shown (encode_utf8 c) (encode_utf8_all cs)) ∙ s) in
    more_parts k (encode_utf8 c) (encode_utf8_all cs)
    (plain_part k c (clear_plain c q.0 (shown_char c r.0)))
    (chars_parts k cs q.1 r.1)

-- ---- values

text_parts : {A : Type 0} (k : Bool) (v : Value A) → IsWritable v → is_text v ≡ true
    → IsOfTokens k (whole_text v)
text_parts k (print c) w h = plain_part k c (clear_plain c w h)
text_parts k (string t) ((cs, all, e), some) h =
    subst (IsOfTokens k) e
    (chars_parts k cs all (subst (λ x. list_all is_shown x ≡ true) (sym e) h))
text_parts k (control c) w h = plain_part k (code_number c) (layout_plain (code_number c) h)
text_parts k (esc e) w h = absurd (true≢false (sym h))
text_parts k (csi c) w h = absurd (true≢false (sym h))
text_parts k (osc c) w h = absurd (true≢false (sym h))
text_parts k (kitty i) w h = absurd (true≢false (sym h))
text_parts k (sixel s) w h = absurd (true≢false (sym h))
text_parts k (termcap ns) w h = absurd (true≢false (sym h))
text_parts k (short s) w h = absurd (true≢false (sym h))
text_parts k (enter e) w h = absurd (true≢false (sym h))
text_parts k (datum b) w h = absurd (true≢false (sym h))
text_parts k exit w h = absurd (true≢false (sym h))

-- the texts of a link

clean_shown : (t : List ℕ) → is_clean t ≡ true → list_all is_shown t ≡ true
clean_shown t h = (and_parts (list_all is_shown t) (not (list_any is_deceiving (chars t))) h).0

pair_shown : (e : List ℕ × List ℕ) → is_clean_pair e ≡ true → list_all is_shown (pair_text e) ≡ true
pair_shown e h =
    let k = and_parts (is_clean e.0) (is_clean e.1) h in
    both is_shown e.0 (0x3d ∷ e.1) (clean_shown e.0 k.0) (clean_shown e.1 k.1)

abbrev more_pairs : Pairs → List ℕ
more_pairs es = flat_map (λ e. 0x3a ∷ pair_text e) es

pairs_shown : (es : Pairs) → list_all is_clean_pair es ≡ true
    → list_all is_shown (more_pairs es) ≡ true
pairs_shown [] h = refl
pairs_shown (e ∷ es) h =
    let k = and_parts (is_clean_pair e) (list_all is_clean_pair es) h in
    both is_shown (pair_text e) (more_pairs es) (pair_shown e k.0) (pairs_shown es k.1)

params_shown : (es : Pairs) → list_all is_clean_pair es ≡ true
    → list_all is_shown (params_text es) ≡ true
params_shown [] h = refl
params_shown (e ∷ es) h =
    let k = and_parts (is_clean_pair e) (list_all is_clean_pair es) h in
    both is_shown (pair_text e) (more_pairs es) (pair_shown e k.0) (pairs_shown es k.1)

link_is : {A : Type 0} (l : Option (Hyperlink A)) → IsClearText (link_text l)
    → is_clean_link l ≡ true → IsLink (framed_text (link_text l))
link_is None h c = (codes ";", h, refl, refl)
link_is (Some l) h c =
    let k = and_parts (list_all is_clean_pair l.params) (is_clean l.uri) c in (
      params_text l.params ++ 0x3b ∷ l.uri,
      h,
      both is_shown (params_text l.params) (0x3b ∷ l.uri) (params_shown l.params k.0)
          (clean_shown l.uri k.1),
      refl,
    )

part_shown : (p : List ℕ) → is_clean_part p ≡ true → list_all is_shown p ≡ true
part_shown p h = by (is_utf8 p) h
  where
    by : (t : Bool) → is_clean_text (some_if t p) ≡ true → list_all is_shown p ≡ true
    by true g = clean_shown p g
    by false g = absurd (true≢false (sym g))

parts_shown : (ps : List (List ℕ)) → list_all is_clean_part ps ≡ true
    → list_all is_shown (separated_parts ps) ≡ true
parts_shown [] h = refl
parts_shown (p ∷ ps) h =
    let k = and_parts (is_clean_part p) (list_all is_clean_part ps) h in
    both is_shown p (separated_parts ps) (part_shown p k.0) (parts_shown ps k.1)

code_is : (p : List ℕ) → is_link_code p ≡ true → p ≡ 0x38 ∷ []
code_is [] h = absurd (true≢false (sym h))
code_is (b ∷ []) h = ap (λ x. x ∷ []) (eqb-true b 0x38 h)
code_is (b ∷ c ∷ p) h = absurd (true≢false (sym h))

of_links : (t : Bool) (us : List (List ℕ)) → has_parts (if t then us else []) ≡ true → t ≡ true
of_links true us h = refl
of_links false us h = absurd (true≢false (sym h))

-- one whose address is in parts
parts_are : (ps : List (List ℕ)) → AreClearParts ps → IsClearText (joined_by utf8_lossy ps)
    → are_clean_link ps ≡ true → IsLink (framed_text (joined_by utf8_lossy ps))
parts_are [] h c l = absurd (true≢false (sym l))
parts_are (p ∷ []) h c l = absurd (true≢false (sym l))
parts_are (p ∷ q ∷ us) h c l =
    let k = and_parts (has_parts (if is_link_code p then us else []))
    (list_all is_clean_part (p ∷ q ∷ us)) l in
    let code : p ≡ 0x38 ∷ [] = code_is p (of_links (is_link_code p) us k.0) in
    let rest = and_parts (is_clean_part p) (list_all is_clean_part (q ∷ us)) k.1 in
    let ends = and_parts (is_clean_part q) (list_all is_clean_part us) rest.1 in
    let y = q ++ separated_parts us in
    let same : joined_by utf8_lossy (p ∷ q ∷ us) ≡ codes "8;" ++ y =
    lossy_joined (p ∷ q ∷ us) h ∙ ap (λ x. x ++ separated_parts (q ∷ us)) code in (
      y,
      subst IsClearText same c,
      both is_shown q (separated_parts us) (part_shown q ends.0) (parts_shown us ends.1),
      ap framed_text same,
    )

command_part : {A : Type 0} (c : OperatingSystemCommand A) → IsWritableCommand c
    → is_link c ≡ true → IsLink (command_text c)
command_part (command.SetHyperlink l) w h = link_is l w.0 h
command_part {A} (command.Unspecified ps) w h =
    parts_are ps w.0.0 (writes_clear {A = A} (command.Unspecified ps) w) h
command_part _ w h = absurd (true≢false (sym h))

color_parts : {A : Type 0} (v : Value A) → IsWritable v → is_color v ≡ true
    → IsOfTokens true (whole_text v)
color_parts {A} (csi c) (es, one, gives) h =
    one_part true (whole_text {A = A} (csi c))
    (inr (inl (rendition_text c (one_natural A _ es c one gives) h)))
color_parts {A} (osc c) w h =
    one_part true (whole_text {A = A} (osc c)) (inr (inr (command_part c w h)))
color_parts (print c) w h = absurd (true≢false (sym h))
color_parts (string t) w h = absurd (true≢false (sym h))
color_parts (control c) w h = absurd (true≢false (sym h))
color_parts (esc e) w h = absurd (true≢false (sym h))
color_parts (kitty i) w h = absurd (true≢false (sym h))
color_parts (sixel s) w h = absurd (true≢false (sym h))
color_parts (termcap ns) w h = absurd (true≢false (sym h))
color_parts (short s) w h = absurd (true≢false (sym h))
color_parts (enter e) w h = absurd (true≢false (sym h))
color_parts (datum b) w h = absurd (true≢false (sym h))
color_parts exit w h = absurd (true≢false (sym h))

-- the policy of plain text, and that of colour
abbrev pub least : Bool → Policy
least false = policy.Text
least true = policy.Color

value_parts : {A : Type 0} (k : Bool) (v : Value A) → IsWritable v → admits (least k) v ≡ true
    → IsOfTokens k (whole_text v)
value_parts false v w h = text_parts false v w h
value_parts true v w h = by (is_text v) refl h
  where
    by : (t : Bool) → is_text v ≡ t → (t || is_color v) ≡ true
        → IsOfTokens true (whole_text v)
    by true e g = text_parts true v w e
    by false e g = color_parts v w g

after_parts : {A : Type 0} (k f : Bool) (v : Value A) → IsOfTokens k (whole_text v)
    → IsOfTokens k (text_after f v)
after_parts k f v h = by (is_terminator v && f)
  where
    by : (t : Bool) → IsOfTokens k (if t then [] else whole_text v)
    by true = no_parts k
    by false = h

-- the text of values that the policy admits
pub texts_parts : {A : Type 0} (k within f : Bool) (vs : List (Value A))
    → AreWritableFrom within vs → list_all (admits (least k)) vs ≡ true
    → IsOfTokens k (texts_after f vs)
texts_parts k within f [] w h = no_parts k
texts_parts k within f (v ∷ vs) (i, w, more) h =
    let q = and_parts (admits (least k) v) (list_all (admits (least k)) vs) h in
    more_parts k (text_after f v) (texts_after (is_string v) vs)
    (after_parts k f v (value_parts k v w q.0))
    (texts_parts k (stays_within v) (is_string v) vs more q.1)

-- If a policy admits no more than `Text` or `Color`, the values that pass, and those that undo the
-- changes that they leave, are values that these admit.
use Rattle.std.proofs.Common.{ℕ, ◌≡◌, ◌⊎◌, inl, inr, Bool, true, false, not, ◌&&◌, ◌||◌, ◌==◌, if◌then◌else◌, List, [], ◌∷◌, ◌++◌, map, Option, None, Some, refl, sym, ap, ◌∙◌, subst, lit<}
use Rattle.std.specs.List.{filter, list_all}
use Rattle.std.proofs.lemmas.Bool.{and_parts, eqb-true, true≢false}
use Rattle.std.proofs.lemmas.Str.{encode_ascii}
use Rattle.unicode_visibility.specs.Characters.{is_deceiving, number_text}
use Rattle.unicode_visibility.specs.Following.{may_follow}
use Rattle.esc_sequences.specs.Csis.{CsiValue, sgr, unspecified}
use Rattle.esc_osc.specs.declared.command.OperatingSystemCommand.{OperatingSystemCommand}
use Rattle.esc_osc.specs.declared.command.OperatingSystemCommand.TheVariants as command
use Rattle.esc_actions.specs.ControlCodes.{code_number}
use Rattle.esc_actions.specs.Meaning.{meaning_within}
use Rattle.esc_actions.specs.Texts.{list_text}
use Rattle.esc_actions.specs.Values.{Value, print, string, control, esc, csi, osc, kitty, sixel, termcap, short, enter, datum, exit}
use Rattle.esc_actions.specs.Writable.{AreWritable}
use Rattle.esc_actions.specs.declared.control_code.ControlCode.{ControlCode}
use Rattle.esc_actions.specs.declared.control_code.ControlCode.TheVariants as code
use Rattle.esc_actions.specs.declared.control_code.ControlCode.TheVariants.{CarriageReturn}
use Rattle.esc_filter.specs.Addresses.{address_in, is_address}
use Rattle.esc_filter.specs.Characters.{in_guard, in_return, in_values_after, replacement_values, is_return, last_after}
use Rattle.esc_filter.specs.Closing.{after_address, after_body, after_command, after_control, after_sequence, after_value, after_values, closed_values, closing, given_back, is_reset, keeps_cursor, opens, turned_terminal}
use Rattle.esc_filter.specs.Lines.{body, closed_by_lines_as, content, end_text, ended_lines, ends_line, ends_return, last_line, last_values, line_text, lines, passed_of_line, text_by_lines_as}
use Rattle.esc_filter.specs.Passing.{closed_text_as, in_lines, is_line_feed, is_whole, passed_values, passed_as, passed_text_as, passes}
use Rattle.esc_filter.specs.Tokens.{AdmitsAtMost, IsOfTokens}
use Rattle.esc_filter.specs.Rules.{admits, is_color, is_layout, is_link, is_plain_param, is_rendition, is_shown, is_text}
use Rattle.esc_filter.specs.Terminal.{as_at_start}
use Rattle.esc_filter.specs.declared.policy.Policy.TheVariants as policy
use Rattle.esc_filter.specs.declared.terminal.Terminal.{Terminal}
use Rattle.esc_filter.specs.declared.guard.Guard.{Guard}
use Rattle.esc_filter.specs.declared.returns.Returns.{Returns}
use Rattle.esc_filter.specs.declared.returns.Returns.TheVariants as way
use Rattle.esc_filter.specs.declared.unicode.Unicode.{Unicode}
use Rattle.esc_filter.specs.declared.unicode.Unicode.TheVariants.{Drop, Join, Keep, Show}
use Rattle.esc_filter.proofs.Output.DeceivingCharacters.{in_more, in_none, kinds, number_shown}
use Rattle.esc_filter.proofs.GivingBack.RenditionsAfterSequence.{plain_lit}
use Rattle.esc_filter.proofs.ByLine.DataHasNoFeed.{both}
use Rattle.esc_filter.proofs.Output.AdmittedTextsAreUnits.{all_parts, least, more_parts, plain_part, texts_parts}

-- ---- the values that pass

text_least : {A : Type 0} (k : Bool) (v : Value A) → is_text v ≡ true → admits (least k) v ≡ true
text_least false v h = h
text_least true v h = rw h refl

module _ (A : Type 0) (k : Bool) where
  abbrev is_least : Value A → Bool
  is_least v = admits (least k) v

  -- each of them is admitted
  abbrev AreLeast : List (Value A) → Type 0
  AreLeast vs = list_all is_least vs ≡ true

  filtered : (f : Value A → Bool) → AdmitsAtMost (least k) f → (vs : List (Value A))
      → AreLeast (filter (passes f) vs)
  filtered f most [] = refl
  filtered f most (v ∷ vs) = by (passes f v) refl (filtered f most vs)
    where
      by : (t : Bool) → passes f v ≡ t → AreLeast (filter (passes f) vs)
          → AreLeast (if t then v ∷ filter (passes f) vs else filter (passes f) vs)
      by true e h = rw (most v (and_parts (is_whole v) (f v) e).1, h) refl
      by false e h = h

  prints : (xs : List ℕ) → list_all is_shown xs ≡ true → AreLeast (map print xs)
  prints [] h = refl
  prints (x ∷ xs) h =
      let q = and_parts (is_shown x) (list_all is_shown xs) h in
      rw (text_least {A = A} k (print x) q.0, prints xs q.1) refl

  shown_joined : (c : ℕ) (f : Bool) → is_least (print c) ≡ true
      → AreLeast (if f then print c ∷ [] else map print (number_text c))
  shown_joined c true h = rw h refl
  shown_joined c false h = prints (number_text c) (number_shown c)

  shown_instead : (u : Unicode) (b : Option ℕ) (c : ℕ) (t : Bool) → is_least (print c) ≡ true
      → AreLeast (if t then replacement_values u b c else print c ∷ [])
  shown_instead u b c false h = rw h refl
  shown_instead Keep b c true h = rw h refl
  shown_instead Join b c true h = shown_joined c (may_follow b c) h
  shown_instead Show b c true h = prints (number_text c) (number_shown c)
  shown_instead Drop b c true h = refl

  shown_return : (r : Returns) (c : ControlCode) (t : Bool) → is_least (control c) ≡ true
      → AreLeast (if t then in_return r else control c ∷ [])
  shown_return r c false h = rw h refl
  shown_return way.Keep c true h = rw (text_least {A = A} k (control CarriageReturn) refl) refl
  shown_return way.Show c true h = prints (0x5e ∷ 0x4d ∷ []) refl
  shown_return way.Drop c true h = refl

  shown_value : (u : Guard) (b : Option ℕ) (v : Value A) → is_least v ≡ true
      → AreLeast (in_guard u b v)
  shown_value u b v h = by (kinds v)
    where
      by : ((c : ℕ) × (v ≡ print c)) ⊎ (((c : ControlCode) × (v ≡ control c))
          ⊎ ((w : Guard) (l : Option ℕ) → in_guard w l v ≡ v ∷ [])) → AreLeast (in_guard u b v)
      by (inl (c, e)) =
          ap (λ x. list_all is_least (in_guard u b x)) e
          ∙ shown_instead u.characters b c (is_deceiving c) (ap is_least (sym e) ∙ h)
      by (inr (inl (c, e))) =
          ap (λ x. list_all is_least (in_guard u b x)) e
          ∙ shown_return u.returns c (is_return c) (ap is_least (sym e) ∙ h)
      by (inr (inr f)) = ap (list_all is_least) (f u b) ∙ rw h refl

  shown_values : (u : Guard) (b : Option ℕ) (vs : List (Value A)) → AreLeast vs
      → AreLeast (in_values_after u b vs)
  shown_values u b [] h = ap (list_all is_least) (in_none {A = A} u b)
  shown_values u b (v ∷ vs) h =
      let q = and_parts (is_least v) (list_all is_least vs) h in
      let l = last_after b (in_guard u b v) in
      ap (list_all is_least) (in_more u b v vs)
      ∙ both is_least (in_guard u b v) (in_values_after u l vs) (shown_value u b v q.0)
      (shown_values u l vs q.1)

-- ---- the changes that they leave

-- a rendition and a link alone
abbrev tinted : Bool → Bool → Terminal
tinted r l = record as_at_start { rendition = r; link = l }

abbrev IsTinted : Bool → Terminal → Type 0
IsTinted false t = t ≡ as_at_start
IsTinted true t = (r : Bool) × (l : Bool) × (t ≡ tinted r l)

layout_stays : (c : ControlCode) (t : Terminal) → is_layout (code_number c) ≡ true
    → after_control c t ≡ t
layout_stays code.ShiftOut t h = absurd (true≢false (sym h))
layout_stays code.ShiftIn t h = absurd (true≢false (sym h))
layout_stays _ t h = refl

text_stays : {A : Type 0} (v : Value A) (t : Terminal) → is_text v ≡ true → after_value v t ≡ t
text_stays (print c) t h = refl
text_stays (string x) t h = refl
text_stays (control c) t h = layout_stays c t h
text_stays (esc e) t h = absurd (true≢false (sym h))
text_stays (csi c) t h = absurd (true≢false (sym h))
text_stays (osc c) t h = absurd (true≢false (sym h))
text_stays (kitty i) t h = refl
text_stays (sixel s) t h = refl
text_stays (termcap ns) t h = refl
text_stays (short s) t h = refl
text_stays (enter e) t h = refl
text_stays (datum b) t h = refl
text_stays exit t h = refl

tinted_by : (b : Bool) (t : Terminal) → IsTinted true t → IsTinted true (turned_terminal b t)
tinted_by b t (r, l, e) = (b, l, ap (turned_terminal b) e)

rendition_tints : (c : CsiValue) (t : Terminal) → is_rendition c ≡ true → IsTinted true t
    → IsTinted true (after_sequence c t)
rendition_tints (sgr s) t h k = tinted_by (not (is_reset s)) t k
rendition_tints (unspecified es more f) t h k =
    let q = and_parts (f == 0x6d) (list_all is_plain_param es) h in
    subst (IsTinted true)
    (sym (ap (λ x. after_body es x t) (eqb-true f 0x6d q.0) ∙ plain_lit es q.1 t))
    (tinted_by true t k)

abbrev linked : Bool → Terminal → Terminal
linked b t = record t { link = b }

-- by an address in parts, or none
pub address_tints : (us : List (List ℕ)) (t : Terminal) → IsTinted true t
    → IsTinted true (after_address us t)
address_tints [] t k = k
address_tints (u ∷ us) t (r, m, e) =
    (r, is_address (u ∷ us), ap (linked (is_address (u ∷ us))) e)

link_tints : {A : Type 0} (c : OperatingSystemCommand A) (t : Terminal) → is_link c ≡ true
    → IsTinted true t → IsTinted true (after_command c t)
link_tints (command.SetHyperlink l) t h (r, m, e) =
    (r, opens l, ap (linked (opens l)) e)
link_tints (command.Unspecified ps) t h k = address_tints (address_in ps) t k
link_tints _ t h k = absurd (true≢false (sym h))

color_tints : {A : Type 0} (v : Value A) (t : Terminal) → is_color v ≡ true → IsTinted true t
    → IsTinted true (after_value v t)
color_tints (csi c) t h k = rendition_tints c t h k
color_tints (osc c) t h k = link_tints c t h k
color_tints (esc e) t h k = absurd (true≢false (sym h))
color_tints (control c) t h k = absurd (true≢false (sym h))
color_tints (print c) t h k = k
color_tints (string x) t h k = k
color_tints (kitty i) t h k = k
color_tints (sixel s) t h k = k
color_tints (termcap ns) t h k = k
color_tints (short s) t h k = k
color_tints (enter e) t h k = k
color_tints (datum b) t h k = k
color_tints exit t h k = k

value_tints : {A : Type 0} (k : Bool) (v : Value A) (t : Terminal) → admits (least k) v ≡ true
    → IsTinted k t → IsTinted k (after_value v t)
value_tints false v t h e = text_stays v t h ∙ e
value_tints true v t h e = by (is_text v) refl h
  where
    by : (s : Bool) → is_text v ≡ s → (s || is_color v) ≡ true
        → IsTinted true (after_value v t)
    by true g i = subst (IsTinted true) (sym (text_stays v t g)) e
    by false g i = color_tints v t i e

values_tint : {A : Type 0} (k : Bool) (vs : List (Value A)) (t : Terminal)
    → list_all (admits (least k)) vs ≡ true → IsTinted k t → IsTinted k (after_values vs t)
values_tint k [] t h e = e
values_tint k (v ∷ vs) t h e =
    let q = and_parts (admits (least k) v) (list_all (admits (least k)) vs) h in
    values_tint k vs (after_value v t) q.1 (value_tints k v t q.0 e)

at_first : (k : Bool) → IsTinted k as_at_start
at_first false = refl
at_first true = (false, false, refl)

-- a reset of renditions, and the end of a link
back_of : (A : Type 0) (b r l : Bool)
    → list_all (admits policy.Color) (given_back {A = A} b (tinted r l)) ≡ true
back_of A b false false = refl
back_of A b true false = refl
back_of A b false true = refl
back_of A b true true = refl

back_least : (A : Type 0) (k b : Bool) (t : Terminal) → IsTinted k t
    → list_all (admits (least k)) (given_back {A = A} b t) ≡ true
back_least A false b t e = ap (λ x. list_all (admits policy.Text) (given_back {A = A} b x)) e
back_least A true b t (r, l, e) =
    ap (λ x. list_all (admits policy.Color) (given_back {A = A} b x)) e ∙ back_of A b r l

closing_least : {A : Type 0} (k : Bool) (f : Value A → Bool) (vs : List (Value A))
    → list_all (admits (least k)) vs ≡ true → list_all (admits (least k)) (closing f vs) ≡ true
closing_least {A} k f vs h =
    back_least A k (keeps_cursor f) (after_values vs as_at_start)
    (values_tint k vs as_at_start h (at_first k))

closed_least : {A : Type 0} (k : Bool) (f : Value A → Bool) (vs : List (Value A))
    → list_all (admits (least k)) vs ≡ true → list_all (admits (least k)) (closed_values f vs)
    ≡ true
closed_least k f vs h = both (admits (least k)) vs (closing f vs) h (closing_least k f vs h)

-- ---- texts

module _ {A : Type 0}
    (goes_on : (u : Guard) (limit : Option ℕ) (f : Value A → Bool) (s : List ℕ)
    → AreWritable (passed_as u limit f s))
    (has_ended : (u : Guard) (limit : Option ℕ) (f : Value A → Bool) (s : List ℕ)
    → AreWritable (closed_values f (passed_as u limit f s)))
    (k : Bool) (u : Guard) where
  passed_least : (limit : Option ℕ) (f : Value A → Bool) → AdmitsAtMost (least k) f
      → (s : List ℕ) → list_all (admits (least k)) (passed_as u limit f s) ≡ true
  passed_least limit f most s =
      shown_values A k u None (passed_values limit f s)
      (filtered A k f most (meaning_within limit s))

  pub passed_parts : (limit : Option ℕ) (f : Value A → Bool) → AdmitsAtMost (least k) f
      → (s : List ℕ) → IsOfTokens k (passed_text_as u limit f s)
  passed_parts limit f most s =
      texts_parts k false false (passed_as u limit f s) (goes_on u limit f s)
      (passed_least limit f most s)

  pub closed_parts : (limit : Option ℕ) (f : Value A → Bool) → AdmitsAtMost (least k) f
      → (s : List ℕ) → IsOfTokens k (closed_text_as u limit f s)
  closed_parts limit f most s =
      texts_parts k false false (closed_values f (passed_as u limit f s)) (has_ended u limit f s)
      (closed_least k f (passed_as u limit f s) (passed_least limit f most s))

  -- ---- by lines

  module _ (limit : ℕ) (f : Value A → Bool) (most : AdmitsAtMost (least k) f) where
    in_line : AdmitsAtMost (least k) (in_lines true f)
    in_line v h = most v (and_parts (not (is_line_feed v)) (f v) h).1

    feed : IsOfTokens k (0x0a ∷ [])
    feed = subst (IsOfTokens k) (encode_ascii 0x0a (lit< tt)) (plain_part k 0x0a refl)

    return_part : IsOfTokens k (0x0d ∷ [])
    return_part = subst (IsOfTokens k) (encode_ascii 0x0d (lit< tt)) (plain_part k 0x0d refl)

    end_part : (r : Bool) → IsOfTokens k (end_text f r)
    end_part r = by (r && f (control CarriageReturn))
      where
        by : (t : Bool) → IsOfTokens k (if t then 0x0d ∷ 0x0a ∷ [] else 0x0a ∷ [])
        by true = more_parts k (0x0d ∷ []) (0x0a ∷ []) return_part feed
        by false = feed

    line_parts : (l : List ℕ) → IsOfTokens k (line_text u limit f l)
    line_parts l = by (ends_line false l)
      where
        m : List ℕ
        m = body (content l) ++ 0x0a ∷ []

        r : Bool
        r = ends_return false (content l)

        by : (t : Bool) → IsOfTokens k (if t
            then list_text (closed_values f (passed_of_line u limit f m)) ++ end_text f r
            else list_text (passed_of_line u limit f (body l)))
        by true =
            more_parts k (list_text (closed_values f (passed_of_line u limit f m))) (end_text f r)
            (closed_parts (Some limit) (in_lines true f) in_line m) (end_part r)
        by false = passed_parts (Some limit) (in_lines true f) in_line (body l)

    pub lines_parts : (s : List ℕ) → IsOfTokens k (text_by_lines_as u limit f s)
    lines_parts s = all_parts k (line_text u limit f) (lines s) line_parts

    pub closed_lines_parts : (s : List ℕ) → IsOfTokens k (closed_by_lines_as u limit f s)
    closed_lines_parts s =
        more_parts k (text_by_lines_as u limit f (ended_lines s))
        (list_text (last_values u limit f s)) (lines_parts (ended_lines s))
        (closed_parts (Some limit) (in_lines true f) in_line (last_line s))

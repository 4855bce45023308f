-- Whether renditions are on after a control sequence, and a link is left after a command.
use Rattle.std.proofs.Common.{◌≡◌, ◌≢◌, true≢false, ℕ, ℤ, pos, negsuc, ◌<◌, ◌+◌, ◌-◌, suc, get_or, ◌*◌, ◌%◌, length, ◌==◌, Bool, true, false, not, if◌then◌else◌, List, [], ◌∷◌, ◌++◌, codes, Option, Some, None, refl, sym, ap, ◌∙◌, subst, drop, arith}
use Rattle.std.specs.Prelude.{unwrap_or}
use Rattle.std.specs.List.{list_all, onto_first, slice_split}
use Rattle.std.proofs.lemmas.List.{append_cancel_right}
use Rattle.std.proofs.lemmas.List.Splits.{slice_split-cons_no}
use Rattle.std.proofs.lemmas.Bool.{eqb-true, ne_eqb}
use Rattle.std.proofs.lemmas.Bool.Decides.{nat_tests}
use Rattle.esc_values.specs.Clear.{framed_text, parts_of}
use Rattle.esc_values.specs.declared.csi_param.CsiParam.{CsiParam}
use Rattle.esc_values.specs.declared.csi_param.CsiParam.TheVariants.{Integer, P}
use Rattle.esc_sequences.specs.Csis.{csi_of, is_separator, sgr_of_number, sgr_at, put_first, rendition, renditions, sgr, unspecified}
use Rattle.esc_sequences.specs.declared.sgr.Sgr.{Sgr}
use Rattle.esc_sequences.specs.declared.sgr.Sgr.TheVariants as sgr_variant
use Rattle.esc_frame.specs.Segments.{is_empty}
use Rattle.esc_links.specs.Hyperlinks.{hyperlink_text, params_text}
use Rattle.esc_links.specs.declared.hyperlink.Hyperlink.{Hyperlink}
use Rattle.esc_osc.specs.Commands.{command_text, inner_text}
use Rattle.esc_osc.specs.Writable.{IsWritable as IsWritableCommand}
use lib.Utf8.{encode}
use Rattle.esc_osc.specs.Reading.{meaning}
use Rattle.esc_osc.specs.declared.command.OperatingSystemCommand.{OperatingSystemCommand}
use Rattle.esc_osc.specs.declared.command.OperatingSystemCommand.TheVariants as command
use Rattle.esc_write.specs.Plain.{AreParams, IsPlainLink}
use Rattle.esc_write.specs.declared.short_numbers.ShortNumbers.{ShortNumbers}
use Rattle.esc_write.specs.declared.short_numbers.ShortNumbers.TheVariants as short
use Rattle.control_functions.specs.Functions.{function_of, key_of, key_with, key_beginning, marks, place, rows_of, sequence_key}
use Rattle.control_functions.specs.Rows.{base_256}
use Rattle.control_functions.specs.declared.control_function.ControlFunction.{ControlFunction}
use Rattle.control_functions.specs.declared.control_function.ControlFunction.TheVariants as function
use Rattle.control_functions.proofs.Functions.{has_its_key}
use Rattle.esc_filter.specs.Closing.{IsAfter, BeginsWith, Turns, after_body, after_command, ends_in_semicolon, is_reset, lights, opens as opened, turned_terminal}
use Rattle.esc_filter.specs.Pens.{pen_after_final, pen_after_sequence, pen_selected, rendition_of}
use Rattle.esc_pen.specs.Pens.{pen_by, pen_by_all}
use Rattle.esc_pen.specs.declared.pen.Pen.{Pen}
use Rattle.typed_functions.specs.Selections.{selections}
use Rattle.esc_filter.specs.Terminal.{after_function, after_named, with_renditions}
use Rattle.esc_filter.specs.declared.terminal.Terminal.{Terminal}
use Rattle.esc_filter.proofs.GivingBack.ScreenFunctions.{no_marks}
use Rattle.esc_filter.specs.Rules.{is_plain_param}

-- ---- one number

abbrev resets : Option Sgr → Bool
resets None = false
resets (Some s) = is_reset s

either : (b : Bool) (x y : Option Sgr) → resets x ≡ false → resets y ≡ false
    → resets (if b then x else y) ≡ false
either true x y h k = h
either false x y h k = k

not_first : (t : Bool) (x y : Option Sgr) → t ≡ false → resets y ≡ false
    → resets (if t then x else y) ≡ false
not_first true x y e h = absurd cc
not_first false x y e h = h

-- no number but 0 resets
named_resets : (n : ℕ) → (n == 0) ≡ false → resets (sgr_of_number n) ≡ false
named_resets n h =
    not_first (n == 0) _ _ h
    (either (n == 1) _ _ refl
    (either (n == 2) _ _ refl
    (either (n == 22) _ _ refl
    (either (n == 3) _ _ refl
    (either (n == 23) _ _ refl
    (either (n == 4) _ _ refl
    (either (n == 21) _ _ refl
    (either (n == 24) _ _ refl refl))))))))

-- a sequence of plain parameters alone is a rendition
lit_at : (es : List CsiParam) (t : Terminal)
    → after_named (function_of (key_with 1 (length es) 0x6d)) es t ≡ with_renditions t
unfolding function_of rows_of after_function
lit_at es t = refl

pub plain_lit : (es : List CsiParam) → list_all is_plain_param es ≡ true → (t : Terminal)
    → after_body es 0x6d t ≡ turned_terminal true t
plain_lit es h t =
    ap (λ ms. after_named (function_of (key_with (base_256 1 ms) (length es) 0x6d)) es t)
    (no_marks es h) ∙ lit_at es t

-- a rendition that has a name makes the same pen by its number
abbrev Same : ℕ → Sgr → Type 0
Same n s = (p : Pen) → pen_by p (rendition_of s) ≡ pen_by_all p (selections (Integer (pos n) ∷ []))

pen_step : (k n : ℕ) (b : Bool) → (n == k) ≡ b → (x s : Sgr) (y : Option Sgr)
    → (if b then Some x else y) ≡ Some s → Same k x → (y ≡ Some s → Same n s) → Same n s
pen_step k n true g x s y e here others =
    let same : x ≡ s = cc in
    subst (Same n) same (subst (λ m. Same m x) (sym (eqb-true n k g)) here)
pen_step k n false g x s y e here others = others e

named_pen : (n : ℕ) (s : Sgr) → sgr_of_number n ≡ Some s → Same n s
named_pen n s e =
    pen_step 0 n (n == 0) refl _ s _ e (λ p. refl) (λ e.
    pen_step 1 n (n == 1) refl _ s _ e (λ p. refl) (λ e.
    pen_step 2 n (n == 2) refl _ s _ e (λ p. refl) (λ e.
    pen_step 22 n (n == 22) refl _ s _ e (λ p. refl) (λ e.
    pen_step 3 n (n == 3) refl _ s _ e (λ p. refl) (λ e.
    pen_step 23 n (n == 23) refl _ s _ e (λ p. refl) (λ e.
    pen_step 4 n (n == 4) refl _ s _ e (λ p. refl) (λ e.
    pen_step 21 n (n == 21) refl _ s _ e (λ p. refl) (λ e.
    pen_step 24 n (n == 24) refl _ s _ e (λ p. refl) (λ e. absurd cc)))))))))

same_pen : (n : ℕ) (s : Sgr) → Same n s → (p : Option Pen)
    → pen_after_sequence (sgr s) p ≡ pen_selected (Integer (pos n) ∷ []) p
same_pen n s same None = refl
same_pen n s same (Some p) = ap Some (same p)

-- a sequence of plain parameters alone selects those
pub plain_pens : (es : List CsiParam) → list_all is_plain_param es ≡ true → (p : Option Pen)
    → pen_after_sequence (unspecified es false 0x6d) p ≡ pen_selected es p
plain_pens es h p = ap (λ b. if b then pen_selected es p else p) h

by_name : (n : ℤ) (o : Option Sgr) → sgr_at n ≡ o → resets o ≡ false
    → Turns (Integer n ∷ []) true
by_name n None e h = (
  unspecified (Integer n ∷ []) false 0x6d,
  ap (λ x. unwrap_or (put_first x (Some [])) (unspecified (Integer n ∷ []) false 0x6d ∷ [])) e,
  plain_lit (Integer n ∷ []) refl,
  plain_pens (Integer n ∷ []) refl,
)
by_name (pos n) (Some s) e h = (
  sgr s,
  ap (λ x. unwrap_or (put_first x (Some [])) (unspecified (Integer (pos n) ∷ []) false 0x6d ∷ []))
      e,
  λ t. ap (λ b. turned_terminal (not b) t) h,
  same_pen n s (named_pen n s e),
)
by_name (negsuc n) (Some s) e h = absurd cc

-- a number that is 0, or another
lone_by : (n : ℕ) (b : Bool) → (n == 0) ≡ b → Turns (Integer (pos n) ∷ []) (not b)
lone_by n true h =
    subst (λ k. Turns (Integer (pos k) ∷ []) false) (sym (nat_is n h))
    (sgr sgr_variant.Reset, refl, λ t. refl, λ p. refl)
  where
    nat_is : (n : ℕ) → (n == 0) ≡ true → n ≡ 0
    nat_is n h = grind (arith, nat_tests)
lone_by n false h = by_name (pos n) (sgr_of_number n) refl (named_resets n h)

pub lone_turns : (es : List CsiParam) (n : ℕ) → es ≡ Integer (pos n) ∷ []
    → Turns es (not (n == 0))
lone_turns es n e = subst (λ x. Turns x (not (n == 0))) (sym e) (lone_by n (n == 0) refl)

pub nothing_turns : (es : List CsiParam) → length es ≡ 0 → Turns es false
nothing_turns [] e = (sgr sgr_variant.Reset, refl, λ t. refl, λ p. refl)
nothing_turns (x ∷ es) e = absurd (omega (arith, e))

-- ---- one sequence of no name

pub unnamed_turns : (es : List CsiParam)
    → csi_of es false 0x6d ≡ unspecified es false 0x6d ∷ [] → list_all is_plain_param es ≡ true
    → Turns es true
unnamed_turns es e plain =
    (unspecified es false 0x6d, e, plain_lit es plain, plain_pens es plain)

pub nameless_any : (es : List CsiParam) (more : Bool) (f : ℕ) → (f == 0x6d) ≡ false
    → csi_of es more f ≡ unspecified es more f ∷ []
nameless_any es more f h = rw h refl

-- an item of another number than that of a rendition
large : (k : ℕ) → 24 < k → sgr_of_number k ≡ None
large k h = grind (arith, nat_tests)

not_four : (k : ℕ) → 24 < k → (k == 4) ≡ false
not_four k h = ne_eqb k 4 (λ e. omega (arith, e, h))

item : (k : ℕ) (p : List CsiParam) → 24 < k → rendition (Integer (pos k) ∷ p) ≡ None
item k [] h = large k h
item k (Integer n ∷ p) h = refl
item k (P b ∷ []) h = refl
item k (P b ∷ c ∷ []) h = rw (not_four k h) refl
item k (P b ∷ c ∷ d ∷ p) h = refl

onto_some : (b : CsiParam) (qs : List (List CsiParam)) → (p : List CsiParam)
    × (ps : List (List CsiParam)) × (onto_first b qs ≡ (b ∷ p) ∷ ps)
onto_some b [] = ([], [], refl)
onto_some b (q ∷ qs) = (q, qs, refl)

first_large : (k : ℕ) (es : List CsiParam) → 24 < k
    → renditions (slice_split is_separator (Integer (pos k) ∷ es)) ≡ None
first_large k es h =
    let (p, ps, e) = onto_some (Integer (pos k)) (slice_split is_separator es) in
    ap renditions (slice_split-cons_no is_separator (Integer (pos k)) es refl ∙ e)
    ∙ ap (λ x. put_first x (renditions ps)) (item k p h)

pub large_unnamed : (k : ℕ) (rest : List CsiParam) → 24 < k
    → csi_of (Integer (pos k) ∷ rest) false 0x6d
    ≡ unspecified (Integer (pos k) ∷ rest) false 0x6d ∷ []
large_unnamed k rest h =
    ap (λ x. unwrap_or x (unspecified (Integer (pos k) ∷ rest) false 0x6d ∷ []))
    (first_large k rest h)

pub first_turns : (es : List CsiParam) (n : ℕ) → BeginsWith n es → 24 < n
    → list_all is_plain_param es ≡ true → Turns es true
first_turns es n (rest, e) h plain =
    unnamed_turns es (subst (λ x. csi_of x false 0x6d ≡ unspecified x false 0x6d ∷ []) (sym e)
    (large_unnamed n rest h)) plain

-- ---- no other final byte changes anything

differs : (c f : ℕ) → (c == c) ≡ true → (f == c) ≡ false → c ≡ f → ⊥
differs c f same h e = true≢false (sym same ∙ ap (λ x. x == c) e ∙ h)

last_byte : (k l f : ℕ) → f < 256 → k ≡ 256 * l + f → k % 256 ≡ f
last_byte k l f lt e = omega (arith, lt, e)

-- a function whose key ends in another byte than these leaves all as it was
unmoved : (g : ControlFunction) (es : List CsiParam) (t : Terminal) (f : ℕ)
    → key_of g % 256 ≡ f → (f == 0x68) ≡ false → (f == 0x6c) ≡ false → (f == 0x6d) ≡ false
    → (f == 0x70) ≡ false → (f == 0x71) ≡ false → (f == 0x72) ≡ false → (f == 0x73) ≡ false
    → (f == 0x75) ≡ false → (f == 0x7d) ≡ false → after_function g es t ≡ t
unfolding after_function key_of place
unmoved function.SGR es t f e h l m p q r s u b = absurd (differs 0x6d f refl m e)
unmoved function.SM es t f e h l m p q r s u b = absurd (differs 0x68 f refl h e)
unmoved function.RM es t f e h l m p q r s u b = absurd (differs 0x6c f refl l e)
unmoved function.DECSET es t f e h l m p q r s u b = absurd (differs 0x68 f refl h e)
unmoved function.DECRST es t f e h l m p q r s u b = absurd (differs 0x6c f refl l e)
unmoved function.XTSAVE es t f e h l m p q r s u b = absurd (differs 0x73 f refl s e)
unmoved function.XTRESTORE es t f e h l m p q r s u b = absurd (differs 0x72 f refl r e)
unmoved function.DECSTBM es t f e h l m p q r s u b = absurd (differs 0x72 f refl r e)
unmoved function.SCOSC es t f e h l m p q r s u b = absurd (differs 0x73 f refl s e)
unmoved function.SCORC es t f e h l m p q r s u b = absurd (differs 0x75 f refl u e)
unmoved function.XTPOPSGR es t f e h l m p q r s u b = absurd (differs 0x71 f refl q e)
unmoved function.XTPOPSGR_2 es t f e h l m p q r s u b = absurd (differs 0x7d f refl b e)
unmoved function.DECSTR es t f e h l m p q r s u b = absurd (differs 0x70 f refl p e)
unmoved g es t f e h l m p q r s u b = refl

found_unmoved : (o : Option ControlFunction) (es : List CsiParam) (t : Terminal) (f : ℕ)
    → ((g : ControlFunction) → o ≡ Some g → key_of g % 256 ≡ f) → (f == 0x68) ≡ false
    → (f == 0x6c) ≡ false → (f == 0x6d) ≡ false → (f == 0x70) ≡ false → (f == 0x71) ≡ false
    → (f == 0x72) ≡ false → (f == 0x73) ≡ false → (f == 0x75) ≡ false → (f == 0x7d) ≡ false
    → after_named o es t ≡ t
found_unmoved None es t f key h l m p q r s u b = refl
found_unmoved (Some g) es t f key h l m p q r s u b =
    unmoved g es t f (key g refl) h l m p q r s u b

pub others_stay : (f : ℕ) (es : List CsiParam) (t : Terminal) → f < 256 → (f == 0x68) ≡ false
    → (f == 0x6c) ≡ false → (f == 0x6d) ≡ false → (f == 0x70) ≡ false → (f == 0x71) ≡ false
    → (f == 0x72) ≡ false → (f == 0x73) ≡ false → (f == 0x75) ≡ false → (f == 0x7d) ≡ false
    → after_body es f t ≡ t
others_stay f es t lt h l m p q r s u b =
    found_unmoved (function_of (sequence_key es f)) es t f
    (λ g found. last_byte (key_of g) (key_beginning (base_256 1 (marks es)) (length es) f) f lt
    (has_its_key (sequence_key es f) g found)) h l m p q r s u b

-- ---- the numbers of a short one

-- those that end in `m` are renditions
pub plain_sgr : (n : ShortNumbers) (es : List CsiParam) → AreParams n es 0x6d
    → list_all is_plain_param es ≡ true
plain_sgr short.Nothing es other = absurd (other refl)
plain_sgr (short.Lone n) es e = rw e refl
plain_sgr (short.Pair a b) es other = absurd (other refl)
plain_sgr (short.Palette i) es (m, e) = rw e refl

short_turns : (s : ShortNumbers) (es : List CsiParam) → AreParams s es 0x6d → Turns es (lights s)
short_turns short.Nothing es h = absurd (h refl)
short_turns (short.Lone n) es h = lone_turns es n h
short_turns (short.Pair a b) es h = absurd (h refl)
short_turns (short.Palette i) es h =
    first_turns es i.first (_, h.1) (omega (arith, i.fits.0)) (plain_sgr (short.Palette i) es h)

pub short_renditions : (s : ShortNumbers) (es : List CsiParam) (f : ℕ) (t : Terminal) → f ≡ 0x6d
    → AreParams s es f → IsAfter es f t (turned_terminal (lights s) t)
short_renditions s es f t is h =
    let (v, one, after, pens) = short_turns s es (subst (λ g. AreParams s es g) is h) in (
      v,
      ap (csi_of es false) is ∙ one,
      sym (after t),
      λ p. ap (λ g. pen_after_final es g p) is ∙ sym (pens p),
    )

-- a sequence with another final byte leaves the pen
pub other_pens : (es : List CsiParam) (f : ℕ) (p : Option Pen) → f ≢ 0x6d
    → pen_after_sequence (unspecified es false f) p ≡ pen_after_final es f p
other_pens es f p other = rw (ne_eqb f 0x6d other) refl

pub other_sequence : (es : List CsiParam) (f : ℕ) (t u : Terminal) → f ≢ 0x6d
    → u ≡ after_body es f t → IsAfter es f t u
other_sequence es f t u other after = (
  unspecified es false f,
  rw (ne_eqb f 0x6d other) refl,
  after,
  λ p. sym (other_pens es f p other),
)

-- ---- a semicolon at the end

semicolon_after : (before : Bool) (b : ℕ) (x : List ℕ)
    → ends_in_semicolon before (b ∷ x) ≡ (get_or (b ∷ x) (length (b ∷ x) - 1) 0 == 0x3b)
semicolon_after before b [] = refl
semicolon_after before b (c ∷ x) =
    semicolon_after (b == 0x3b) c x
    ∙ ap (λ n. get_or (b ∷ c ∷ x) n 0 == 0x3b) (last_at (length x))
  where
    last_at : (n : ℕ) → suc (suc n - 1) ≡ suc (suc n) - 1
    last_at n = omega arith

pub last_semicolon : (x : List ℕ) → 0 < length x
    → (get_or x (length x - 1) 0 == 0x3b) ≡ ends_in_semicolon false x
last_semicolon [] h = absurd (omega (arith, h))
last_semicolon (b ∷ x) h = sym (semicolon_after false b x)

-- ---- a command

-- the end of a link can be written
pub end_writable : {A : Type 0} → IsWritableCommand {A = A} (command.SetHyperlink None)
unfolding encode
end_writable = ((codes "8;;", refl, refl), refl)

module _ (A : Type 0) where
  no_address : (y : List ℕ) (u : List ℕ) → u ≡ []
      → ends_in_semicolon false (codes "8;" ++ (y ++ 0x3b ∷ u)) ≡ true
  no_address y u e = ap (λ z. ends_in_semicolon false (codes "8;" ++ (y ++ 0x3b ∷ z))) e ∙ last true y
    where
      last : (before : Bool) (y : List ℕ) → ends_in_semicolon before (y ++ 0x3b ∷ []) ≡ true
      last before [] = refl
      last before (b ∷ y) = last (b == 0x3b) y

  some_link : (x : List ℕ) (l : Option (Hyperlink A)) → x ≢ codes "8;;"
      → ends_in_semicolon false x ≡ false
      → command_text (command.SetHyperlink l) ≡ framed_text x → opened l ≡ true
  some_link x None n s e = absurd (n (sym (append_cancel_right (codes "8;;") x (0x1b ∷ 0x5c ∷ [])
      (ap (drop 2) e))))
  some_link x (Some h) n s e = by h.uri refl
    where
      same : hyperlink_text h ≡ x
      same = append_cancel_right (hyperlink_text h) x (0x1b ∷ 0x5c ∷ []) (ap (drop 2) e)

      by : (u : List ℕ) → h.uri ≡ u → not (is_empty u) ≡ true
      by [] k =
          absurd (true≢false (sym (no_address (params_text h.params) h.uri k)
          ∙ ap (ends_in_semicolon false) same ∙ s))
      by (b ∷ u) k = refl

  pub opens : (x : List ℕ) (t : Terminal) → IsPlainLink A x → x ≢ codes "8;;"
      → ends_in_semicolon false x ≡ false
      → record t { link = true } ≡ after_command (meaning {A = A} (parts_of x)) t
  opens x t (l, means, written) n s =
      ap (λ b. record t { link = b })
      (sym (some_link x l n s (ap command_text (sym means) ∙ written)))
      ∙ ap (λ c. after_command c t) (sym means)

  pub ends : (x : List ℕ) (t : Terminal) → x ≡ codes "8;;"
      → ((c : OperatingSystemCommand A) → IsWritableCommand c
      → meaning (parts_of (inner_text c)) ≡ c)
      → record t { link = false } ≡ after_command (meaning {A = A} (parts_of x)) t
  ends x t e back =
      ap (λ c. after_command {A = A} c t) (sym (back (command.SetHyperlink None) end_writable))
      ∙ ap (λ y. after_command (meaning {A = A} (parts_of y)) t) (sym e)

-- the changes by a sequence of no parameter, of one and of some, for `grind`
pub ruleset turning = (nothing_turns, lone_turns, first_turns)

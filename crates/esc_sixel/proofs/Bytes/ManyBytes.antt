-- Many bytes, one pushed after another.
use Rattle.std.proofs.Common.{Result, Ok, Err, OnErr, ◌≡◌, ℕ, ℤ, ◌+◌, ◌-◌, List, [], ◌∷◌}
use Rattle.std.proofs.Common.{◌++◌, None, refl, sym, ap, subst, ◌∙◌, append-nil, append_assoc, take, drop, length, arith}
use Rattle.std.proofs.Common.{length-drop, Option, Some, ◌<◌, ◌≤◌, ◌*◌, ◌⊎◌, inl, inr, zero, suc, get_or, min}
use Rattle.std.specs.Option.{unwrap_or}
use Rattle.std.proofs.lemmas.List.{length-set, length-take, take_all, take_more}
use Rattle.std.proofs.Math.Seq.{take-add}
use Rattle.std.specs.List.{FoldsTo, All}
use Rattle.std.proofs.lemmas.List.Elements.{All-head, All-tail}
use Rattle.esc_values.specs.Params.{capped_at_i64}
use Rattle.esc_sixel.specs.Classes.{class_of, IsDigit, IsPixels}
use Rattle.esc_sixel.specs.Lines.{Ends, fresh, number_after}
use Rattle.esc_sixel.specs.Runs.{Keeps, param, separators, more_digit, more_digits}
use Rattle.esc_sixel.proofs.Runs.RunsOfDigits.{digits_written}
use Rattle.esc_sixel.specs.Meaning.{color_of, drawn_data, repeat_of}
use Rattle.esc_sixel.specs.Steps.{HasConsumed, Pushes, HoldsOpen, Closed, closed_of, open_of, with_items, lone_item, opened_command}
use Rattle.esc_sixel.specs.Taking.{with_data}
use Rattle.esc_sixel.specs.declared.builder.SixelBuilder.{SixelBuilder}
use Rattle.esc_sixel.specs.declared.class.Class.{Class}
use Rattle.esc_sixel.specs.declared.class.Class.TheVariants.{Introduces, Line, Pixels, Return}
use Rattle.esc_sixel.specs.declared.introducer.Introducer.{Introducer}
use Rattle.esc_sixel.specs.declared.introducer.Introducer.TheVariants as introducer
use Rattle.esc_sixel.specs.declared.sixel.Sixel.{Sixel}
use Rattle.esc_sixel.specs.declared.sixel_data.SixelData.{SixelData}
use Rattle.esc_sixel.specs.declared.sixel_data.SixelData.TheVariants.{CarriageReturn, NewLine, Repeat, SelectColorMapEntry}
use Rattle.esc_sixel.specs.declared.parameters.Parameters.{Parameters}
use Rattle.esc_sixel.proofs.Bytes.OneByteMore.{after_none, after_some, closed_digit, closed_push, open_push}
use Rattle.esc_sixel.proofs.Runs.ClassOfDigit.{digit_below, digit_class, digit_whole}
use Rattle.esc_sixel.proofs.Runs.OneByteMoreOfRun.{digit_is_none, keeps_digit, semicolons_digit}
use Rattle.esc_sixel.proofs.Runs.RunsOfPixels.{pixels_class}

pub on_err : {T E : Type 0} {P : Type 0} (r : Result T E) → P → OnErr r P
on_err (Ok x) p = tt
on_err (Err e) p = p

-- one run after another
pub folds_join : {P A : Type 0} (R : P → A → P → Type 0) (p : P) (xs ys : List A) (q r : P)
    → FoldsTo R p xs q → FoldsTo R q ys r → FoldsTo R p (xs ++ ys) r
folds_join R p [] ys q r e f = subst (λ z. FoldsTo R z ys r) (sym e) f
folds_join R p (x ∷ xs) ys q r (j, one, rest) f = (j, one, folds_join R j xs ys q r rest f)

pub folds_more : {P A : Type 0} (R : P → A → P → Type 0) (p : P) (xs : List A) (at n : ℕ) (q r : P)
    → FoldsTo R p (take at xs) q
    → FoldsTo R q (take n (take (length xs - at) (drop at xs))) r → FoldsTo R p (take (at + n) xs) r
folds_more R p xs at n q r e f =
    let rest = take_all (length xs - at) (drop at xs) (omega (arith, length-drop at xs)) in
    let more = subst (λ t. FoldsTo R q (take n t) r) rest f in
    subst (λ z. FoldsTo R p z r) (sym (take-add at n xs))
    (folds_join R p (take at xs) (take n (drop at xs)) q r e more)

pub folds_one : {P : Type 0} (R : P → ℕ → P → Type 0) (p : P) (xs : List ℕ) (at : ℕ) (q r : P)
    → at < length xs → FoldsTo R p (take at xs) q
    → R q (get_or xs at 0) r → FoldsTo R p (take (at + 1) xs) r
folds_one R p xs at q r lt e one =
    subst (λ z. FoldsTo R p z r) (sym (take_more xs at 0 lt))
    (folds_join R p (take at xs) (get_or xs at 0 ∷ []) q r e (r, one, refl))

-- the builder after a run of bytes
pub run_leads : {A : Type 0} (ps : List ℤ) (s : List ℕ) (bs : List ℕ) (p q : SixelBuilder A)
    → FoldsTo Pushes p bs q → HasConsumed ps s p → HasConsumed ps (s ++ bs) q
run_leads ps s [] p q e h =
    subst (λ t. HasConsumed ps t q) (sym (append-nil s)) (subst (HasConsumed ps s) e h)
run_leads ps s (b ∷ bs) p q (j, one, rest) h =
    subst (λ t. HasConsumed ps t q) (append_assoc s (b ∷ []) bs)
    (run_leads ps (s ++ b ∷ []) bs j q rest (one ps s h))

-- six pixels outside a command
abbrev pub with_drawn : {A : Type 0} → SixelBuilder A → List ℕ → SixelBuilder A
with_drawn p bs = record p { sixel = record p.sixel { content = p.sixel.content ++ drawn_data bs } }

drawn_alone : {A : Type 0} (p : SixelBuilder A) (b : ℕ) (c : Class) → p.introducer ≡ None
    → c ≡ Pixels (b - 0x3f)
    → ((with_drawn p (b ∷ [])).sixel ≡ with_items p.sixel (lone_item c b))
    × HoldsOpen (opened_command c) p.introducer p.parameters
drawn_alone p b c none e = rw e (refl, none)

pixel_pushed : {A : Type 0} (p : SixelBuilder A) (b : ℕ) → p.introducer ≡ None → IsPixels b
    → Pushes p b (with_drawn p (b ∷ []))
unfolding HasConsumed
pixel_pushed p b none h = λ ps s lead.
    rw (closed_push Closed s b, open_push Closed s b)
    (after_none {T = Unit {0}} {E = Unit {0}} ps (closed_of Closed s) (open_of Closed s)
    (class_of b) b p.sixel (with_drawn p (b ∷ [])).sixel
    p.introducer p.introducer p.parameters p.parameters (Ok tt) lead.0 lead.1 none
    (drawn_alone p b (class_of b) none (pixels_class b h)))

pub pixels_pushed : {A : Type 0} (bs : List ℕ) (p q : SixelBuilder A) → p.introducer ≡ None
    → All IsPixels bs → q ≡ with_drawn p bs → FoldsTo Pushes p bs q
pixels_pushed [] p q none h e = ap (λ t. record p { sixel = record p.sixel { content = t } })
    (sym (append-nil p.sixel.content)) ∙ sym e
pixels_pushed (b ∷ bs) p q none h e = (
  with_drawn p (b ∷ []),
  pixel_pushed p b none (All-head IsPixels b bs h),
  pixels_pushed bs (with_drawn p (b ∷ [])) q none (All-tail IsPixels b bs h)
      (e ∙ ap (λ t. record p { sixel = record p.sixel { content = t } })
      (sym (append_assoc p.sixel.content (drawn_data (b ∷ [])) (drawn_data bs)))),
)

-- the end of a line outside a command
abbrev EndsBy : Class → SixelData → Type 0
EndsBy c d = ((c ≡ Return) × (d ≡ CarriageReturn)) ⊎ ((c ≡ Line) × (d ≡ NewLine))

ends_class : (b : ℕ) (d : SixelData) → Ends b d → EndsBy (class_of b) d
unfolding class_of
ends_class b d (inl h) = inl (rw h.0 refl, h.1)
ends_class b d (inr h) = inr (rw h.0 refl, h.1)

ended_alone : {A : Type 0} (s : Sixel A) (b : ℕ) (c : Class) (d : SixelData) (i : Option Introducer)
    (k : Parameters) → i ≡ None → EndsBy c d
    → (with_data s d ≡ with_items s (lone_item c b)) × HoldsOpen (opened_command c) i k
ended_alone s b c d i k none (inl h) = rw (h.0, h.1) (refl, none)
ended_alone s b c d i k none (inr h) = rw (h.0, h.1) (refl, none)

pub line_ended : {A : Type 0} (p q : SixelBuilder A) (b : ℕ) (d : SixelData) → p.introducer ≡ None
    → Ends b d → q.sixel ≡ with_data p.sixel d
    → q.introducer ≡ None → Pushes p b q
unfolding HasConsumed
line_ended p q b d none h e after = λ ps s lead.
    let did = ended_alone p.sixel b (class_of b) d q.introducer q.parameters after
    (ends_class b d h) in
    rw (closed_push Closed s b, open_push Closed s b)
    (after_none {T = Unit {0}} {E = Unit {0}} ps (closed_of Closed s) (open_of Closed s)
    (class_of b) b p.sixel q.sixel
    p.introducer q.introducer p.parameters q.parameters (Ok tt) lead.0 lead.1 none (
      e ∙ did.0,
      did.1,
    ))

-- a digit in a command, and more
keeps_more : (p : Parameters) (run : List ℕ) (b : ℕ) → length p.values ≡ 5 → p.count < 5 → IsDigit b
    → Keeps p run → Keeps (more_digit p b) (run ++ b ∷ [])
keeps_more p run b five room h k =
    let low : b - 0x30 < 10 = digit_below b h in
    let whole : (b - 0x30) + 48 ≡ b = digit_whole b h in
    let number = capped_at_i64 (10 * unwrap_or (get_or p.values p.count None) 0 + (b - 0x30)) in
    let e : number ≡ capped_at_i64 (10 * unwrap_or (param run p.count) 0 + (b - 0x30)) =
    ap (λ o. capped_at_i64 (10 * unwrap_or o 0 + (b - 0x30))) (k.values p.count room) in
    let none = digit_is_none (b - 0x30) low in
    subst (λ x. Keeps (more_digit p b) (run ++ x ∷ [])) whole (record {
      values = keeps_digit p.values p.count (b - 0x30) number run five low room k.values k.count e;
      count = k.count ∙ ap (λ s. min s 5) (sym (semicolons_digit run ((b - 0x30) + 48) none));
    })

abbrev with_parameters : {A : Type 0} → SixelBuilder A → Parameters → SixelBuilder A
with_parameters p k = record p { parameters = k }

pub digit_pushed : {A : Type 0} (p : SixelBuilder A) (m : Introducer) (b : ℕ)
    → p.introducer ≡ Some m → length p.parameters.values ≡ 5 → p.parameters.count < 5
    → IsDigit b → Pushes p b (with_parameters p (more_digit p.parameters b))
unfolding HasConsumed
digit_pushed p m b some five room h = λ ps s lead.
    rw (closed_push Closed s b, open_push Closed s b)
    (after_some {T = Unit {0}} {E = Unit {0}} ps (closed_of Closed s) (open_of Closed s) m
    (class_of b) b p.sixel p.sixel p.introducer p.introducer
    p.parameters (more_digit p.parameters b) (Ok tt) lead.0 lead.1 some
    (λ r k. rw (digit_class b h, closed_digit m r (b - 0x30) b) (
      refl,
      (k.0, keeps_more p.parameters r b five room h k.1),
    )))

pub digits_pushed : {A : Type 0} (bs : List ℕ) (p q : SixelBuilder A) (m : Introducer)
    → p.introducer ≡ Some m → length p.parameters.values ≡ 5
    → (0 < length bs → p.parameters.count < 5) → All IsDigit bs
    → q ≡ with_parameters p (more_digits p.parameters bs) → FoldsTo Pushes p bs q
digits_pushed [] p q m some five room h e = sym e
digits_pushed (b ∷ bs) p q m some five room h e =
    let more = more_digit p.parameters b in
    let long : length more.values ≡ 5 =
    length-set p.parameters.values p.parameters.count _ ∙ five in (
      with_parameters p more,
      digit_pushed p m b some five (room (omega arith)) (All-head IsDigit b bs h),
      digits_pushed bs (with_parameters p more) q m some long (λ t.
          room (omega arith)) (All-tail IsDigit b bs h) e,
    )

-- a command begins outside one, and after a `#`
pub color_class : (b : ℕ) → b ≡ 0x23 → class_of b ≡ Introduces introducer.Color
unfolding class_of
color_class b e = rw e refl

pub repeat_class : (b : ℕ) → b ≡ 0x21 → class_of b ≡ Introduces introducer.Repeat
unfolding class_of
repeat_class b e = rw e refl

pub begins : {A : Type 0} (p : SixelBuilder A) (m : Introducer) (fresh : Parameters) (b : ℕ)
    → p.introducer ≡ None → class_of b ≡ Introduces m
    → Keeps fresh [] → Pushes p b (record p { introducer = Some m; parameters = fresh })
unfolding HasConsumed
begins p m fresh b none is k = λ ps s lead.
    rw (closed_push Closed s b, open_push Closed s b)
    (after_none {T = Unit {0}} {E = Unit {0}} ps (closed_of Closed s) (open_of Closed s)
    (class_of b) b p.sixel p.sixel p.introducer (Some m)
    p.parameters fresh (Ok tt) lead.0 lead.1 none (rw is (refl, (refl, k))))

pub selected_begins : {A : Type 0} (p : SixelBuilder A) (m : Introducer) (fresh : Parameters)
    (b : ℕ) (d : SixelData) → p.introducer ≡ Some introducer.Color
    → class_of b ≡ Introduces m → Keeps fresh []
    → ((r : List ℕ) → Keeps p.parameters r → d ≡ color_of r)
    → Pushes p b (record { sixel = with_data p.sixel d; introducer = Some m; parameters = fresh })
unfolding HasConsumed
selected_begins p m fresh b d some is k gives = λ ps s lead.
    rw (closed_push Closed s b, open_push Closed s b)
    (after_some {T = Unit {0}} {E = Unit {0}} ps (closed_of Closed s) (open_of Closed s)
    introducer.Color (class_of b) b p.sixel (with_data p.sixel d)
    p.introducer (Some m) p.parameters fresh (Ok tt) lead.0 lead.1 some
    (λ r h. rw is (ap (with_data p.sixel) (gives r h.1), (refl, k))))

-- six pixels end a `!`
pub repeat_ends : {A : Type 0} (p q : SixelBuilder A) (b : ℕ) (d : SixelData)
    → p.introducer ≡ Some introducer.Repeat → IsPixels b
    → ((r : List ℕ) → Keeps p.parameters r → d ≡ repeat_of r (b - 0x3f))
    → q.sixel ≡ with_data p.sixel d → q.introducer ≡ None → Pushes p b q
unfolding HasConsumed
repeat_ends p q b d some is gives e none = λ ps s lead.
    rw (closed_push Closed s b, open_push Closed s b)
    (after_some {T = Unit {0}} {E = Unit {0}} ps (closed_of Closed s) (open_of Closed s)
    introducer.Repeat (class_of b) b p.sixel q.sixel
    p.introducer q.introducer p.parameters q.parameters (Ok tt) lead.0 lead.1 some
    (λ r h. rw (pixels_class b is) (e ∙ ap (with_data p.sixel) (gives r h.1), none)))

-- a number alone in a command
none_kept : (k : ℕ) → get_or fresh.values k None ≡ param [] k
none_kept zero = refl
none_kept (suc zero) = refl
none_kept (suc (suc zero)) = refl
none_kept (suc (suc (suc zero))) = refl
none_kept (suc (suc (suc (suc zero)))) = refl
none_kept (suc (suc (suc (suc (suc k))))) = refl

pub fresh_keeps : Keeps fresh []
fresh_keeps = record { values = λ k small. none_kept k; count = refl }

count_stays : (p : Parameters) (ds : List ℕ) → (more_digits p ds).count ≡ p.count
count_stays p [] = refl
count_stays p (b ∷ ds) = count_stays (more_digit p b) ds

number_kept : (ds r : List ℕ) → 0 < length ds → Keeps (more_digits fresh ds) r
    → param r 0 ≡ Some (number_after 0 ds)
number_kept ds r some k =
    sym (k.values 0 (omega arith)) ∙ ap (λ (p : Parameters). get_or p.values 0 None)
    (digits_written fresh ds (omega arith) some)

pub selects : (ds r : List ℕ) (n : ℕ) → 0 < length ds → n ≡ number_after 0 ds → n < 10000
    → Keeps (more_digits fresh ds) r → SelectColorMapEntry n ≡ color_of r
selects ds r n some e small k =
    let lone_item : separators r ≡ 0 = omega (arith, k.count, count_stays fresh ds) in
    let is : param r 0 ≡ Some n = number_kept ds r some k ∙ ap Some (sym e) in
    let fits : n ≡ min n 65535 = omega arith in
    rw (lone_item, is) (ap SelectColorMapEntry fits)

pub repeats : (ds r : List ℕ) (n v : ℕ) → 0 < length ds → n ≡ number_after 0 ds → n < 10000
    → Keeps (more_digits fresh ds) r → Repeat v n ≡ repeat_of r v
repeats ds r n v some e small k =
    let is : param r 0 ≡ Some n = number_kept ds r some k ∙ ap Some (sym e) in
    let fits : n ≡ min n 4294967295 = omega arith in
    rw is (ap (λ m. Repeat v m) fits)

pub some_taken : (n : ℕ) (ys : List ℕ) → 0 < n → n ≤ length ys → 0 < length (take n ys)
some_taken n ys some few = omega (arith, length-take n ys)

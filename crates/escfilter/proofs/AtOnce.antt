-- The names of control sequences that are left out, by a look at them.
use Rattle.std.proofs.Common.{ℕ, ◌≡◌, ◌||◌, Bool, true, false, if◌then◌else◌, List, [], ◌∷◌, map, IfOk, IfSome, Option, Some, None, Result, Ok, Err, refl, sym, ap, ◌∙◌, subst, append-nil}
use Rattle.std.specs.Global.{Global}
use Rattle.std.specs.List.{list_any}
use Rattle.esc_account.specs.Brief.{brief}
use Rattle.esc_account.specs.Rules.{is_written}
use Rattle.esc_account.specs.declared.fate.Fate.{Fate}
use Rattle.esc_actions.specs.Meaning.{values_from}
use Rattle.esc_actions.specs.Readings.{reading_within}
use Rattle.esc_actions.specs.Values.{Value, csi, plain}
use Rattle.esc_actions.specs.Writable.{is_truncated}
use Rattle.esc_filter.specs.declared.guard.Guard.{Guard}
use Rattle.esc_filter.proofs.Renditions.SequencesFromParameters.{nameless}
use Rattle.esc_frame.specs.Events.Event.{CsiDispatch}
use Rattle.esc_frame.specs.Segments.{AreSegments, Segment as Shape, events_of, events_of_within, is_finished, joined_bytes}
use Rattle.esc_frame.specs.Segments.Segment.{Apc, Broken, Character, Control, Csi, CutCsi, CutDcs, CutEscape, Dcs, Escape, HighControl, Ignored, Osc, Stray, Terminator, Wide}
use Rattle.esc_sanitize.specs.declared.options.FilterOptions.{FilterOptions}
use Rattle.esc_segments.specs.declared.item.Segment.{Segment as Item}
use Rattle.esc_segments.specs.declared.kind.SegmentKind.{SegmentKind}
use Rattle.esc_segments.specs.declared.kind.SegmentKind.TheVariants as kinds
use Rattle.esc_segments.specs.Items.{IsItem, kind_of}
use Rattle.esc_sequences.specs.Csis.{CsiValue, csi_of, unspecified}
use Rattle.esc_values.specs.declared.csi_param.CsiParam.{CsiParam}
use Rattle.escfilter.specs.Choices.{admits_choice}
use Rattle.escfilter.specs.Names.{Title, kind_title, value_title}
use Rattle.escfilter.specs.Rows.{IsLeftName, IsOutFirst, first_out, is_meant, title_by, title_or, writes}
use Rattle.escfilter.specs.declared.name.Name.{Name}
use Rattle.escfilter.specs.declared.named_groups.Choice.{Choice}

-- ---- one value of which nothing is written

csi_out : (l : Bool) (u : Guard) (admits : Value Global → Bool) (c : CsiValue)
    → is_truncated c ≡ false → admits (csi c) ≡ false → is_written l u admits (csi c) ≡ false
csi_out true u admits c e h = rw (e, h) refl
csi_out false u admits c e h = rw (e, h) refl

first_false : (x : Bool) → (x || false) ≡ false → x ≡ false
first_false true h = h
first_false false h = refl

one_out : (o : FilterOptions Choice) (t : Title) (v : Value Global) → writes o v ≡ false
    → value_title v ≡ title_or t (first_out (writes o) (v ∷ []))
one_out o t v h = ap (λ b. title_or t (if b then None else Some v)) (sym h)

-- ---- control sequences

-- the reading of one of which this is dispatched
pub sequence_reading : (limit : ℕ) (g : Shape) (gs : List Shape) (finished : Bool)
    (items : List CsiParam) (f : ℕ) → kind_of g ≡ kinds.Csi
    → finished ≡ is_finished g (joined_bytes gs)
    → events_of g finished ≡ CsiDispatch items false f ∷ []
    → reading_within {A = Global} (Some limit) g (is_finished g (joined_bytes gs))
    ≡ map csi (csi_of items false f)
sequence_reading limit g gs finished items f kind same event =
    let done = is_finished g (joined_bytes gs) in
    ap (values_from (Some limit) plain)
    (sym (no_limit limit g done kind) ∙ ap (events_of g) (sym same) ∙ event)
    ∙ append-nil (map csi (csi_of items false f))
  where
    no_limit : (limit : ℕ) (g : Shape) (finished : Bool) → kind_of g ≡ kinds.Csi
        → events_of g finished ≡ events_of_within (Some limit) g finished
    no_limit limit (Csi o x f) finished k = refl
    no_limit limit (Character b) finished k = absurd cc
    no_limit limit (Wide x) finished k = absurd cc
    no_limit limit (Broken x) finished k = absurd cc
    no_limit limit (Stray b) finished k = absurd cc
    no_limit limit (Control b) finished k = absurd cc
    no_limit limit (HighControl p b) finished k = absurd cc
    no_limit limit (Terminator p b) finished k = absurd cc
    no_limit limit (Escape x f) finished k = absurd cc
    no_limit limit (Osc o ps e) finished k = absurd cc
    no_limit limit (Dcs o x f d) finished k = absurd cc
    no_limit limit (Apc o d) finished k = absurd cc
    no_limit limit (Ignored j o d) finished k = absurd cc
    no_limit limit (CutEscape x) finished k = absurd cc
    no_limit limit (CutCsi o x) finished k = absurd cc
    no_limit limit (CutDcs o x) finished k = absurd cc

pub sequence_out : (o : FilterOptions Choice) (x : Item) (es : List CsiParam) (last : ℕ)
    (n : Name) → IsLeftName o.policy es last n
    → ((g : Shape) (gs : List Shape) → AreSegments (g ∷ gs) → IsItem x g (joined_bytes gs)
    → reading_within {A = Global} (Some o.limit) g (is_finished g (joined_bytes gs))
    ≡ map csi (csi_of es false last)) → IsOutFirst o x n
sequence_out o x es last n h reads = λ g gs t each is.
    let v = unspecified es false last in
    let one : csi_of es false last ≡ v ∷ [] = nameless es last h.one in
    let stays : admits_choice {A = Global} o.policy (csi v) ≡ false =
    first_false (admits_choice {A = Global} o.policy (csi v))
    (subst (λ cs. list_any (λ c. admits_choice {A = Global} o.policy (csi c)) cs
    ≡ false) one h.stays) in
    let whole : reading_within {A = Global} (Some o.limit) g (is_finished g (joined_bytes gs))
    ≡ csi v ∷ [] = reads g gs each is ∙ ap (map csi) one in
    h.title
    ∙ one_out o t (csi v) (csi_out o.by_lines o.guard (admits_choice o.policy) v refl stays)
    ∙ ap (λ vs. title_or t (first_out (writes o) (brief vs))) (sym whole)

-- the name that is told, where one is
pub sequence_named : (o : FilterOptions Choice) (x : Item) (items es : List CsiParam) (last : ℕ)
    (n : Option Name) → IfSome n (IsLeftName o.policy es last) → es ≡ items
    → ((g : Shape) (gs : List Shape) → AreSegments (g ∷ gs) → IsItem x g (joined_bytes gs)
    → reading_within {A = Global} (Some o.limit) g (is_finished g (joined_bytes gs))
    ≡ map csi (csi_of items false last)) → IfSome n (IsOutFirst o x)
sequence_named o x items es last None h same reads = tt
sequence_named o x items es last (Some n) h same reads =
    sequence_out o x es last n h
    (λ g gs each is. reads g gs each is ∙ ap (λ l. map csi (csi_of l false last)) (sym same))

-- a segment with a meaning is called as its first value that is not written
pub title_meant : (written : Value Global → Bool) (f : Fate) (k : SegmentKind) (bytes : List ℕ)
    (vs : List (Value Global)) (n : Title) → is_meant f ≡ true
    → n ≡ title_or (kind_title k bytes) (first_out written vs)
    → n ≡ title_by written f k bytes vs
title_meant written f k bytes vs n meant h =
    h ∙ ap (λ b. if b then title_or (kind_title k bytes) (first_out written vs)
    else kind_title k bytes) (sym meant)

pub ok_more : {X E : Type 0} (P Q : X → Type 0) (r : Result X E) → ((x : X) → P x → Q x)
    → IfOk r P → IfOk r Q
ok_more P Q (Ok x) f h = f x h
ok_more P Q (Err e) f h = tt

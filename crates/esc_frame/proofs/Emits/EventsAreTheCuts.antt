-- The events of a stream are those of its cut.
use Rattle.std.proofs.Common.{ℕ, ◌≡◌, true, List, [], ◌∷◌, ◌++◌, length, drop, refl, sym, ap, ◌∙◌, subst, append_assoc, Option, None}
use Rattle.std.proofs.lemmas.List.{append-nil}
use Rattle.esc_frame.specs.Classes.{class_of}
use Rattle.esc_frame.specs.Events.{Event}
use Rattle.esc_frame.specs.Segments.{Segment, HasShape, joined_bytes, bytes_of, events_of_within, is_finished}
use Rattle.esc_frame.specs.Leads.{Unfinished, HasCut, AreFinished, open_bytes, finished_events, finished_events_within, emitted_open}
use Rattle.esc_frame.specs.Leads.Unfinished.{Ground}
use Rattle.esc_frame.specs.Machine.Moves.{after_by, events_by, after_all, events_all}
use Rattle.esc_frame.specs.Stream.{events, events_within, added_within, Says}
use Rattle.esc_frame.proofs.Cut.CutExists.{cut_emits, stands, events_of_the_cut}
use Rattle.esc_frame.proofs.Cut.CutIsUnique.{events_once}

-- the segments that are cut so far emitted the stream's events
pub cut_events : (limit : Option ℕ) (s : List ℕ) (es : List Event) (gs : List Segment)
    (u : Unfinished) → HasCut limit s es gs u → es ≡ events_within limit s
cut_events limit s es gs u st =
    events_once limit s es (events_within limit s) (cut_emits s es gs u st)
    (events_of_the_cut limit s)

drop_prefix : {X : Type 0} (xs ys : List X) → drop (length xs) (xs ++ ys) ≡ ys
drop_prefix [] ys = refl
drop_prefix (x ∷ xs) ys = drop_prefix xs ys

-- the events of a prefix are a prefix of the events
pub added_from : (limit : Option ℕ) (s b : List ℕ) (new_events : List Event)
    → events_within limit s ++ new_events ≡ events_within limit (s ++ b)
    → added_within limit s b ≡ new_events
unfolding added_within
added_from limit s b new_events e =
    ap (drop (length (events_within limit s))) (sym e)
    ∙ drop_prefix (events_within limit s) new_events

-- ---- the machine, some bytes and then more

pub after_append : (u : Unfinished) (xs ys : List ℕ)
    → after_all u (xs ++ ys) ≡ after_all (after_all u xs) ys
after_append u [] ys = refl
after_append u (b ∷ xs) ys = after_append (after_by u b (class_of b)) xs ys

pub events_append : (limit : Option ℕ) (u : Unfinished) (xs ys : List ℕ)
    → events_all limit u (xs ++ ys) ≡ events_all limit u xs ++ events_all limit (after_all u xs) ys
events_append limit u [] ys = refl
events_append limit u (b ∷ xs) ys =
    let v = after_by u b (class_of b) in
    ap (λ z. events_by limit u b (class_of b) ++ z) (events_append limit v xs ys)
    ∙ sym (append_assoc (events_by limit u b (class_of b)) (events_all limit v xs)
    (events_all limit (after_all v xs) ys))

-- ---- the events of a stream and of more of it

module _ (limit : Option ℕ) where
  events_then : (s b : List ℕ) → events_within limit s ++ events_all limit (after_all Ground s) b
      ≡ events_within limit (s ++ b)
  unfolding events_within
  events_then s b = sym (events_append limit Ground s b)

  -- the events that more bytes add are those that the machine emits for them
  pub added_is : (s b : List ℕ) → added_within limit s b ≡ events_all limit (after_all Ground s) b
  added_is s b = added_from limit s b (events_all limit (after_all Ground s) b) (events_then s b)

  pub events_more : (s b : List ℕ)
      → events_within limit s ++ added_within limit s b ≡ events_within limit (s ++ b)
  events_more s b = ap (λ x. events_within limit s ++ x) (added_is s b) ∙ events_then s b

  pub added_append : (s b c : List ℕ)
      → added_within limit s (b ++ c) ≡ added_within limit s b ++ added_within limit (s ++ b) c
  added_append s b c =
      added_from limit s (b ++ c) (added_within limit s b ++ added_within limit (s ++ b) c)
      (sym (append_assoc (events_within limit s) (added_within limit s b)
      (added_within limit (s ++ b) c))
      ∙ ap (λ x. x ++ added_within limit (s ++ b) c) (events_more s b) ∙ events_more (s ++ b) c
      ∙ ap (events_within limit) (append_assoc s b c))

pub events_nil : events [] ≡ []
unfolding events_within
events_nil = refl

-- finished segments before others
joined-append : (gs hs : List Segment) → joined_bytes (gs ++ hs) ≡ joined_bytes gs
    ++ joined_bytes hs
joined-append [] hs = refl
joined-append (g ∷ gs) hs = ap (λ x. bytes_of g ++ x) (joined-append gs hs)
    ∙ sym (append_assoc (bytes_of g) (joined_bytes gs) (joined_bytes hs))

emitted-append : (limit : Option ℕ) (gs hs : List Segment)
    → finished_events_within limit (gs ++ hs)
    ≡ finished_events_within limit gs ++ finished_events_within limit hs
emitted-append limit [] hs = refl
emitted-append limit (g ∷ gs) hs =
    ap (λ x. events_of_within limit g true ++ x) (emitted-append limit gs hs)
    ∙ sym (append_assoc (events_of_within limit g true) (finished_events_within limit gs)
    (finished_events_within limit hs))

regroup : (gs hs : List Segment) (r : List ℕ)
    → joined_bytes (gs ++ hs) ++ r ≡ joined_bytes gs ++ (joined_bytes hs ++ r)
regroup gs hs r = ap (λ x. x ++ r) (joined-append gs hs)
    ∙ append_assoc (joined_bytes gs) (joined_bytes hs) r

are_append : (gs hs : List Segment) (r : List ℕ) → AreFinished gs (joined_bytes hs ++ r)
    → AreFinished hs r → AreFinished (gs ++ hs) r
are_append [] hs r f k = k
are_append (g ∷ gs) hs r (sh, fi, f) k =
    let e = sym (regroup gs hs r) in (
      subst (λ x. HasShape g x) e sh,
      subst (λ x. is_finished g x ≡ true) e fi,
      are_append gs hs r f k,
    )

-- the bytes after finished segments have their own cut and their own events
pub cut_after : (limit : Option ℕ) (gs : List Segment) (u : List ℕ) → AreFinished gs u
    → (hs : List Segment)
    × HasCut limit (joined_bytes gs ++ u) (finished_events_within limit gs ++ events_within limit u)
    hs
    (after_all Ground u)
cut_after limit gs u f =
    let w = stands limit u in
    let v = after_all Ground u in
    let st = w.1 in
    let had = finished_events_within limit gs in
    let got = finished_events_within limit w.0 in (
      gs ++ w.0,
      record {
        whole = ap (λ x. joined_bytes gs ++ x) st.whole ∙ sym (regroup gs w.0 (open_bytes v));
        finished =
            are_append gs w.0 (open_bytes v) (subst (λ x. AreFinished gs x) st.whole f) st.finished;
        shape = st.shape;
        emitted =
            ap (λ x. had ++ x) st.emitted ∙ sym (append_assoc had got (emitted_open limit v))
            ∙ ap (λ x. x ++ emitted_open limit v) (sym (emitted-append limit gs w.0));
      },
    )

pub events_after : (limit : Option ℕ) (gs : List Segment) (u : List ℕ) → AreFinished gs u
    → events_within limit (joined_bytes gs ++ u)
    ≡ finished_events_within limit gs ++ events_within limit u
events_after limit gs u f =
    let w = cut_after limit gs u f in
    sym (cut_events limit (joined_bytes gs ++ u)
    (finished_events_within limit gs ++ events_within limit u) w.0 (after_all Ground u) w.1)

-- The text of segments that are finished whatever follows says their events: the one fact about the
-- framing that a writer needs.
pub says_segments : (gs : List Segment) → ((rest : List ℕ) → AreFinished gs rest)
    → Says (joined_bytes gs) (finished_events gs)
says_segments gs f rest = events_after None gs rest (f rest)

-- texts, one after another
pub says_nil : Says [] []
says_nil rest = refl

pub says_append : (t u : List ℕ) (es fs : List Event) → Says t es → Says u fs
    → Says (t ++ u) (es ++ fs)
says_append t u es fs h k rest = ap events (append_assoc t u rest) ∙ h (u ++ rest)
    ∙ ap (λ x. es ++ x) (k rest) ∙ sym (append_assoc es fs (events rest))

pub says_events : (t : List ℕ) (es : List Event) → Says t es → events t ≡ es
says_events t es h = ap events (sym (append-nil t)) ∙ h [] ∙ ap (λ x. es ++ x) events_nil
    ∙ append-nil es

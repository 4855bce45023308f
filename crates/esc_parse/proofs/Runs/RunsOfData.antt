-- A run of data: counted at once, pushed to a builder, and as events.
use Rattle.std.proofs.Common.{◌≡◌, ℕ, suc, ◌+◌, ◌≤◌, ◌<◌, ◌⊎◌, min, true, false, not, List, [], ◌∷◌, ◌++◌, length, map, Option, Some, None, inl, inr}
use Rattle.std.proofs.Common.{refl, ap, sym, ◌∙◌, subst, arith}
use Rattle.std.proofs.lemmas.Bool.Decides.{nat_tests}
use Rattle.std.proofs.lemmas.List.{length-append}
use Rattle.std.specs.List.{FoldsTo}
use Rattle.esc_device.specs.Leads.{Pushes as PushesShort}
use Rattle.esc_device.specs.declared.builder.ShortBuilder.{ShortBuilder}
use Rattle.esc_frame.proofs.Emits.EventsFold.{stops_then}
use Rattle.esc_frame.specs.Events.{Awaits, StopsAt as StopsAtEvent}
use Rattle.esc_frame.specs.Events.Event.{DcsPut}
use Rattle.esc_frame.specs.Limits.{is_within, most}
use Rattle.esc_frame.specs.declared.unfinished.count.Count.{Count}
use Rattle.xtgettcap.specs.Names.{Pushes as PushesTermcap}
use Rattle.xtgettcap.specs.declared.builder.GetTcapBuilder.{GetTcapBuilder}
use Rattle.esc_actions.specs.Groups.{is_entered}
use Rattle.esc_actions.specs.Values.{Mode, datum, plain, in_sixel, in_termcap, in_short, entered, mode_with_byte, taken_gives, value_of}
use Rattle.esc_actions.specs.declared.action.Action.{Action}
use Rattle.std.specs.declared.boxed.Box.{Box}
use Rattle.std.specs.Box.{with_value}
use Rattle.esc_parse.proofs.Data.CountedToLimit.{entered_put, over_stays, quiet_put, zero_within}
use Rattle.esc_parse.proofs.Runs.RunsOfText.{May, Refuses, Takes}
use Rattle.esc_parse.specs.Fed.{CountsData, HasRoom, Hooks, Keeps, TakesData, is_mode}
use Rattle.esc_parse.specs.Given.{AnyAt, At, StopsAt}
use Rattle.esc_parse.specs.Sixels.{Pushes as PushesSixel}
use Rattle.esc_parse.specs.declared.dcs_payload.DcsPayload.{DcsPayload}
use Rattle.esc_parse.specs.declared.dcs_payload.DcsPayload.TheVariants as dcs_payload
use Rattle.esc_parse.specs.declared.performer.Performer.{Performer}
use Rattle.fallible_alloc.specs.Refusals.{Refused}
use Rattle.esc_parse.specs.declared.sixel_text.SixelText.{SixelText}
use Rattle.esc_parse.specs.declared.unfinished.Unfinished.{Unfinished}

-- a count with so many more
abbrev pub counted : Count → ℕ → Count
counted c n = record c { bytes = c.bytes + n }

exact : (x n m : ℕ) → x ≡ min n m → x + 1 ≤ m → n ≡ x
exact x n m e h = omega arith

at_most : (x m : ℕ) → x + 1 ≤ m → x + 1 ≡ min (x + 1) m
at_most x m h = omega arith

-- one byte more, for which there is room
one_counted : (limit : Option ℕ) (c : Count) (d : List ℕ) (b : ℕ) → HasRoom limit c 1
    → CountsData limit c d → CountsData limit (counted c 1) (d ++ b ∷ [])
one_counted limit c d b room h =
    let so : length (d ++ b ∷ []) ≡ c.bytes + 1 =
    length-append d (b ∷ [])
    ∙ ap (λ n. n + 1) (exact c.bytes (length d) most (h.0.count room.not_over) room.few) in
    let in_limit : is_within limit (length (d ++ b ∷ [])) ≡ true =
    ap (is_within limit) so ∙ room.within in (
      record {
        over = room.not_over ∙ sym (ap not in_limit);
        count = λ e. at_most c.bytes most room.few ∙ ap (λ n. min n most) (sym so);
        none = λ e. absurd (let z : true ≡ false = sym e ∙ room.not_over in cc);
      },
      in_limit,
    )

-- room for more is room for one, and then for the others
fewer : (limit : Option ℕ) (x n : ℕ) → is_within limit (x + suc n) ≡ true
    → is_within limit (x + 1) ≡ true
fewer None x n h = refl
fewer (Some l) x n h = grind (arith, nat_tests)

first_room : (limit : Option ℕ) (c : Count) (b : ℕ) (bs : List ℕ)
    → HasRoom limit c (length (b ∷ bs)) → HasRoom limit c 1
first_room limit c b bs room =
    record {
      not_over = room.not_over;
      few = omega (arith, room.few);
      within =
          fewer limit c.bytes (length bs) room.within;
    }

rest_room : (limit : Option ℕ) (c : Count) (b : ℕ) (bs : List ℕ) → HasRoom limit c (length (b ∷ bs))
    → HasRoom limit (counted c 1) (length bs)
rest_room limit c b bs room =
    let same : c.bytes + length (b ∷ bs) ≡ (c.bytes + 1) + length bs = omega arith in
    record {
      not_over = room.not_over;
      few = omega (arith, room.few);
      within =
          subst (λ n. is_within limit n ≡ true) same room.within;
    }

-- the unfinished string, with this payload and so many bytes more
abbrev pub holding : {A : Type 0} → Unfinished A → DcsPayload A → ℕ → Unfinished A
holding u h n = record u { dcs_payload = h; «data» = counted u.data n }

-- a run that a builder takes, if the payload holds the builder
module _ {A B : Type 0} (R : B → ℕ → B → Type 0) (f : B → DcsPayload A)
    (same_kind : (p q : B) → is_mode (f q) ≡ is_mode (f p))
    (step : (limit : Option ℕ) (c : Count) (m : Mode) (p q : B) (b : ℕ) → HasRoom limit c 1
    → R p b q → Keeps limit (f p) c m
    → Keeps limit (f q) (counted c 1) (mode_with_byte m b)) where
  one_taken : (u : Unfinished A) (p q : B) (b : ℕ) → u.dcs_payload ≡ f p → HasRoom u.limit u.data 1
      → R p b q → TakesData u b (holding u (f q) 1)
  unfolding Hooks
  one_taken u p q b is room r = (
    same_kind p q ∙ ap is_mode (sym is),
    λ limit m h. (
      h.0,
      step limit u.data m p q b (subst (λ l. HasRoom l u.data 1) h.0 room) r
          (subst (λ x. Keeps limit x u.data m) is h.1),
    ),
  )

  pub builder_run : (bs : List ℕ) (p q : B) (u v : Unfinished A) → u.dcs_payload ≡ f p
      → HasRoom u.limit u.data (length bs) → FoldsTo R p bs q
      → v ≡ holding u (f q) (length bs) → FoldsTo TakesData u bs v
  builder_run [] p q u v is room e same =
      let none : u.data.bytes ≡ u.data.bytes + 0 = omega arith in
      ap (λ n. record u { «data» = record u.data { bytes = n } }) none
      ∙ ap (λ h. holding u h 0) (is ∙ ap f e) ∙ sym same
  builder_run (b ∷ bs) p q u v is room (j, r, rest) same =
      let sum : u.data.bytes + length (b ∷ bs) ≡ (u.data.bytes + 1) + length bs = omega arith in (
        holding u (f j) 1,
        one_taken u p j b is (first_room u.limit u.data b bs room) r,
        builder_run bs j q (holding u (f j) 1) v refl (rest_room u.limit u.data b bs room) rest
            (same ∙ ap (λ n. record u { dcs_payload = f q; «data» = record u.data { bytes = n } })
            sum),
      )

pub sixel_step : {A : Type 0} (x : Box (SixelText A) A) (limit : Option ℕ) (c : Count) (m : Mode)
    (p q : SixelText A) (b : ℕ) → HasRoom limit c 1
    → PushesSixel p b q → Keeps limit (dcs_payload.Sixel (with_value x p)) c m
    → Keeps limit (dcs_payload.Sixel (with_value x q)) (counted c 1) (mode_with_byte m b)
sixel_step x limit c plain p q b room r h = absurd h
sixel_step x limit c (in_sixel ps d) p q b room r h = (r ps d h.0, one_counted limit c d b room h.1)
sixel_step x limit c (in_termcap d) p q b room r h = absurd h
sixel_step x limit c (in_short ps is f d) p q b room r h = absurd h
sixel_step x limit c entered p q b room r h = absurd h

pub termcap_step : {A : Type 0} (limit : Option ℕ) (c : Count) (m : Mode) (p q : GetTcapBuilder A)
    (b : ℕ) → HasRoom limit c 1 → PushesTermcap p b q
    → Keeps limit (dcs_payload.Termcap p) c m
    → Keeps limit (dcs_payload.Termcap q) (counted c 1) (mode_with_byte m b)
termcap_step limit c plain p q b room r h = absurd h
termcap_step limit c (in_sixel ps d) p q b room r h = absurd h
termcap_step limit c (in_termcap d) p q b room r h = (r d h.0, one_counted limit c d b room h.1)
termcap_step limit c (in_short ps is f d) p q b room r h = absurd h
termcap_step limit c entered p q b room r h = absurd h

pub short_step : {A : Type 0} (x : Box (ShortBuilder A) A) (limit : Option ℕ) (c : Count) (m : Mode)
    (p q : ShortBuilder A) (b : ℕ) → HasRoom limit c 1
    → PushesShort p b q → Keeps limit (dcs_payload.Short (with_value x p)) c m
    → Keeps limit (dcs_payload.Short (with_value x q)) (counted c 1) (mode_with_byte m b)
short_step x limit c plain p q b room r h = absurd h
short_step x limit c (in_sixel ps d) p q b room r h = absurd h
short_step x limit c (in_termcap d) p q b room r h = absurd h
short_step x limit c (in_short ps is f d) p q b room r h =
    (r ps is f d h.0, one_counted limit c d b room h.1)
short_step x limit c entered p q b room r h = absurd h

-- a run that a builder takes, if the payload is that builder
module _ {A : Type 0} (bs : List ℕ) (u v : Unfinished A) where
  pub sixel_run : (x : Box (SixelText A) A) (y : SixelText A) → u.dcs_payload ≡ dcs_payload.Sixel x
      → HasRoom u.limit u.data (length bs)
      → FoldsTo PushesSixel x.value bs y → v
      ≡ holding u (dcs_payload.Sixel (with_value x y)) (length bs)
      → FoldsTo TakesData u bs v
  sixel_run x y is room h same =
      builder_run PushesSixel (λ z. dcs_payload.Sixel (with_value x z)) (λ p q. refl)
      (sixel_step x) bs x.value y u v is room h same

  pub termcap_run : (x y : GetTcapBuilder A) → u.dcs_payload ≡ dcs_payload.Termcap x
      → HasRoom u.limit u.data (length bs) → FoldsTo PushesTermcap x bs y
      → v ≡ holding u (dcs_payload.Termcap y) (length bs) → FoldsTo TakesData u bs v
  termcap_run x y is room h same =
      builder_run PushesTermcap dcs_payload.Termcap (λ p q. refl) termcap_step bs x y u v is room h
      same

  pub short_run : (x : Box (ShortBuilder A) A) (y : ShortBuilder A) → u.dcs_payload
      ≡ dcs_payload.Short x
      → HasRoom u.limit u.data (length bs)
      → FoldsTo PushesShort x.value bs y → v
      ≡ holding u (dcs_payload.Short (with_value x y)) (length bs)
      → FoldsTo TakesData u bs v
  short_run x y is room h same =
      builder_run PushesShort (λ z. dcs_payload.Short (with_value x z)) (λ p q. refl)
      (short_step x) bs x.value y u v is room h same

-- nothing is kept of a run
nothing_step : (A : Type 0) (limit : Option ℕ) (c e : Count) (m : Mode) (b : ℕ)
    → Keeps {A = A} limit dcs_payload.Nothing c m
    → Keeps {A = A} limit dcs_payload.Nothing e (mode_with_byte m b)
nothing_step A limit c e plain b h = tt
nothing_step A limit c e (in_sixel ps d) b h = absurd h
nothing_step A limit c e (in_termcap d) b h = absurd h
nothing_step A limit c e (in_short ps is f d) b h = absurd h
nothing_step A limit c e entered b h = absurd h

entered_step : (A : Type 0) (limit : Option ℕ) (c e : Count) (m : Mode) (b : ℕ)
    → Keeps {A = A} limit dcs_payload.Entered c m
    → Keeps {A = A} limit dcs_payload.Entered e (mode_with_byte m b)
entered_step A limit c e plain b h = absurd h
entered_step A limit c e (in_sixel ps d) b h = absurd h
entered_step A limit c e (in_termcap d) b h = absurd h
entered_step A limit c e (in_short ps is f d) b h = absurd h
entered_step A limit c e entered b h = tt

module _ {A : Type 0} (bs : List ℕ) (u v : Unfinished A)
    (room : HasRoom u.limit u.data (length bs)) where
  dropped_run : (h : DcsPayload A)
      → ((limit : Option ℕ) (c e : Count) (m : Mode) (b : ℕ) → Keeps limit h c m
      → Keeps limit h e (mode_with_byte m b))
      → u.dcs_payload ≡ h → v ≡ holding u u.dcs_payload (length bs) → FoldsTo TakesData u bs v
  dropped_run h step is same =
      builder_run (λ (p : Unit {0}) (b : ℕ) (q : Unit {0}). Unit {0}) (λ (p : Unit {0}). h)
      (λ p q. refl)
      (λ limit c m p q b r t k. step limit c (counted c 1) m b k) bs tt tt u v is room (all bs)
      (same ∙ ap (λ x. holding u x (length bs)) is)
    where
      all : (bs : List ℕ) → FoldsTo (λ (p : Unit {0}) (b : ℕ) (q : Unit {0}). Unit {0}) tt bs tt
      all [] = refl
      all (b ∷ bs) = (tt, tt, all bs)

  pub idle_run : (u.dcs_payload ≡ dcs_payload.Nothing)
      ⊎ ((u.dcs_payload ≡ dcs_payload.Entered) ⊎ (u.dcs_payload ≡ dcs_payload.Over))
      → v ≡ holding u u.dcs_payload (length bs)
      → FoldsTo TakesData u bs v
  idle_run (inl is) same = dropped_run dcs_payload.Nothing (nothing_step A) is same
  idle_run (inr (inl is)) same = dropped_run dcs_payload.Entered (entered_step A) is same
  idle_run (inr (inr is)) same =
      dropped_run dcs_payload.Over (λ limit c e m b k. over_stays limit m b k) is same

-- the unfinished string is no mode, or is one
pub no_mode : {A : Type 0} (limit : Option ℕ) (h : DcsPayload A) (c : Count) (m : Mode)
    → Keeps limit h c m → is_mode h ≡ false → is_entered m ≡ false
no_mode limit h c plain k e = refl
no_mode limit h c (in_sixel ps d) k e = refl
no_mode limit h c (in_termcap d) k e = refl
no_mode limit h c (in_short ps is f d) k e = refl
no_mode limit dcs_payload.Nothing c entered k e = absurd k
no_mode limit (dcs_payload.Sixel b) c entered k e = absurd k
no_mode limit (dcs_payload.Termcap b) c entered k e = absurd k
no_mode limit (dcs_payload.Short b) c entered k e = absurd k
no_mode limit dcs_payload.Entered c entered k e = absurd cc
no_mode limit dcs_payload.Over c entered k e =
    absurd (let z : true ≡ false = sym (zero_within limit) ∙ k in cc)

mode_only : {A : Type 0} (limit : Option ℕ) (h : DcsPayload A) (c : Count) (m : Mode)
    → Keeps limit h c m → is_mode h ≡ true → is_entered m ≡ true
mode_only limit dcs_payload.Nothing c m k e = absurd cc
mode_only limit (dcs_payload.Sixel b) c m k e = absurd cc
mode_only limit (dcs_payload.Termcap b) c m k e = absurd cc
mode_only limit (dcs_payload.Short b) c m k e = absurd cc
mode_only limit dcs_payload.Entered c plain k e = absurd k
mode_only limit dcs_payload.Entered c (in_sixel ps d) k e = absurd k
mode_only limit dcs_payload.Entered c (in_termcap d) k e = absurd k
mode_only limit dcs_payload.Entered c (in_short ps is f d) k e = absurd k
mode_only limit dcs_payload.Entered c entered k e = refl
mode_only limit dcs_payload.Over c m k e = absurd cc

-- a run of data as events
module _ {S A : Type 0} (R Q : S → Action A → S → Type 0) where
  abbrev kept : Performer S A → Unfinished A → Performer S A
  kept p u = record p { unfinished = u }

  abbrev sunk : Performer S A → S → Performer S A
  sunk p s = record p { sink = s }

  -- outside a mode each byte gives nothing
  gives_none : (limit : Option ℕ) (p : Performer S A) (m : Mode) (b : ℕ)
      → is_mode p.unfinished.dcs_payload ≡ false → Hooks limit p.unfinished m
      → taken_gives {A = A} m b ≡ []
  unfolding Hooks
  gives_none limit p m b k h =
      quiet_put m b (no_mode limit p.unfinished.dcs_payload p.unfinished.data m h.1 k)

  pub quiet_run : (bs : List ℕ) (p : Performer S A) (v : Unfinished A)
      → is_mode p.unfinished.dcs_payload ≡ false → FoldsTo TakesData p.unfinished bs v
      → FoldsTo (Takes R Q) p (map DcsPut bs) (kept p v)
  quiet_run [] p v k e = ap (kept p) e
  quiet_run (b ∷ bs) p v k (j, t, rest) = (
    kept p j,
    λ limit m h. (
      t.1 limit m h,
      subst (λ vs. FoldsTo (At value_of R) p.sink vs p.sink)
          (sym (gives_none limit p m b k h)) refl,
    ),
    quiet_run bs (kept p j) v (t.0 ∙ k) rest,
  )

  pub quiet_refused : (own : Type 0) (bs : List ℕ) (p : Performer S A) (v : Unfinished A)
      → 0 < length bs → is_mode p.unfinished.dcs_payload ≡ false
      → Refused A → StopsAtEvent own (Takes R Q) (Refuses R Q) p (map DcsPut bs) (kept p v)
  quiet_refused own [] p v some k w = absurd (omega arith)
  quiet_refused own (b ∷ bs) p v some k w = (
    [],
    map DcsPut (b ∷ bs),
    refl,
    inr (
      p,
      DcsPut b,
      map DcsPut bs,
      refl,
      refl,
      λ limit m h.
          subst (λ vs. StopsAt ((true ≡ true) × Refused A) (At value_of R)
          (At value_of Q) p.sink vs p.sink)
          (sym (gives_none limit p m b k h)) ((refl, w), refl),
    ),
  )

  -- within one the byte
  gives_byte : (limit : Option ℕ) (p : Performer S A) (m : Mode) (b : ℕ)
      → is_mode p.unfinished.dcs_payload ≡ true → Hooks limit p.unfinished m
      → (taken_gives {A = A} m b ≡ datum b ∷ []) × (mode_with_byte m b ≡ m)
  unfolding Hooks
  gives_byte limit p m b k h =
      entered_put m b (mode_only limit p.unfinished.dcs_payload p.unfinished.data m h.1 k)

  one_given : (p : Performer S A) (s : S) (b : ℕ) → is_mode p.unfinished.dcs_payload ≡ true
      → At value_of R p.sink (datum b) s → Takes R Q p (DcsPut b) (sunk p s)
  one_given p s b k r = λ limit m h.
      let (gives, same) = gives_byte limit p m b k h in (
        subst (λ n. Hooks limit p.unfinished n) (sym same) h,
        subst (λ vs. FoldsTo (At value_of R) p.sink vs s) (sym gives) (s, r, refl),
      )

  pub given_run : (bs : List ℕ) (p : Performer S A) (s : S) → is_mode p.unfinished.dcs_payload
      ≡ true
      → FoldsTo (At value_of R) p.sink (map datum bs) s
      → FoldsTo (Takes R Q) p (map DcsPut bs) (sunk p s)
  given_run [] p s k e = ap (sunk p) e
  given_run (b ∷ bs) p s k (j, r, rest) =
      (sunk p j, one_given p j b k r, given_run bs (sunk p j) s k rest)

  pub data_awaits : (may : S → Action A → Type 0) (bs : List ℕ) (p : Performer S A)
      → is_mode p.unfinished.dcs_payload ≡ true → Awaits (May R Q may) (Takes R Q) p (map DcsPut bs)
      → Awaits (AnyAt value_of may) (At value_of R) p.sink (map datum bs)
  data_awaits may [] p k m = tt
  data_awaits may (b ∷ bs) p k ((limit, m, h, a), rest) =
      let here : Awaits (AnyAt value_of may) (At value_of R) p.sink (datum b ∷ []) =
      subst (Awaits (AnyAt value_of may) (At value_of R) p.sink) (gives_byte limit p m b k h).0 a in
      (here.0, λ s r. data_awaits may bs (sunk p s) k (rest (sunk p s) (one_given p s b k r)))

  pub given_stopped : (own : Type 0) (bs : List ℕ) (p : Performer S A) (s : S)
      → is_mode p.unfinished.dcs_payload ≡ true
      → StopsAt ⊥ (At value_of R) (At value_of Q) p.sink (map datum bs) s
      → StopsAtEvent own (Takes R Q) (Refuses R Q) p (map DcsPut bs) (sunk p s)
  given_stopped own [] p s k e = absurd e.0
  given_stopped own (b ∷ bs) p s k (inl z) = absurd z.0
  given_stopped own (b ∷ bs) p s k (inr (inl r)) = (
    [],
    map DcsPut (b ∷ bs),
    refl,
    inr (
      p,
      DcsPut b,
      map DcsPut bs,
      refl,
      refl,
      λ limit m h.
          subst (λ vs. StopsAt ((true ≡ true) × Refused A) (At value_of R)
          (At value_of Q) p.sink vs s)
          (sym (gives_byte limit p m b k h).0) (inr (inl r)),
    ),
  )
  given_stopped own (b ∷ bs) p s k (inr (inr (j, r, rest))) =
      stops_then own (Takes R Q) (Refuses R Q) (DcsPut b ∷ []) (map DcsPut bs) p (sunk p j)
      (sunk p s)
      (sunk p j, one_given p j b k r, refl) (given_stopped own bs (sunk p j) s k rest)

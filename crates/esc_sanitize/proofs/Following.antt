-- A filter of what a stream becomes, and the auditor of that.
use Rattle.std.proofs.Common.{ℕ, ◌≡◌, List, [], ◌++◌, Result, Ok, Err, OnErr, sym, ap, ◌∙◌, subst}
use Rattle.esc_account.specs.declared.book.Book.{Ghosts as Writer}
use Rattle.esc_decode.proofs.StreamFilter.{decoded_append, feed_longer}
use Rattle.esc_decode.specs.Decodings.{Decodes, decoded_stream, decoded_after, through}
use Rattle.esc_decode.specs.declared.decoding.Decoding.{Decoding}
use Rattle.esc_filter.specs.declared.admit.Admit.{Ghosts as Admitter}
use Rattle.esc_frame.specs.Machine.Prefixes.{prefix_of}
use Rattle.esc_normal.specs.declared.feeding.StreamFilter.{Ghosts as Feeder}
use Rattle.esc_sanitize.proofs.Texts.{nothing_decoded}
use Rattle.esc_sanitize.specs.Audits.{Heard, HeardAll, way_by, way_of}
use Rattle.esc_sanitize.specs.Chains.{Begins}
use Rattle.esc_sanitize.specs.Hearings.{Follows, HasHeard}
use Rattle.esc_sanitize.specs.Written.{closed_of, opened_of, passed_of, passing_of}
use Rattle.esc_sanitize.specs.declared.auditor.Auditor.{Auditor}
use Rattle.esc_sanitize.specs.declared.options.FilterOptions.{FilterOptions}

pub on_err_any : {T E : Type 0} (P : Type 0) (result : Result T E) → P → OnErr result P
on_err_any P (Ok x) p = tt
on_err_any P (Err e) p = p

-- ---- at the beginning

pub follows_none : {F P B A : Type 0} (G : Feeder F A) (V : Admitter P A) (W : Writer B A)
    (o : FilterOptions P) (d : Decoding F A) (a : Auditor P B A) (f : F)
    (b : Begins G f (opened_of V o) (closed_of V o))
    → Decodes G d.encoding d.begun d.filter (through o.encoding b.going)
    (through o.encoding b.closed) []
    → d.encoding ≡ o.encoding → Heard V W a [] [] → way_of V a ≡ way_by V o
    → Follows G V W (record { options = o; decoding = d; auditor = a }) []
follows_none G V W o d a f b decodes coding heard way =
    let none : passing_of V o [] ≡ [] = ap (opened_of V o) (nothing_decoded o.encoding)
    ∙ sym (b.goes_on []) ∙ b.empty in record {
      going = through o.encoding b.going;
      closed = through o.encoding b.closed;
      decodes = decodes;
      coding = coding;
      goes_on = λ x. b.goes_on (decoded_stream o.encoding x);
      ends = λ x. b.ends (decoded_stream o.encoding x);
      empty = none;
      heard = subst (λ x. Heard V W a x (passing_of V o [])) (sym (nothing_decoded o.encoding))
          (subst (Heard V W a []) (sym none) heard);
      way = way;
    }

-- ---- one call

module _ {F P B A : Type 0} (G : Feeder F A) (V : Admitter P A) (W : Writer B A)
    (o : FilterOptions P) (d : Decoding F A) (a : Auditor P B A) (s : List ℕ)
    (h : Follows G V W (record { options = o; decoding = d; auditor = a }) s) where
  -- bytes more, which became x, added t
  pub follows_more : (e : Decoding F A) (k : Auditor P B A) (b x t : List ℕ)
      → Decodes G e.encoding e.begun e.filter h.going h.closed (s ++ b)
      → h.going (s ++ b) ≡ h.going s ++ t → e.encoding ≡ d.encoding
      → x ≡ decoded_after d.encoding (prefix_of d.begun) b
      → Heard V W k (decoded_stream o.encoding s ++ x) (passing_of V o s ++ t)
      → way_of V k ≡ way_of V a
      → Follows G V W (record { options = o; decoding = e; auditor = k }) (s ++ b)
      × (passing_of V o (s ++ b) ≡ passing_of V o s ++ t)
  follows_more e k b x t decodes added same is heard stays =
      let c = d.encoding in
      let there : decoded_stream c s ++ x ≡ decoded_stream c (s ++ b) =
      ap (λ y. decoded_stream c s ++ y) (is ∙ ap (λ f. decoded_after c f b) h.decodes.left)
      ∙ sym (decoded_append c [] s b) in
      let more : passing_of V o (s ++ b) ≡ passing_of V o s ++ t =
      sym (h.goes_on (s ++ b)) ∙ added ∙ ap (λ y. y ++ t) (h.goes_on s) in (
        record {
          going = h.going;
          closed = h.closed;
          decodes = decodes;
          coding = same ∙ h.coding;
          goes_on = h.goes_on;
          ends = h.ends;
          empty = h.empty;
          heard = subst (λ y. Heard V W k y (passing_of V o (s ++ b)))
              (subst (λ j. decoded_stream j s ++ x ≡ decoded_stream j (s ++ b)) h.coding there)
              (subst (Heard V W k (decoded_stream o.encoding s ++ x)) (sym more) heard);
          way = stays ∙ h.way;
        },
        more,
      )

  -- the end added t
  pub follows_end : (e : Decoding F A) (k : Auditor P B A) (t : List ℕ)
      → h.closed s ≡ h.going s ++ t
      → HeardAll V W k (decoded_stream o.encoding s) (passing_of V o s ++ t)
      → way_of V k ≡ way_of V a
      → HasHeard V W (record { options = o; decoding = e; auditor = k }) s
      × (passed_of V o s ≡ passing_of V o s ++ t)
  follows_end e k t added heard stays =
      let more : passed_of V o s ≡ passing_of V o s ++ t =
      sym (h.ends s) ∙ added ∙ ap (λ y. y ++ t) (h.goes_on s) in
      ((subst (HeardAll V W k (decoded_stream o.encoding s)) (sym more) heard, stays ∙ h.way), more)

  -- more of the stream only adds
  pub passing_longer : (b : List ℕ)
      → (t : List ℕ) × (passing_of V o (s ++ b) ≡ passing_of V o s ++ t)
  passing_longer b =
      let (t, f) = feed_longer G d.encoding d.begun d.filter h.going h.closed s h.decodes b in
      (t, sym (h.goes_on (s ++ b)) ∙ f ∙ ap (λ y. y ++ t) (h.goes_on s))

  -- and so does the end of any
  pub passed_longer : (x : List ℕ) → (t : List ℕ) × (passed_of V o x ≡ passing_of V o x ++ t)
  passed_longer x =
      let k = h.decodes in
      let (t, f) = k.adds.end (decoded_stream d.encoding x) in (
        t,
        sym (h.ends x) ∙ ap (λ c. c x) k.ended ∙ f
            ∙ ap (λ y. y ++ t) (sym (ap (λ m. m x) k.goes_on) ∙ h.goes_on x),
      )

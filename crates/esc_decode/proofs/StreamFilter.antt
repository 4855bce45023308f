-- A filter of the decoded text of a stream.
use Rattle.std.proofs.Common.{ℕ, ◌≡◌, List, [], ◌++◌, refl, ap, sym, ◌∙◌, subst}
use Rattle.esc_frame.specs.Machine.Prefixes.{prefix_of}
use Rattle.esc_frame.specs.declared.utf8.sequence.Pending.{Pending}
use Rattle.esc_normal.specs.declared.feeding.StreamFilter.{Ghosts as Feeder}
use Rattle.esc_decode.proofs.Masks.{begun_append, masked_append}
use Rattle.esc_decode.specs.Decodings.{Decodes, OnlyAdds, begun_by, decoded_stream, decoded_after, through}
use Rattle.esc_decode.specs.declared.encoding.Encoding.{Encoding}
use Rattle.esc_decode.specs.declared.encoding.Encoding.TheVariants.{EightBit, Utf8}
use Rattle.esc_decode.specs.declared.encoding.Encoding.TheVariants as encoding
use Rattle.esc_decode.specs.Pages.{table_of}
use Rattle.esc_decode.proofs.Reading.{read_append}

-- ---- bytes, and then more

pub decoded_append : (e : Encoding) (f x y : List ℕ)
    → decoded_after e f (x ++ y) ≡ decoded_after e f x ++ decoded_after e (begun_by e f x) y
decoded_append Utf8 f x y = masked_append f x y
decoded_append EightBit f x y = refl
decoded_append (encoding.CodePage p) f x y = read_append (table_of p) x y

pub begun_more : (e : Encoding) (f x y : List ℕ)
    → begun_by e f (x ++ y) ≡ begun_by e (begun_by e f x) y
begun_more Utf8 f x y = begun_append f x y
begun_more EightBit f x y = refl
begun_more (encoding.CodePage p) f x y = refl

-- ---- one call

module _ {F A : Type 0} (G : Feeder F A) (e : Encoding) (begun : Pending) (filter : F)
    (m c : List ℕ → List ℕ) (s : List ℕ) (h : Decodes G e begun filter m c s) where
  text_is : (x : List ℕ) → m x ≡ h.inner (decoded_stream e x)
  text_is x = ap (λ f. f x) h.goes_on

  pub end_is : c s ≡ h.inner_end (decoded_stream e s)
  end_is = ap (λ f. f s) h.ended

  -- the decoded text of more bytes
  added_is : (b : List ℕ)
      → decoded_stream e (s ++ b) ≡ decoded_stream e s ++ decoded_after e (prefix_of begun) b
  added_is b = decoded_append e [] s b
      ∙ ap (λ f. decoded_stream e s ++ decoded_after e f b) (sym h.left)

  pub feed_longer : (b : List ℕ) → (t : List ℕ) × (m (s ++ b) ≡ m s ++ t)
  feed_longer b =
      let (t, f) = h.adds.more (decoded_stream e s) (decoded_after e (prefix_of begun) b) in (
        t,
        text_is (s ++ b) ∙ ap h.inner (added_is b) ∙ f ∙ ap (λ y. y ++ t) (sym (text_is s)),
      )

  pub end_longer : (t : List ℕ) × (c s ≡ m s ++ t)
  end_longer =
      let (t, f) = h.adds.end (decoded_stream e s) in
      (t, end_is ∙ f ∙ ap (λ y. y ++ t) (sym (text_is s)))

  -- the filter was fed the decoded text of some bytes
  pub feeds : (b x t : List ℕ) (after : Pending) (new : F)
      → x ≡ decoded_after e (prefix_of begun) b
      → prefix_of after ≡ begun_by e (prefix_of begun) b
      → G.gives new h.inner h.inner_end (decoded_stream e s ++ x)
      → h.inner (decoded_stream e s ++ x) ≡ h.inner (decoded_stream e s) ++ t
      → Decodes G e after new m c (s ++ b) × (m (s ++ b) ≡ m s ++ t)
  feeds b x t after new is has given added =
      let whole : decoded_stream e s ++ x ≡ decoded_stream e (s ++ b) =
      ap (λ y. decoded_stream e s ++ y) is ∙ sym (added_is b) in (
        record {
          inner = h.inner;
          inner_end = h.inner_end;
          adds = h.adds;
          given = subst (G.gives new h.inner h.inner_end) whole given;
          left = has ∙ ap (λ f. begun_by e f b) h.left ∙ sym (begun_more e [] s b);
          goes_on = h.goes_on;
          ended = h.ended;
        },
        text_is (s ++ b) ∙ ap h.inner (sym whole) ∙ added
            ∙ ap (λ y. y ++ t) (sym (text_is s)),
      )

  pub ends : (t : List ℕ)
      → h.inner_end (decoded_stream e s) ≡ h.inner (decoded_stream e s) ++ t → c s ≡ m s ++ t
  ends t added = end_is ∙ added ∙ ap (λ y. y ++ t) (sym (text_is s))

-- ---- a filter that was fed nothing

pub begins : {F A : Type 0} (G : Feeder F A) (e : Encoding) (begun : Pending) (filter : F)
    (m c : List ℕ → List ℕ) → prefix_of begun ≡ [] → G.gives filter m c [] → OnlyAdds m c
    → Decodes G e begun filter (through e m) (through e c) []
begins G e begun filter m c none given adds = record {
  inner = m;
  inner_end = c;
  adds = adds;
  given = by e;
  left = none ∙ nothing e;
  goes_on = refl;
  ended = refl;
}
  where
    by : (k : Encoding) → G.gives filter m c (decoded_stream k [])
    by Utf8 = given
    by EightBit = given
    by (encoding.CodePage p) = given

    nothing : (k : Encoding) → [] ≡ begun_by k [] []
    nothing Utf8 = refl
    nothing EightBit = refl
    nothing (encoding.CodePage p) = refl

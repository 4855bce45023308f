-- A stream in the encoding that a filter reads, and a filter that is fed it.
use Rattle.std.specs.Prelude.{ℕ, ◌≡◌, List, [], ◌++◌}
use Rattle.esc_frame.specs.Machine.Prefixes.{prefix_of}
use Rattle.esc_frame.specs.declared.utf8.sequence.Pending.{Pending}
use Rattle.esc_normal.specs.declared.feeding.StreamFilter.{Ghosts as Feeder}
use Rattle.esc_decode.specs.Masks.{begun_after, masked_after}
use Rattle.esc_decode.specs.declared.encoding.Encoding.{Encoding}
use Rattle.esc_decode.specs.declared.encoding.Encoding.TheVariants.{EightBit, Utf8}
use Rattle.esc_decode.specs.declared.encoding.Encoding.TheVariants as encoding
use Rattle.esc_decode.specs.Pages.{read_by}

-- the decoded text of bytes after a stream, if this has begun a character; and the begun bytes then
abbrev pub decoded_after : Encoding → List ℕ → List ℕ → List ℕ
decoded_after Utf8 f s = masked_after f s
decoded_after EightBit f s = s
decoded_after (encoding.CodePage p) f s = read_by p s

abbrev pub begun_by : Encoding → List ℕ → List ℕ → List ℕ
begun_by Utf8 f s = begun_after f s
begun_by EightBit f s = f
begun_by (encoding.CodePage p) f s = f

-- the decoded text of a stream
abbrev pub decoded_stream : Encoding → List ℕ → List ℕ
decoded_stream e s = decoded_after e [] s

-- the text of a stream in this encoding, if this is that of its decoded text
abbrev pub through : Encoding → (List ℕ → List ℕ) → List ℕ → List ℕ
through e m s = m (decoded_stream e s)

-- More of a stream adds to its text, and so does its end: nothing that was written is taken back.
pub record OnlyAdds (m c : List ℕ → List ℕ) : Type 0 where
  pub more : (s b : List ℕ) → (t : List ℕ) × (m (s ++ b) ≡ m s ++ t)
  pub end : (s : List ℕ) → (t : List ℕ) × (c s ≡ m s ++ t)

-- The filter was fed the decoded text of this stream, which has begun these bytes. The text of a
-- stream is the filter's for that.
pub record Decodes {F A : Type 0} (G : Feeder F A) (e : Encoding) (begun : Pending) (filter : F)
    (m c : List ℕ → List ℕ) (s : List ℕ) : Type 0 where
  pub inner : List ℕ → List ℕ
  pub inner_end : List ℕ → List ℕ
  pub adds : OnlyAdds inner inner_end
  pub given : G.gives filter inner inner_end (decoded_stream e s)
  pub left : prefix_of begun ≡ begun_by e [] s
  pub goes_on : m ≡ through e inner
  pub ended : c ≡ through e inner_end

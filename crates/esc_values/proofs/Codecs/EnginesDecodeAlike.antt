-- Engines of the same symbols decode alike.
use Rattle.std.proofs.Common.{◌≡◌, ℕ, zero, suc, ◌+◌, ◌*◌, ◌-◌, ◌/◌, ◌<◌, Bool, true, List, [], ◌∷◌, length, drop, refl, sym, ap, ◌∙◌, inl, inr, Ok, Err}
use Rattle.std.specs.List.{slice_index}
use Rattle.base64.specs.Tables.{is_inverse}
use Rattle.base64.specs.declared.engine.DecodePaddingMode.{DecodePaddingMode}
use Rattle.base64.specs.Decode.{groups_error, groups_bytes, push_leftover, scan_steps, scan_last, suffix_error, decode_error, decoded_bytes, decode_outcome}
use Rattle.base64.specs.declared.engine.general_purpose.GeneralPurpose.{GeneralPurpose}
use Rattle.base64.specs.GeneralPurpose.{decode_of}
use Rattle.base64.specs.declared.engine.DecodePaddingMode.TheVariants.{RequireCanonical}
use Rattle.esc_values.specs.Base64.{IsEngine, engine_value}
use Rattle.base64.proofs.Tables.{decode-encode_table, encode-decode_table, are_tables_inverse}

-- two tables agree on bytes
abbrev pub Agree : List ℕ → List ℕ → Type 0
Agree d e = (x : ℕ) → x < 256 → slice_index d x ≡ slice_index e x

-- each is a byte
abbrev pub Bytes : List ℕ → Type 0
Bytes s = (i : ℕ) → slice_index s i < 256

pub tables_agree : (enc d e : List ℕ) → is_inverse enc d ≡ true → is_inverse enc e ≡ true
    → Agree d e
tables_agree enc d e h k x small =
    elim (encode-decode_table enc d h x small) [
      | inr low ↦ sym (sym (ap (slice_index e) low.1)
          ∙ decode-encode_table enc e k (slice_index d x) low.0)
      | inl none ↦ elim (encode-decode_table enc e k x small) [
        | inl both ↦ none ∙ sym both
        | inr low ↦
            let value : slice_index d x ≡ slice_index e x =
            sym (ap (slice_index d) low.1) ∙ decode-encode_table enc d h (slice_index e x)
            low.0 in
            value
      ]
    ]

pub groups_error_agree : (d e s : List ℕ) → Agree d e → Bytes s → (q : ℕ)
    → groups_error d s q ≡ groups_error e s q
unfolding groups_error
groups_error_agree d e s same bytes zero = refl
groups_error_agree d e s same bytes (suc q) =
    rw (
      groups_error_agree d e s same bytes q,
      same _ (bytes (4 * q)),
      same _ (bytes (4 * q + 1)),
      same _ (bytes (4 * q + 2)),
      same _ (bytes (4 * q + 3)),
    )

pub groups_bytes_agree : (d e s : List ℕ) → Agree d e → Bytes s → (q : ℕ)
    → groups_bytes d s q ≡ groups_bytes e s q
unfolding groups_bytes
groups_bytes_agree d e s same bytes zero = refl
groups_bytes_agree d e s same bytes (suc q) =
    rw (
      groups_bytes_agree d e s same bytes q,
      same _ (bytes (4 * q)),
      same _ (bytes (4 * q + 1)),
      same _ (bytes (4 * q + 2)),
      same _ (bytes (4 * q + 3)),
    )

pub push_agree : (d e : List ℕ) (pad at : ℕ) (st : _) (i b : ℕ) → Agree d e → b < 256
    → push_leftover d pad at st i b ≡ push_leftover e pad at st i b
push_agree d e pad at st i b same small = rw (same b small)

pub scan_agree : (d e : List ℕ) (pad at : ℕ) → Agree d e → (bs : List ℕ) → Bytes bs
    → (r : _) (i : ℕ) → scan_steps d pad at r i bs ≡ scan_steps e pad at r i bs
unfolding scan_steps
scan_agree d e pad at same [] bytes (Ok st) i = refl
scan_agree d e pad at same [] bytes (Err x) i = refl
scan_agree d e pad at same (b ∷ bs) bytes (Err x) i = refl
scan_agree d e pad at same (b ∷ bs) bytes (Ok st) i =
    ap (λ r. scan_steps d pad at r (i + 1) bs) (push_agree d e pad at st i b same (bytes zero))
    ∙ scan_agree d e pad at same bs (λ k. bytes (suc k)) (push_leftover e pad at st i b) (i + 1)

-- the last symbols
pub bytes_drop : (s : List ℕ) (n : ℕ) → Bytes s → Bytes (drop n s)
bytes_drop s zero h = h
bytes_drop [] (suc n) h = h
bytes_drop (b ∷ bs) (suc n) h = bytes_drop bs n (λ k. h (suc k))

pub scan_last_agree : (d e : List ℕ) (pad at : ℕ) (s : List ℕ) → Agree d e → Bytes s
    → scan_last d pad at s ≡ scan_last e pad at s
scan_last_agree d e pad at s same bytes =
    scan_agree d e pad at same (drop at s) (bytes_drop s at bytes) (Ok _) 0

pub suffix_error_agree : (d e : List ℕ) (pad : ℕ) (allow : Bool) (mode : DecodePaddingMode) (at : ℕ)
    (s : List ℕ) → Agree d e → Bytes s
    → suffix_error d pad allow mode at s ≡ suffix_error e pad allow mode at s
suffix_error_agree d e pad allow mode at s same bytes = rw (scan_last_agree d e pad at s same bytes)

pub decode_error_agree : (d e : List ℕ) (pad : ℕ) (allow : Bool) (mode : DecodePaddingMode)
    (s : List ℕ) → Agree d e → Bytes s
    → decode_error d pad allow mode s ≡ decode_error e pad allow mode s
decode_error_agree d e pad allow mode s same bytes =
    rw (
      same _ (bytes (length s - 1)),
      groups_error_agree d e s same bytes ((length s - 1) / 4),
      suffix_error_agree d e pad allow mode (4 * ((length s - 1) / 4)) s same bytes,
    )

pub decoded_bytes_agree : (d e : List ℕ) (pad : ℕ) (s : List ℕ) → Agree d e → Bytes s
    → decoded_bytes d pad s ≡ decoded_bytes e pad s
decoded_bytes_agree d e pad s same bytes =
    rw (
      groups_bytes_agree d e s same bytes ((length s - 1) / 4),
      scan_last_agree d e pad (4 * ((length s - 1) / 4)) s same bytes,
    )

pub decode_agree : (g : GeneralPurpose) (s : List ℕ) → IsEngine g → Bytes s
    → decode_of g s ≡ decode_of engine_value s
decode_agree g s is bytes =
    let inverse = are_tables_inverse g.encode_table g.decode_table g.padding.value g.tables in
    let ours = are_tables_inverse engine_value.encode_table engine_value.decode_table 61
    engine_value.tables in
    let same = tables_agree engine_value.encode_table g.decode_table engine_value.decode_table
    (rw is.0 at inverse) ours in
    let err : decode_error g.decode_table g.padding.value g.config.decode_allow_trailing_bits
    g.config.decode_padding_mode s
    ≡ decode_error engine_value.decode_table 61 true RequireCanonical s
    = rw (is.1, is.2) (decode_error_agree g.decode_table engine_value.decode_table 61 true
    RequireCanonical s same bytes) in
    let out : decoded_bytes g.decode_table g.padding.value s
    ≡ decoded_bytes engine_value.decode_table 61 s
    = rw is.1 (decoded_bytes_agree g.decode_table engine_value.decode_table 61 s same bytes) in
    ap (λ x. decode_outcome x (decoded_bytes g.decode_table g.padding.value s)) err
    ∙ ap (decode_outcome (decode_error engine_value.decode_table 61 true RequireCanonical s)) out

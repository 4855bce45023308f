-- The one base64 engine (RFC 4648, section 4): the standard alphabet, padding written and required,
-- trailing bits allowed when reading.
use Rattle.std.specs.Prelude.{ℕ, ◌≡◌, true, List, Option}
use Rattle.std.specs.Result.{result_ok}
use Rattle.base64.specs.GeneralPurpose.{decode_of, encode_of, engine_symbols, engine_padding, engine_config as engine_config_of}
use Rattle.base64.specs.declared.engine.general_purpose.GeneralPurpose.{GeneralPurpose}
use Rattle.base64.specs.declared.engine.general_purpose.GeneralPurposeConfig.{GeneralPurposeConfig}
use Rattle.base64.specs.declared.engine.DecodePaddingMode.TheVariants.{RequireCanonical}
use Rattle.base64.specs.Engines.{standard, standard_under}
use Rattle.esc_values.specs.Scalars.{and_then, utf8_of}

abbrev pub engine_config : GeneralPurposeConfig
engine_config = record {
  encode_padding = true;
  decode_allow_trailing_bits = true;
  decode_padding_mode = RequireCanonical;
}

abbrev pub engine_value : GeneralPurpose
engine_value = standard_under engine_config

-- an engine of those symbols, that padding and that configuration
abbrev pub IsEngine : GeneralPurpose → Type 0
IsEngine e = (engine_symbols e ≡ engine_symbols engine_value) × (engine_padding e ≡ 0x3d)
    × (engine_config_of e ≡ engine_config)

-- the bytes that a base64 text encodes
abbrev pub base64_of : List ℕ → Option (List ℕ)
base64_of bs = result_ok (decode_of engine_value bs)

-- the text that a base64 text encodes
abbrev pub base64_text_of : List ℕ → Option (List ℕ)
base64_text_of bs = and_then (base64_of bs) utf8_of

-- the base64 text of bytes
abbrev pub base64_text : List ℕ → List ℕ
base64_text bs = encode_of standard bs

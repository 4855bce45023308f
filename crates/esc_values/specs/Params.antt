-- The bodies of control sequences: their form and their parameters (ECMA-48, section 5.4;
-- vt100.net's parser; 3A is taken as a parameter byte).
use Rattle.std.specs.Prelude.{ℕ, ◌+◌, ◌-◌, ◌*◌, ◌&&◌, Bool, nat_le, min, pos, if◌then◌else◌, List, [], ◌∷◌, Option, Some, None, drop}
use Rattle.std.specs.Char.{encode_utf8}
use Rattle.std.specs.Fmt.{signed_decimal}
use Rattle.std.specs.List.{list_all, prefix_len, flat_map}
use Rattle.esc_values.specs.declared.csi_param.CsiParam.{CsiParam}
use Rattle.esc_values.specs.declared.csi_param.CsiParam.TheVariants.{Integer, P}

-- a lies from low to high
abbrev pub is_from : ℕ → ℕ → ℕ → Bool
is_from low high a = nat_le low a && nat_le a high

-- 30-39
abbrev pub is_digit : ℕ → Bool
is_digit b = is_from 0x30 0x39 b

-- 3C-3F
abbrev pub is_private_prefix : ℕ → Bool
is_private_prefix b = is_from 0x3c 0x3f b

-- 20-2F
abbrev pub is_intermediate_byte : ℕ → Bool
is_intermediate_byte b = is_from 0x20 0x2f b

-- 30-3B
abbrev pub is_csi_parameter : ℕ → Bool
is_csi_parameter b = is_from 0x30 0x3b b

-- 20-3F
abbrev pub is_body_byte : ℕ → Bool
is_body_byte b = is_from 0x20 0x3f b

-- 40-7E
abbrev pub is_final : ℕ → Bool
is_final b = is_from 0x40 0x7e b

-- the body after its private prefix
abbrev pub after_private_prefix : List ℕ → List ℕ
after_private_prefix [] = []
after_private_prefix (b ∷ x) = if is_private_prefix b then x else b ∷ x

-- the bytes after the longest prefix of bytes that pass
abbrev pub drop_while : (ℕ → Bool) → List ℕ → List ℕ
drop_while p x = drop (prefix_len p x) x

-- the form of a CSI's body: optionally a private prefix, then parameter bytes, then intermediates
unfoldable pub is_csi_body : List ℕ → Bool
is_csi_body x = list_all is_intermediate_byte (drop_while is_csi_parameter (after_private_prefix x))

-- held at the greatest i64
abbrev pub capped_at_i64 : ℕ → ℕ
capped_at_i64 n = min n 0x7fff_ffff_ffff_ffff

-- the number that these digits write after those of n
abbrev pub value_after : ℕ → List ℕ → ℕ
value_after n [] = n
value_after n (b ∷ bs) = value_after (10 * n + (b - 0x30)) bs

-- the parameters of a CSI's body, if n is the number of the run of digits before them, if there is
-- one: each run of digits is its number, every other byte is itself
abbrev pub csi_params_after : Option ℕ → List ℕ → List CsiParam
csi_params_after None [] = []
csi_params_after (Some n) [] = Integer (pos (capped_at_i64 n)) ∷ []
csi_params_after None (b ∷ bs) = if is_digit b then csi_params_after (Some (b - 0x30)) bs else P b
    ∷ csi_params_after None bs
csi_params_after (Some n) (b ∷ bs) =
    if is_digit b then csi_params_after (Some (10 * n + (b - 0x30))) bs
    else Integer (pos (capped_at_i64 n)) ∷ P b ∷ csi_params_after None bs

abbrev pub csi_params : List ℕ → List CsiParam
csi_params x = csi_params_after None x

-- the text of a parameter: a decimal number, or a character
abbrev pub param_text : CsiParam → List ℕ
param_text (Integer n) = signed_decimal n
param_text (P b) = encode_utf8 b

-- the text of parameters, one after another
abbrev pub csi_params_text : List CsiParam → List ℕ
csi_params_text es = flat_map param_text es

use Rattle.std.proofs.Common.{rules, arith, ◌≡◌, ℕ, ◌-◌, ◌^◌, ◌<◌, ◌/◌, ◌%◌, false, [], ◌++◌}
use Rattle.std.specs.Fmt.{digits, padded_integral, format_spec}
use Rattle.std.proofs.lemmas.Fmt.{hex_byte}
use Rattle.std.proofs.Output.{has_written_of_eq}
use Rattle.esc_osc_values.specs.Colors.{hex4}
use Rattle.esc_osc_values.proofs.color_or_query.ChannelDisplay.fmt.Goals as goal

-- two bytes by `{:02x}` are the four digits
two_bytes : (n : ℕ) → n < 2 ^ 16
    → padded_integral (format_spec 32 0 4 2 (2 ^ 64 - 1)) false [] (digits 16 false (n / 256))
    ++ padded_integral (format_spec 32 0 4 2 (2 ^ 64 - 1)) false [] (digits 16 false (n % 256))
    ≡ hex4 n
two_bytes n small =
    let h : n / 256 < 256 = omega arith in
    let l : n % 256 < 256 = omega arith in
    let a : n / 256 / 16 ≡ n / 4096 = omega arith in
    let b : n % 256 / 16 ≡ n / 16 % 16 = omega arith in
    let d : n % 256 % 16 ≡ n % 16 = omega arith in
    rw (hex_byte false (n / 256) h, hex_byte false (n % 256) l, a, b, d)

pub returns-clause-writes : goal.returns-clause-writes
returns-clause-writes g c = λ plain ok.
    has_written_of_eq _ _ _ _ _ (two_bytes c.args.self.now.0 (search rules)) (search rules)

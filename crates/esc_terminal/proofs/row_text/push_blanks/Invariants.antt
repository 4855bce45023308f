use Rattle.std.proofs.Common.{◌≡◌, ◌++◌, replicate, string_bytes}
use Rattle.esc_terminal.proofs.row_text.push_blanks.Given as goal

abbrev pub invariant-loop : goal.invariant-loop
invariant-loop g l =
    string_bytes l.text ≡ string_bytes l.initial.text ++ replicate l.counter 0x20

use Rattle.std.proofs.Common.{◌≡◌, length}
use denote.Text.{Utf8}
use denote.Shadow.{shadow}
use Rattle.std.specs.List.{fold, list_all}
use Rattle.std.proofs.Common.{bit_or}
use Rattle.command_line.specs.Given.{bit, bits_of, is_among, parts, place_in}
use Rattle.command_line.proofs.reading.bits_of.Given as goal

-- the parts that are left decide, and add their bits
abbrev pub invariant-loop-part : goal.invariant-loop-part
invariant-loop-part l = shadow (Utf8 l.rest)
    × (list_all (is_among l.words) (parts l.text) ≡ list_all (is_among l.words) (parts l.rest))
    × (bits_of l.words (parts l.text)
    ≡ fold (λ n p. bit_or n (bit (place_in l.words p))) l.bits (parts l.rest))

abbrev pub decreases-loop-part : goal.decreases-loop-part
decreases-loop-part l = length l.rest

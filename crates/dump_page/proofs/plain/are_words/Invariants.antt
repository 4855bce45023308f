use Rattle.std.proofs.Common.{◌≡◌, ◌&&◌, drop}
use Rattle.std.specs.List.{list_all}
use Rattle.dump_page.specs.Quoted.{is_word_byte}
use Rattle.dump_page.proofs.plain.are_words.Given as goal

-- all are of words if those that came are and those that are left
abbrev pub invariant-loop-byte : goal.invariant-loop-byte
invariant-loop-byte l =
    list_all is_word_byte l.fn.bytes ≡ l.all && list_all is_word_byte (drop l.byte-index l.fn.bytes)

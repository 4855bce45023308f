use Rattle.std.proofs.Common.{◌≡◌, ◌&&◌, drop}
use Rattle.std.specs.List.{list_all}
use Rattle.dump_page.specs.Quoted.{is_plain}
use Rattle.dump_page.proofs.plain.is_plain.Given as goal

-- all are plain if those that came are and those that are left
abbrev pub invariant-loop-byte : goal.invariant-loop-byte
invariant-loop-byte l =
    list_all is_plain l.fn.bytes ≡ l.all && list_all is_plain (drop l.byte-index l.fn.bytes)

use Rattle.std.proofs.Common.{◌≡◌, ◌++◌, map, take, string_bytes}
use Rattle.command_line.proofs.reading.push_files.Given as goal

-- the words so far are files
abbrev pub invariant-loop-word : goal.invariant-loop-word
invariant-loop-word g l =
    map (λ f. f.now) l.files.items
    ≡ map (λ f. f.now) l.initial.files.items ++ map string_bytes (take l.word-index l.words)

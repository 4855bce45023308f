use Rattle.std.proofs.Common.{◌≡◌, ◌++◌, false, length, map, string_bytes}
use Rattle.command_line.specs.Given.{said_option}
use Rattle.command_line.specs.Words.{are_right, files_of, options_of}
use Rattle.command_line.proofs.reading.read_into.Given as goal

-- the files and the options so far, and those of the other words, are those of all words; and the
-- other words decide whether all are right
abbrev pub invariant-loop-word : goal.invariant-loop-word
invariant-loop-word g l =
    (map (λ f. f.now) l.found.files.items ++ files_of l.known false (map string_bytes l.rest)
    ≡ map (λ f. f.now) l.initial.found.files.items
    ++ files_of l.known false (map string_bytes l.initial.rest))
    × (map said_option l.found.options.items ++ options_of l.known false (map string_bytes l.rest)
    ≡ map said_option l.initial.found.options.items
    ++ options_of l.known false (map string_bytes l.initial.rest))
    × (are_right l.known false (map string_bytes l.rest)
    ≡ are_right l.known false (map string_bytes l.initial.rest))

abbrev pub decreases-loop-word : goal.decreases-loop-word
decreases-loop-word g l = length l.rest

-- A text without ends of reverse video after which it begins again at once.
use Rattle.std.specs.Prelude.{ℕ, suc, ◌≡◌, ◌==◌, ◌&&◌, Bool, true, false, not, nat_le, if◌then◌else◌, List, [], ◌∷◌, ◌++◌, get_or, take}
use Rattle.esc_decode.specs.Decodings.{OnlyAdds}
use Rattle.esc_normal.specs.declared.feeding.StreamFilter.{Ghosts as Feeder}

-- SGR 27 and SGR 7, which end reverse video and begin it again
abbrev pub pair : List ℕ
pair = 0x1b ∷ 0x5b ∷ 0x32 ∷ 0x37 ∷ 0x6d ∷ 0x1b ∷ 0x5b ∷ 0x37 ∷ 0x6d ∷ []

-- So many of the first bytes of a text are held back, while they are the beginning of such a pair.
-- This is their number after one more byte: a whole pair is left out, and within a pair another one
-- may begin, with `ESC [` or with ESC.
abbrev pub next_held : ℕ → ℕ → ℕ
next_held k b = if b == get_or pair k 0 then (if nat_le 8 k then 0 else suc k)
    else if (k == 7) && (b == 0x32) then 3
    else if b == 0x1b then 1
    else 0

-- the number of them that are written then, and whether the byte is
abbrev pub let_go : ℕ → ℕ → ℕ
let_go k b = if b == get_or pair k 0 then 0
    else if (k == 7) && (b == 0x32) then 5
    else k

abbrev pub goes_on : ℕ → ℕ → Bool
goes_on k b = if b == get_or pair k 0 then false
    else if (k == 7) && (b == 0x32) then false
    else not (b == 0x1b)

abbrev pub bytes_past : ℕ → ℕ → List ℕ
bytes_past k b = take (let_go k b) pair ++ (if goes_on k b then b ∷ [] else [])

-- the bytes that bytes add after those that are held back, and the number held back then
abbrev pub joined_after : ℕ → List ℕ → List ℕ
joined_after k [] = []
joined_after k (b ∷ t) = bytes_past k b ++ joined_after (next_held k b) t

abbrev pub held_after : ℕ → List ℕ → ℕ
held_after k [] = k
held_after k (b ∷ t) = held_after (next_held k b) t

-- A text without these pairs. The bytes that are held back at its end are left out: they are the
-- beginning of a sequence, or end reverse video, and show nothing.
abbrev pub text_without_pairs : List ℕ → List ℕ
text_without_pairs t = joined_after 0 t

-- the text of a stream, if this is that of a joined one
abbrev pub through_joined : (List ℕ → List ℕ) → List ℕ → List ℕ
through_joined m s = m (text_without_pairs s)

-- The filter was fed this text without its pairs, but for so many bytes that are held back.
pub record Joins {F A : Type 0} (G : Feeder F A) (held : ℕ) (filter : F)
    (m c : List ℕ → List ℕ) (s : List ℕ) : Type 0 where
  pub inner : List ℕ → List ℕ
  pub inner_end : List ℕ → List ℕ
  pub adds : OnlyAdds inner inner_end
  pub given : G.gives filter inner inner_end (text_without_pairs s)
  pub left : held ≡ held_after 0 s
  pub goes_on : m ≡ through_joined inner
  pub ended : c ≡ through_joined inner_end

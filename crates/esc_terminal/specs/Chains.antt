-- Places in a list by slots: those of one slot are a chain, from the last one back.
use Rattle.std.specs.Prelude.{ℕ, zero, suc, ◌≡◌, ◌==◌, ◌<◌, if◌then◌else◌, List, length, map, get_or}
use Rattle.esc_terminal.specs.declared.chains.Link.{Link}

-- how many slots there are
abbrev pub slot_count : ℕ
slot_count = 0x400

-- one more than the last place of this slot before another place, in a list of slots; 0 if none is
abbrev pub end_before : ℕ → List ℕ → ℕ → ℕ
end_before s ss zero = 0
end_before s ss (suc n) = if get_or ss n 0 == s then suc n else end_before s ss n

abbrev pub slots_of : List Link → List ℕ
slots_of es = map (λ e. e.slot) es

-- each slot has the end of its chain, and each place that of the chain before it
pub record IsChained (ends : List ℕ) (es : List Link) : Type 0 where
  pub count : length ends ≡ slot_count
  pub last : (s : ℕ) → s < slot_count
      → get_or ends s 0 ≡ end_before s (slots_of es) (length es)
  pub linked : (i : ℕ) (d : Link) → i < length es
      → (get_or es i d).before ≡ end_before (get_or es i d).slot (slots_of es) i

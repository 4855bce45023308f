-- The text of the values that undo the changes that are left.
use Rattle.std.specs.Prelude.{ℕ, Bool, true, false, not, ◌&&◌, ◌||◌, if◌then◌else◌, List, [], ◌∷◌, ◌++◌, codes}
use Rattle.esc_filter.specs.Closing.{joined_lists}
use Rattle.esc_filter.specs.Terminal.{is_changed_saved, screen_shown, with_cursor}
use Rattle.esc_filter.specs.declared.terminal.Screen.{Screen}
use Rattle.esc_filter.specs.declared.terminal.Screen.TheVariants as screen
use Rattle.esc_filter.specs.declared.terminal.Terminal.{Terminal}

-- the text t, if its part is changed
abbrev pub part : Bool → List ℕ → List ℕ
part b t = if b then t else []

-- an escape sequence, and a control sequence, of this body
abbrev pub escape : List ℕ → List ℕ
escape x = 0x1b ∷ x

abbrev pub sequence : List ℕ → List ℕ
sequence x = 0x1b ∷ 0x5b ∷ x

-- the main screen, by the mode that shows the other, and the terminal that has it
abbrev pub main_part : Screen → List ℕ
main_part screen.Main = []
main_part screen.Alternate = sequence (codes "?47l")
main_part screen.Cleared = sequence (codes "?1047l")
main_part screen.WithCursor = sequence (codes "?1049l")

abbrev pub with_main : Screen → Terminal → Terminal
with_main screen.Main t = t
with_main screen.Alternate t = screen_shown screen.Alternate false t
with_main screen.Cleared t = screen_shown screen.Cleared false t
with_main screen.WithCursor t = with_cursor false t

abbrev pub on_main : Terminal → Terminal
on_main t = with_main t.screen t

abbrev pub margins_part : Bool → List ℕ
margins_part true = escape (codes "7") ++ (sequence (codes "r") ++ escape (codes "8"))
margins_part false = sequence (codes "r")

abbrev pub saved_part : Bool → List ℕ
saved_part true = escape (codes "7")
saved_part false = sequence (codes "?1048h")

-- the state that is saved with the cursor is to be restored if it is changed, and the margins do
-- not already
abbrev pub is_saved_due : Bool → Terminal → Bool
is_saved_due keeps t = is_changed_saved t.saved && not (t.margins && keeps)

-- whether the parts go by whether DECSC and DECRC may be written
abbrev pub is_cursor_due : Terminal → Bool
is_cursor_due t = t.margins || is_changed_saved t.saved

-- all parts but the first, of a terminal that has the main screen
abbrev pub parts_on_main : Bool → Terminal → List (List ℕ)
parts_on_main keeps t =
    part t.sides (sequence (codes "?69l"))
    ∷ part t.origin (sequence (codes "?6l"))
    ∷ part t.insert (sequence (codes "4l"))
    ∷ part t.hidden (sequence (codes "?25h"))
    ∷ part t.reverse (sequence (codes "?5l"))
    ∷ part t.no_wrap (sequence (codes "?7h"))
    ∷ part t.held (sequence (codes "?2026l"))
    ∷ part t.rendition (sequence (codes "0m"))
    ∷ part t.link (escape (codes "]8;;" ++ escape (codes "\\")))
    ∷ part t.sets.shifted (0x0f ∷ [])
    ∷ part t.sets.g0 (escape (codes "(B"))
    ∷ part t.sets.g1 (escape (codes ")B"))
    ∷ part t.sets.g2 (escape (codes "*B"))
    ∷ part t.sets.g3 (escape (codes "+B"))
    ∷ part t.margins (margins_part keeps)
    ∷ part (is_saved_due keeps t) (saved_part keeps)
    ∷ []

abbrev pub parts_back : Bool → Terminal → List (List ℕ)
parts_back keeps t = main_part t.screen ∷ parts_on_main keeps (on_main t)

abbrev pub text_given_back : Bool → Terminal → List ℕ
text_given_back keeps t = joined_lists (parts_back keeps t)

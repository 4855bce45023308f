-- As many bytes are kept of the unfinished segment as of the cut, and no more than the limit.
use Rattle.std.proofs.Common.{ℕ, ◌≡◌, ◌≤◌, true, false, Bool, List, [], ◌∷◌, ◌++◌, Option, Some, None, IfSome, min, nat_le, length, refl, ap, ◌∙◌, arith}
use Rattle.std.proofs.lemmas.List.{append-nil}
use Rattle.std.proofs.lemmas.Bool.Decides.{nat_tests}
use Rattle.esc_frame.specs.Classes.{bytes_of_class, without_noise, is_text}
use Rattle.esc_frame.specs.Counts.{kept_of, kept_of_cut}
use Rattle.esc_frame.specs.Events.{Event}
use Rattle.esc_frame.specs.Limits.{most, kept_within, header_count}
use Rattle.esc_frame.specs.Segments.{Segment, IsCut, ends_itself, joined_bytes, text_of}
use Rattle.esc_frame.specs.Segments.Segment.{Osc, CutDcs, Apc}
use Rattle.esc_frame.specs.Segments.Ending.{Open, Rung, Waits}
use Rattle.esc_frame.specs.Leads.{Unfinished, AreFinished, HasCut, kept_open}
use Rattle.esc_frame.specs.Leads.Unfinished.{Ground, InOsc, InOscPending, InDcs, InApc}
use Rattle.esc_frame.specs.Machine.Moves.{after_all, is_ground}
use Rattle.esc_frame.specs.Stream.{events_within}
use Rattle.esc_frame.proofs.Cut.CutExists.{are_closed, cut_last, last_of, itself, stands}
use Rattle.esc_frame.proofs.Cut.CutIsUnique.{one_cut}

module _ (limit : Option ℕ) where
  last_kept : (gs : List Segment) (g : Segment) → kept_of_cut limit (gs ++ g ∷ []) ≡ kept_of limit g
  last_kept [] g = refl
  last_kept (h ∷ []) g = refl
  last_kept (h ∷ k ∷ gs) g = last_kept (k ∷ gs) g

  none_kept : (g : Segment) → ends_itself g ≡ true → kept_of limit g ≡ 0
  none_kept (Osc o ps Rung) h = refl
  none_kept (Osc o ps Open) h = absurd cc
  none_kept (Osc o ps (Waits f)) h = absurd cc
  none_kept (Apc o d) h = absurd cc
  none_kept (CutDcs o x) h = absurd cc
  none_kept _ h = refl

  closed_kept : (gs : List Segment) → AreFinished gs [] → kept_of_cut limit gs ≡ 0
  closed_kept [] f = refl
  closed_kept (g ∷ []) (sh, fi, r) = none_kept g (itself g fi)
  closed_kept (g ∷ h ∷ gs) (sh, fi, r) = closed_kept (h ∷ gs) r

  open_kept : (u : Unfinished) → is_ground u ≡ false → kept_of limit (last_of u) ≡ kept_open limit u
  open_kept Ground n = absurd cc
  open_kept _ n = refl

  kept_by : (s : List ℕ) (es : List Event) (gs hs : List Segment) (u : Unfinished)
      → HasCut limit s es gs u → IsCut s hs
      → kept_of_cut limit hs ≡ kept_open limit u
  kept_by s es gs hs Ground st cut =
      ap (kept_of_cut limit)
      (one_cut s hs gs cut (record {
        whole = st.whole ∙ append-nil (joined_bytes gs);
        each = are_closed gs st.finished;
      }))
      ∙ closed_kept gs st.finished
  kept_by s es gs hs u st cut =
      ap (kept_of_cut limit) (one_cut s hs (gs ++ last_of u ∷ []) cut (cut_last s es gs u refl st))
      ∙ last_kept gs (last_of u) ∙ open_kept u refl

  pub kept_is : (s : List ℕ) (gs : List Segment) → IsCut s gs
      → kept_of_cut limit gs ≡ kept_open limit (after_all Ground s)
  kept_is s gs cut = let w = stands limit s in
      kept_by s (events_within limit s) w.0 gs (after_all Ground s) w.1 cut

-- no more is kept than the limit
within_by : (limit n : ℕ) (t : Bool) → nat_le n limit ≡ t → kept_within (Some limit) n ≤ limit
within_by limit n true e = rw e (grind (arith, nat_tests, e))
within_by limit n false e = rw e (omega arith)

open_within : (limit : ℕ) (u : Unfinished) → kept_open (Some limit) u ≤ limit
open_within limit (InOsc o ps) = within_by limit (length (text_of ps)) _ refl
open_within limit (InOscPending o ps f) = within_by limit (length (text_of ps)) _ refl
open_within limit (InApc o d) = within_by limit (length (bytes_of_class is_text d)) _ refl
open_within limit (InDcs o x) = within_by limit (header_count (without_noise x)) _ refl
open_within limit _ = omega arith

least : (n k m l : ℕ) → k ≡ min n m → n ≤ l → k ≤ l
least n k m l e h = omega (arith, e, h)

pub kept_fits : (l limit : Option ℕ) → l ≡ limit → (u : Unfinished) (k : ℕ)
    → k ≡ min (kept_open l u) most → IfSome limit (λ n. k ≤ n)
kept_fits l None i u k e = tt
kept_fits l (Some n) i u k e =
    let same : k ≡ min (kept_open (Some n) u) most = e ∙ ap (λ x. min (kept_open x u) most) i in
    least (kept_open (Some n) u) k most n same (open_within n u)

-- The segments that can be unfinished in a state.
use Rattle.std.proofs.Common.{ℕ, ◌≡◌, Bool, true, false, List, [], length, refl, sym, subst, Some, if◌then◌else◌}
use Rattle.esc_frame.specs.Classes.{without_noise, bytes_of_class, is_text}
use Rattle.esc_frame.specs.Leads.{Unfinished}
use Rattle.esc_frame.specs.Leads.Unfinished.{Ground, Pending, InEscape, InCsi, InOsc, InOscPending, InDcs, InData, InApc, InIgnored}
use Rattle.esc_frame.specs.Limits.{is_read}
use Rattle.esc_frame.specs.Machine.Keeps.{parameters_of}
use Rattle.esc_frame.specs.Segments.{Opener, OscUnit, text_of, is_empty}
use Rattle.esc_frame.specs.declared.classes.Kind.{Kind}
use Rattle.esc_frame.specs.declared.machine.State.{State}
use Rattle.esc_frame.specs.declared.machine.State.TheVariants as state
use Rattle.heapless_parser.specs.declared.parser.EscParser.{EscParser}
use Rattle.heapless_parser.specs.Numbers.{state_numbered}
use Rattle.heapless_parser.specs.States.{KeptIn, FirstIn, BodyIn, HeaderIn, TextIn, begun_in}

module _ (p : EscParser) (memory : List ℕ) (P : Unfinished → Type 0) where
  -- this holds of each segment that may be unfinished in a state
  abbrev pub Only : State → Type 0
  Only state.Ground = (begun_in p ≡ [] → P Ground)
      × ((f : List ℕ) → begun_in p ≡ f → is_empty f ≡ false → P (Pending f))
  Only state.Escape = (x : List ℕ) → FirstIn p (without_noise x) → P (InEscape x)
  Only state.Csi = (o : Opener) (x : List ℕ) → BodyIn p (without_noise x) → P (InCsi o x)
  Only state.Osc =
      ((o : Opener) (ps : List OscUnit) → TextIn p memory (text_of ps) → begun_in p ≡ []
      → P (InOsc o ps))
      × ((o : Opener) (ps : List OscUnit) (f : List ℕ) → TextIn p memory (text_of ps)
      → begun_in p ≡ f → is_empty f ≡ false → P (InOscPending o ps f))
  Only state.Dcs = (o : Opener) (x : List ℕ) → TextIn p memory (parameters_of (without_noise x))
      → HeaderIn p (without_noise x) → P (InDcs o x)
  Only state.Data = (o : Opener) (x : List ℕ) (f : ℕ) (d : List ℕ)
      → is_read (Some (length memory)) (without_noise x) ≡ true → P (InData o x f d)
  Only state.Ignored = ((k : Kind) (o : Opener) (d : List ℕ) → P (InIgnored k o d))
      × ((o : Opener) (x : List ℕ) (f : ℕ) (d : List ℕ)
      → is_read (Some (length memory)) (without_noise x) ≡ false → P (InData o x f d))
  Only state.Apc = (o : Opener) (d : List ℕ) → TextIn p memory (bytes_of_class is_text d)
      → P (InApc o d)

  data_by : (o : Opener) (x : List ℕ) (f : ℕ) (d : List ℕ) (t : Bool)
      → is_read (Some (length memory)) (without_noise x) ≡ t
      → Only (if t then state.Data else state.Ignored) → P (InData o x f d)
  data_by o x f d true r g = g o x f d r
  data_by o x f d false r g = g.1 o x f d r

  only : (u : Unfinished) → KeptIn p memory u → Only (state_numbered p.state) → P u
  only Ground h g = (subst Only h.0 g).0 h.1
  only (Pending f) h g = (subst Only h.0 g).1 f h.1 h.2
  only (InEscape x) h g = subst Only h.0 g x h.1
  only (InCsi o x) h g = subst Only h.0 g o x h.1
  only (InDcs o x) h g = subst Only h.0 g o x h.1 h.2
  only (InData o x f d) h g =
      data_by o x f d (is_read (Some (length memory)) (without_noise x)) refl (subst Only h g)
  only (InApc o d) h g = subst Only h.0 g o d h.1
  only (InIgnored k o d) h g = (subst Only h g).0 k o d
  only (InOsc o ps) h g = (subst Only h.0 g).0 o ps h.1 h.2
  only (InOscPending o ps f) h g = (subst Only h.0 g).1 o ps f h.1 h.2 h.3

  only_in : {n : ℕ} → p.state ≡ n → Only (state_numbered n) → (u : Unfinished)
      → KeptIn p memory u → P u
  only_in s g u h = only u h (subst (λ n. Only (state_numbered n)) (sym s) g)

  -- between sequences, or in a character
  pub in_ground_only : p.state ≡ 0 → (begun_in p ≡ [] → P Ground)
      → ((f : List ℕ) → begun_in p ≡ f → is_empty f ≡ false → P (Pending f))
      → (u : Unfinished) → KeptIn p memory u → P u
  in_ground_only s g c = only_in s (g, c)

  -- in an escape sequence
  pub in_escape_only : p.state ≡ 1 → Only state.Escape → (u : Unfinished) → KeptIn p memory u → P u
  in_escape_only = only_in

  -- in a control sequence
  pub in_csi_only : p.state ≡ 2 → Only state.Csi → (u : Unfinished) → KeptIn p memory u → P u
  in_csi_only = only_in

  -- in an operating system command
  pub in_osc_only : p.state ≡ 3
      → ((o : Opener) (ps : List OscUnit) → TextIn p memory (text_of ps) → begun_in p ≡ []
      → P (InOsc o ps))
      → ((o : Opener) (ps : List OscUnit) (f : List ℕ) → TextIn p memory (text_of ps)
      → begun_in p ≡ f → is_empty f ≡ false → P (InOscPending o ps f))
      → (u : Unfinished) → KeptIn p memory u → P u
  in_osc_only s g c = only_in s (g, c)

  -- in an application program command
  pub in_apc_only : p.state ≡ 7 → Only state.Apc → (u : Unfinished) → KeptIn p memory u → P u
  in_apc_only = only_in

  -- in the header of a device control string
  pub in_header_only : p.state ≡ 4 → Only state.Dcs → (u : Unfinished) → KeptIn p memory u → P u
  in_header_only = only_in

  -- in an ignored string
  pub ignored_only : p.state ≡ 6
      → ((k : Kind) (o : Opener) (d : List ℕ) → P (InIgnored k o d))
      → ((o : Opener) (x : List ℕ) (f : ℕ) (d : List ℕ)
      → is_read (Some (length memory)) (without_noise x) ≡ false → P (InData o x f d))
      → (u : Unfinished) → KeptIn p memory u → P u
  ignored_only s g c = only_in s (g, c)

  -- in data whose header was read
  pub data_only : p.state ≡ 5 → Only state.Data → (u : Unfinished) → KeptIn p memory u → P u
  data_only = only_in

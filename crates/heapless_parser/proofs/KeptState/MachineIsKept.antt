-- A machine, and the numbers that a parser keeps of it.
use Rattle.std.proofs.Common.{ℕ, ◌≡◌, List, ap, sym, ◌∙◌, Some, Option, length, if◌then◌else◌}
use Rattle.esc_frame.specs.Classes.{without_noise}
use Rattle.esc_frame.specs.Leads.{Unfinished, Holds}
use Rattle.esc_frame.specs.Leads.Unfinished.{Ground, Pending, InEscape, InCsi, InOsc, InOscPending, InDcs, InData, InApc, InIgnored}
use Rattle.esc_frame.specs.Limits.{is_read}
use Rattle.esc_frame.specs.Machine.Prefixes.{prefix_of}
use Rattle.esc_frame.specs.Machine.Keeps.{Keeps, KeepsBody, KeepsDcs}
use Rattle.esc_frame.specs.declared.machine.Machine.{Machine}
use Rattle.esc_frame.specs.declared.machine.State.TheVariants as state
use Rattle.heapless_parser.specs.declared.parser.EscParser.{EscParser}
use Rattle.heapless_parser.specs.Numbers.{state_numbered}
use Rattle.heapless_parser.specs.States.{KeptIn, FirstIn, BodyIn, HeaderIn, TextIn, begun_in}

module _ {K A : Type 0} (keeps : Option ℕ → K → List ℕ
    → Type 0) (m : Machine K A) (p : EscParser) (memory : List ℕ) (room : ℕ)
    (all : length memory ≡ room) where
  -- numbers that were kept of a machine
  module _ (states : state_numbered p.state ≡ m.state) (begun : begun_in p ≡ prefix_of m.pending)
      (first : (x : List ℕ) → m.state ≡ state.Escape → Keeps m.intermediates x → FirstIn p x)
      (body : (x : List ℕ) → m.state ≡ state.Csi → KeepsBody m.body x → BodyIn p x)
      (header : (x : List ℕ) → m.state ≡ state.Dcs → KeepsDcs m.header x → HeaderIn p x)
      (text : (t : List ℕ) → keeps (Some room) m.text t → TextIn p memory t) where
    pub stored : (u : Unfinished) → Holds keeps (Some room) m u → KeptIn p memory u
    stored Ground h = (states ∙ h.0, begun ∙ h.1)
    stored (Pending f) h = (states ∙ h.0, begun ∙ h.1, h.2)
    stored (InEscape x) h = (states ∙ h.0, first (without_noise x) h.0 h.1)
    stored (InCsi o x) h = (states ∙ h.0, body (without_noise x) h.0 h.1)
    stored (InDcs o x) h = (states ∙ h.0, text _ h.1, header (without_noise x) h.0 h.2)
    stored (InData o x f d) h =
        states ∙ h ∙ ap (λ n. if is_read (Some n) (without_noise x) then state.Data
        else state.Ignored)
        (sym all)
    stored (InApc o d) h = (states ∙ h.0, text _ h.1)
    stored (InIgnored k o d) h = states ∙ h
    stored (InOsc o ps) h = (states ∙ h.0, text _ h.1, begun ∙ h.2)
    stored (InOscPending o ps f) h = (states ∙ h.0, text _ h.1, begun ∙ h.2, h.3)

  -- a machine that was made of numbers
  module _ (states : m.state ≡ state_numbered p.state) (begun : prefix_of m.pending ≡ begun_in p)
      (first : (x : List ℕ) → FirstIn p x → Keeps m.intermediates x)
      (body : (x : List ℕ) → state_numbered p.state ≡ state.Csi → BodyIn p x → KeepsBody m.body x)
      (header : (x : List ℕ) → HeaderIn p x → KeepsDcs m.header x)
      (text : (t : List ℕ) → TextIn p memory t → keeps (Some room) m.text t) where
    pub loaded : (u : Unfinished) → KeptIn p memory u → Holds keeps (Some room) m u
    loaded Ground h = (states ∙ h.0, begun ∙ h.1)
    loaded (Pending f) h = (states ∙ h.0, begun ∙ h.1, h.2)
    loaded (InEscape x) h = (states ∙ h.0, first (without_noise x) h.1)
    loaded (InCsi o x) h = (states ∙ h.0, body (without_noise x) h.0 h.1)
    loaded (InDcs o x) h = (states ∙ h.0, text _ h.1, header (without_noise x) h.2)
    loaded (InData o x f d) h =
        states ∙ h ∙ ap (λ n. if is_read (Some n) (without_noise x) then state.Data
        else state.Ignored) all
    loaded (InApc o d) h = (states ∙ h.0, text _ h.1)
    loaded (InIgnored k o d) h = states ∙ h
    loaded (InOsc o ps) h = (states ∙ h.0, text _ h.1, begun ∙ h.2)
    loaded (InOscPending o ps f) h = (states ∙ h.0, text _ h.1, begun ∙ h.2, h.3)

-- Bytes of an application program command that lie in a later chunk than its opener.
use Rattle.std.proofs.Common.{ℕ, ◌≡◌, true, false, List, [], ◌∷◌, ◌++◌, take, length, refl, ap, sym, ◌∙◌, subst, Some, if◌then◌else◌}
use Rattle.std.specs.List.{list_all}
use Rattle.std.proofs.lemmas.List.{append-nil}
use Rattle.std.proofs.lemmas.List.Elements.{filter-append}
use Rattle.esc_frame.specs.declared.classes.Class.{Class}
use Rattle.esc_frame.specs.Classes.{class_of, bytes_of_class, is_breaker, is_text}
use Rattle.esc_frame.specs.Events.Event.{ApcDispatch}
use Rattle.esc_frame.specs.Leads.Unfinished.{InEscape, InApc}
use Rattle.esc_frame.specs.Limits.{is_within}
use Rattle.esc_frame.specs.Machine.Moves.{after_all, events_all, emitting, ground_move, leaving, move_inside, goes_on}
use Rattle.esc_frame.specs.Scans.{is_text_byte}
use Rattle.esc_frame.specs.Segments.{apc_events}
use Rattle.esc_frame.proofs.Borrow.LentStrings.{apc_emitted}
use Rattle.esc_frame.proofs.ByteRuns.StringRuns.{apc_text, apc_kept}
use Rattle.heapless_parser.specs.declared.event.EscEvent.{EscEvent}
use Rattle.heapless_parser.specs.declared.parser.EscParser.{EscParser}
use Rattle.heapless_parser.specs.Numbers.{state_numbered}
use Rattle.heapless_parser.specs.Runs.{Passes, PassesIn, Steps}
use Rattle.heapless_parser.specs.States.{KeptIn, TextIn}
use Rattle.heapless_parser.specs.Emitted.{sent_events, text_of}
use Rattle.heapless_parser.proofs.InChunks.OneByteLater.{by_move, moves_on}
use Rattle.heapless_parser.proofs.KeptState.StateHasOnly.{in_apc_only}
use Rattle.heapless_parser.proofs.InChunks.OscBytes.{not_false}
use Rattle.heapless_parser.proofs.InChunks.CommandsLieWhole.{escape_at}

-- the text of the command
pub text_passes : (p q : EscParser) (memory after x : List ℕ) → p.state ≡ 7 → q.state ≡ p.state
    → list_all is_text_byte x ≡ true
    → ((t : List ℕ) → TextIn p memory t → TextIn q after (t ++ x)) → PassesIn p q memory after x
text_passes p q memory after x seven same all keeps = λ u h.
    in_apc_only p memory (λ u. KeptIn q after (after_all u x)
    × (events_all (Some (length memory)) u x ≡ [])) seven
    (λ o d i.
    let k = apc_text (Some (length memory)) o d x all in (
      subst (KeptIn q after) (sym k.0) (
        ap state_numbered (same ∙ seven),
        subst (TextIn q after) (sym (apc_kept d x all)) (keeps (bytes_of_class is_text d) i),
      ),
      k.1,
    )) u h

-- the ESC that ends it
pub apc_ends : (p q : EscParser) (e : EscEvent) (memory out : List ℕ) (b : ℕ) → p.state ≡ 7
    → b ≡ 0x1b → p.is_over ≡ false → e.kind ≡ 11 → text_of e out ≡ take p.text memory
    → KeptIn q memory (InEscape []) → Steps p q e out memory memory (b ∷ [])
apc_ends p q e memory out b seven is off kind text keeps = λ u h.
    in_apc_only p memory (λ u. KeptIn q memory (after_all u (b ∷ []))
    × (sent_events e out ≡ events_all (Some (length memory)) u (b ∷ []))) seven
    (λ o d i.
    let t = bytes_of_class is_text d in
    let l = Some (length memory) in
    let k = by_move l (InApc o d) (InEscape []) b (apc_events l t)
    (sym (ap (move_inside l (InApc o d) b) (escape_at b is))
    ∙ ap (λ es. (InEscape [], es)) (append-nil (apc_events l t))) in
    let within : is_within l (length t) ≡ true = not_false _ (sym i.0 ∙ off) in (
      subst (KeptIn q memory) (sym k.0) keeps,
      rw kind (ap (λ y. ApcDispatch y ∷ []) (text ∙ (i.1 off).1)) ∙ apc_emitted l t within
          ∙ sym k.1,
    )) u h

-- an ignored byte
text_same : (d : List ℕ) (b : ℕ) → is_text (class_of b) ≡ false
    → bytes_of_class is_text d ≡ bytes_of_class is_text (d ++ b ∷ [])
text_same d b off = sym (filter-append (λ b. is_text (class_of b)) d (b ∷ [])
    ∙ ap (λ y. bytes_of_class is_text d ++ y) (rw off refl) ∙ append-nil (bytes_of_class is_text d))

pub apc_skips : (p : EscParser) (b : ℕ) (c : Class) → p.state ≡ 7 → c ≡ class_of b
    → is_breaker c ≡ false → is_text c ≡ false → Passes p p (b ∷ [])
apc_skips p b c seven is off text = λ memory u h.
    let l = Some (length memory) in
    in_apc_only p memory (λ u. KeptIn p memory (after_all u (b ∷ []))
    × (events_all l u (b ∷ []) ≡ [])) seven
    (λ o d i.
    moves_on p memory l (InApc o d) (InApc o (d ++ b ∷ [])) b
    (sym (ap (move_inside l (InApc o d) b) is)
    ∙ ap (λ t. if t then emitting (leaving l (InApc o d)) (ground_move b c) else
    goes_on l (InApc o d) b c) off) (
      ap state_numbered seven,
      subst (TextIn p memory) (text_same d b (sym (ap is_text is) ∙ text)) i,
    )) u h

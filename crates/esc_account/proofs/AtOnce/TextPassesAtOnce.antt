-- Text that passes is entered at once, and is as if its segments were.
use Rattle.std.proofs.Common.{ℕ, ◌≡◌, ◌+◌, ◌<◌, ◌≤◌, Bool, true, false, not, ◌&&◌, ◌==◌, if◌then◌else◌, Option, None, Some, List, [], ◌∷◌, ◌++◌, length, refl, sym, ap, ◌∙◌, subst, append-nil, append_assoc, arith}
use Rattle.std.proofs.lemmas.Bool.Decides.{nat_tests}
use Rattle.esc_frame.specs.Classes.{class_of, is_text}
use Rattle.esc_frame.specs.Leads.{AreFinished}
use Rattle.esc_frame.specs.Segments.{Segment as Shape, HasShape, bytes_of, is_finished, joined_bytes}
use Rattle.esc_frame.specs.Segments.Segment.{Character, Control, Wide}
use Rattle.esc_frame.specs.Sequences.{is_sequence}
use Rattle.esc_frame.proofs.Cut.WellFormedIsUtf8.{two_is}
use Rattle.esc_segments.specs.Items.{kind_of}
use Rattle.esc_account.specs.Accounts.{Rule, sums_with, all_passed, terminator_fate, entered_as, fate_after, feeds, step}
use Rattle.esc_account.specs.Entries.{Entry, entry_of, is_noted, is_passed, noted_entries}
use Rattle.esc_account.specs.Finished.{Finishes, HasNoEnd, account_after, ended_entries}
use Rattle.esc_account.specs.LineEnds.{is_return_feed}
use Rattle.esc_account.specs.Passing.{AllPass, IsPlain, Passes, passed_as, says}
use Rattle.esc_account.specs.declared.account.Account.{Account}
use Rattle.esc_account.specs.declared.fate.Fate.{Fate}
use Rattle.esc_account.specs.declared.fate.Fate.TheVariants as fates
use Rattle.esc_account.proofs.Entries.LedgerIsGiven.{noted_more}
use Rattle.esc_account.proofs.Lines.AccountOfLines.{passed_twice}

-- ---- one

plain_shape : (g : Shape) (t : List ℕ) → IsPlain g → HasShape g t × (is_finished g t ≡ true)
plain_shape (Character b) t h = (h, refl)
plain_shape (Wide x) t h = (h, refl)
plain_shape (Control b) t h = (h.0, refl)
plain_shape _ t h = absurd h

-- it ends no string
own_fate : (f : Option Fate) (g : Shape) (own : Fate) → IsPlain g
    → fate_after f (kind_of g) (bytes_of g) own ≡ own
own_fate None g own h = refl
own_fate (Some f) (Character b) own h = refl
own_fate (Some f) (Wide x) own h = refl
own_fate (Some f) (Control b) own h = refl
own_fate (Some f) _ own h = absurd h

no_string : (g : Shape) (f : Fate) → IsPlain g → terminator_fate (kind_of g) (bytes_of g) f ≡ None
no_string (Character b) f h = refl
no_string (Wide x) f h = refl
no_string (Control b) f h = refl
no_string _ f h = absurd h

-- after bytes that passed, where this character comes before what is written next
abbrev pub passed_to : Option ℕ → List ℕ → Account → Account
passed_to c bytes x = record (all_passed bytes x) { before = c }

one_passes : (r : Rule) (x : Account) (g : Shape) → IsPlain g
    → r x.before g true ≡ passed_as (says g)
    → step r x g true ≡ passed_to (says g) (bytes_of g) x
one_passes r x g h p =
    let n = length (bytes_of g) in
    ap (entered_as x (kind_of g) (bytes_of g)) p
    ∙ ap (λ f. record {
      sums = sums_with f n x.sums;
      string = terminator_fate (kind_of g) (bytes_of g) f;
      before = says g;
      lines = x.lines + feeds (bytes_of g);
    }) (own_fate x.string g fates.Passed h)
    ∙ ap (λ s. record {
      sums = sums_with fates.Passed n x.sums;
      string = s;
      before = says g;
      lines = x.lines + feeds (bytes_of g);
    }) (no_string g fates.Passed h)

-- ---- all of them

pub all_pass : (r : Rule) (x : Account) (g : Shape) (gs : List Shape) (c : Option ℕ)
    → AllPass r x.before (g ∷ gs) c → account_after r x (g ∷ gs)
    ≡ passed_to c (joined_bytes (g ∷ gs)) x
all_pass r x g [] c h =
    one_passes r x g h.0 h.1 ∙ ap (λ v. passed_to (says g) v x) (sym (append-nil (bytes_of g)))
    ∙ ap (λ d. passed_to d (joined_bytes (g ∷ [])) x) h.2
all_pass r x g (k ∷ gs) c h =
    ap (λ y. account_after r y (k ∷ gs)) (one_passes r x g h.0 h.1)
    ∙ all_pass r (passed_to (says g) (bytes_of g) x) k gs c h.2
    ∙ ap {A = Account} (λ y. record y { before = c })
    (passed_twice (bytes_of g) (joined_bytes (k ∷ gs)) x)

not_noted : (e : Entry) → is_noted e ≡ false → noted_entries (e ∷ []) ≡ []
not_noted e h = ap (λ b. if b then e ∷ [] else []) h

none_noted : (r : Rule) (x : Account) (gs : List Shape) (c : Option ℕ)
    → AllPass r x.before gs c → noted_entries (ended_entries r x gs) ≡ []
none_noted r x [] c h = refl
none_noted r x (g ∷ gs) c h =
    let e = entry_of r x g true in
    let y = step r x g true in
    let es = ended_entries r y gs in
    noted_more e es
    ∙ ap (λ v. v ++ noted_entries es)
    (not_noted e (ap (λ f. not (is_passed f))
    (own_fate x.string g (r x.before g true).fate h.0 ∙ ap (λ v. v.fate) h.1)))
    ∙ none_noted r y gs c
    (subst (λ b. AllPass r b gs c) (sym (ap (λ v. v.before) h.1)) h.2)

all_finished : (r : Rule) (b c : Option ℕ) (gs : List Shape) (t : List ℕ) → AllPass r b gs c
    → AreFinished gs t
all_finished r b c [] t h = tt
all_finished r b c (g ∷ gs) t h =
    let k = plain_shape g (joined_bytes gs ++ t) h.0
    in (k.0, k.1, all_finished r (says g) c gs t h.2)

-- ---- none is a carriage return

text_begins : (b : ℕ) → is_text (class_of b) ≡ true → (b == 0x0d) ≡ false
unfolding class_of
text_begins b h = grind (arith, nat_tests)

lead_begins : (a : ℕ) → 0xc2 ≤ a → (a == 0x0d) ≡ false
lead_begins a h = grind (arith, nat_tests)

no_end : (b : ℕ) (t : List ℕ) → (b == 0x0d) ≡ false → is_return_feed (b ∷ t) ≡ false
no_end b [] h = refl
no_end b (c ∷ []) h = rw h refl
no_end b (c ∷ d ∷ t) h = refl

wide_end : (x t : List ℕ) → is_sequence x ≡ true → is_return_feed (x ++ t) ≡ false
unfolding is_sequence
wide_end [] t h = absurd cc
wide_end (a ∷ []) t h = absurd cc
wide_end (a ∷ b ∷ []) t h = no_end a (b ∷ t) (lead_begins a (two_is a b h).0)
wide_end (a ∷ b ∷ c ∷ x) t h = refl

plain_end : (g : Shape) (t : List ℕ) → IsPlain g → is_return_feed (bytes_of g ++ t) ≡ false
plain_end (Character b) t h = no_end b t (text_begins b h)
plain_end (Wide x) t h = wide_end x t h.0
plain_end (Control b) t h = no_end b t h.1
plain_end _ t h = absurd h

and_none : (t : Bool) → (t && false) ≡ false
and_none true = refl
and_none false = refl

no_ends : (ends : Bool) (r : Rule) (b c : Option ℕ) (gs : List Shape) (t : List ℕ)
    → AllPass r b gs c → HasNoEnd ends gs t
no_ends ends r b c [] t h = tt
no_ends ends r b c (g ∷ gs) t h = (
  ap (λ v. ends && is_return_feed v) (append_assoc (bytes_of g) (joined_bytes gs) t)
      ∙ ap (λ d. ends && d) (plain_end g (joined_bytes gs ++ t) h.0) ∙ and_none ends,
  no_ends ends r (says g) c gs t h.2,
)

-- ---- at once

pub passes_finishes : (ends : Bool) (r : Rule) (x y : Account) (s t : List ℕ)
    → Passes r x s t y → Finishes ends r x s t y []
passes_finishes ends r x y s t h = record {
  shapes = h.shapes;
  whole = h.whole;
  finished = all_finished r x.before h.last h.shapes t h.pass;
  before = no_ends ends r x.before h.last h.shapes t h.pass;
  account = h.account;
  made = sym (none_noted r x h.shapes h.last h.pass);
}

-- no bytes, and some
pub passes_none : (r : Rule) (x : Account) (s : List ℕ) → Passes r x s s x
passes_none r x s = record {
  shapes = [];
  last = x.before;
  whole = refl;
  pass = refl;
  account = refl;
}

pub passes_some : (r : Rule) (x : Account) (s p t : List ℕ) (gs : List Shape) (c : Option ℕ)
    → s ≡ p ++ t → 0 < length p → p ≡ joined_bytes gs → AllPass r x.before gs c
    → Passes r x s t (passed_to c p x)
passes_some r x s p t [] c e some f h = absurd (omega (arith, ap length f, some))
passes_some r x s p t (g ∷ gs) c e some f h = record {
  shapes = g ∷ gs;
  last = c;
  whole = e ∙ ap (λ v. v ++ t) f;
  pass = h;
  account = ap (λ v. passed_to c v x) f ∙ sym (all_pass r x g gs c h);
}

-- The segments of a line are entered, those that are finished and then the last, or the line's end.
use Rattle.std.proofs.Common.{ℕ, ◌≡◌, ◌<◌, ◌≤◌, Bool, true, false, ◌&&◌, if◌then◌else◌, Option, None, Some, IfSome, MatchOption, OnSome, List, [], ◌∷◌, ◌++◌, length, length-append, arith, refl, ap, sym, ◌∙◌, subst, append-nil}
use Rattle.esc_frame.specs.Leads.{AreFinished}
use Rattle.esc_frame.specs.Segments.{Segment as Shape, AreSegments, IsCut, is_finished, joined_bytes}
use Rattle.esc_segments.specs.declared.item.Segment.{Segment as Item}
use Rattle.esc_segments.specs.Items.{IsHead, IsItem}
use Rattle.esc_account.specs.Accounts.{Enters, Rule, all_passed, run, step}
use Rattle.esc_account.specs.Entries.{Entry, entries, entry_of, noted_entries}
use Rattle.esc_account.specs.Finished.{Finishes, HasNoEnd, IsLast, account_after, ended_entries}
use Rattle.esc_account.specs.LineEnds.{is_return_feed, line_entries, run_line}
use Rattle.esc_account.specs.declared.account.Account.{Account}
use Rattle.esc_account.proofs.Entries.BlocksJoin.{are_joined, joined-append}
use Rattle.esc_account.proofs.Entries.FinishedAreEntered.{noted-append}

-- ---- at most one segment

abbrev is_first_finished : List Shape → Bool
is_first_finished [] = true
is_first_finished (g ∷ gs) = is_finished g (joined_bytes gs)

abbrev IsOne : List ℕ → List Shape → Item → Type 0
IsOne s gs item = (g : Shape) × (gs ≡ g ∷ []) × IsItem item g [] × (item.bytes.now ≡ s)

-- the first has bytes, where fewer are left after it
pub first_some : (X Y : Type 0) (s t : List ℕ) (gs : List Shape) (r : Option Item)
    → MatchOption r ((gs ≡ []) × (t ≡ [])) (λ x. IsHead s gs x t)
    → OnSome r (X × Y × (length t < length s))
    → IfSome r (λ x. (0 < length x.bytes.now) × (length x.bytes.now ≤ length s))
first_some X Y s t gs None h less = tt
first_some X Y s t gs (Some x) h less =
    let place = ap length h.place in
    let both = length-append x.bytes.now t in
    (omega (arith, less.2, place, both), omega (arith, place, both))

module _ (ends : Bool) where
  -- one that is unfinished is the last
  pub last_open : (s t : List ℕ) (item : Item)
      → ((gs : List Shape) → IsCut s gs → IsHead s gs item t) → item.finished ≡ false
      → IsLast ends s
  last_open s t item gives waits g [] cut some = refl
  last_open s t item gives waits g (k ∷ gs) cut some =
      let h = gives (g ∷ k ∷ gs) cut in
      let done : is_finished g (joined_bytes (k ∷ gs)) ≡ true = cut.each.1 in
      let same : is_finished g (joined_bytes (k ∷ gs))
      ≡ is_finished h.head (joined_bytes h.others) =
      ap is_first_finished h.first in
      let item_is : item.finished ≡ is_finished h.head t = h.item.finished in
      absurd (apart (sym done ∙ same ∙ ap (is_finished h.head) (sym h.rest.whole) ∙ sym item_is
      ∙ waits))
    where
      apart : true ≡ false → ⊥
      apart e = cc

  -- the first, where it is the last
  pub one_left : (s t : List ℕ) (item : Item) (gs : List Shape) → IsLast ends s
      → (ends && is_return_feed s) ≡ false → IsCut s gs → IsHead s gs item t → IsOne s gs item
  one_left s t item gs last some cut h =
      let none : h.others ≡ [] = last h.head h.others (subst (IsCut s) h.first cut) some in
      let rest : t ≡ [] = h.rest.whole ∙ ap joined_bytes none in (
        h.head,
        h.first ∙ ap (λ v. h.head ∷ v) none,
        subst (IsItem item h.head) rest h.item,
        sym (append-nil item.bytes.now) ∙ ap (λ v. item.bytes.now ++ v) (sym rest) ∙ sym h.place,
      )

module _ (ends : Bool) (r : Rule) where
  abbrev is_end : List ℕ → Bool
  is_end s = ends && is_return_feed s

  -- a segment that does not begin the end
  run_one : (x : Account) (g : Shape) (gs : List Shape) → is_end (joined_bytes (g ∷ gs)) ≡ false
      → run_line ends r x (g ∷ gs) ≡ run_line ends r (step r x g (is_finished g (joined_bytes gs)))
      gs
  run_one x g gs h = rw h refl

  entries_one : (x : Account) (g : Shape) (gs : List Shape) → is_end (joined_bytes (g ∷ gs)) ≡ false
      → line_entries ends r x (g ∷ gs) ≡ entry_of r x g (is_finished g (joined_bytes gs))
      ∷ line_entries ends r (step r x g (is_finished g (joined_bytes gs))) gs
  entries_one x g gs h = rw h refl

  -- the end itself
  pub run_end : (x : Account) (s : List ℕ) (gs : List Shape) → IsCut s gs → is_end s ≡ true
      → run_line ends r x gs ≡ all_passed s x
  run_end x s [] cut h = absurd (no_end ends (sym (ap is_end cut.whole) ∙ h))
    where
      no_end : (b : Bool) → (b && false) ≡ true → ⊥
      no_end true e = let f : false ≡ true = e in cc
      no_end false e = let f : false ≡ true = e in cc
  run_end x s (g ∷ gs) cut h =
      ap (λ t. if t then all_passed (joined_bytes (g ∷ gs)) x
      else run_line ends r (step r x g (is_finished g (joined_bytes gs))) gs)
      (sym (ap is_end cut.whole) ∙ h)
      ∙ ap (λ z. all_passed z x) (sym cut.whole)

  pub entries_end : (x : Account) (s : List ℕ) (gs : List Shape) → IsCut s gs
      → is_end s ≡ true → line_entries ends r x gs ≡ []
  entries_end x s [] cut h = refl
  entries_end x s (g ∷ gs) cut h =
      ap (λ t. if t then [] else entry_of r x g (is_finished g (joined_bytes gs))
      ∷ line_entries ends r (step r x g (is_finished g (joined_bytes gs))) gs)
      (sym (ap is_end cut.whole) ∙ h)

  -- ---- segments that are finished come first

  same_bytes : (g : Shape) (gs hs : List Shape)
      → joined_bytes (g ∷ gs) ++ joined_bytes hs ≡ joined_bytes (g ∷ (gs ++ hs))
  same_bytes g gs hs = sym (joined-append (g ∷ gs) hs)

  line_ended : (x : Account) (gs hs : List Shape) → AreFinished gs (joined_bytes hs)
      → HasNoEnd ends gs (joined_bytes hs)
      → run_line ends r x (gs ++ hs) ≡ run_line ends r (account_after r x gs) hs
  line_ended x [] hs f n = refl
  line_ended x (g ∷ gs) hs (shape, finished, rest) (none, more) =
      run_one x g (gs ++ hs) (sym (ap is_end (same_bytes g gs hs)) ∙ none)
      ∙ ap (λ b. run_line ends r (step r x g b) (gs ++ hs))
      (ap (is_finished g) (joined-append gs hs) ∙ finished)
      ∙ line_ended (step r x g true) gs hs rest more

  made_ended : (x : Account) (gs hs : List Shape) → AreFinished gs (joined_bytes hs)
      → HasNoEnd ends gs (joined_bytes hs)
      → line_entries ends r x (gs ++ hs)
      ≡ ended_entries r x gs ++ line_entries ends r (account_after r x gs) hs
  made_ended x [] hs f n = refl
  made_ended x (g ∷ gs) hs (shape, finished, rest) (none, more) =
      entries_one x g (gs ++ hs) (sym (ap is_end (same_bytes g gs hs)) ∙ none)
      ∙ ap (λ b. entry_of r x g b ∷ line_entries ends r (step r x g b) (gs ++ hs))
      (ap (is_finished g) (joined-append gs hs) ∙ finished)
      ∙ ap (λ es. entry_of r x g true ∷ es) (made_ended (step r x g true) gs hs rest more)

  -- the account of all, where the rest is entered too
  pub line_all : (x y : Account) (s t : List ℕ) (es : List Entry) → Finishes ends r x s t y es
      → (hs : List Shape) → IsCut t hs → (gs : List Shape) × IsCut s gs
      × (run_line ends r x gs ≡ run_line ends r y hs)
      × (noted_entries (line_entries ends r x gs) ≡ es ++ noted_entries (line_entries ends r y hs))
  line_all x y s t es h hs cut =
      let gs = h.shapes in
      let f : AreFinished gs (joined_bytes hs) = subst (AreFinished gs) cut.whole h.finished in
      let n : HasNoEnd ends gs (joined_bytes hs) = subst (HasNoEnd ends gs) cut.whole h.before in (
        gs ++ hs,
        record {
          whole = h.whole ∙ ap (λ v. joined_bytes gs ++ v) cut.whole ∙ sym (joined-append gs hs);
          each = are_joined gs hs f cut.each;
        },
        line_ended x gs hs f n ∙ ap (λ v. run_line ends r v hs) (sym h.account),
        ap noted_entries (made_ended x gs hs f n)
            ∙ noted-append (ended_entries r x gs) (line_entries ends r (account_after r x gs) hs)
            ∙ ap (λ v. noted_entries (ended_entries r x gs)
            ++ noted_entries (line_entries ends r v hs))
            (sym h.account)
            ∙ ap (λ v. v ++ noted_entries (line_entries ends r y hs)) (sym h.made),
      )

  -- ---- the last segment

  pub run_last : (x y : Account) (s : List ℕ) (item : Item) (gs : List Shape) → IsCut s gs
      → is_end s ≡ false → IsOne s gs item → Enters r x item y → y ≡ run_line ends r x gs
  run_last x y s item gs cut some (g, e, is, same) enters =
      let each : AreSegments (g ∷ []) = subst AreSegments e cut.each in
      enters g [] each is
      ∙ sym (run_one x g [] (ap is_end (sym (cut.whole ∙ ap joined_bytes e)) ∙ some))
      ∙ ap (run_line ends r x) (sym e)

  pub noted_last : (x : Account) (s : List ℕ) (item : Item) (gs : List Shape) → IsCut s gs
      → is_end s ≡ false → IsOne s gs item → (P : List Entry → Type 0) (es : List Entry)
      → ((g : Shape) (ks : List Shape) → AreSegments (g ∷ ks) → IsItem item g (joined_bytes ks)
      → P (es ++ noted_entries (entry_of r x g (is_finished g (joined_bytes ks)) ∷ [])))
      → P (es ++ noted_entries (line_entries ends r x gs))
  noted_last x s item gs cut some (g, e, is, same) P es given =
      let each : AreSegments (g ∷ []) = subst AreSegments e cut.each in
      subst (λ v. P (es ++ noted_entries v))
      (sym (entries_one x g [] (ap is_end (sym (cut.whole ∙ ap joined_bytes e)) ∙ some))
      ∙ ap (line_entries ends r x) (sym e)) (given g [] each is)

-- ---- no end is apart

pub run_whole : (r : Rule) (x : Account) (gs : List Shape) → run_line false r x gs ≡ run r x gs
run_whole r x [] = refl
run_whole r x (g ∷ gs) = run_whole r (step r x g (is_finished g (joined_bytes gs))) gs

pub entries_whole : (r : Rule) (x : Account) (gs : List Shape)
    → line_entries false r x gs ≡ entries r x gs
entries_whole r x [] = refl
entries_whole r x (g ∷ gs) =
    ap (λ es. entry_of r x g (is_finished g (joined_bytes gs)) ∷ es)
    (entries_whole r (step r x g (is_finished g (joined_bytes gs))) gs)

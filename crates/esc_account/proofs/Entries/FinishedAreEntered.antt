-- Segments that are finished are entered, and then what comes after them.
use Rattle.std.proofs.Common.{ℕ, ◌≡◌, ◌+◌, ◌≤◌, Bool, true, false, ◌&&◌, if◌then◌else◌, List, [], ◌∷◌, ◌++◌, length, drop, refl, sym, ap, ◌∙◌, subst, append_assoc, append-nil, arith, length-append}
use Rattle.esc_frame.specs.Leads.{AreFinished}
use Rattle.esc_frame.specs.Segments.{Segment as Shape, AreSegments, HasShape, IsCut, bytes_of, is_finished, joined_bytes}
use Rattle.esc_segments.specs.declared.item.Segment.{Segment as Item}
use Rattle.esc_segments.specs.Items.{IsHead, IsItem}
use Rattle.esc_account.specs.Accounts.{Enters, HasRoom, Rule, begun, run, step, total}
use Rattle.esc_account.specs.Entries.{Entry, entries, entry_of, is_noted, noted_entries}
use Rattle.esc_account.specs.Finished.{Finishes, HasNoEnd, account_after, ended_entries}
use Rattle.esc_account.specs.LineEnds.{is_return_feed}
use Rattle.esc_account.specs.Ledgers.{IsCounted}
use Rattle.esc_account.specs.declared.account.Account.{Account}
use Rattle.esc_account.proofs.Counts.FeedsAddUp.{few_feeds}
use Rattle.esc_account.proofs.Counts.TotalIsLength.{total_added}
use Rattle.esc_account.proofs.Entries.BlocksJoin.{are_joined, joined-append, stay_finished}
use Rattle.esc_account.proofs.Entries.LedgerIsGiven.{HasCut}

-- ---- one after another

finished_both : (gs hs : List Shape) (t : List ℕ) → AreFinished gs (joined_bytes hs ++ t)
    → AreFinished hs t → AreFinished (gs ++ hs) t
finished_both [] hs t h k = k
finished_both (g ∷ gs) hs t (shape, finished, rest) k =
    let e : joined_bytes gs ++ (joined_bytes hs ++ t) ≡ joined_bytes (gs ++ hs) ++ t =
    sym (append_assoc (joined_bytes gs) (joined_bytes hs) t)
    ∙ ap (λ x. x ++ t) (sym (joined-append gs hs)) in (
      subst (HasShape g) e shape,
      subst (λ x. is_finished g x ≡ true) e finished,
      finished_both gs hs t rest k,
    )

ended_both : (r : Rule) (x : Account) (gs hs : List Shape)
    → account_after r x (gs ++ hs) ≡ account_after r (account_after r x gs) hs
ended_both r x [] hs = refl
ended_both r x (g ∷ gs) hs = ended_both r (step r x g true) gs hs

made_both : (r : Rule) (x : Account) (gs hs : List Shape)
    → ended_entries r x (gs ++ hs) ≡ ended_entries r x gs
    ++ ended_entries r (account_after r x gs) hs
made_both r x [] hs = refl
made_both r x (g ∷ gs) hs =
    ap (λ es. entry_of r x g true ∷ es) (made_both r (step r x g true) gs hs)

pub noted-append : (es fs : List Entry) → noted_entries (es ++ fs) ≡ noted_entries es
    ++ noted_entries fs
noted-append [] fs = refl
noted-append (e ∷ es) fs = by (is_noted e) (noted-append es fs)
  where
    by : (b : Bool) → noted_entries (es ++ fs) ≡ noted_entries es ++ noted_entries fs
        → (if b then e ∷ noted_entries (es ++ fs) else noted_entries (es ++ fs))
        ≡ (if b then e ∷ noted_entries es else noted_entries es) ++ noted_entries fs
    by true h = ap (λ ks. e ∷ ks) h
    by false h = h

no_end_both : (ends : Bool) (gs hs : List Shape) (t : List ℕ)
    → HasNoEnd ends gs (joined_bytes hs ++ t) → HasNoEnd ends hs t → HasNoEnd ends (gs ++ hs) t
no_end_both ends [] hs t h k = k
no_end_both ends (g ∷ gs) hs t (none, more) k =
    let e : joined_bytes (g ∷ gs) ++ (joined_bytes hs ++ t) ≡ joined_bytes (g ∷ (gs ++ hs)) ++ t =
    sym (append_assoc (joined_bytes (g ∷ gs)) (joined_bytes hs) t)
    ∙ ap (λ x. x ++ t) (sym (joined-append (g ∷ gs) hs)) in (
      ap (λ x. ends && is_return_feed x) (sym e) ∙ none,
      no_end_both ends gs hs t more k,
    )

pub finishes_both : (ends : Bool) (r : Rule) (x y z : Account) (s t u : List ℕ)
    (es fs : List Entry) → Finishes ends r x s t y es → Finishes ends r y t u z fs
    → Finishes ends r x s u z (es ++ fs)
finishes_both ends r x y z s t u es fs h k =
    let gs = h.shapes in
    let hs = k.shapes in record {
      shapes = gs ++ hs;
      whole = h.whole ∙ ap (λ v. joined_bytes gs ++ v) k.whole
          ∙ sym (append_assoc (joined_bytes gs) (joined_bytes hs) u)
          ∙ ap (λ v. v ++ u) (sym (joined-append gs hs));
      finished = finished_both gs hs u (subst (AreFinished gs) k.whole h.finished) k.finished;
      before = no_end_both ends gs hs u (subst (HasNoEnd ends gs) k.whole h.before) k.before;
      account = k.account ∙ ap (λ v. account_after r v hs) h.account ∙ sym (ended_both r x gs hs);
      made = ap (λ v. v ++ fs) h.made
          ∙ ap (λ v. noted_entries (ended_entries r x gs) ++ v)
          (k.made ∙ ap (λ v. noted_entries (ended_entries r v hs)) h.account)
          ∙ sym (noted-append (ended_entries r x gs) (ended_entries r (account_after r x gs) hs))
          ∙ ap noted_entries (sym (made_both r x gs hs));
    }

pub finishes_none : (ends : Bool) (r : Rule) (x : Account) (s : List ℕ)
    → Finishes ends r x s s x []
finishes_none ends r x s = record {
  shapes = [];
  whole = refl;
  finished = tt;
  before = tt;
  account = refl;
  made = refl;
}

-- one segment that is finished
pub finishes_one : (ends : Bool) (r : Rule) (x y : Account) (g : Shape) (t : List ℕ)
    (es : List Entry) → HasShape g t → is_finished g t ≡ true
    → (ends && is_return_feed (bytes_of g ++ t)) ≡ false → y ≡ step r x g true
    → es ≡ noted_entries (entry_of r x g true ∷ []) → Finishes ends r x (bytes_of g ++ t) t y es
finishes_one ends r x y g t es shape finished none e f =
    let same = ap (λ v. v ++ t) (sym (append-nil (bytes_of g))) in record {
      shapes = g ∷ [];
      whole = same;
      finished = (shape, finished, tt);
      before = (ap (λ v. ends && is_return_feed v) (sym same) ∙ none, tt);
      account = e;
      made = f;
    }

first_shape : (g : Shape) (gs : List Shape) → AreSegments (g ∷ gs) → HasShape g (joined_bytes gs)
first_shape g [] each = each
first_shape g (h ∷ gs) each = each.0

-- that of the bytes which come first
pub finishes_item : HasCut → (ends : Bool) (r : Rule) (x y : Account) (s t : List ℕ) (item : Item)
    → ((gs : List Shape) → IsCut s gs → IsHead s gs item t) → item.finished ≡ true
    → (ends && is_return_feed s) ≡ false → Enters r x item y → (Q : List Entry → Type 0)
    → ((g : Shape) (gs : List Shape) → AreSegments (g ∷ gs) → IsItem item g (joined_bytes gs)
    → Q (noted_entries (entry_of r x g (is_finished g (joined_bytes gs)) ∷ [])))
    → (fs : List Entry) × Finishes ends r x s t y fs × Q fs
finishes_item has ends r x y s t item gives finished none enters Q given =
    let c = has s in
    let h = gives c.0 c.1 in
    let each : AreSegments (h.head ∷ h.others) = subst AreSegments h.first c.1.each in
    let is : IsItem item h.head (joined_bytes h.others) =
    subst (IsItem item h.head) h.rest.whole h.item in
    let fin : is_finished h.head (joined_bytes h.others) ≡ true = sym is.finished ∙ finished in
    let fs = noted_entries (entry_of r x h.head true ∷ []) in
    let same : bytes_of h.head ++ t ≡ s =
    ap (λ v. v ++ t) (sym h.item.bytes) ∙ sym h.place in
    let one : Finishes ends r x (bytes_of h.head ++ t) t y fs =
    finishes_one ends r x y h.head t fs
    (subst (HasShape h.head) (sym h.rest.whole) (first_shape h.head h.others each))
    (sym h.item.finished ∙ finished)
    (ap (λ v. ends && is_return_feed v) same ∙ none)
    (enters h.head h.others each is ∙ ap (step r x h.head) fin) refl in (
      fs,
      subst (λ v. Finishes ends r x v t y fs) same one,
      subst (λ b. Q (noted_entries (entry_of r x h.head b ∷ []))) fin
          (given h.head h.others each is),
    )

-- more follows
no_end_whole : (gs : List Shape) (t : List ℕ) → HasNoEnd false gs t
no_end_whole [] t = tt
no_end_whole (g ∷ gs) t = (refl, no_end_whole gs t)

pub finishes_more : (r : Rule) (x y : Account) (s t b : List ℕ) (es : List Entry)
    → Finishes false r x s t y es → Finishes false r x (s ++ b) (t ++ b) y es
finishes_more r x y s t b es h = record {
  shapes = h.shapes;
  whole = ap (λ v. v ++ b) h.whole ∙ append_assoc (joined_bytes h.shapes) t b;
  finished = stay_finished h.shapes t b h.finished;
  before = no_end_whole h.shapes (t ++ b);
  account = h.account;
  made = h.made;
}

-- ---- a book that was given the entries

pub takes_none : (P : List Entry → Type 0) (es : List Entry) → P es → P (es ++ [])
takes_none P es h = subst P (sym (append-nil es)) h

pub takes_both : (P : List Entry → Type 0) (es fs gs : List Entry) → P ((es ++ fs) ++ gs)
    → P (es ++ (fs ++ gs))
takes_both P es fs gs h = subst P (append_assoc es fs gs) h

-- ---- the end

run_ended : (r : Rule) (x : Account) (gs hs : List Shape) → AreFinished gs (joined_bytes hs)
    → run r x (gs ++ hs) ≡ run r (account_after r x gs) hs
run_ended r x [] hs f = refl
run_ended r x (g ∷ gs) hs (shape, finished, rest) =
    ap (λ b. run r (step r x g b) (gs ++ hs)) (ap (is_finished g) (joined-append gs hs) ∙ finished)
    ∙ run_ended r (step r x g true) gs hs rest

entries_ended : (r : Rule) (x : Account) (gs hs : List Shape) → AreFinished gs (joined_bytes hs)
    → entries r x (gs ++ hs) ≡ ended_entries r x gs ++ entries r (account_after r x gs) hs
entries_ended r x [] hs f = refl
entries_ended r x (g ∷ gs) hs (shape, finished, rest) =
    ap (λ b. entry_of r x g b ∷ entries r (step r x g b) (gs ++ hs))
    (ap (is_finished g) (joined-append gs hs) ∙ finished)
    ∙ ap (λ es. entry_of r x g true ∷ es) (entries_ended r (step r x g true) gs hs rest)

-- the account of all, where the rest is entered too
pub finishes_all : (r : Rule) (x y z : Account) (s t : List ℕ) (es : List Entry)
    → (h : Finishes false r x s t y es) (hs : List Shape) → IsCut t hs → z ≡ run r y hs
    → (gs : List Shape) × IsCut s gs × (z ≡ run r x gs)
    × (es ++ noted_entries (entries r y hs) ≡ noted_entries (entries r x gs))
finishes_all r x y z s t es h hs cut e =
    let gs = h.shapes in
    let f : AreFinished gs (joined_bytes hs) = subst (AreFinished gs) cut.whole h.finished in (
      gs ++ hs,
      record {
        whole = h.whole ∙ ap (λ v. joined_bytes gs ++ v) cut.whole ∙ sym (joined-append gs hs);
        each = are_joined gs hs f cut.each;
      },
      e ∙ ap (λ v. run r v hs) h.account ∙ sym (run_ended r x gs hs f),
      ap (λ v. v ++ noted_entries (entries r y hs)) h.made
          ∙ ap (λ v. noted_entries (ended_entries r x gs) ++ noted_entries (entries r v hs))
          h.account
          ∙ sym (noted-append (ended_entries r x gs) (entries r (account_after r x gs) hs))
          ∙ ap noted_entries (sym (entries_ended r x gs hs f)),
    )

-- ---- how many bytes

counts_ended : (r : Rule) (x : Account) (gs : List Shape)
    → (total (account_after r x gs).sums ≡ total x.sums + length (joined_bytes gs))
    × ((account_after r x gs).lines ≤ x.lines + length (joined_bytes gs))
counts_ended r x [] = (omega arith, omega arith)
counts_ended r x (g ∷ gs) =
    let y = step r x g true in
    let i = counts_ended r y gs in
    let a : total y.sums ≡ total x.sums + length (bytes_of g) =
    total_added _ (length (bytes_of g)) x.sums in
    let n = length-append (bytes_of g) (joined_bytes gs) in (
      omega (arith, i.0, a, n),
      omega (arith, i.1, few_feeds (bytes_of g), n),
    )

-- there is room for more
pub finishes_room : (r : Rule) (y : Account) (s t b : List ℕ) (es : List Entry)
    → Finishes false r begun s t y es → IsCounted (s ++ b) → HasRoom y (length t + length b)
finishes_room r y s t b es h few =
    let c = counts_ended r begun h.shapes in
    omega (
      arith,
      few,
      c.0,
      c.1,
      ap (λ v. total v.sums) h.account,
      ap (λ v. v.lines) h.account,
      ap length h.whole,
      length-append s b,
      length-append (joined_bytes h.shapes) t,
    )

-- the first bytes, dropped
drop_joined : (x t : List ℕ) → drop (length x) (x ++ t) ≡ t
drop_joined [] t = refl
drop_joined (b ∷ x) t = drop_joined x t

pub dropped : (s x t : List ℕ) (n : ℕ) → s ≡ x ++ t → n + length t ≡ length s → drop n s ≡ t
dropped s x t n e f =
    let k : n ≡ length x = omega (arith, f, ap length e, length-append x t) in
    ap (λ m. drop m s) k ∙ ap (drop (length x)) e ∙ drop_joined x t

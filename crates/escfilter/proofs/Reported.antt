-- The entries in the rows of a report, and their names.
use Rattle.std.proofs.Common.{ℕ, zero, suc, ◌≡◌, ◌+◌, ◌<◌, ◌≤◌, ◌&&◌, Bool, true, false, not, if◌then◌else◌, List, [], ◌∷◌, ◌++◌, length, get_or, drop, map, refl, sym, ap, ◌∙◌, inl, inr, subst, arith, append_assoc, Some, Result, Ok, Err}
use Rattle.std.proofs.lemmas.List.{append-nil, map-append}
use Rattle.std.proofs.lemmas.List.Elements.{All-append, filter-append}
use Rattle.std.specs.Global.{Global}
use Rattle.std.specs.List.{All}
use Rattle.std.proofs.lemmas.Bool.Decides.{nat_tests}
use Rattle.std.specs.Prelude.{OnOk, is_some, nat_le}
use Rattle.esc_account.specs.Brief.{brief}
use Rattle.esc_account.specs.Entries.{Entry, as_entry}
use Rattle.esc_account.specs.Rows.{BeginsOne, HasRowsOf, Named, has_row, names_in, under}
use Rattle.esc_account.specs.Rules.{is_written}
use Rattle.esc_account.specs.Tables.{HasAll}
use Rattle.esc_account.specs.declared.entry.Entry.{Entry as Written}
use Rattle.esc_account.specs.declared.fate.Fate.{Fate}
use Rattle.esc_account.specs.declared.row.Row.{Row}
use Rattle.esc_account.specs.declared.table.Table.{Table}
use Rattle.esc_actions.specs.Readings.{reading_within}
use Rattle.esc_actions.specs.Values.{Value, value_of}
use Rattle.esc_actions.specs.declared.action.Action.{Action}
use Rattle.esc_frame.specs.Segments.{AreSegments, Segment as Shape, is_finished, joined_bytes}
use Rattle.esc_sanitize.specs.declared.judging.Judging.{Judging}
use Rattle.esc_sanitize.specs.declared.options.FilterOptions.{FilterOptions}
use Rattle.esc_segments.specs.Items.{IsItem}
use Rattle.escfilter.specs.Choices.{admits_choice}
use Rattle.escfilter.specs.Names.{Title, bare, has_key, kind_title, title_of, value_title}
use Rattle.escfilter.specs.Rows.{AreCalled, AreRowsOf, IsCalled, IsJudge, IsOf, IsReport, Names, are_one_name, first_out, is_respelled, is_told, judge_writes, entries_by_row, kept_after, kept_name, kept_one, keys_count, title_by, title_or, entries_with_row, writes}
use Rattle.escfilter.specs.declared.name.Name.{Name}
use Rattle.escfilter.specs.declared.named_groups.Choice.{Choice}
use Rattle.escfilter.specs.declared.options.Options.{Options}

-- ---- names

pub keyed_step : (rows : List (Row Name)) (i : ℕ) (r : Row Name) → i < length rows
    → r ≡ get_or rows i r → keys_count (drop i rows)
    ≡ (if has_key (title_of r.name) then 1 + keys_count (drop (suc i) rows)
    else keys_count (drop (suc i) rows))
keyed_step [] i r few here = absurd (omega (arith, few))
keyed_step (k ∷ rows) zero r few here =
    ap (λ (x : Row Name).
    if has_key (title_of x.name) then 1 + keys_count rows else keys_count rows)
    (sym here)
keyed_step (k ∷ rows) (suc i) r few here = keyed_step rows i r (omega (arith, few)) here

pub first_step : (w : Value Global → Bool) (xs : List (Action Global)) (i : ℕ)
    (x : Action Global) → i < length xs → x ≡ get_or xs i x
    → first_out w (map value_of (drop i xs))
    ≡ (if w (value_of x) then first_out w (map value_of (drop (suc i) xs))
    else Some (value_of x))
first_step w [] i x few here = absurd (omega (arith, few))
first_step w (k ∷ xs) zero x few here =
    ap (λ v. if w (value_of v) then first_out w (map value_of xs) else Some (value_of v))
    (sym here)
first_step w (k ∷ xs) (suc i) x few here = first_step w xs i x (omega (arith, few)) here

writes_same : (o : FilterOptions Choice) (j : Judging Choice Global) (v : Value Global)
    → IsJudge o j → judge_writes j v ≡ writes o v
writes_same o j v h =
    ap (λ b. is_written b j.policy.guard (admits_choice j.policy.policy) v) h.0
    ∙ ap (λ u. is_written o.by_lines u (admits_choice j.policy.policy) v) h.1
    ∙ ap (λ p. is_written o.by_lines o.guard (admits_choice p) v) h.3

pub first_same : (o : FilterOptions Choice) (j : Judging Choice Global)
    (vs : List (Value Global)) → IsJudge o j
    → first_out (judge_writes j) vs ≡ first_out (writes o) vs
first_same o j [] h = refl
first_same o j (v ∷ vs) h =
    ap (λ b. if b then first_out (judge_writes j) vs else Some v) (writes_same o j v h)
    ∙ ap (λ l. if writes o v then l else Some v) (first_same o j vs h)

-- the first of which nothing is written, where it stands here
pub title_here : (o : FilterOptions Choice) (j : Judging Choice Global) (t n : Title)
    (xs : List (Action Global)) (i : ℕ) (x : Action Global) → IsJudge o j → i < length xs
    → x ≡ get_or xs i x → first_out (judge_writes j) (map value_of xs)
    ≡ first_out (judge_writes j) (map value_of (drop i xs))
    → judge_writes j (value_of x) ≡ false → n ≡ value_title (value_of x)
    → n ≡ title_or t (first_out (writes o) (map value_of xs))
title_here o j t n xs i x h few here rest out name =
    let first : first_out (writes o) (map value_of xs) ≡ Some (value_of x) =
    sym (first_same o j (map value_of xs) h) ∙ rest
    ∙ first_step (judge_writes j) xs i x few here
    ∙ ap (λ b. if b then first_out (judge_writes j) (map value_of (drop (suc i) xs))
    else Some (value_of x)) out in
    name ∙ ap (λ v. title_or t v) (sym first)

-- ---- names of entries

item_of : (made : Written) (g : Shape) (gs : List Shape) → IsOf (as_entry made) g gs
    → IsItem made.segment g (joined_bytes gs)
item_of made g gs h = record { kind = h.kind; bytes = h.bytes; finished = h.finished }

pub called_so : (o : FilterOptions Choice) (made : Written) (n : Name) → made.is_end ≡ false
    → ((g : Shape) (gs : List Shape) → AreSegments (g ∷ gs)
    → IsItem made.segment g (joined_bytes gs) → title_of n
    ≡ title_by (writes o) made.fate made.segment.kind made.segment.bytes.now
    (brief (reading_within (Some o.limit) g (is_finished g (joined_bytes gs)))))
    → IsCalled o (under n (as_entry made))
called_so o made n end h = record {
  title = λ g gs are of. rw end (h g gs are (item_of made g gs of));
}

pub called_end : (o : FilterOptions Choice) (made : Written) (n : Name) → made.is_end ≡ true
    → title_of n ≡ kind_title made.segment.kind made.segment.bytes.now
    → IsCalled o (under n (as_entry made))
called_end o made n end h = record { title = λ g gs are of. rw end h }

all_one : {X : Type 0} (P : X → Type 0) (x : X) → P x → All P (x ∷ [])
all_one P x h zero d few = h
all_one P x h (suc k) d few = absurd (omega (arith, few))

called_more : (o : FilterOptions Choice) (ns : List (Named Name)) (es : List Entry)
    (n : Named Name) → AreCalled o ns es → IsCalled o n
    → AreCalled o (ns ++ n ∷ []) (es ++ n.entry ∷ [])
called_more o ns es n h c = record {
  entries = map-append (λ m. m.entry) ns (n ∷ []) ∙ ap (λ l. l ++ n.entry ∷ []) h.entries;
  each = All-append (IsCalled o) ns (n ∷ []) h.each (all_one (IsCalled o) n c);
}

kept_more : (done ns : List (Named Name)) (n : Named Name) → kept_after done (ns ++ n ∷ [])
    ≡ kept_after done ns ++ kept_one (done ++ kept_after done ns) n ∷ []
kept_more done [] n = ap (λ l. kept_one l n ∷ []) (sym (append-nil done))
kept_more done (m ∷ ns) n =
    ap (λ l. kept_one done m ∷ l)
    (kept_more (done ++ kept_one done m ∷ []) ns n
    ∙ ap (λ l. kept_after (done ++ kept_one done m ∷ []) ns ++ kept_one l n ∷ [])
    (append_assoc done (kept_one done m ∷ [])
    (kept_after (done ++ kept_one done m ∷ []) ns)))

-- ---- how many names have keys

one_key : Name → ℕ
one_key n = if has_key (title_of n) then 1 else 0

keyed_names : List Name → ℕ
keyed_names [] = 0
keyed_names (n ∷ ns) = one_key n + keyed_names ns

keyed_are : (rows : List (Row Name)) → keys_count rows ≡ keyed_names (names_in rows)
unfolding keyed_names one_key
keyed_are [] = refl
keyed_are (r ∷ rows) = by (has_key (title_of r.name)) (keyed_are rows)
  where
    by : (t : Bool) → keys_count rows ≡ keyed_names (names_in rows)
        → (if t then 1 + keys_count rows else keys_count rows)
        ≡ (if t then 1 else 0) + keyed_names (names_in rows)
    by true h = ap (λ n. 1 + n) h
    by false h = omega (arith, h)

keyed_end : (ns : List Name) (n : Name) → keyed_names (ns ++ n ∷ []) ≡ one_key n + keyed_names ns
unfolding keyed_names
keyed_end [] n = refl
keyed_end (m ∷ ns) n = omega (arith, keyed_end ns n)

key_room : (rows : List (Row Name)) (f : Fate) (n : Name) → keys_count rows ≤ 64
    → has_row are_one_name rows f (kept_name rows f n) ≡ false
    → one_key (kept_name rows f n) + keys_count rows ≤ 64
unfolding one_key
key_room rows f n few none =
    by (has_key (title_of n)) (has_row are_one_name rows f n)
    (nat_le 64 (keys_count rows)) refl refl
    refl none
  where
    by : (a b c : Bool) → has_key (title_of n) ≡ a → has_row are_one_name rows f n ≡ b
        → nat_le 64 (keys_count rows) ≡ c
        → has_row are_one_name rows f (if a && (not b && c) then bare n else n) ≡ false
        → (if has_key (title_of (if a && (not b && c) then bare n else n)) then 1 else 0)
        + keys_count rows ≤ 64
    by true true c ha hb hc h = let z : true ≡ false = sym hb ∙ h in absurd cc
    by true false true ha hb hc h = omega (arith, few)
    by true false false ha hb hc h =
        let k : keys_count rows < 64 = grind (arith, nat_tests, hc) in
        rw ha (omega (arith, k))
    by false b c ha hb hc h = rw ha (omega (arith, few))

few_more : (rows others : List (Row Name)) (f : Fate) (n : Name) → keys_count rows ≤ 64
    → BeginsOne are_one_name rows others f (kept_name rows f n) → keys_count others ≤ 64
few_more rows others f n few (inl h) =
    omega (arith, few, keyed_are others, keyed_are rows, ap keyed_names h)
few_more rows others f n few (inr h) =
    omega (
      arith,
      key_room rows f n few h.0,
      keyed_are others,
      keyed_are rows,
      ap keyed_names h.1,
      keyed_end (names_in rows) (kept_name rows f n),
    )

-- ---- reports

told_more : (es : List Entry) (e : Entry) → is_respelled e.fate ≡ false
    → entries_with_row (es ++ e ∷ []) ≡ entries_with_row es ++ e ∷ []
told_more es e h = filter-append is_told es (e ∷ []) ∙ rw h refl

not_told : (es : List Entry) (e : Entry) → is_respelled e.fate ≡ true
    → entries_with_row (es ++ e ∷ []) ≡ entries_with_row es
not_told es e h = filter-append is_told es (e ∷ []) ∙ rw h (append-nil (entries_with_row es))

pub named_more : (o : FilterOptions Choice) (t u : Table Name Global) (es : List Entry)
    (n : Name) (e : Entry) → Names o t es → IsCalled o (under n e)
    → ((ns : List (Named Name)) → HasRowsOf are_one_name t ns
    → HasRowsOf are_one_name u (ns ++ under (kept_name t.rows.items e.fate n) e ∷ []))
    → ((ns : List (Named Name)) → HasRowsOf are_one_name t ns
    → BeginsOne are_one_name t.rows.items u.rows.items e.fate (kept_name t.rows.items e.fate n))
    → Names o u (es ++ e ∷ [])
named_more o t u es n e h c add one = record {
  names = h.names ++ under n e ∷ [];
  called = called_more o h.names es (under n e) h.called c;
  has =
      let k : under (kept_name t.rows.items e.fate n) e
      ≡ kept_one (entries_by_row h.names) (under n e) =
      ap (λ rows. under (kept_name rows e.fate n) e) h.has.rows in
      let P : List (Named Name) → Type 0 = λ l. HasRowsOf are_one_name u l in
      subst P (sym (kept_more [] h.names (under n e)))
      (subst (λ x. HasRowsOf are_one_name u (entries_by_row h.names ++ x ∷ [])) k
      (add (entries_by_row h.names) h.has));
  few = few_more t.rows.items u.rows.items e.fate n h.few (one (entries_by_row h.names) h.has);
}

pub noted_so : (o : Options) (j : Judging Choice Global) (t u : Table Name Global)
    (es : List Entry) (n : Name) (e : Entry) → IsReport o j t es → is_respelled e.fate ≡ false
    → IsCalled o.filter (under n e)
    → ((ds : List Entry) → HasAll t ds → HasAll u (ds ++ e ∷ []))
    → ((ns : List (Named Name)) → HasRowsOf are_one_name t ns
    → HasRowsOf are_one_name u (ns ++ under (kept_name t.rows.items e.fate n) e ∷ []))
    → ((ns : List (Named Name)) → HasRowsOf are_one_name t ns
    → BeginsOne are_one_name t.rows.items u.rows.items e.fate (kept_name t.rows.items e.fate n))
    → IsReport o j u (es ++ e ∷ [])
noted_so o j t u es n e h entries_with_row c all add one = record {
  judge = h.judge;
  all = λ asked. rw (told_more es e entries_with_row) (all _ (h.all asked));
  named = λ asked.
      rw (told_more es e entries_with_row)
      (named_more o.filter t u _ n e (h.named asked) c add one);
}

pub noted_ok : {X E : Type 0} (r : Result X E) (o : Options) (j : Judging Choice Global)
    (t u : Table Name Global) (es : List Entry) (n m : Name) (e : Entry) → IsReport o j t es
    → is_respelled e.fate ≡ false → IsCalled o.filter (under n e)
    → m ≡ kept_name t.rows.items e.fate n
    → ((ds : List Entry) → HasAll t ds → OnOk r (HasAll u (ds ++ e ∷ [])))
    → ((ns : List (Named Name)) → HasRowsOf are_one_name t ns
    → OnOk r (HasRowsOf are_one_name u (ns ++ under m e ∷ [])))
    → ((ns : List (Named Name)) → HasRowsOf are_one_name t ns
    → OnOk r (BeginsOne are_one_name t.rows.items u.rows.items e.fate m))
    → OnOk r (IsReport o j u (es ++ e ∷ []))
noted_ok (Ok x) o j t u es n m e h entries_with_row c is all add one =
    noted_so o j t u es n e h entries_with_row c all
    (λ ns has. subst (λ k. HasRowsOf are_one_name u (ns ++ under k e ∷ [])) is (add ns has))
    (λ ns has.
    subst (λ k. BeginsOne are_one_name t.rows.items u.rows.items e.fate k) is (one ns has))
noted_ok (Err x) o j t u es n m e h entries_with_row c is all add one = tt

pub not_asked : (o : Options) (j : Judging Choice Global) (t u : Table Name Global)
    (es ds : List Entry) → IsReport o j t es → is_some o.report ≡ false → IsReport o j u ds
not_asked o j t u es ds h none = record {
  judge = h.judge;
  all = λ asked. let z : true ≡ false = sym asked ∙ none in absurd cc;
  named = λ asked. let z : true ≡ false = sym asked ∙ none in absurd cc;
}

pub respelled_so : (o : Options) (j : Judging Choice Global) (t : Table Name Global)
    (es : List Entry) (e : Entry) → IsReport o j t es → is_respelled e.fate ≡ true
    → IsReport o j t (es ++ e ∷ [])
respelled_so o j t es e h is = record {
  judge = h.judge;
  all = λ asked. rw (not_told es e is) (h.all asked);
  named = λ asked. rw (not_told es e is) (h.named asked);
}

-- none yet
pub begun_so : (o : Options) (j : Judging Choice Global) (t : Table Name Global)
    → IsJudge o.filter j → HasAll t [] → HasRowsOf are_one_name t [] → IsReport o j t []
begun_so o j t h all has = record {
  judge = h;
  all = λ asked. all;
  named = λ asked. record {
    names = [];
    called = record { entries = refl; each = λ k d few. absurd (omega (arith, few)) };
    has = has;
    few = rw has.rows (omega arith);
  };
}

pub are_rows : (o : FilterOptions Choice) (t : Table Name Global) (es : List Entry)
    → Names o t es → AreRowsOf o t.rows.items es
are_rows o t es h = record { names = h.names; called = h.called; is = h.has.rows }

pub always : {X E P : Type 0} (r : Result X E) → P → OnOk r P
always (Ok x) h = h
always (Err x) h = tt

-- The filtered text, for texts that are equal.
use Rattle.std.proofs.Common.{ℕ, ◌≡◌, Bool, true, false, List, Result, Ok, Err, OnOk, subst, ◌∙◌}
use Rattle.std.proofs.lemmas.Result.{on_err_weaker}
use Rattle.std.specs.declared.io.traits.Read.{Ghosts as Reader}
use Rattle.std.specs.declared.io.traits.Write.{Ghosts as Writer}
use Rattle.esc_normal.specs.Io.{Borrowed, WritesPrefix}
use Rattle.esc_normal.specs.Streams.{Filters, HasBegun, HasFiltered, IsEither}
use Rattle.esc_normal.specs.declared.filter_error.FilterError.{FilterError}

on_ok_more : {T E : Type 0} (X Y : Type 0) (r : Result T E) → (X → Y) → OnOk r X → OnOk r Y
on_ok_more X Y (Ok x) f h = f h
on_ok_more X Y (Err e) f h = tt

same_either : (c m e n : List ℕ → List ℕ) → ((s : List ℕ) → c s ≡ e s)
    → ((s : List ℕ) → m s ≡ n s)
    → (b : Bool) (s t : List ℕ) → IsEither c m b s t → IsEither e n b s t
same_either c m e n ends goes true s t h = h ∙ ends s
same_either c m e n ends goes false s t h = h ∙ goes s

pub same_texts : {R W X : Type 0} {Rd : Reader R} {Wr : Writer W} (c m e n : List ℕ → List ℕ)
    → ((s : List ℕ) → c s ≡ e s) → ((s : List ℕ) → m s ≡ n s)
    → (result : Result X FilterError) (reader : Borrowed R) (writer : Borrowed W)
    → Filters Rd Wr c (IsEither c m) result reader writer
    → Filters Rd Wr e (IsEither e n) result reader writer
same_texts {Rd} {Wr} c m e n ends goes result reader writer f =
    let so = same_either c m e n ends goes in
    let all : (b : Bool) → HasFiltered Rd Wr (IsEither c m b) reader writer
    → HasFiltered Rd Wr (IsEither e n b) reader writer =
    λ b h. (h.0, h.1, h.2, h.3, so b h.0 h.1 h.4) in
    let begun : HasBegun Rd Wr c reader writer → HasBegun Rd Wr e reader writer =
    λ h. (h.0, h.1, subst (λ t. WritesPrefix Wr t writer) (ends h.0) h.2) in
    record {
      read_all = f.read_all;
      written = on_ok_more _ _ result (all true) f.written;
      decided = λ k. all false (f.decided k);
      endless = λ k. let h = f.endless k in (h.0, h.1, h.2, h.3, h.4, so false h.0 h.1 h.5);
      until_refused = λ k.
          let h = f.until_refused k in (h.0, h.1, h.2, h.3, h.4, h.5, so false h.0 h.2 h.6);
      beginning = on_err_weaker result begun f.beginning;
      read_fault = f.read_fault;
      write_fault = f.write_fault;
    }

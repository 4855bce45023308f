-- The cells of a row that is painted.
use Rattle.std.proofs.Common.{ℕ, zero, suc, ◌≡◌, ◌+◌, ◌-◌, ◌<◌, Bool, true, false, List, [], ◌∷◌, ◌++◌, length, map, replicate, get_or, Option, None, Some, if◌then◌else◌, refl, ap, sym, subst, ◌∙◌, append_assoc, arith}
use Rattle.std.proofs.lemmas.Bool.{true≢false}
use Rattle.std.proofs.lemmas.List.{get_or-append-add, length-replicate, length_push, map-append}
use Rattle.esc_style.specs.Looks.{plain_look}
use Rattle.esc_style.specs.declared.look.Look.{Look}
use Rattle.esc_sgr.specs.Sgr.{same_look}
use Rattle.esc_screen.specs.Cells.{blank, cell, drawn_cell, is_rest, marked_content, more_marks, no_marks, start_of}
use Rattle.esc_screen.specs.Grids.{Grid, Size}
use Rattle.esc_screen.specs.Halves.{GoOn}
use Rattle.esc_screen.specs.Steps.{grid_by, grid_from}
use Rattle.esc_screen.specs.declared.cell.Cell.{Cell}
use Rattle.esc_screen.specs.declared.content.Content.{Content}
use Rattle.esc_screen.specs.declared.content.Content.TheVariants as content
use Rattle.esc_screen.specs.declared.marks.Marks.{Marks}
use Rattle.esc_screen.specs.declared.step.Step.TheVariants as step
use Rattle.esc_screen.proofs.Printing.RunsOfCharacters.{in_chunks}
use Rattle.esc_terminal.specs.Looks.{erased_look}
use Rattle.esc_terminal.specs.Steps.{print_step}
use Rattle.esc_paint.specs.Parts.{Part, character, erase_right, look, part_step}
use Rattle.esc_paint.specs.declared.pen.Pen.{Pen}
use Rattle.esc_paint.specs.Painting.{blank_parts, cells_parts, drawn_parts, content_parts, look_change, marks_parts, pen_blank, pen_by, pen_drawn, place_change}
use Rattle.esc_paint.specs.Drawn.{AreDrawn, AreMarks, IsDrawn, IsMarked}
use Rattle.esc_paint.proofs.Rows.{Has, begins_free, has_at, has_erased, has_mark, has_narrow, has_selected, has_wide}

-- the number of a look, and the look that each number of a cell stands for
module _ (number : Look → ℕ) (same : (a b : Look) → same_look a b ≡ true
    → (number a ≡ number b) × (number (erased_look a) ≡ number (erased_look b))) (f : ℕ → Look)
    (s : Size) where
  abbrev pub run : Grid → List Part → Grid
  run g ps = grid_from s g (map (part_step number) ps)

  pub run_two : (g : Grid) (ps qs : List Part) → run g (ps ++ qs) ≡ run (run g ps) qs
  run_two g ps qs = ap (grid_from s g) (map-append (part_step number) ps qs)
      ∙ in_chunks s g (map (part_step number) ps) (map (part_step number) qs)

  -- ---- the cells that are painted

  abbrev pub painted_cell : Pen → Look → Content → Cell
  painted_cell p l content.Blank = blank (number (erased_look l))
  painted_cell p l (content.Narrow c m) = cell (content.Narrow c m) (number l)
  painted_cell p l (content.Wide c m) = cell (content.Wide c m) (number l)
  painted_cell p l content.Rest = cell content.Rest (number p.look)

  abbrev pub painted_cells : Pen → List Cell → List Cell
  painted_cells p [] = []
  painted_cells p (x ∷ xs) = painted_cell p (f x.look) x.content
      ∷ painted_cells (pen_by p (f x.look) x.content) xs

  abbrev pub pen_after : Pen → List Cell → Pen
  pen_after p [] = p
  pen_after p (x ∷ xs) = pen_after (pen_by p (f x.look) x.content) xs

  -- ---- states

  -- if characters look so
  abbrev HasIn : List (List Cell) → List (List Cell) → Look → Bool → ℕ → List Cell → Grid → Type 0
  HasIn above below l here n xs g =
      Has s above below (number l) (number (erased_look l)) here n xs g

  has_by : (above below : List (List Cell)) (l e : ℕ) (here : Bool) (m n : ℕ) (xs ys : List Cell)
      (g : Grid) → m ≡ n → xs ≡ ys → Has s above below l e here m xs g
      → Has s above below l e here n ys g
  has_by above below l e here m n xs ys g i j h =
      subst (λ k. Has s above below l e here k ys g) i
      (subst (λ z. Has s above below l e here m z g) j h)

  module _ (above below : List (List Cell)) where
    abbrev r : ℕ
    r = length above

    has_lost : (l e : ℕ) (here : Bool) (m n : ℕ) (xs : List Cell) (g : Grid)
        → Has s above below l e here m xs g → Has s above below l e false n xs g
    has_lost l e here m n xs g h = record {
      within = h.within;
      draws = h.draws;
      rows = h.rows;
      cursor = λ t. absurd (true≢false (sym t));
    }

    has_placed : (l e : ℕ) (here : Bool) (n : ℕ) (xs : List Cell) (g : Grid) → n < s.columns
        → Has s above below l e here n xs g
        → Has s above below l e true n xs (run g (place_change here r n))
    has_placed l e true n xs g less h = h
    has_placed l e false n xs g less h = has_at s above below l e false n n xs g h less

    looked_by : (t : Bool) (a b : Look) (here : Bool) (n : ℕ) (xs : List Cell) (g : Grid)
        → (t ≡ true → (number a ≡ number b) × (number (erased_look a) ≡ number (erased_look b)))
        → HasIn above below a here n xs g
        → HasIn above below b here n xs (run g (if t then [] else look b ∷ []))
    looked_by true a b here n xs g e h =
        subst (λ l. Has s above below l (number (erased_look b)) here n xs g) (e refl).0
        (subst (λ l. Has s above below (number a) l here n xs g) (e refl).1 h)
    looked_by false a b here n xs g e h =
        has_selected s above below (number a) (number (erased_look a)) here n xs g (number b)
        (number (erased_look b)) h

    has_looked : (a b : Look) (here : Bool) (n : ℕ) (xs : List Cell) (g : Grid)
        → HasIn above below a here n xs g
        → HasIn above below b here n xs (run g (look_change a b))
    has_looked a b here n xs g h = looked_by (same_look a b) a b here n xs g (same a b) h

    -- ---- marks

    module _ (k : Marks → Content) (marks : (c : ℕ) (m : Marks)
        → marked_content c (k m) ≡ k (more_marks c m)) (l e n : ℕ) (p ys : List Cell)
        (less : n < s.columns)
        (start : (m : Marks) → start_of n (p ++ cell (k m) l ∷ ys) ≡ length p) where
      abbrev HasMarks : Marks → Grid → Type 0
      HasMarks m g = Has s above below l e true (n + 1) (p ++ cell (k m) l ∷ ys) g

      one_mark : (c : ℕ) (m : Marks) (g : Grid) → print_step c ≡ step.Mark c → HasMarks m g
          → HasMarks (more_marks c m) (run g (character c ∷ []))
      one_mark c m g is h =
          subst (HasMarks (more_marks c m)) (sym (ap (grid_by s g) is))
          (subst (λ z. Has s above below l e true (n + 1) (p ++ cell z l ∷ ys)
          (grid_by s g (step.Mark c))) (marks c m)
          (has_mark s above below l e c n p ys (cell (k m) l) g h less (start m)))

      each_mark : (a b : Option ℕ) (o : Bool) (g : Grid) → AreMarks a b o → HasMarks no_marks g
          → HasMarks (record {
            first = a;
            second = b;
            others = o;
          }) (run g (marks_parts (record {
            first = a;
            second = b;
            others = o;
          })))
      each_mark None None false g d h = h
      each_mark None None true g d h = absurd d
      each_mark None (Some b) o g d h = absurd d
      each_mark (Some a) None false g d h = one_mark a no_marks g d.0 h
      each_mark (Some a) None true g d h = absurd d
      each_mark (Some a) (Some b) false g d h =
          one_mark b (more_marks a no_marks) (run g (character a ∷ [])) d.1.0
          (one_mark a no_marks g d.0.0 h)
      each_mark (Some a) (Some b) true g d h =
          let both = run g (character a ∷ character b ∷ []) in
          one_mark a (more_marks b (more_marks a no_marks)) both d.0.0
          (one_mark b (more_marks a no_marks) (run g (character a ∷ [])) d.1.0
          (one_mark a no_marks g d.0.0 h))

      has_marks : (m : Marks) (g : Grid) → IsMarked m → HasMarks no_marks g
          → HasMarks m (run g (marks_parts m))
      has_marks m g d h = each_mark m.first m.second m.others g d h

    -- ---- cells

    -- the rest of a row, after the first column of a character of two or not
    abbrev tail : Bool → ℕ → ℕ → ℕ → List Cell
    tail false l e n = replicate n (blank e)
    tail true l e zero = []
    tail true l e (suc n) = cell content.Rest l ∷ replicate n (blank e)

    blanks_free : (n e : ℕ) → begins_free (replicate n (blank e)) ≡ true
    blanks_free zero e = refl
    blanks_free (suc n) e = refl

    abbrev past : Bool → ℕ
    past true = 1
    past false = 0

    -- cells in place of the rest of a row
    abbrev Paints : List Cell → Type 0
    Paints xs = (w : Bool) (p : Pen) (done : List Cell) (g : Grid) → GoOn w xs
        → length done + length xs ≡ s.columns
        → HasIn above below p.look p.here (length done + past w)
        (done ++ tail w (number p.look) (number p.back) (length xs)) g
        → HasIn above below plain_look (pen_after p xs).here (length done + length xs)
        (done ++ painted_cells p xs) (run g (cells_parts f r (length done) p xs))

    no_cells : Paints []
    no_cells true p done g go all h = absurd (true≢false go)
    no_cells false p done g go all h =
        has_looked p.look plain_look p.here (length done + 0) (done ++ []) g h

    -- one cell more
    one_more : (y : Cell) (xs : List Cell) (p q : Pen) (done : List Cell) (g : Grid) (w : Bool)
        → Paints xs → GoOn w xs → length done + length (y ∷ xs) ≡ s.columns
        → HasIn above below q.look q.here (length done + 1 + past w)
        (done ++ y ∷ tail w (number q.look) (number q.back) (length xs)) g
        → HasIn above below plain_look (pen_after q xs).here (length done + length (y ∷ xs))
        (done ++ y ∷ painted_cells q xs) (run g (cells_parts f r (length done + 1) q xs))
    one_more y xs p q done g w each go all h =
        let more = done ++ y ∷ [] in
        let len : length more ≡ length done + 1 = length_push done y in
        let fits : length more + length xs ≡ s.columns = omega (arith, len, all) in
        let column : length done + 1 + past w ≡ length more + past w =
        ap (λ k. k + past w) (sym len) in
        let end : length more + length xs ≡ length done + length (y ∷ xs) = omega (arith, len) in
        let t = tail w (number q.look) (number q.back) (length xs) in
        let k = each w q more g go fits (has_by above below (number q.look)
        (number (erased_look q.look)) q.here (length done + 1 + past w) (length more + past w)
        (done ++ y ∷ t) (more ++ t) g column (sym (append_assoc done (y ∷ []) t)) h) in
        subst (λ i. HasIn above below plain_look (pen_after q xs).here
        (length done + length (y ∷ xs)) (done ++ y ∷ painted_cells q xs)
        (run g (cells_parts f r i q xs))) len
        (has_by above below (number plain_look) (number (erased_look plain_look))
        (pen_after q xs).here (length more + length xs) (length done + length (y ∷ xs))
        (more ++ painted_cells q xs) (done ++ y ∷ painted_cells q xs)
        (run g (cells_parts f r (length more) q xs)) end
        (append_assoc done (y ∷ []) (painted_cells q xs)) k)

    -- the cursor at a cell, and the look of a character
    ready : (p : Pen) (l : Look) (n : ℕ) (xs : List Cell) (g : Grid) → n < s.columns
        → HasIn above below p.look p.here n xs g
        → HasIn above below l true n xs
        (run (run g (place_change p.here r n)) (look_change p.look l))
    ready p l n xs g less h =
        has_looked p.look l true n xs (run g (place_change p.here r n))
        (has_placed (number p.look) (number (erased_look p.look)) p.here n xs g less h)

    drawn_run : (n : ℕ) (p : Pen) (c : ℕ) (m : Marks) (l : Look) (g : Grid)
        → run g (drawn_parts r n p c m l)
        ≡ run (run (run (run g (place_change p.here r n)) (look_change p.look l))
        (character c ∷ []))
        (marks_parts m)
    drawn_run n p c m l g =
        run_two g (place_change p.here r n) (look_change p.look l ++ (character c ∷ marks_parts m))
        ∙ run_two (run g (place_change p.here r n)) (look_change p.look l)
        (character c ∷ marks_parts m)

    -- a character of one column
    narrow_done : (p : Pen) (l : Look) (c : ℕ) (m : Marks) (done ys : List Cell) (x : Cell)
        (g : Grid) → length done < s.columns → is_rest x ≡ false → begins_free ys ≡ true
        → print_step c ≡ step.Print c → IsMarked m
        → HasIn above below p.look p.here (length done) (done ++ x ∷ ys) g
        → HasIn above below l true (length done + 1)
        (done ++ cell (content.Narrow c m) (number l) ∷ ys)
        (run g (drawn_parts r (length done) p c m l))
    narrow_done p l c m done ys x g less here next is marked h =
        let n = length done in
        let at = run (run g (place_change p.here r n)) (look_change p.look l) in
        let there = ready p l n (done ++ x ∷ ys) g less h in
        let put : HasIn above below l true (n + 1) (done ++ drawn_cell (number l) c ∷ ys)
        (run at (character c ∷ [])) =
        subst (HasIn above below l true (n + 1) (done ++ drawn_cell (number l) c ∷ ys))
        (sym (ap (grid_by s at) is))
        (has_narrow s above below (number l) (number (erased_look l)) c done ys x at there less here
        next) in
        let start : (k : Marks)
        → start_of n (done ++ cell (content.Narrow c k) (number l) ∷ ys) ≡ n = λ k.
        first_at done (cell (content.Narrow c k) (number l)) ys refl in
        subst (HasIn above below l true (n + 1) (done ++ cell (content.Narrow c m) (number l) ∷ ys))
        (sym (drawn_run n p c m l g))
        (has_marks (content.Narrow c) (λ d k. refl) (number l) (number (erased_look l)) n done ys
        less start m (run at (character c ∷ [])) marked put)
      where
        first_at : (xs : List Cell) (y : Cell) (zs : List Cell) → is_rest y ≡ false
            → start_of (length xs) (xs ++ y ∷ zs) ≡ length xs
        first_at xs y zs e =
            let k = length xs in
            let none : k + 0 ≡ k = omega arith in
            ap (λ b. if b then k - 1 else k)
            (ap (λ i. is_rest (get_or (xs ++ y ∷ zs) i (blank 0))) (sym none)
            ∙ ap is_rest (get_or-append-add xs (y ∷ zs) 0 (blank 0)) ∙ e)

    -- one of two columns
    wide_done : (p : Pen) (l : Look) (c : ℕ) (m : Marks) (done ys : List Cell) (x y : Cell)
        (g : Grid) → length done + 1 < s.columns → is_rest x ≡ false → begins_free ys ≡ true
        → print_step c ≡ step.PrintWide c → IsMarked m
        → HasIn above below p.look p.here (length done) (done ++ x ∷ y ∷ ys) g
        → HasIn above below l true (length done + 2)
        (done ++ cell (content.Wide c m) (number l) ∷ cell content.Rest (number l) ∷ ys)
        (run g (drawn_parts r (length done) p c m l))
    wide_done p l c m done ys x y g less here next is marked h =
        let n = length done in
        let rest = cell content.Rest (number l) in
        let at = run (run g (place_change p.here r n)) (look_change p.look l) in
        let there = ready p l n (done ++ x ∷ y ∷ ys) g (omega (arith, less)) h in
        let first = cell (content.Wide c no_marks) (number l) in
        let two : n + 2 ≡ n + 1 + 1 = omega arith in
        let put : HasIn above below l true (n + 1 + 1) (done ++ first ∷ rest ∷ ys)
        (run at (character c ∷ [])) =
        subst (HasIn above below l true (n + 1 + 1) (done ++ first ∷ rest ∷ ys))
        (sym (ap (grid_by s at) is))
        (subst (λ k. HasIn above below l true k (done ++ first ∷ rest ∷ ys)
        (grid_by s at (step.PrintWide c))) two
        (has_wide s above below (number l) (number (erased_look l)) c done ys x y at there less here
        next)) in
        let start : (k : Marks)
        → start_of (n + 1) (done ++ cell (content.Wide c k) (number l) ∷ rest ∷ ys) ≡ n = λ k.
        second_at done (cell (content.Wide c k) (number l)) rest ys refl in
        subst (λ k. HasIn above below l true k
        (done ++ cell (content.Wide c m) (number l) ∷ rest ∷ ys)
        (run g (drawn_parts r n p c m l))) (sym two)
        (subst (HasIn above below l true (n + 1 + 1)
        (done ++ cell (content.Wide c m) (number l) ∷ rest ∷ ys))
        (sym (drawn_run n p c m l g))
        (has_marks (content.Wide c) (λ d k. refl) (number l) (number (erased_look l)) (n + 1) done
        (rest ∷ ys) less start m (run at (character c ∷ [])) marked put))
      where
        second_at : (xs : List Cell) (y z : Cell) (zs : List Cell) → is_rest z ≡ true
            → start_of (length xs + 1) (xs ++ y ∷ z ∷ zs) ≡ length xs
        second_at xs y z zs e =
            let k = length xs in
            let back : k + 1 - 1 ≡ k = omega arith in
            ap (λ b. if b then k + 1 - 1 else k + 1)
            (ap is_rest (get_or-append-add xs (y ∷ z ∷ zs) 1 (blank 0)) ∙ e) ∙ back

    -- a blank one
    erase_run : (n : ℕ) (p : Pen) (b : Look) (g : Grid)
        → run g (place_change p.here r n ++ (look_change p.look b ++ (erase_right ∷ [])))
        ≡ run (run (run g (place_change p.here r n)) (look_change p.look b)) (erase_right ∷ [])
    erase_run n p b g =
        run_two g (place_change p.here r n) (look_change p.look b ++ (erase_right ∷ []))
        ∙ run_two (run g (place_change p.here r n)) (look_change p.look b) (erase_right ∷ [])

    abbrev blanked : Bool → Look → Pen → Pen
    blanked t b p = if t then record p { here = false }
        else record {
          here = false;
          look = b;
          back = b;
        }

    abbrev blanking : Bool → ℕ → Pen → Look → List Part
    blanking t n p b = if t then []
        else place_change p.here r n ++ (look_change p.look b ++ (erase_right ∷ []))

    blank_by : (t : Bool) (p : Pen) (l : Look) (k : ℕ) (done : List Cell) (g : Grid)
        → (t ≡ true → number p.back ≡ number (erased_look l)) → length done + suc k ≡ s.columns
        → HasIn above below p.look p.here (length done + 0)
        (done ++ replicate (suc k) (blank (number p.back))) g
        → HasIn above below (blanked t (erased_look l) p).look (blanked t (erased_look l) p).here
        (length done + 1 + 0)
        (done ++ blank (number (erased_look l))
        ∷ replicate k (blank (number (blanked t (erased_look l) p).back)))
        (run g (blanking t (length done) p (erased_look l)))
    blank_by true p l k done g e all h =
        subst (λ b. HasIn above below p.look false (length done + 1 + 0)
        (done ++ blank b ∷ replicate k (blank (number p.back))) g) (e refl)
        (has_lost (number p.look) (number (erased_look p.look)) p.here (length done + 0)
        (length done + 1 + 0) (done ++ replicate (suc k) (blank (number p.back))) g h)
    blank_by false p l k done g e all h =
        let n = length done in
        let b = erased_look l in
        let ys = replicate (suc k) (blank (number p.back)) in
        let at = run (run g (place_change p.here r n)) (look_change p.look b) in
        let none : n + 0 ≡ n = omega arith in
        let less : n < s.columns = omega (arith, all) in
        let many : length ys ≡ suc k = length-replicate (suc k) (blank (number p.back)) in
        let fits : n + length ys ≡ s.columns = omega (arith, many, all) in
        let there = ready p b n (done ++ ys) g less
        (has_by above below (number p.look) (number (erased_look p.look)) p.here (n + 0) n
        (done ++ ys) (done ++ ys) g none refl h) in
        let free = blanks_free (suc k) (number p.back) in
        let gone =
        has_erased s above below (number b) (number (erased_look b)) done ys at there less fits
        free in
        subst (λ z. HasIn above below b false (n + 1 + 0)
        (done ++ blank (number b) ∷ replicate k (blank (number b))) z) (sym (erase_run n p b g))
        (subst (λ j. HasIn above below b false (n + 1 + 0)
        (done ++ replicate j (blank (number b))) (run at (erase_right ∷ []))) many
        (has_lost (number b) (number (erased_look b)) true n (n + 1 + 0)
        (done ++ replicate (length ys) (blank (number b))) (run at (erase_right ∷ [])) gone))

    -- ---- a row

    abbrev cell_with : Content → ℕ → Bool → Cell
    cell_with k l j = record {
      content = k;
      look = l;
      joined = j;
    }

    -- after the parts of a cell those of the others
    then_run : (n : ℕ) (p : Pen) (x : Cell) (xs : List Cell) (g : Grid)
        → run g (cells_parts f r n p (x ∷ xs))
        ≡ run (run g (content_parts r n p (f x.look) x.content))
        (cells_parts f r (n + 1) (pen_by p (f x.look) x.content) xs)
    then_run n p x xs g = run_two g (content_parts r n p (f x.look) x.content)
        (cells_parts f r (n + 1) (pen_by p (f x.look) x.content) xs)

    abbrev Ends : List Cell → Pen → List Cell → Grid → Type 0
    Ends xs p done z = HasIn above below plain_look (pen_after p xs).here (length done + length xs)
        (done ++ painted_cells p xs) z

    blank_painted : (l : ℕ) (j : Bool) (xs : List Cell) → Paints xs
        → Paints (cell_with content.Blank l j ∷ xs)
    blank_painted l j xs each true p done g go all h = absurd (true≢false (sym go.0))
    blank_painted l j xs each false p done g go all h =
        let x = cell_with content.Blank l j in
        let b = erased_look (f l) in
        subst (Ends (x ∷ xs) p done) (sym (then_run (length done) p x xs g))
        (one_more (blank (number b)) xs p (pen_blank b p) done
        (run g (blank_parts r (length done) p b)) false each go.1 all
        (blank_by (same_look p.back b) p (f l) (length xs) done g (λ t. (same p.back b t).0) all h))

    narrow_painted : (c : ℕ) (m : Marks) (l : ℕ) (j : Bool) (xs : List Cell)
        → IsDrawn (content.Narrow c m) → Paints xs
        → Paints (cell_with (content.Narrow c m) l j ∷ xs)
    narrow_painted c m l j xs d each true p done g go all h = absurd (true≢false (sym go.0))
    narrow_painted c m l j xs d each false p done g go all h =
        let x = cell_with (content.Narrow c m) l j in
        let n = length done in
        let k = f l in
        let e = number p.back in
        let y = cell (content.Narrow c m) (number k) in
        let ys = replicate (length xs) (blank e) in
        let none : n + 0 ≡ n = omega arith in
        let less : n < s.columns = omega (arith, all) in
        let one : n + 1 ≡ n + 1 + 0 = omega arith in
        let free = blanks_free (length xs) e in
        let put = narrow_done p k c m done ys (blank e) g less refl free d.0.0
        d.1 (has_by above below (number p.look) (number (erased_look p.look)) p.here (n + 0) n
        (done ++ blank e ∷ ys) (done ++ blank e ∷ ys) g none refl h) in
        let at = run g (drawn_parts r n p c m k) in
        subst (Ends (x ∷ xs) p done) (sym (then_run n p x xs g))
        (one_more y xs p (pen_drawn k p) done at false each go.1 all
        (has_by above below (number k) (number (erased_look k)) true (n + 1) (n + 1 + 0)
        (done ++ y ∷ ys) (done ++ y ∷ ys) at one refl put))

    wide_painted : (c : ℕ) (m : Marks) (l : ℕ) (j : Bool) (xs : List Cell)
        → IsDrawn (content.Wide c m) → Paints xs → Paints (cell_with (content.Wide c m) l j ∷ xs)
    wide_painted c m l j xs d each true p done g go all h = absurd (true≢false (sym go.0))
    wide_painted c m l j [] d each false p done g go all h = absurd (true≢false go.1)
    wide_painted c m l j (z ∷ zs) d each false p done g go all h =
        let x = cell_with (content.Wide c m) l j in
        let xs = z ∷ zs in
        let n = length done in
        let k = f l in
        let e = number p.back in
        let y = cell (content.Wide c m) (number k) in
        let rest = cell content.Rest (number k) in
        let ys = replicate (length zs) (blank e) in
        let none : n + 0 ≡ n = omega arith in
        let less : n + 1 < s.columns = omega (arith, all) in
        let two : n + 2 ≡ n + 1 + 1 = omega arith in
        let put = wide_done p k c m done ys (blank e) (blank e) g less refl
        (blanks_free (length zs) e) d.0.0 d.1
        (has_by above below (number p.look) (number (erased_look p.look)) p.here (n + 0) n
        (done ++ blank e ∷ blank e ∷ ys) (done ++ blank e ∷ blank e ∷ ys) g none refl h) in
        let at = run g (drawn_parts r n p c m k) in
        subst (Ends (x ∷ xs) p done) (sym (then_run n p x xs g))
        (one_more y xs p (pen_drawn k p) done at true each go.1 all
        (has_by above below (number k) (number (erased_look k)) true (n + 2) (n + 1 + 1)
        (done ++ y ∷ rest ∷ ys) (done ++ y ∷ rest ∷ ys) at two refl put))

    rest_painted : (l : ℕ) (j : Bool) (xs : List Cell) → Paints xs
        → Paints (cell_with content.Rest l j ∷ xs)
    rest_painted l j xs each false p done g go all h = absurd (true≢false go.0)
    rest_painted l j xs each true p done g go all h =
        let x = cell_with content.Rest l j in
        let n = length done in
        let y = cell content.Rest (number p.look) in
        let row = done ++ y ∷ replicate (length xs) (blank (number p.back)) in
        let one : n + 1 ≡ n + 1 + 0 = omega arith in
        one_more y xs p p done g false each go.1 all
        (has_by above below (number p.look) (number (erased_look p.look)) p.here (n + 1)
        (n + 1 + 0) row row g one refl h)

    one_painted : (k : Content) (l : ℕ) (j : Bool) (xs : List Cell) → IsDrawn k → Paints xs
        → Paints (cell_with k l j ∷ xs)
    one_painted content.Blank l j xs d each = blank_painted l j xs each
    one_painted (content.Narrow c m) l j xs d each = narrow_painted c m l j xs d each
    one_painted (content.Wide c m) l j xs d each = wide_painted c m l j xs d each
    one_painted content.Rest l j xs d each = rest_painted l j xs each

    pub cells_painted : (xs : List Cell) → AreDrawn xs → Paints xs
    cells_painted [] d = no_cells
    cells_painted (x ∷ xs) d = one_painted x.content x.look x.joined xs d.0 (cells_painted xs d.1)

-- The texts that a reader finds between quotes.
use Rattle.std.proofs.Common.{cond, ℕ, ◌≡◌, ◌==◌, ◌&&◌, true, false, not, Bool, List, [], ◌∷◌, ◌++◌, refl, ap, sym, ◌∙◌, append-nil, append_assoc}
use Rattle.std.proofs.lemmas.Bool.{false≢true}
use Rattle.std.specs.List.{flat_map, list_all}
use Rattle.std.specs.Option.{is_some}
use Rattle.std.specs.Prelude.{Option, Some, None}
use Rattle.dump_page.specs.Pages.{PagePart, found_quotes, is_fit, page_part_chars, quoted_texts}
use Rattle.dump_page.specs.Pages.PagePart.{Word, Quoted, LineEnd, PlaceColor, BytesColor, NoColor}
use Rattle.dump_page.specs.Pages.Place.{Outside, Inside}
use Rattle.unicode_visibility.specs.Characters.{is_shown}
use Rattle.dump_page.specs.Quoted.{Reader, closes, given_bytes, is_quoted, next, bytes_before, unquoted_bytes}
use Rattle.dump_page.specs.Quoted.Reader.{InText, AfterBackslash, InNumber, AfterDigit}

some_put : (s : List ℕ) (r : Option (List ℕ)) → is_some (bytes_before s r) ≡ is_some r
some_put s None = refl
some_put s (Some t) = refl

-- a character that ends no quotes, if the rest passes
passed_one : (b : Bool) (r : Reader) (read : List ℕ) (c : ℕ) (cs rest : List ℕ) → closes r c ≡ b
    → is_some (cond b None (bytes_before (given_bytes r c) (unquoted_bytes (next r c) cs))) ≡ true
    → ((read : List ℕ) → is_some (unquoted_bytes (next r c) cs) ≡ true
    → found_quotes (Inside (next r c) read) (cs ++ 0x22 ∷ rest) ≡ (read ++ cs)
    ∷ found_quotes Outside rest)
    → cond b (read ∷ found_quotes Outside (cs ++ 0x22 ∷ rest))
    (found_quotes (Inside (next r c) (read ++ c ∷ [])) (cs ++ 0x22 ∷ rest))
    ≡ (read ++ c ∷ cs) ∷ found_quotes Outside rest
passed_one true r read c cs rest e h f = absurd (false≢true h)
passed_one false r read c cs rest e h f =
    f (read ++ c ∷ []) (sym (some_put (given_bytes r c) (unquoted_bytes (next r c) cs)) ∙ h)
    ∙ ap (λ x. x ∷ found_quotes Outside rest) (append_assoc read (c ∷ []) cs)

-- characters that read as bytes do not end the quotes, and leave the reader in the text
passed : (r : Reader) (read cs rest : List ℕ) → is_some (unquoted_bytes r cs) ≡ true
    → found_quotes (Inside r read) (cs ++ 0x22 ∷ rest) ≡ (read ++ cs) ∷ found_quotes Outside rest
passed InText read [] rest h = ap (λ x. x ∷ found_quotes Outside rest) (sym (append-nil read))
passed AfterBackslash read [] rest h = absurd (false≢true h)
passed InNumber read [] rest h = absurd (false≢true h)
passed (AfterDigit d) read [] rest h = absurd (false≢true h)
passed InText read (c ∷ cs) rest h =
    passed_one (closes InText c) InText read c cs rest refl h
    (λ x. passed (next InText c) x cs rest)
passed AfterBackslash read (c ∷ cs) rest h =
    passed_one false AfterBackslash read c cs rest refl h
    (λ x. passed (next AfterBackslash c) x cs rest)
passed InNumber read (c ∷ cs) rest h =
    passed_one false InNumber read c cs rest refl h (λ x. passed (next InNumber c) x cs rest)
passed (AfterDigit d) read (c ∷ cs) rest h =
    passed_one false (AfterDigit d) read c cs rest refl h
    (λ x. passed (next (AfterDigit d) c) x cs rest)

and_left : (a b : Bool) → (a && b) ≡ true → a ≡ true
and_left true b h = refl
and_left false b h = h

and_right : (a b : Bool) → (a && b) ≡ true → b ≡ true
and_right true b h = h
and_right false b h = absurd (false≢true h)

no_quote : (b : Bool) (s : List (List ℕ)) (t : List (List ℕ)) → not b ≡ true → cond b s t ≡ t
no_quote true s t h = absurd (false≢true h)
no_quote false s t h = refl

pub found_as_quoted : (ps : List PagePart) → list_all is_fit ps ≡ true
    → found_quotes Outside (flat_map page_part_chars ps) ≡ quoted_texts ps
found_as_quoted [] h = refl
found_as_quoted (Word c ∷ ps) h =
    let fit = and_left (is_fit (Word c)) (list_all is_fit ps) h in
    no_quote (c == 0x22) _ _ (and_right (is_shown c) (not (c == 0x22)) fit)
    ∙ found_as_quoted ps (and_right (is_fit (Word c)) (list_all is_fit ps) h)
found_as_quoted (Quoted cs ∷ ps) h =
    let fit = and_left (is_fit (Quoted cs)) (list_all is_fit ps) h in
    ap (found_quotes (Inside InText [])) (append_assoc cs (0x22 ∷ []) (flat_map page_part_chars ps))
    ∙ passed InText [] cs (flat_map page_part_chars ps)
    (and_right (list_all is_shown cs) (is_quoted cs) fit)
    ∙ ap (λ x. cs ∷ x) (found_as_quoted ps (and_right (is_fit (Quoted cs)) (list_all is_fit ps) h))
found_as_quoted (LineEnd ∷ ps) h = found_as_quoted ps h
found_as_quoted (PlaceColor ∷ ps) h = found_as_quoted ps h
found_as_quoted (BytesColor ∷ ps) h = found_as_quoted ps h
found_as_quoted (NoColor ∷ ps) h = found_as_quoted ps h

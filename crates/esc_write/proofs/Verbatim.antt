-- Commands that are written as they came.
use Rattle.std.proofs.Common.{ℕ, ◌≡◌, ◌+◌, ◌-◌, ◌<◌, ◌≤◌, ◌==◌, ◌||◌, inl, inr, Bool, true, false, Option, List, [], ◌∷◌, ◌++◌, codes}
use Rattle.std.proofs.Common.{Some, None, length, take, drop, get_or}
use Rattle.std.proofs.Common.{refl, ap, sym, ◌∙◌, subst, cond, eqb, length-append, length-drop, arith}
use Rattle.std.specs.Prelude.{nat_lt}
use Rattle.std.specs.Option.{option_map, unwrap_or}
use Rattle.std.specs.List.{list_all, list_any, onto_first, prefix_len, slice_split}
use Rattle.std.specs.Str.{IsUtf8, is_utf8}
use Rattle.std.proofs.Math.Seq.{drop-append-add, take-append_seam}
use Rattle.std.proofs.lemmas.Bool.{and_parts, cases_Bool, eqb-true, or_cases}
use Rattle.std.proofs.lemmas.Bool.Decides.{nat_tests}
use Rattle.std.proofs.lemmas.List.{append-nil, take_all}
use Rattle.std.proofs.lemmas.List.Folds.{prefix_len-append}
use Rattle.std.proofs.lemmas.List.Splits.{length-slice_split, slice_split-cons_no}
use Rattle.std.proofs.lemmas.List.Sums.{prefix_len-le-length}
use Rattle.std.proofs.lemmas.Str.{IsCharBoundary-after_ascii, IsCharBoundary-before_ascii, IsUtf8-drop, IsUtf8-past_char, IsUtf8-take}
use Rattle.std.proofs.lemmas.Str.{encode_ascii, is_utf8-from_IsUtf8}
use Rattle.esc_values.specs.Clear.{framed_text, semicolon_list, parts_of}
use Rattle.esc_links.specs.Hyperlinks.{is_colon, link_to, params_of}
use Rattle.esc_values.specs.Scalars.{utf8_of}
use Rattle.esc_links.specs.declared.hyperlink.Hyperlink.{Hyperlink}
use Rattle.esc_values.proofs.Clear.ClearTexts.{part_utf8}
use Rattle.esc_values.proofs.Clear.PlainPartsAreClear.{plain_part}
use Rattle.esc_values.proofs.Clear.SplitAndJoined.{joined_split}
use Rattle.esc_frame.specs.Scans.{is_unmarked}
use Rattle.esc_frame.proofs.Cut.SplitAtSemicolons.{split_end, split_next}
use Rattle.esc_osc.proofs.NamedMarks.{named_end, named_output, named_start}
use Rattle.esc_osc.proofs.Written.{code_means}
use Rattle.esc_osc.specs.Commands.{command_text}
use Rattle.esc_osc_values.specs.Codes.{code_text}
use Rattle.esc_osc.specs.Reading.{meaning, reading}
use Rattle.esc_osc_values.specs.Lists.{title_of}
use Rattle.esc_osc_values.specs.declared.code.OperatingSystemCommandCode.{OperatingSystemCommandCode}
use Rattle.esc_osc_values.specs.declared.code.OperatingSystemCommandCode.TheVariants as code
use Rattle.esc_osc.specs.declared.command.OperatingSystemCommand.{OperatingSystemCommand}
use Rattle.esc_osc.specs.declared.command.OperatingSystemCommand.TheVariants as command
use Rattle.esc_write.specs.Plain.{IsOnePart, IsPlainLink, IsVerbatim}

abbrev semi : ℕ → Bool
semi c = c == 0x3b

-- a code reads the value that the parts mean
meant : {A : Type 0} (k : OperatingSystemCommandCode) (args : List (List ℕ))
    (c : OperatingSystemCommand A)
    → reading {A = A} k (code_text k) args ≡ Some c → meaning {A = A} (code_text k ∷ args) ≡ c
meant {A} k args c h = ap (λ f. unwrap_or f (command.Unspecified (code_text k ∷ args)))
    (code_means {A = A} k args ∙ h)

-- a text without `;`, as a scan finds it
pub one_part : (t : List ℕ) (end : ℕ) → end ≡ 0 + prefix_len is_unmarked (drop 0 t) → length t ≤ end
    → IsOnePart t
one_part t end e h =
    sym (split_end t 0 end [] (t ∷ []) (slice_split semi t) e h
    (ap (λ x. x ∷ []) (sym (take_all (end - 0) t (omega (arith, h))))) refl)

-- a scan comes to the end of a text without `;`
pub one_part_end : (t : List ℕ) (end : ℕ) → end ≡ 0 + prefix_len is_unmarked (drop 0 t)
    → end ≤ length t → IsOnePart t → end ≡ length t
one_part_end t end e few one =
    elim (cases_Bool (end == length t)) [
      | inl held ↦ eqb-true end (length t) held
      | inr failed ↦ let h : end < length t = grind (arith, nat_tests, failed, few) in
          let same : end ≡ end - 0 = omega arith in
          let more = split_next t 0 end [] (take end t ∷ []) (slice_split semi t) e h
          (ap (λ n. take n t ∷ []) same) refl in
          absurd (omega (
            arith,
            ap length more,
            ap length one,
            length-slice_split semi (drop (end + 1) t),
          ))
    ]

unmarked_whole : (t : List ℕ) → IsOnePart t → prefix_len is_unmarked t ≡ length t
unmarked_whole t one = one_part_end t (prefix_len is_unmarked t) (omega arith)
    (prefix_len-le-length is_unmarked t) one

-- Titles.

titled : (ps : List (List ℕ)) (t : List ℕ) → slice_split semi t ≡ ps → IsUtf8 t
    → title_of ps ≡ Some t
titled [] t e u = absurd (omega (arith, ap length e, length-slice_split semi t))
titled (p ∷ ps) t e u =
    let whole : semicolon_list (p ∷ ps) ≡ t = ap semicolon_list (sym e) ∙ joined_split t in
    ap utf8_of whole ∙ rw (is_utf8-from_IsUtf8 t u) refl

-- the text after ASCII
pub past_ascii : (p t : List ℕ) → list_all (λ b. nat_lt b 128) p ≡ true → IsUtf8 (p ++ t) → IsUtf8 t
past_ascii [] t h u = u
past_ascii (b ∷ p) t h u =
    let q = and_parts (nat_lt b 128) (list_all (λ b. nat_lt b 128) p) h in
    let small : b < 128 = grind (arith, nat_tests, q.0) in
    past_ascii p t q.1
    (IsUtf8-past_char (b ∷ (p ++ t)) (p ++ t) b u
    (ap (λ x. x ++ (p ++ t)) (sym (encode_ascii b small))))

abbrev titles : (A : Type 0) → ℕ → Type 0
titles A b = (t : List ℕ) → IsUtf8 (b ∷ 0x3b ∷ t) → IsVerbatim A (b ∷ 0x3b ∷ t)

title_0 : (A : Type 0) → titles A 0x30
title_0 A t u =
    ap command_text (meant {A = A} code.SetIconNameAndWindowTitle (slice_split semi t)
    (command.SetIconNameAndWindowTitle t)
    (ap (option_map command.SetIconNameAndWindowTitle)
    (titled (slice_split semi t) t refl (past_ascii (0x30 ∷ 0x3b ∷ []) t refl u))))

title_1 : (A : Type 0) → titles A 0x31
title_1 A t u =
    ap command_text (meant {A = A} code.SetIconName (slice_split semi t) (command.SetIconName t)
    (ap (option_map command.SetIconName)
    (titled (slice_split semi t) t refl (past_ascii (0x31 ∷ 0x3b ∷ []) t refl u))))

title_2 : (A : Type 0) → titles A 0x32
title_2 A t u =
    ap command_text (meant {A = A} code.SetWindowTitle (slice_split semi t)
    (command.SetWindowTitle t)
    (ap (option_map command.SetWindowTitle)
    (titled (slice_split semi t) t refl (past_ascii (0x32 ∷ 0x3b ∷ []) t refl u))))

-- one of several letters
one_of : (P : ℕ → Type 0) (b k : ℕ) (more : Bool) → ((b == k) || more) ≡ true → P k
    → (more ≡ true → P b) → P b
one_of P b k more h this rest =
    elim (or_cases (b == k) more h) [
      | inl e ↦ subst P (sym (eqb-true b k e)) this
      | inr e ↦ rest e
    ]

last_of : (P : ℕ → Type 0) (b k : ℕ) → (b == k) ≡ true → P k → P b
last_of P b k e this = subst P (sym (eqb-true b k e)) this

pub title : (A : Type 0) (b : ℕ) → ((b == 0x30) || ((b == 0x31) || (b == 0x32))) ≡ true → titles A b
title A b h =
    one_of (titles A) b 0x30 _ h (title_0 A) (λ h1. one_of (titles A) b 0x31 _ h1 (title_1 A) (λ h2.
    last_of (titles A) b 0x32 h2 (title_2 A)))

-- Links.

-- the link without parameters to a place, and none
abbrev bare_target : (A : Type 0) → List ℕ → Option (Hyperlink A)
bare_target A [] = None
bare_target A (b ∷ u) = Some (link_to [] (b ∷ u))

abbrev bare_of : (A : Type 0) → List ℕ → OperatingSystemCommand A
bare_of A u = command.SetHyperlink (bare_target A u)

bare_meant : (A : Type 0) (u : List ℕ) → IsUtf8 u
    → meaning {A = A} (codes "8" ∷ [] ∷ u ∷ []) ≡ bare_of A u
bare_meant A [] h = meant {A = A} code.SetHyperlink ([] ∷ [] ∷ []) (command.SetHyperlink None) refl
bare_meant A (b ∷ u) h =
    let read : reading {A = A} code.SetHyperlink (codes "8") ([] ∷ (b ∷ u) ∷ [])
    ≡ Some (command.SetHyperlink (Some (link_to [] (b ∷ u)))) =
    rw (is_utf8-from_IsUtf8 (b ∷ u) h) refl in
    meant {A = A} code.SetHyperlink ([] ∷ (b ∷ u) ∷ [])
    (command.SetHyperlink (Some (link_to [] (b ∷ u)))) read

bare_written : (A : Type 0) (u : List ℕ) → command_text (bare_of A u) ≡ framed_text (codes "8;;" ++ u)
bare_written A [] = refl
bare_written A (b ∷ u) = refl

bare_parts : (u : List ℕ) → IsOnePart u → parts_of (codes "8;;" ++ u) ≡ codes "8" ∷ [] ∷ u ∷ []
bare_parts u one = rw one refl

pub bare_link : (A : Type 0) (u : List ℕ) → IsOnePart u → IsUtf8 (codes "8;;" ++ u)
    → IsPlainLink A (codes "8;;" ++ u)
bare_link A u one h =
    let means = ap (λ ps. meaning {A = A} ps) (bare_parts u one)
    ∙ bare_meant A u (past_ascii (codes "8;;") u refl h) in
    (bare_target A u, means, ap command_text means ∙ bare_written A u)

-- a text without a colon is one parameter
split_by : (b : ℕ) (v : List ℕ) (q : Bool) → is_colon b ≡ q → list_any is_colon (b ∷ v) ≡ false
    → (list_any is_colon v ≡ false → slice_split is_colon v ≡ v ∷ [])
    → slice_split is_colon (b ∷ v) ≡ (b ∷ v) ∷ []
split_by b v true e h more = let none : true ≡ false = rw e at h in cc
split_by b v false e h more =
    slice_split-cons_no is_colon b v e ∙ ap (onto_first b) (more (rw e at h))

split_whole : (v : List ℕ) → list_any is_colon v ≡ false → slice_split is_colon v ≡ v ∷ []
split_whole [] h = refl
split_whole (b ∷ v) h = split_by b v (is_colon b) refl h (split_whole v)

id_params : (v : List ℕ) → list_any is_colon v ≡ false → IsUtf8 v
    → params_of (codes "id=" ++ v) ≡ Some ((codes "id", v) ∷ [])
id_params v h u =
    let key : is_utf8 (codes "id") ≡ true =
    is_utf8-from_IsUtf8 (codes "id") (part_utf8 (codes "id") (plain_part (codes "id") refl)) in
    rw (split_whole v h, is_utf8-from_IsUtf8 v u, key) refl

-- a link with the parameter `id` alone
abbrev id_of : (A : Type 0) → List ℕ → List ℕ → OperatingSystemCommand A
id_of A v u = command.SetHyperlink (Some (link_to ((codes "id", v) ∷ []) u))

id_meant : (A : Type 0) (v u : List ℕ) → list_any is_colon v ≡ false → IsUtf8 v → IsUtf8 u
    → meaning {A = A} (codes "8" ∷ (codes "id=" ++ v) ∷ u ∷ []) ≡ id_of A v u
id_meant A v u h k l =
    let read : reading {A = A} code.SetHyperlink (codes "8") ((codes "id=" ++ v) ∷ u ∷ [])
    ≡ Some (id_of A v u) =
    rw (id_params v h k, is_utf8-from_IsUtf8 u l) refl in
    meant {A = A} code.SetHyperlink ((codes "id=" ++ v) ∷ u ∷ []) (id_of A v u) read

-- the text before and after a `;`
mark_of : (v u : List ℕ) → get_or (v ++ 0x3b ∷ u) (length v) 0 ≡ 0x3b
mark_of [] u = refl
mark_of (b ∷ v) u = mark_of v u

mark_inside : (v u : List ℕ) → length v < length (v ++ 0x3b ∷ u)
mark_inside v u = omega (arith, length-append v (0x3b ∷ u))

utf8_before : (v u : List ℕ) → IsUtf8 (v ++ 0x3b ∷ u) → IsUtf8 v
utf8_before v u h =
    let small : get_or (v ++ 0x3b ∷ u) (length v) 0 < 128 = omega (arith, mark_of v u) in
    subst IsUtf8 (take-append_seam v (0x3b ∷ u))
    (IsUtf8-take (v ++ 0x3b ∷ u) (length v) h
    (IsCharBoundary-before_ascii (v ++ 0x3b ∷ u) (length v) (mark_inside v u) small))

utf8_after : (v u : List ℕ) → IsUtf8 (v ++ 0x3b ∷ u) → IsUtf8 u
utf8_after v u h =
    let small : get_or (v ++ 0x3b ∷ u) (length v) 0 < 128 = omega (arith, mark_of v u) in
    subst IsUtf8 (drop-append-add v (0x3b ∷ u) 1)
    (IsUtf8-drop (v ++ 0x3b ∷ u) (length v + 1) h
    (IsCharBoundary-after_ascii (v ++ 0x3b ∷ u) (length v) h (mark_inside v u) small))

-- a text of two parts
two_joined : (t v u : List ℕ) → slice_split semi t ≡ v ∷ u ∷ [] → t ≡ v ++ 0x3b ∷ u
two_joined t v u e =
    sym (joined_split t) ∙ ap semicolon_list e ∙ ap (λ x. v ++ 0x3b ∷ x) (append-nil u)

id_parts : (t v u : List ℕ) → slice_split semi t ≡ v ∷ u ∷ []
    → parts_of (codes "8;id=" ++ t) ≡ codes "8" ∷ (codes "id=" ++ v) ∷ u ∷ []
id_parts t v u e = rw e refl

id_read : (A : Type 0) (t v u : List ℕ) → slice_split semi t ≡ v ∷ u ∷ []
    → list_any is_colon v ≡ false → IsUtf8 (codes "8;id=" ++ t)
    → meaning {A = A} (parts_of (codes "8;id=" ++ t)) ≡ id_of A v u
id_read A t v u e one h =
    let both : IsUtf8 (v ++ 0x3b ∷ u) =
    subst IsUtf8 (two_joined t v u e) (past_ascii (codes "8;id=") t refl h) in
    ap (λ ps. meaning {A = A} ps) (id_parts t v u e) ∙ id_meant A v u one (utf8_before v u both)
    (utf8_after v u both)

id_verbatim : (A : Type 0) (t v u : List ℕ) → slice_split semi t ≡ v ∷ u ∷ []
    → list_any is_colon v ≡ false → IsUtf8 (codes "8;id=" ++ t)
    → IsVerbatim A (codes "8;id=" ++ t)
id_verbatim A t v u e one h =
    ap command_text (id_read A t v u e one h)
    ∙ ap (λ x. framed_text (codes "8;id=" ++ (x ++ 0x3b ∷ u))) (append-nil v)
    ∙ ap (λ x. framed_text (codes "8;id=" ++ x)) (sym (two_joined t v u e))

pub id_link : (A : Type 0) (t v u : List ℕ) → slice_split semi t ≡ v ∷ u ∷ []
    → list_any is_colon v ≡ false → IsUtf8 (codes "8;id=" ++ t)
    → IsPlainLink A (codes "8;id=" ++ t)
id_link A t v u e one h =
    (Some (link_to ((codes "id", v) ∷ []) u), id_read A t v u e one h, id_verbatim A t v u e one h)

-- two parts, as scans find them
pub two_parts : (t : List ℕ) (end last : ℕ) → end ≡ 0 + prefix_len is_unmarked (drop 0 t)
    → end < length t
    → last ≡ (end + 1) + prefix_len is_unmarked (drop (end + 1) t) → length t ≤ last
    → slice_split semi t ≡ take end t ∷ drop (end + 1) t ∷ []
two_parts t end last e h k l =
    let same : end ≡ end - 0 = omega arith in
    let more = split_next t 0 end [] (take end t ∷ []) (slice_split semi t) e h
    (ap (λ n. take n t ∷ []) same) refl in
    let rest = split_end t (end + 1) last [] (drop (end + 1) t ∷ [])
    (slice_split semi (drop (end + 1) t)) k l
    (ap (λ x. x ∷ [])
    (sym (take_all (last - (end + 1)) (drop (end + 1) t) (omega (
      arith,
      length-drop (end + 1) t,
      l,
    ))))) refl in
    sym more ∙ ap (λ ps. take end t ∷ ps) (sym rest)

joined_end : (n k : ℕ) → k ≡ n → cond (eqb k n) (n + 0) k ≡ n
joined_end n k e = grind (arith, nat_tests, e)

-- the ends that scans find in a name and an address
pub name_end : (t v u : List ℕ) (end : ℕ) → end ≡ 0 + prefix_len is_unmarked (drop 0 t)
    → t ≡ v ++ 0x3b ∷ u → IsOnePart v → end ≡ length v
name_end t v u end e is one =
    let found : prefix_len is_unmarked t ≡ length v =
    ap (prefix_len is_unmarked) is ∙ prefix_len-append is_unmarked v (0x3b ∷ u)
    ∙ joined_end (length v) (prefix_len is_unmarked v) (unmarked_whole v one) in
    omega (arith, e, found)

-- and after the `;`
pub address_end : (t v u : List ℕ) (end last : ℕ) → end ≡ length v
    → last ≡ (end + 1) + prefix_len is_unmarked (drop (end + 1) t)
    → t ≡ v ++ 0x3b ∷ u → IsOnePart u → last ≡ length t
address_end t v u end last e l is one =
    let rest : drop (end + 1) t ≡ u =
    ap (λ n. drop (n + 1) t) e ∙ ap (drop (length v + 1)) is ∙ drop-append-add v (0x3b ∷ u) 1 in
    let all : prefix_len is_unmarked (drop (end + 1) t) ≡ length u =
    ap (prefix_len is_unmarked) rest ∙ unmarked_whole u one in
    omega (arith, e, l, all, ap length is, length-append v (0x3b ∷ u))

pub name_taken : (t v u : List ℕ) (end : ℕ) → end ≡ length v → t ≡ v ++ 0x3b ∷ u → take end t ≡ v
name_taken t v u end e is =
    ap (λ n. take n t) e ∙ ap (take (length v)) is ∙ take-append_seam v (0x3b ∷ u)

-- Marks of prompts.

-- the text of the command that was read, if one was
text_of : {A : Type 0} (o : Option (OperatingSystemCommand A)) (c : OperatingSystemCommand A)
    (t : List ℕ)
    → option_map command_text o ≡ Some t → command_text (unwrap_or o c) ≡ t
text_of None c t h = cc
text_of (Some d) c t h = cc

mark_text : (A : Type 0) (args : List (List ℕ)) (t : List ℕ)
    → option_map command_text (reading {A = A} code.FinalTermSemanticPrompt (codes "133") args)
    ≡ Some (framed_text t)
    → command_text (meaning {A = A} (codes "133" ∷ args)) ≡ framed_text t
mark_text A args t h =
    ap (λ f. command_text (unwrap_or f (command.Unspecified (codes "133" ∷ args))))
    (code_means {A = A} code.FinalTermSemanticPrompt args)
    ∙ text_of (reading {A = A} code.FinalTermSemanticPrompt (codes "133") args)
    (command.Unspecified (codes "133" ∷ args)) (framed_text t) h

abbrev alone : (A : Type 0) → ℕ → Type 0
alone A b = IsVerbatim A (codes "133;" ++ b ∷ [])

mark_a : (A : Type 0) → alone A 0x41
mark_a A = mark_text A (codes "A" ∷ []) (codes "133;A") refl

mark_b : (A : Type 0) → alone A 0x42
mark_b A = mark_text A (codes "B" ∷ []) (codes "133;B") refl

mark_c : (A : Type 0) → alone A 0x43
mark_c A = mark_text A (codes "C" ∷ []) (codes "133;C") refl

mark_i : (A : Type 0) → alone A 0x49
mark_i A = mark_text A (codes "I" ∷ []) (codes "133;I") refl

mark_l : (A : Type 0) → alone A 0x4c
mark_l A = mark_text A (codes "L" ∷ []) (codes "133;L") refl

mark_n : (A : Type 0) → alone A 0x4e
mark_n A = mark_text A (codes "N" ∷ []) (codes "133;N") refl

pub mark : (A : Type 0) (b : ℕ)
    → ((b == 0x41)
    || ((b == 0x42) || ((b == 0x43) || ((b == 0x49) || ((b == 0x4c) || (b == 0x4e)))))) ≡ true
    → alone A b
mark A b h =
    let P : ℕ → Type 0 = alone A in
    one_of P b 0x41 _ h (mark_a A) (λ h1.
    one_of P b 0x42 _ h1 (mark_b A) (λ h2. one_of P b 0x43 _ h2 (mark_c A) (λ h3.
    one_of P b 0x49 _ h3 (mark_i A) (λ h4.
    one_of P b 0x4c _ h4 (mark_l A) (λ h5. last_of P b 0x4e h5 (mark_n A))))))

named_by : (A : Type 0) (l name t : List ℕ)
    → parts_of t ≡ codes "133" ∷ l ∷ (codes "aid=" ++ name) ∷ []
    → option_map command_text (reading {A = A} code.FinalTermSemanticPrompt (codes "133")
    (l ∷ (codes "aid=" ++ name) ∷ [])) ≡ Some (framed_text t) → IsVerbatim A t
named_by A l name t e h = ap (λ ps. command_text (meaning {A = A} ps)) e
    ∙ mark_text A (l ∷ (codes "aid=" ++ name) ∷ []) t h

abbrev with_key : (A : Type 0) → ℕ → Type 0
with_key A b = (name : List ℕ) → IsOnePart name
    → IsUtf8 (codes "133;" ++ b ∷ (codes ";aid=" ++ name))
    → IsVerbatim A (codes "133;" ++ b ∷ (codes ";aid=" ++ name))

named_a : (A : Type 0) → with_key A 0x41
named_a A name one u =
    named_by A (codes "A") name (codes "133;A;aid=" ++ name) (rw one refl)
    (named_start A name (past_ascii (codes "133;A;aid=") name refl u))

named_c : (A : Type 0) → with_key A 0x43
named_c A name one u =
    named_by A (codes "C") name (codes "133;C;aid=" ++ name) (rw one refl)
    (named_output A name (past_ascii (codes "133;C;aid=") name refl u))

named_n : (A : Type 0) → with_key A 0x4e
named_n A name one u =
    named_by A (codes "N") name (codes "133;N;aid=" ++ name) (rw one refl)
    (named_end A name (past_ascii (codes "133;N;aid=") name refl u))

pub named_mark : (A : Type 0) (b : ℕ) → ((b == 0x41) || ((b == 0x43) || (b == 0x4e))) ≡ true
    → with_key A b
named_mark A b h =
    let P : ℕ → Type 0 = with_key A in
    one_of P b 0x41 _ h (named_a A) (λ h1.
    one_of P b 0x43 _ h1 (named_c A) (λ h2. last_of P b 0x4e h2 (named_n A)))
